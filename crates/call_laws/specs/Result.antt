-- Results that are made from those of the callees, as the least relation that a rule gives.
use Rattle.std.specs.Prelude.{◌≡◌, ℕ, ◌⊎◌, Bool, true}
use Rattle.call_laws.specs.Calls.{AreBelow, ReachesCycle}

-- A subprogram comes to a result where each of its callees comes to one and the rule makes it from these.
pub data HasResult {V : Type 0} (calls : ℕ → ℕ → Bool) (rule : ℕ → (ℕ → V) → V) : ℕ → V → Type 0 where
  result : {n : ℕ} {v : V} (values : ℕ → V) → v ≡ rule n values → ((m : ℕ) → calls n m ≡ true → HasResult calls rule m (values m)) → HasResult calls rule n v

-- it comes to some result
pub record HasSome {V : Type 0} (calls : ℕ → ℕ → Bool) (rule : ℕ → (ℕ → V) → V) (n : ℕ) : Type 0 where
  pub value : V
  pub is : HasResult calls rule n value

-- the rule looks at nothing but the callees' results
abbrev pub LooksAtCallees : {V : Type 0} → (ℕ → ℕ → Bool) → (ℕ → (ℕ → V) → V) → Type 0
LooksAtCallees {V} calls rule = (n : ℕ) (f g : ℕ → V) → ((m : ℕ) → calls n m ≡ true → f m ≡ g m) → rule n f ≡ rule n g

-- then each comes to at most one result
abbrev pub ResultsAreOne : Type 0
ResultsAreOne = (calls : ℕ → ℕ → Bool) (rule : ℕ → (ℕ → ℕ) → ℕ) → LooksAtCallees calls rule
    → (n v w : ℕ) → HasResult calls rule n v → HasResult calls rule n w → v ≡ w

-- where the callees are below a number, a subprogram comes to a result or reaches a call cycle
abbrev pub ResultsOrCycles : Type 0
ResultsOrCycles = (calls : ℕ → ℕ → Bool) (rule : ℕ → (ℕ → ℕ) → ℕ) (count : ℕ) → AreBelow calls count
    → (n : ℕ) → HasSome calls rule n ⊎ ReachesCycle calls n

-- and never both
abbrev pub ResultsReachNoCycle : Type 0
ResultsReachNoCycle = (calls : ℕ → ℕ → Bool) (rule : ℕ → (ℕ → ℕ) → ℕ) (n v : ℕ) → HasResult calls rule n v → ReachesCycle calls n → ⊥
