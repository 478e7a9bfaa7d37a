-- Subprograms that are fit, with all that they lead to, as a least set.
use Rattle.std.specs.Prelude.{◌≡◌, ℕ, ◌↔◌, Bool, true}
use Rattle.call_laws.specs.Calls.{AreBelow, LeadsTo, ReachesCycle}

-- it is fit, and so is each callee in the same way
pub data IsPlain (calls : ℕ → ℕ → Bool) (fits : ℕ → Bool) : ℕ → Type 0 where
  plain : {n : ℕ} → fits n ≡ true → ((m : ℕ) → calls n m ≡ true → IsPlain calls fits m) → IsPlain calls fits n

-- those that reach no call cycle and lead only to what is fit
abbrev pub PlainReachTheFit : Type 0
PlainReachTheFit = (calls : ℕ → ℕ → Bool) (fits : ℕ → Bool) (count : ℕ) → AreBelow calls count
    → (n : ℕ) → IsPlain calls fits n ↔ ((ReachesCycle calls n → ⊥) × ((m : ℕ) → LeadsTo calls n m → fits m ≡ true))
