-- Graphs of calls, as tests of which subprogram calls which, or which context leads to which.
use Rattle.std.specs.Prelude.{◌≡◌, ℕ, ◌<◌, ◌≤◌, ◌⊎◌, Bool, true, List, length}
use Rattle.graph_laws.specs.Walk.{IsWalk}
use Rattle.graph_laws.specs.Nest.{Reaches}

-- all that is called is below a number
abbrev pub AreBelow : (ℕ → ℕ → Bool) → ℕ → Type 0
AreBelow calls count = (n m : ℕ) → calls n m ≡ true → m < count

-- a subprogram is another, or leads to it by calls
abbrev pub LeadsTo : (ℕ → ℕ → Bool) → ℕ → ℕ → Type 0
LeadsTo calls n m = (n ≡ m) ⊎ Reaches calls n m

-- it leads to one that leads to itself, a member of a call cycle
pub record ReachesCycle (calls : ℕ → ℕ → Bool) (n : ℕ) : Type 0 where
  pub member : ℕ
  pub there : LeadsTo calls n member
  pub round : Reaches calls member member

-- calls are followed only where the callee doesn't lead back to the caller: where the two are in no call cycle
pub record AreFollowed (calls follows : ℕ → ℕ → Bool) : Type 0 where
  pub called : (n m : ℕ) → follows n m ≡ true → calls n m ≡ true
  pub apart : (n m : ℕ) → follows n m ≡ true → Reaches calls m n → ⊥

-- no chain of followed calls comes back, and so each ends: it has no more calls than there are callees
pub record ChainsEnd (follows : ℕ → ℕ → Bool) (count : ℕ) : Type 0 where
  pub away : (n : ℕ) → ReachesCycle follows n → ⊥
  pub short : (n : ℕ) (rest : List ℕ) → IsWalk follows n rest → length rest ≤ count

-- followed calls end
abbrev pub FollowedCallsEnd : Type 0
FollowedCallsEnd = (calls follows : ℕ → ℕ → Bool) (count : ℕ) → AreFollowed calls follows → AreBelow follows count → ChainsEnd follows count
