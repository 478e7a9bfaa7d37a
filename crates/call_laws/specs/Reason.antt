-- Why a context has no bound: reasons of its own, and one for each followed call of a context that has some.
use Rattle.std.specs.Prelude.{◌≡◌, ℕ, ◌↔◌, Bool, true, false}
use Rattle.call_laws.specs.Calls.{LeadsTo}

-- which reasons a context has by itself, which contexts it calls, and which reasons such a call gives where the callee has
-- no bound
pub record Causes : Type 0 where
  pub own : ℕ → ℕ → Bool
  pub calls : ℕ → ℕ → Bool
  pub gives : ℕ → ℕ → ℕ → Bool

-- the reasons of a context
pub data IsReason (causes : Causes) : ℕ → ℕ → Type 0 where
  own : {c r : ℕ} → causes.own c r ≡ true → IsReason causes c r
  callee : {c d r q : ℕ} → causes.calls c d ≡ true → causes.gives c d r ≡ true → IsReason causes d q → IsReason causes c r

-- it has some, so that it has no bound
pub record IsUnbounded (causes : Causes) (c : ℕ) : Type 0 where
  pub reason : ℕ
  pub is : IsReason causes c reason

-- each call of a context without a bound gives some reason
abbrev pub EachCallGives : Causes → Type 0
EachCallGives causes = (c d : ℕ) → causes.calls c d ≡ true → (r : ℕ) × (causes.gives c d r ≡ true)

-- a context leads by calls to one with a reason of its own
pub record ReachesOwn (causes : Causes) (c : ℕ) : Type 0 where
  pub from : ℕ
  pub there : LeadsTo causes.calls c from
  pub reason : ℕ
  pub is : causes.own from reason ≡ true

-- a context has no reason exactly where it has none of its own and each context that it calls has none
abbrev pub BoundedCallTheBounded : Type 0
BoundedCallTheBounded = (causes : Causes) → EachCallGives causes → (c : ℕ)
    → (IsUnbounded causes c → ⊥) ↔ (((r : ℕ) → causes.own c r ≡ false) × ((d : ℕ) → causes.calls c d ≡ true → IsUnbounded causes d → ⊥))

-- it has one exactly where it leads to a context that has one of its own
abbrev pub UnboundedReachAReason : Type 0
UnboundedReachAReason = (causes : Causes) → EachCallGives causes → (c : ℕ) → IsUnbounded causes c ↔ ReachesOwn causes c
