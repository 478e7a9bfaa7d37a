-- Claims and answers of a system.
use Rattle.std.specs.Prelude.{◌≡◌, List, IsSome, Contains}
use Rattle.std.specs.declared.cmp.Ordering.{Ordering}
use Rattle.flow_system.specs.Facts.{fact_at}
use Rattle.flow_system.specs.Rules.{Rules}
use Rattle.flow_system.specs.State.{AllFit, HoldsDue}

-- a key with copies of facts
pub record ClaimState (K V : Type 0) : Type 0 where
  pub key : K
  pub copies : List (K × V)

-- a claim with the pieces that its key gives over its copies
pub record AnswerState (K V : Type 0) : Type 0 where
  pub claim : ClaimState K V
  pub pieces : List (K × V)

module _ {K V : Type 0} (cmp : K → K → Ordering) (m : Rules K V) where
  -- the copies are of what the key reads, its own fact among them, fit their keys, and are due
  pub record IsClaimOf (claim : ClaimState K V) : Type 0 where
    pub own : IsSome (fact_at cmp claim.copies claim.key)
    pub read : (r : K) → IsSome (fact_at cmp claim.copies r) → Contains (m.reads claim.key) r
    pub fit : AllFit m (fact_at cmp claim.copies)
    pub due : HoldsDue m (fact_at cmp claim.copies)

  -- the claim is of the system, and the pieces are what its key gives over its copies
  pub record IsAnswerOf (answer : AnswerState K V) : Type 0 where
    pub claim : IsClaimOf answer.claim
    pub pieces : answer.pieces ≡ m.gives answer.claim.key (fact_at cmp answer.claim.copies)

  -- at each key that the claim's key reads the copy is the fact that stands there, or both are missing
  abbrev pub IsFresh : List (K × V) → ClaimState K V → Type 0
  IsFresh facts claim = (r : K) → Contains (m.reads claim.key) r → fact_at cmp claim.copies r ≡ fact_at cmp facts r
