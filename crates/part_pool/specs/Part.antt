-- A part of a graph that is grown: a core over the keys of one number, with copies of facts of other parts' keys.
use Rattle.std.specs.Prelude.{◌≡◌, ℕ, List, IsSome, Contains}
use Rattle.std.specs.declared.cmp.Ordering.{Ordering}
use Rattle.flow_system.specs.Laws.{IsLawful}
use Rattle.flow_system.specs.Rules.{Rules}
use Rattle.flow_core.specs.Claim.{ClaimState}
use Rattle.flow_core.specs.Core.{CoreState, IsKept, IsPending, IsPart}
use Rattle.flow_core.specs.Event.{Takes}

-- the number of the part, and its core, whose facts are those of its own keys and the copies
pub record PartState (K V : Type 0) : Type 0 where
  pub number : ℕ
  pub core : CoreState K V

module _ {K V : Type 0} (cmp : K → K → Ordering) (m : Rules K V) where
  -- the named rules are lawful, the facts fit and are due, and the core has the named limit
  pub record IsKeptPart (most : ℕ) (core : CoreState K V) : Type 0 where
    pub lawful : IsLawful cmp m
    pub part : IsPart cmp m core
    pub limit : core.limit ≡ most

  -- at the most keys that aren't the part's own are pending no longer
  pub record PassesOthers (is_own : K → Type 0) (old new : CoreState K V) : Type 0 where
    pub facts : new.facts ≡ old.facts
    pub out : new.out ≡ old.out
    pub limit : new.limit ≡ old.limit
    pub only : (k : K) → IsPending cmp new k → IsPending cmp old k
    pub own : (k : K) → is_own k → IsPending cmp old k → IsPending cmp new k
    pub kept : IsKept cmp m old → IsKept cmp m new

  -- a claim of an own key is taken, once keys that aren't own were passed over
  pub record TakesOwn (is_own : K → Type 0) (old : CoreState K V) (claim : ClaimState K V) (new : CoreState K V) : Type 0 where
    pub between : CoreState K V
    pub passed : PassesOthers is_own old between
    pub takes : Takes cmp m between claim new
    pub own : is_own claim.key
