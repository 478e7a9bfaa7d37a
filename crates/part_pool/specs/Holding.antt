-- What the holder of a part does to it, one relation between states for each, and their runs.
use Rattle.std.specs.Prelude.{◌≡◌, ℕ, List, [], ◌∷◌}
use Rattle.std.specs.declared.cmp.Ordering.{Ordering}
use Rattle.flow_system.specs.Rules.{Rules}
use Rattle.flow_system.specs.State.{AllDue}
use Rattle.flow_core.specs.Absorb.{Absorbs}
use Rattle.flow_core.specs.Claim.{AnswerState, ClaimState, IsAnswerOf, IsClaimOf}
use Rattle.flow_core.specs.Core.{CoreState, IsUnchanged}
use Rattle.flow_core.specs.Event.{Event, give_back, merge, take, Merges, without_claim}
use Rattle.part_pool.specs.Part.{PassesOthers, TakesOwn}

-- an event of a core, or a join of pieces that come from another part
pub data PartEvent (K V : Type 0) : Type 0 where
  own : Event K V → PartEvent K V
  receive : List (K × V) → PartEvent K V

module _ {K V : Type 0} (cmp : K → K → Ordering) (m : Rules K V) (is_own : K → Type 0) where
  -- what an event over own keys, or a join of due pieces, makes of a part; each may also be refused, and a take may find no own key
  pub data FollowsInPart (event : PartEvent K V) (old new : CoreState K V) : Type 0 where
    took : (claim : ClaimState K V) → event ≡ own take → TakesOwn cmp m is_own old claim new → FollowsInPart event old new
    found_none : event ≡ own take → PassesOthers cmp m is_own old new → FollowsInPart event old new
    merged : (answer : AnswerState K V) (n : ℕ) → event ≡ own (merge answer) → is_own answer.claim.key → IsAnswerOf cmp m answer
        → Merges cmp m old answer new n → FollowsInPart event old new
    given_back : (claim : ClaimState K V) → event ≡ own (give_back claim) → is_own claim.key → IsClaimOf cmp m claim
        → new ≡ without_claim cmp old claim.key → FollowsInPart event old new
    received : (pieces : List (K × V)) (n : ℕ) → event ≡ receive pieces → AllDue m pieces → Absorbs cmp m old pieces new n → FollowsInPart event old new
    refused : IsUnchanged cmp m old new → FollowsInPart event old new

  -- the events, one after another, lead from one state of a part to another
  abbrev pub IsHolding : List (PartEvent K V) → CoreState K V → CoreState K V → Type 0
  IsHolding [] first last = last ≡ first
  IsHolding (event ∷ events) first last = (next : CoreState K V) × FollowsInPart event first next × IsHolding events next last
