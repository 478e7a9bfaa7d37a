-- What every list of events over its own keys, and of joins of due pieces, leaves of a part.
use Rattle.std.proofs.Common.{◌≡◌, ℕ, List, [], ◌∷◌, ◌++◌, Ordering, IsSome, refl, sym, ap, ◌∙◌, subst}
use Rattle.flow_system.specs.Facts.{fact_at}
use Rattle.flow_system.specs.Laws.{IsLawful}
use Rattle.flow_system.specs.Rules.{Rules}
use Rattle.flow_system.specs.State.{AllFit, HoldsDue, IsBelow}
use Rattle.flow_core.specs.Core.{CoreState, IsPart}
use Rattle.flow_core.specs.Event.{with_claim, without_claim}
use Rattle.flow_core.proofs.EventLemmas.{back_keeps_part, claim_keeps_part, merge_keeps_part, unchanged_keeps_part}
use Rattle.flow_core.proofs.PartLemmas.{join_keeps_part}
use Rattle.flow_core.proofs.StateLemmas.{below_itself, below_onward}
use Rattle.part_pool.specs.Holding.{PartEvent, FollowsInPart, IsHolding, took, found_none, merged, given_back, received, refused}
use Rattle.part_pool.specs.Part.{PassesOthers}

module _ {K V : Type 0} (cmp : K → K → Ordering) (m : Rules K V) where
  -- the new state is a part's, no fact shrank, and the limit stayed
  pub record IsOnward (old new : CoreState K V) : Type 0 where
    pub part : IsPart cmp m new
    pub below : IsBelow m (fact_at cmp old.facts) (fact_at cmp new.facts)
    pub limit : new.limit ≡ old.limit

module _ {K V : Type 0} (cmp : K → K → Ordering) (m : Rules K V) (law : IsLawful cmp m) (is_own : K → Type 0) where
  -- where the facts stayed, none shrank
  same_below : (old new : CoreState K V) → IsPart cmp m old → new.facts ≡ old.facts → IsBelow m (fact_at cmp old.facts) (fact_at cmp new.facts)
  same_below old new part same = subst (λ facts. IsBelow m (fact_at cmp old.facts) (fact_at cmp facts)) (sym same)
      (below_itself cmp m law (fact_at cmp old.facts) part.fit)

  -- keys that are passed over leave a part
  pub passes_keep : (old new : CoreState K V) → IsPart cmp m old → PassesOthers cmp m is_own old new → IsPart cmp m new
  passes_keep old new part passed = record {
    fit = subst (λ facts. AllFit m (fact_at cmp facts)) (sym passed.facts) part.fit;
    due = subst (λ facts. HoldsDue m (fact_at cmp facts)) (sym passed.facts) part.due;
    inside = λ q p. subst (λ facts. IsSome (fact_at cmp facts q)) (sym passed.facts) (part.inside q (passed.only q p));
    kept = passed.kept part.kept;
  }

  -- one event
  event_onward : (event : PartEvent K V) (old new : CoreState K V) → IsPart cmp m old → FollowsInPart cmp m is_own event old new → IsOnward cmp m old new
  event_onward event old new part (took claim is takes) = record {
    part = subst (λ s. IsPart cmp m s) (sym takes.takes.state) (claim_keeps_part cmp m law takes.between claim.key (passes_keep old takes.between part takes.passed));
    below = same_below old new part (ap (λ (s : CoreState K V). s.facts) takes.takes.state ∙ takes.passed.facts);
    limit = ap (λ (s : CoreState K V). s.limit) takes.takes.state ∙ takes.passed.limit;
  }
  event_onward event old new part (found_none is passed) = record {
    part = passes_keep old new part passed;
    below = same_below old new part passed.facts;
    limit = passed.limit;
  }
  event_onward event old new part (merged answer n is mine of merges) = record {
    part = merge_keeps_part cmp m law old new answer n part of merges;
    below = merges.joined.below;
    limit = merges.limit;
  }
  event_onward event old new part (given_back claim is mine of back) = record {
    part = subst (λ s. IsPart cmp m s) (sym back) (back_keeps_part cmp m law old claim.key part);
    below = same_below old new part (ap (λ (s : CoreState K V). s.facts) back);
    limit = ap (λ (s : CoreState K V). s.limit) back;
  }
  event_onward event old new part (received pieces n is due absorbs) = record {
    part = join_keeps_part cmp m law old new pieces n part due absorbs;
    below = absorbs.joined.below;
    limit = absorbs.limit;
  }
  event_onward event old new part (refused same) = record {
    part = unchanged_keeps_part cmp m law old new same part;
    below = same_below old new part same.facts;
    limit = same.limit;
  }

  -- a list of events
  pub holding_onward : (events : List (PartEvent K V)) (first last : CoreState K V) → IsPart cmp m first → IsHolding cmp m is_own events first last
      → IsOnward cmp m first last
  holding_onward [] first last part run = subst (λ s. IsOnward cmp m first s) (sym run)
      (record { part = part; below = same_below first first part refl; limit = refl })
  holding_onward (event ∷ events) first last part run =
      let next = run.0 in
      let here = event_onward event first next part run.1 in
      let rest = holding_onward events next last here.part run.2 in
      record {
        part = rest.part;
        below = below_onward cmp m law (fact_at cmp first.facts) (fact_at cmp next.facts) (fact_at cmp last.facts) part.fit here.part.fit rest.part.fit
            here.below rest.below;
        limit = rest.limit ∙ here.limit;
      }
