-- Driving a core: claims that are struck, and when a limit is passed.
use Rattle.std.proofs.Common.{◌≡◌, ℕ, ◌+◌, ◌<◌, ◌≤◌, Bool, true, false, List, [], ◌∷◌, ◌++◌, Option, Some, None, Ordering, IsSome, IsTrue, Contains, refl}
use Rattle.std.proofs.Common.{sym, ap, ◌∙◌, subst, arith, ◌⊎◌, ⊎_elim}
use Rattle.std.specs.Ordering.{is_eq}
use Rattle.std.specs.declared.cmp.Ordering.TheVariants.{Equal}
use Rattle.flow_system.specs.Facts.{fact_at, KeysRise}
use Rattle.flow_system.specs.Laws.{IsLawful}
use Rattle.flow_system.specs.Rules.{Rules}
use Rattle.flow_system.specs.State.{AllFit, IsBelow, IsClosed}
use Rattle.flow_core.specs.Claim.{AnswerState, IsAnswerOf}
use Rattle.flow_core.specs.Core.{CoreState, IsKey, IsPending, IsPart, IsSettled, pending, out, given, IsGood, PassesLimit, IsOver, strike}
use Rattle.flow_core.specs.Refusal.{IsPassing, IsTooBig}
use Rattle.flow_core.specs.Writing.{MarksAll}
use Rattle.flow_core.specs.declared.refusals.GrowRefusal.{GrowRefusal}
use Rattle.flow_core.specs.declared.refusals.GrowRefusal.TheVariants.{Nodes, Want}
use Rattle.flow_core.proofs.StateLemmas.{given_due}
use Rattle.flow_core.proofs.CoreLemmas.{struck_at}
use Rattle.flow_core.proofs.QueueLemmas.{at_itself, equal_from_is_eq}

module _ {K V : Type 0} (cmp : K → K → Ordering) (m : Rules K V) (law : IsLawful cmp m) where
  -- a good core stays good where all that is out is pending again
  pub struck_all_good : (s : CoreState K V) (marks' : List (K × Bool)) → MarksAll cmp s.facts s.out s.marks marks' → IsGood cmp m s
      → IsGood cmp m (record { facts = s.facts; marks = marks'; out = []; readers = s.readers; count = s.count; limit = s.limit })
  struck_all_good s marks' marks good = record {
    part = record {
      fit = good.part.fit;
      due = good.part.due;
      inside = λ q p. ⊎_elim (λ was. good.part.inside q was) (λ at. at.1) (marks.only q p);
      kept = record {
        rise = good.part.kept.rise;
        marks_rise = marks.rise;
        room = λ q key. marks.room q (good.part.kept.room q key);
        listed = good.part.kept.listed;
        read = good.part.kept.read;
        count = good.part.kept.count;
        within = good.part.kept.within;
      };
    };
    starts = good.starts;
    settled = λ q key. struck_cases q key (good.settled q key);
  }
    where
      struck_cases : (q : K) → IsKey cmp s q → IsSettled cmp m s q
          → IsSettled cmp m (record { facts = s.facts; marks = marks'; out = []; readers = s.readers; count = s.count; limit = s.limit }) q
      struck_cases q key (pending p) = pending (marks.stays q p)
      struck_cases q key (out c) = pending (marks.marked q c key (good.part.kept.room q key))
      struck_cases q key (given g) = given g

  -- where the pieces of an answer would pass the limit, so would each closed state
  pub too_big : (s : CoreState K V) (answer : AnswerState K V) (refusal : GrowRefusal) → IsPart cmp m s → IsAnswerOf cmp m answer
      → IsPassing cmp m s.facts answer.pieces s.limit refusal → IsTooBig cmp m s.limit refusal
  too_big s answer Want part of passing = tt
  too_big s answer (Nodes count) part of passing = (
    passing.0,
    λ t rise closed. passing.1 t rise closed.fit (λ k v e. part.due k v e (fact_at cmp t) closed)
        (λ k v listed. given_due cmp m law (fact_at cmp answer.claim.copies) of.claim.fit of.claim.due answer.claim.key of.claim.own k v
        (subst (λ list. Contains list (k, v)) of.pieces listed) (fact_at cmp t) closed),
  )

  -- a list of one key is empty once that is struck
  pub struck_only : (k : K) → strike cmp ([] ++ k ∷ []) k ≡ []
  struck_only k = sym (struck_at cmp (k ∷ []) k 0 (omega arith) (λ j d h. absurd (omega (arith, h))) k refl
      (sym (equal_from_is_eq (cmp k k) (at_itself cmp law.keys.total k))))
