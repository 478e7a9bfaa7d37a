-- Cores that need not contain the start pieces: empty ones, joins of due pieces, and keys that are passed over.
use Rattle.std.proofs.Common.{◌≡◌, ℕ, ◌+◌, ◌<◌, Bool, true, false, List, [], Option, Some, None, Ordering, IsSome, Contains, refl, sym, ap, ◌∙◌, subst}
use Rattle.std.proofs.Common.{⊎_elim, Result, Ok, Err}
use Rattle.std.specs.Prelude.{IfOk, IfErr, OnErr, IfNone, IfSome}
use Rattle.flow_system.specs.Facts.{fact_at, KeysRise}
use Rattle.flow_system.specs.Laws.{IsLawful}
use Rattle.flow_system.specs.Rules.{Rules}
use Rattle.flow_system.specs.State.{AllDue, IsBelow}
use Rattle.flow_core.specs.Absorb.{Absorbs}
use Rattle.flow_core.specs.Core.{CoreState, IsKey, IsPending, IsKept, IsPart, IsGrowth, IsUnchanged}
use Rattle.flow_core.specs.Passed.{passed_over}
use Rattle.flow_core.specs.Queue.{with_mark}
use Rattle.flow_core.specs.Refusal.{IsPassing, IsTooBig}
use Rattle.flow_core.specs.declared.refusals.GrowRefusal.{GrowRefusal}
use Rattle.flow_core.specs.declared.refusals.GrowRefusal.TheVariants.{Nodes, Want}
use Rattle.flow_core.proofs.CoreLemmas.{growth_unchanged}
use Rattle.flow_core.proofs.EventLemmas.{claim_keeps_part, unchanged_keeps_part}
use Rattle.flow_core.proofs.QueueLemmas.{some_when, some_from_IsSome}
use Rattle.flow_core.proofs.StateLemmas.{joins_due}

module _ {K V : Type 0} (cmp : K → K → Ordering) (m : Rules K V) (law : IsLawful cmp m) where
  -- a part without facts keeps what a part has to keep
  pub empty_part : (s : CoreState K V) → s.facts ≡ [] → s.marks ≡ [] → IsKept cmp m s → IsPart cmp m s
  empty_part s facts marks kept = record {
    fit = λ k v e. let f : None ≡ Some v = sym (ap (λ es. fact_at cmp es k) facts) ∙ e in absurd (cc);
    due = λ k v e. let f : None ≡ Some v = sym (ap (λ es. fact_at cmp es k) facts) ∙ e in absurd (cc);
    inside = λ k p. let f : None ≡ Some true = sym (ap (λ es. fact_at cmp es k) marks) ∙ p in absurd (cc);
    kept = kept;
  }

  still_key : (old new : CoreState K V) → IsBelow m (fact_at cmp old.facts) (fact_at cmp new.facts) → (k : K) → IsKey cmp old k → IsKey cmp new k
  still_key old new below k key = some_from_IsSome (fact_at cmp old.facts k) key
      (λ v found. some_when (fact_at cmp new.facts k) (below k v found).fact (below k v found).found)

  still_inside : (old new : CoreState K V) (pieces : List (K × V)) (n : ℕ) → Absorbs cmp m old pieces new n → ((k : K) → IsPending cmp old k → IsKey cmp old k)
      → (k : K) → IsPending cmp new k → IsKey cmp new k
  still_inside old new pieces n a inside k p = ⊎_elim (λ was. still_key old new a.joined.below k (inside k was)) (λ woken. woken.0) (a.only k p)

  pub join_keeps_part : (old new : CoreState K V) (pieces : List (K × V)) (n : ℕ) → IsPart cmp m old → AllDue m pieces → Absorbs cmp m old pieces new n
      → IsPart cmp m new
  join_keeps_part old new pieces n part due a = record {
    fit = a.joined.fit;
    due = joins_due cmp m law (fact_at cmp old.facts) (fact_at cmp new.facts) pieces a.joined part.due due;
    inside = still_inside old new pieces n a part.inside;
    kept = a.kept;
  }

  pub growth_join : (old new : CoreState K V) (pieces : List (K × V)) (n : ℕ) → AllDue m pieces → Absorbs cmp m old pieces new n → IsGrowth cmp m old new
  growth_join old new pieces n due a = record {
    below = a.joined.below;
    due = λ held. joins_due cmp m law (fact_at cmp old.facts) (fact_at cmp new.facts) pieces a.joined held due;
    inside = still_inside old new pieces n a;
    limit = a.limit;
  }

  -- where due pieces would pass the limit, so would each closed state
  pub join_too_big : (s : CoreState K V) (pieces : List (K × V)) (refusal : GrowRefusal) → IsPart cmp m s → AllDue m pieces
      → IsPassing cmp m s.facts pieces s.limit refusal → IsTooBig cmp m s.limit refusal
  join_too_big s pieces Want part due passing = tt
  join_too_big s pieces (Nodes count) part due passing = (
    passing.0,
    λ t rise closed. passing.1 t rise closed.fit (λ k v e. part.due k v e (fact_at cmp t) closed) (λ k v listed. due k v listed (fact_at cmp t) closed),
  )

  -- a key that is passed over
  pub passed_keeps_part : (s : CoreState K V) (k : K) → IsPart cmp m s → IsPart cmp m (passed_over cmp s k)
  passed_keeps_part s k part =
      let claimed = claim_keeps_part cmp m law s k part in
      record {
        fit = claimed.fit;
        due = claimed.due;
        inside = claimed.inside;
        kept = record {
          rise = claimed.kept.rise;
          marks_rise = claimed.kept.marks_rise;
          room = claimed.kept.room;
          listed = claimed.kept.listed;
          read = claimed.kept.read;
          count = claimed.kept.count;
          within = claimed.kept.within;
        };
      }

  -- what a join leaves, whether or not it was refused
  pub joined_part : (old new : CoreState K V) (pieces : List (K × V)) (r : Result ℕ GrowRefusal) → IsPart cmp m old → AllDue m pieces
      → IfOk r (Absorbs cmp m old pieces new) → OnErr r (IsUnchanged cmp m old new) → IsPart cmp m new
  joined_part old new pieces (Ok n) part due a same = join_keeps_part old new pieces n part due a
  joined_part old new pieces (Err e) part due a same = unchanged_keeps_part cmp m law old new same part

  -- pieces that are joined to a part only grow it
  pub joined_growth : (old new : CoreState K V) (pieces : List (K × V)) (r : Result ℕ GrowRefusal) → IsPart cmp m old → AllDue m pieces
      → IfOk r (Absorbs cmp m old pieces new) → OnErr r (IsUnchanged cmp m old new) → IsGrowth cmp m old new
  joined_growth old new pieces (Ok n) part due a same = growth_join old new pieces n due a
  joined_growth old new pieces (Err e) part due a same = growth_unchanged cmp m law old new part same

  -- pieces that pass the limit of a part say that the due graph does
  pub joined_too_big : (s : CoreState K V) (pieces : List (K × V)) (r : Result ℕ GrowRefusal) → IsPart cmp m s → AllDue m pieces
      → IfErr r (IsPassing cmp m s.facts pieces s.limit) → IfErr r (IsTooBig cmp m s.limit)
  joined_too_big s pieces (Ok n) part due passing = tt
  joined_too_big s pieces (Err e) part due passing = join_too_big s pieces e part due passing

  -- what is left once the least key was passed over, if there was one
  pub passed_part : (s : CoreState K V) (marks' : List (K × Bool)) (o : Option K) → IfNone o (marks' ≡ s.marks)
      → IfSome o (λ k. marks' ≡ with_mark cmp s.marks k false) → IsPart cmp m s
      → IsPart cmp m (record { facts = s.facts; marks = marks'; out = s.out; readers = s.readers; count = s.count; limit = s.limit })
  passed_part s marks' None same passed part = subst
      (λ marks. IsPart cmp m (record { facts = s.facts; marks = marks; out = s.out; readers = s.readers; count = s.count; limit = s.limit })) (sym same) part
  passed_part s marks' (Some k) same passed part = subst
      (λ marks. IsPart cmp m (record { facts = s.facts; marks = marks; out = s.out; readers = s.readers; count = s.count; limit = s.limit })) (sym passed)
      (passed_keeps_part s k part)
