-- Sums of parts: each join adds one part's facts, and all keys stay pending.
use Rattle.std.proofs.Common.{◌≡◌, ℕ, ◌<◌, Bool, true, false, List, [], ◌∷◌, ◌++◌, Option, Some, None, Ordering, IsSome, IsTrue, Contains, refl, sym, ap, ◌∙◌, Result, Ok, Err}
use Rattle.std.proofs.Common.{subst, arith, ⊎_elim, ◌+◌, get_or, length, take}
use Rattle.std.proofs.lemmas.List.Elements.{Contains-append_left, Contains-push, Contains-push_cases}
use Rattle.std.specs.Map.{keys_of}
use Rattle.std.specs.Prelude.{IfErr, IfOk}
use Rattle.flow_system.specs.Facts.{fact_at}
use Rattle.flow_system.specs.Laws.{IsLawful}
use Rattle.flow_system.specs.Rules.{Rules}
use Rattle.flow_system.specs.State.{AllFit, ContainsAll, IsBelow}
use Rattle.flow_core.specs.Absorb.{Absorbs}
use Rattle.flow_core.specs.Core.{CoreState, IsKey, IsPending, IsPart, IsGood, Joins, has_grown, pending}
use Rattle.flow_core.specs.Refusal.{IsPassing, IsTooBig}
use Rattle.flow_core.specs.declared.refusals.GrowRefusal.{GrowRefusal}
use Rattle.flow_core.specs.declared.refusals.GrowRefusal.TheVariants.{Nodes, Want}
use Rattle.flow_core.proofs.QueueLemmas.{some_when, some_from_IsSome}
use Rattle.flow_core.proofs.StateLemmas.{all_onward, below_onward, starts_fit}
use Rattle.flow_core.proofs.WritingLemmas.{next_of}
use Rattle.part_pool.specs.Part.{PartState}
use Rattle.part_pool.specs.Pieces.{pieces_at}
use Rattle.part_pool.specs.Sum.{AddsPart, AllPending, ContainsParts, IsSum}
use Rattle.part_pool.proofs.PieceLemmas.{all_contained, pieces_contained}

module _ {K V : Type 0} (cmp : K → K → Ordering) (m : Rules K V) where
  -- the facts of each part fit
  abbrev pub PartsFit : List (PartState K V) → Type 0
  PartsFit parts = (part : PartState K V) → Contains parts part → AllFit m (fact_at cmp part.core.facts)

module _ {K V : Type 0} (cmp : K → K → Ordering) (m : Rules K V) (law : IsLawful cmp m) where
  -- the start pieces alone are the sum of no parts
  pub sum_nothing : (facts : List (K × V)) → Joins m (fact_at cmp []) m.starts (fact_at cmp facts) → IsSum cmp m [] (fact_at cmp facts)
  sum_nothing facts joined = record {
    fit = joined.fit;
    starts = joined.contained;
    each = λ part listed. absurd (omega (arith, listed.1));
    least = λ t fit starts parts. joined.least t fit (λ k v found. let e : None ≡ Some v = found in absurd (cc)) starts;
  }

  -- a part's facts are joined
  pub join_adds : (part : List (K × V)) (old new : CoreState K V) (pieces : List (K × V)) (n : ℕ) → pieces ≡ pieces_at cmp part (keys_of part)
      → Absorbs cmp m old pieces new n → AddsPart cmp m part old.facts new.facts
  join_adds part old new pieces n are a = record {
    fit = a.joined.fit;
    below = a.joined.below;
    added = all_contained cmp m law part (fact_at cmp new.facts) (subst (λ list. ContainsAll m (fact_at cmp new.facts) list) are a.joined.contained);
    least = λ t fit below parts. a.joined.least t fit below (subst (λ list. ContainsAll m t list) (sym are) (pieces_contained cmp part (keys_of part) m t parts));
  }

  -- where each key was pending, each key is
  pub join_pends : (old new : CoreState K V) (pieces : List (K × V)) (n : ℕ) → Absorbs cmp m old pieces new n → AllPending cmp old → AllPending cmp new
  join_pends old new pieces n a all k key = pends_cases (fact_at cmp old.facts k) refl
    where
      pends_cases : (o : Option V) → fact_at cmp old.facts k ≡ o → IsPending cmp new k
      pends_cases (Some v) found = a.stays k (all k (some_when (fact_at cmp old.facts k) v found))
      pends_cases None none = a.wakes k key (record {
        at = k;
        read = law.looks.itself k;
        grown = some_from_IsSome (fact_at cmp new.facts k) key
            (λ v e. subst (λ o. IsTrue (has_grown m o (fact_at cmp new.facts k))) (sym none) (subst (λ o. IsTrue (has_grown m None o)) (sym e) refl));
      })

  pub fit_more : (parts : List (PartState K V)) (part : PartState K V) → PartsFit cmp m parts → AllFit m (fact_at cmp part.core.facts)
      → PartsFit cmp m (parts ++ part ∷ [])
  fit_more parts part fit here p listed = ⊎_elim (λ before. fit p before) (λ is. subst (λ (q : PartState K V). AllFit m (fact_at cmp q.core.facts)) is here)
      (Contains-push_cases parts part p listed)

  -- one part more
  pub sum_more : (parts : List (PartState K V)) (part : PartState K V) (old new : List (K × V)) → PartsFit cmp m parts → IsSum cmp m parts (fact_at cmp old)
      → AddsPart cmp m part.core.facts old new → IsSum cmp m (parts ++ part ∷ []) (fact_at cmp new)
  sum_more parts part old new fit sum add = record {
    fit = add.fit;
    starts = all_onward cmp m law (fact_at cmp old) (fact_at cmp new) sum.fit add.fit add.below m.starts (starts_fit cmp m law) sum.starts;
    each = λ p listed. ⊎_elim
        (λ before. below_onward cmp m law (fact_at cmp p.core.facts) (fact_at cmp old) (fact_at cmp new) (fit p before) sum.fit add.fit (sum.each p before) add.below)
        (λ is. subst (λ (q : PartState K V). IsBelow m (fact_at cmp q.core.facts) (fact_at cmp new)) is add.added) (Contains-push_cases parts part p listed);
    least = λ t ft starts has. add.least t ft (sum.least t ft starts (λ p before. has p (Contains-append_left parts (part ∷ []) p before)))
        (has part (Contains-push parts part));
  }

  -- the sum of the parts up to the next one
  pub sum_next : (parts : List (PartState K V)) (i : ℕ) (part : PartState K V) (old new : List (K × V)) → i < length parts → part ≡ get_or parts i part
      → PartsFit cmp m (take i parts) → IsSum cmp m (take i parts) (fact_at cmp old) → AllFit m (fact_at cmp part.core.facts)
      → AddsPart cmp m part.core.facts old new → PartsFit cmp m (take (i + 1) parts) × IsSum cmp m (take (i + 1) parts) (fact_at cmp new)
  sum_next parts i part old new within is fit sum here add =
      let next = sym (next_of parts i part within is) in (
        subst (λ list. PartsFit cmp m list) next (fit_more (take i parts) part fit here),
        subst (λ list. IsSum cmp m list (fact_at cmp new)) next (sum_more (take i parts) part old new fit sum add),
      )

  -- a sum whose keys are all pending is good
  pub sum_good : (parts : List (PartState K V)) (s : CoreState K V) → IsPart cmp m s → IsSum cmp m parts (fact_at cmp s.facts) → AllPending cmp s → IsGood cmp m s
  sum_good parts s part sum all = record { part = part; starts = sum.starts; settled = λ k key. pending (all k key) }

  -- where the start pieces would pass the limit, so would each closed state
  pub starts_too_big : {A : Type 0} (limit : ℕ) (r : Result A GrowRefusal) → IfErr r (IsPassing cmp m [] m.starts limit) → IfErr r (IsTooBig cmp m limit)
  starts_too_big limit (Ok x) passing = tt
  starts_too_big limit (Err Want) passing = tt
  starts_too_big limit (Err (Nodes count)) passing = (passing.0, λ t rise closed. passing.1 t rise closed.fit (λ k v e. absurd (cc)) closed.starts)

  -- the sum of no parts
  pub first_sum : {A : Type 0} (r : Result (CoreState K V) A) → IfOk r (λ core. Joins m (fact_at cmp []) m.starts (fact_at cmp core.facts))
      → IfOk r (λ core. IsSum cmp m [] (fact_at cmp core.facts))
  first_sum (Ok core) joined = sum_nothing core.facts joined
  first_sum (Err e) joined = tt
