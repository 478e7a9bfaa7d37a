-- What keys that are passed over leave of a part.
use Rattle.std.proofs.Common.{◌≡◌, ℕ, Bool, true, false, List, Option, Some, None, Ordering, IsSome, Contains, Result, Ok, Err, refl, sym, ap, ◌∙◌, subst, ◌⊎◌, ⊎_elim}
use Rattle.std.specs.Ordering.{is_eq}
use Rattle.std.specs.Prelude.{IfErr, IfNone, IfOk, IfSome, OnErr}
use Rattle.flow_system.specs.Due.{IsDueKey}
use Rattle.flow_system.specs.Laws.{IsLawful}
use Rattle.flow_system.specs.Rules.{Rules}
use Rattle.flow_system.specs.Facts.{fact_at}
use Rattle.flow_system.specs.State.{AllDue}
use Rattle.flow_core.specs.Claim.{AnswerState, ClaimState, IsAnswerOf}
use Rattle.flow_core.specs.Core.{CoreState, IsKept, IsPending}
use Rattle.flow_core.specs.Event.{Takes}
use Rattle.flow_core.specs.Passed.{passed_over}
use Rattle.flow_core.specs.Queue.{IsLeast}
use Rattle.flow_core.specs.Refusal.{IsPassing, IsTooBig}
use Rattle.flow_core.specs.declared.refusals.GrowRefusal.{GrowRefusal}
use Rattle.flow_core.proofs.CoreLemmas.{least_same}
use Rattle.flow_core.proofs.DriveLemmas.{too_big}
use Rattle.flow_core.proofs.StateLemmas.{given_due}
use Rattle.flow_core.proofs.QueueLemmas.{clear_only, clear_stays, equal_from_is_eq, mark_room, rise_marked, some_when}
use Rattle.part_pool.specs.Part.{IsKeptPart, PassesOthers, TakesOwn}

-- the key of a start piece is due
pub start_key_due : {K V : Type 0} (m : Rules K V) (k : K) (v : V) → Contains m.starts (k, v) → IsDueKey m k
start_key_due m k v listed s closed = let p = closed.starts k v listed in some_when (s k) p.fact p.found

module _ {K V : Type 0} (cmp : K → K → Ordering) (m : Rules K V) (law : IsLawful cmp m) (is_own : K → Type 0) where
  pub passes_none : (s : CoreState K V) → PassesOthers cmp m is_own s s
  passes_none s = record { facts = refl; out = refl; limit = refl; only = λ k p. p; own = λ k mine p. p; kept = λ kept. kept }

  -- a core keeps its index where a key is passed over
  passing_keeps : (s : CoreState K V) (k : K) → IsKept cmp m s → IsKept cmp m (passed_over cmp s k)
  passing_keeps s k kept = record {
    rise = kept.rise;
    marks_rise = rise_marked cmp law.keys.total s.marks k false kept.marks_rise;
    room = λ q key. mark_room cmp law.keys.total s.marks k false q (kept.room q key);
    listed = kept.listed;
    read = kept.read;
    count = kept.count;
    within = kept.within;
  }

  -- one key more is passed over, which isn't own
  pub passes_more : (first s : CoreState K V) (k : K) → (is_own k → ⊥) → PassesOthers cmp m is_own first s → PassesOthers cmp m is_own first (passed_over cmp s k)
  passes_more first s k other passed = record {
    facts = passed.facts;
    out = passed.out;
    limit = passed.limit;
    only = λ q p. passed.only q (clear_only cmp law.keys.total s.marks k q p);
    own = λ q mine p. ⊎_elim (λ still. still)
        (λ is. absurd (other (subst is_own (sym (law.keys.exact k q (equal_from_is_eq (cmp k q) is))) mine)))
        (clear_stays cmp law.keys.total s.marks k q (passed.own q mine p));
    kept = λ kept. passing_keeps s k (passed.kept kept);
  }

  -- the least key is passed over, where it isn't own
  pub passes_next : (first s new : CoreState K V) (k : K) (o : Option K) → IsLeast cmp s.marks k → (is_own k → ⊥) → IfNone o ((q : K) → IsPending cmp s q → ⊥)
      → IfSome o (IsLeast cmp s.marks) → IfSome o (λ q. new ≡ passed_over cmp s q) → PassesOthers cmp m is_own first s → PassesOthers cmp m is_own first new
  passes_next first s new k None least other none at over passed = absurd (none k least.marked)
  passes_next first s new k (Some q) least other none at over passed = subst (λ x. PassesOthers cmp m is_own first x) (sym over)
      (passes_more first s q (λ mine. other (subst is_own (least_same cmp m law s.marks q k at least) mine)) passed)

  -- a claim of the least key, which is own, once others were passed over
  pub own_least : (s : CoreState K V) (j k : K) → IsLeast cmp s.marks j → is_own j → IsLeast cmp s.marks k → is_own k
  own_least s j k first mine second = subst is_own (least_same cmp m law s.marks j k first second) mine

  -- what a claim that is taken then says of the part
  pub took_own : {E : Type 0} (old mid new : CoreState K V) (r : Result (Option (ClaimState K V)) E) → PassesOthers cmp m is_own old mid
      → ((k : K) → IsLeast cmp mid.marks k → is_own k) → IfOk r (λ taken. IfSome taken (λ claim. Takes cmp m mid claim new))
      → IfOk r (λ taken. IfSome taken (λ claim. TakesOwn cmp m is_own old claim new))
  took_own old mid new (Err e) passed mine takes = tt
  took_own old mid new (Ok None) passed mine takes = tt
  took_own old mid new (Ok (Some claim)) passed mine takes = record { between = mid; passed = passed; takes = takes; own = mine claim.key takes.least }

  pub refused_passes : {A E : Type 0} (old mid new : CoreState K V) (r : Result A E) → PassesOthers cmp m is_own old mid → OnErr r (new ≡ mid)
      → OnErr r (PassesOthers cmp m is_own old new)
  refused_passes old mid new (Ok x) passed same = tt
  refused_passes old mid new (Err e) passed same = subst (λ x. PassesOthers cmp m is_own old x) (sym same) passed

module _ {K V A : Type 0} (cmp : K → K → Ordering) (m n : Rules K V) (same : m ≡ n) (most : ℕ) where
  -- where a part refuses for its limit, the due graph has more counted keys than the named limit
  pub refused_is_too_big : (s : CoreState K V) (answer : AnswerState K V) (r : Result A (AnswerState K V × GrowRefusal)) → IsKeptPart cmp n most s
      → IsAnswerOf cmp n answer → IfErr r (λ refused. IsPassing cmp m s.facts answer.pieces s.limit refused.1)
      → IfErr r (λ refused. IsTooBig cmp n most refused.1)
  refused_is_too_big s answer (Ok x) kept of passing = tt
  refused_is_too_big s answer (Err refused) kept of passing =
      subst (λ limit. IsTooBig cmp n limit refused.1) kept.limit
      (too_big cmp n kept.lawful s answer refused.1 kept.part of
      (subst (λ rules. IsPassing cmp rules s.facts answer.pieces s.limit refused.1) same passing))

module _ {K V : Type 0} (cmp : K → K → Ordering) (m : Rules K V) (law : IsLawful cmp m) where
  -- the pieces of an answer of the system are due
  pub answer_due : (answer : AnswerState K V) (pieces : List (K × V)) → pieces ≡ answer.pieces → IsAnswerOf cmp m answer → AllDue m pieces
  answer_due answer pieces are of = subst (λ list. AllDue m list) (sym (are ∙ of.pieces))
      (given_due cmp m law (fact_at cmp answer.claim.copies) of.claim.fit of.claim.due answer.claim.key of.claim.own)
