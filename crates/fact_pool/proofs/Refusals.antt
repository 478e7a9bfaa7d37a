-- What a refused merge of a core under a lock says of the limit.
use Rattle.std.proofs.Common.{◌≡◌, ℕ, Ordering, Result, Ok, Err, subst}
use Rattle.std.specs.Prelude.{IfErr}
use Rattle.flow_system.specs.Rules.{Rules}
use Rattle.flow_core.specs.Claim.{AnswerState, IsAnswerOf}
use Rattle.flow_core.specs.Core.{CoreState}
use Rattle.flow_core.specs.Refusal.{IsPassing, IsTooBig}
use Rattle.flow_core.specs.declared.refusals.GrowRefusal.{GrowRefusal}
use Rattle.flow_core.proofs.DriveLemmas.{too_big}
use Rattle.fact_pool.specs.Held.{IsHeld}

module _ {K V A : Type 0} (cmp : K → K → Ordering) (m n : Rules K V) (same : m ≡ n) (most : ℕ) where
  -- where a core that is held refuses for its limit, the due graph has more counted keys than the named limit
  pub refused_is_too_big : (s : CoreState K V) (answer : AnswerState K V) (r : Result A (AnswerState K V × GrowRefusal)) → IsHeld cmp n most s → IsAnswerOf cmp n answer → IfErr r (λ refused. IsPassing cmp m s.facts answer.pieces s.limit refused.1) → IfErr r (λ refused. IsTooBig cmp n most refused.1)
  refused_is_too_big s answer (Ok x) held of passing = tt
  refused_is_too_big s answer (Err refused) held of passing =
      subst (λ limit. IsTooBig cmp n limit refused.1) held.limit
          (too_big cmp n held.lawful s answer refused.1 held.good.part of
              (subst (λ rules. IsPassing cmp rules s.facts answer.pieces s.limit refused.1) same passing))
