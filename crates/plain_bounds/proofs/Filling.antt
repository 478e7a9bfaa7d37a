-- A table that is filled, and what isn't known once no more can be found.
use Rattle.std.proofs.Common.{◌≡◌, ℕ, ◌<◌, List, length, get_or, map, Option, Some, None, Contains, refl, sym, ap, subst, ◌∙◌, arith}
use Rattle.std.specs.Map.{keys_of}
use Rattle.std.proofs.lemmas.Grind.{get_or_default_zero}
use Rattle.std.proofs.lemmas.List.{get_or-map}
use Rattle.context_inside.specs.Laws.{AreDue}
use Rattle.context_outcomes.specs.Calls.{IsEntering}
use Rattle.context_outcomes.specs.Outcomes.{HasPlainBound, plain}
use Rattle.context_outcomes.specs.Setting.{Setting}
use Rattle.plain_bounds.proofs.Entered.{entering_called}
use Rattle.plain_bounds.proofs.LookedUp.{entered_listed}
use Rattle.plain_bounds.specs.Filled.{AreKnown, IsKnownOf, IsStuck, IsWaiting}
use Rattle.plain_bounds.specs.Table.{IsPlainBound}
use Rattle.plain_laws.proofs.OneInside.{facts_same}
use Rattle.plain_parts.proofs.Searched.{known_at}
use Rattle.plain_parts.specs.Listed.{AreListed}
use Rattle.plain_parts.specs.Searched.{Known, known_in, settled}
use Rattle.transfer_rules.specs.Give.{Facts}
use Rattle.wcet_report.specs.declared.context.Context.TheVariants.{Plain}

module _ (S : Setting) (due : AreDue S) (subs : List ℕ) (table : Known) (listed : AreListed S.binding (keys_of S.pieces) subs) (known : AreKnown S subs table)
    (stuck : (n : ℕ) → n < length subs → IsStuck S subs table n) where
  -- what is listed and of which nothing is known waits
  waiting : (sub : ℕ) → Contains subs sub → known_in subs table sub ≡ None → IsWaiting S subs table sub
  waiting sub has none =
      let at : get_or subs has.0 0 ≡ sub = sym (get_or_default_zero subs has.0 sub has.1) ∙ has.2 in
      subst (λ (n : ℕ). IsWaiting S subs table n) at
      (stuck has.0 has.1 (sym (known_at subs table has.0 known.rising known.count has.1) ∙ (ap (known_in subs table) at ∙ none)))

  -- but a plain subprogram enters only plain ones: one that entered nothing unknown would be known
  none_plain : (sub bound : ℕ) → HasPlainBound S sub bound → Contains subs sub → known_in subs table sub ≡ None → ⊥
  none_plain sub bound (plain within bounds calls is) has none =
      let w = waiting sub has none in
      let enters : IsEntering S sub within.facts w.place w.target =
      subst (λ (x : Facts). IsEntering S sub x w.place w.target) (facts_same S sub Plain w.within within) w.enters in
      none_plain w.target (bounds w.place) (calls w.place w.target enters)
      (entered_listed S subs w.target listed (entering_called S sub Plain within w.place w.target enters)) w.unknown

  settled_is : (n : ℕ) → n < length subs → (o : Option (Option ℕ)) → get_or table n None ≡ o → IsPlainBound S (get_or subs n 0) (settled o)
  settled_is n less None is =
      λ is_plain.
      none_plain (get_or subs n 0) is_plain.bound is_plain.is (n, less, get_or_default_zero subs n (get_or subs n 0) less)
      (known_at subs table n known.rising known.count less ∙ is)
  settled_is n less (Some e) is = subst (λ (o : Option (Option ℕ)). IsKnownOf S (get_or subs n 0) o) is (known.each n less)

  -- so what isn't known isn't plain
  pub settled_are : (n : ℕ) → n < length subs → IsPlainBound S (get_or subs n 0) (get_or (map settled table) n None)
  settled_are n less =
      let within : n < length table = (let count : length table ≡ length subs = known.count in omega (arith, count, less)) in
      subst (λ (e : Option ℕ). IsPlainBound S (get_or subs n 0) e) (sym (get_or-map settled table n None None within))
      (settled_is n less (get_or table n None) refl)
