-- What a table shows of one subprogram.
use Rattle.std.proofs.Common.{◌≡◌, ℕ, ◌<◌, ◌^◌, List, [], ◌∷◌, map, get_or, Option, Some, None, All, Contains, refl, subst, arith}
use Rattle.std.proofs.lemmas.List.Elements.{All-cons, All-nil}
use Rattle.abs_state.specs.Key.{compare}
use Rattle.abs_state.specs.declared.key.Next.{Next}
use Rattle.abs_state.specs.declared.key.Next.TheVariants.{At, Into, Back}
use Rattle.abs_state.specs.declared.key.Place.{Place}
use Rattle.context_bounds.specs.Nodes.{IsTold}
use Rattle.context_inside.specs.Laws.{AreDue}
use Rattle.context_inside.specs.Within.{inside_of}
use Rattle.context_inside.specs.declared.within.Within.{Within}
use Rattle.context_outcomes.specs.Bounding.{IsBoundWith}
use Rattle.context_outcomes.specs.Outcomes.{HasPlainBound, IsPlain, plain}
use Rattle.context_outcomes.specs.Setting.{Setting, view_in}
use Rattle.flow_system.specs.Facts.{fact_at}
use Rattle.plain_bounds.proofs.Entered.{entered, entering, entering_node}
use Rattle.plain_bounds.specs.Contexts.{IsPlainWithin}
use Rattle.plain_bounds.specs.Filled.{AllBounded, AreKnown, IsKnownOf, IsWaiting}
use Rattle.plain_bounds.specs.Table.{IsPlainBound}
use Rattle.plain_laws.proofs.OneBound.{open_calls_are_against, reasons_are_against}
use Rattle.plain_parts.proofs.Searched.{known_spot}
use Rattle.plain_parts.specs.Entered.{IsBoundedAt, SomeEnters}
use Rattle.plain_parts.specs.Searched.{Known, bound_at, known_in, worth}
use Rattle.wcet_report.specs.declared.context.Context.TheVariants.{Plain}

-- a bound can be told
cost_told : (S : Setting) (sub b : ℕ) → HasPlainBound S sub b → b < 2 ^ 63
cost_told S sub b (plain within bounds calls is) = is.told

module _ (S : Setting) (subs : List ℕ) (table : Known) (known : AreKnown S subs table) where
  -- what a table has for a subprogram is so
  pub known_is : (sub : ℕ) (e : Option ℕ) → known_in subs table sub ≡ Some e → IsPlainBound S sub e
  known_is sub e is =
      let spot = known_spot subs table sub e is in
      subst (λ (n : ℕ). IsPlainBound S n e) spot.is
      (subst (λ (o : Option (Option ℕ)). IsKnownOf S (get_or subs spot.number 0) o) spot.entry_is (known.each spot.number spot.within))

  worth_told : (sub : ℕ) (o : Option (Option ℕ)) → known_in subs table sub ≡ o → worth o < 2 ^ 63
  worth_told sub None is = omega arith
  worth_told sub (Some None) is = omega arith
  worth_told sub (Some (Some b)) is = cost_told S sub b (known_is sub (Some b) is)

  bound_told : (next : Next) → bound_at subs table next < 2 ^ 63
  bound_told (At n) = omega arith
  bound_told (Into t) = worth_told t (known_in subs table t) refl
  bound_told Back = omega arith

  -- its bounds can be told
  pub bounds_told : (nodes : List Place) → All IsTold (map (λ (p : Place). Some (bound_at subs table p.next)) nodes)
  bounds_told [] = All-nil IsTold
  bounds_told (p ∷ nodes) =
      All-cons IsTold (Some (bound_at subs table p.next)) (map (λ (p : Place). Some (bound_at subs table p.next)) nodes) (bound_told p.next) (bounds_told nodes)

  module _ (due : AreDue S) (sub : ℕ) (w : Within) (is : IsPlainWithin S sub w) where
    -- what a plain context comes to that enters only what has a bound is the bound of its subprogram
    pub bound_found : AllBounded S subs table sub w → (o : Option ℕ)
        → IsBoundWith S (inside_of Plain is.plain is.is) (λ p. Some (bound_at subs table p.next)) o → IsPlainBound S sub o
    bound_found all None reason =
        λ is_plain.
        reasons_are_against S due sub (inside_of Plain is.plain is.is) (λ p. bound_at subs table p.next)
        (λ p t enters. known_is t (Some (bound_at subs table p.next)) (all p t enters)) reason is_plain
    bound_found all (Some b) cost =
        plain (inside_of Plain is.plain is.is) (λ p. bound_at subs table p.next)
        (λ p t enters. known_is t (Some (bound_at subs table p.next)) (all p t enters)) cost

    -- it waits where it enters one of which nothing is known
    pub waits_found : SomeEnters S.binding (view_in S).callings subs table sub (fact_at compare w.facts) None → IsWaiting S subs table sub
    waits_found some = record {
      within = inside_of Plain is.plain is.is;
      place = some.place;
      target = some.entered.target;
      enters = entering S sub (fact_at compare w.facts) some.place some.entered.target some.entered.enters;
      unknown = some.entered.is;
    }

    -- and its subprogram isn't plain where it enters one that isn't
    pub open_found : SomeEnters S.binding (view_in S).callings subs table sub (fact_at compare w.facts) (Some None) → IsPlain S sub → ⊥
    open_found some =
        open_calls_are_against S due sub (inside_of Plain is.plain is.is) some.place some.entered.target
        (entering S sub (fact_at compare w.facts) some.place some.entered.target some.entered.enters) (known_is some.entered.target None some.entered.is)

    -- else all that it enters has a bound
    pub all_found : ((p : Place) → Contains w.nodes.items p → IsBoundedAt S.binding (view_in S).callings subs table sub (fact_at compare w.facts) p)
        → AllBounded S subs table sub w
    all_found all p t enters =
        all p (entering_node S sub is.args w is.is p t enters) t (entered S sub (fact_at compare w.facts) p t enters)
