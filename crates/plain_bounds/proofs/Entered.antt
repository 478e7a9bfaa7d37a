-- What a plain context enters, as code finds it.
use Rattle.std.proofs.Common.{◌≡◌, ℕ, Bool, true, false, List, [], ◌∷◌, Contains, inl, inr, refl, subst}
use Rattle.std.specs.Prelude.{is_some, if◌then◌else◌}
use Rattle.std.specs.List.{flat_map}
use Rattle.std.specs.Map.{keys_of}
use Rattle.std.proofs.lemmas.List.Elements.{Contains-append_cases}
use Rattle.abs_state.specs.Key.{compare}
use Rattle.abs_state.specs.declared.key.Key.{Key}
use Rattle.abs_state.specs.declared.key.Key.TheVariants as key
use Rattle.abs_state.specs.declared.key.Place.{Place}
use Rattle.assert_bind.specs.Binding.{roots}
use Rattle.call_laws.proofs.Risings.{contains_cases, none_in_empty}
use Rattle.context_bounds.proofs.Shapes.{keys_order}
use Rattle.context_inside.specs.Laws.{IsCalled, IsEntered}
use Rattle.context_inside.specs.Within.{IsWithin}
use Rattle.context_inside.specs.declared.within.Within.{Within}
use Rattle.context_outcomes.specs.Calls.{IsEntering}
use Rattle.context_outcomes.specs.Inside.{Inside}
use Rattle.context_outcomes.specs.Setting.{Setting, view_in}
use Rattle.flow_core.proofs.WritingLemmas.{flat_from, listed_key}
use Rattle.flow_system.specs.Facts.{fact_at}
use Rattle.plain_parts.specs.Entered.{Enters}
use Rattle.plain_parts.specs.Listed.{AreListed, called_in}
use Rattle.transfer_acts.specs.Reading.{is_stub}
use Rattle.transfer_rules.specs.Give.{Facts}
use Rattle.value_lattice.specs.declared.value.Value.{Value}
use Rattle.wcet_report.specs.declared.context.Context.{Context}

module _ (S : Setting) (sub : ℕ) (facts : Facts) (p : Place) (t : ℕ) where
  -- what code finds to be entered is
  pub entering : Enters S.binding (view_in S).callings sub facts p t → IsEntering S sub facts p t
  entering enters = record {
    followed = record { call = record { into = enters.into; there = enters.there }; apart = enters.apart };
    plain = enters.plain;
  }

  -- and what is, code finds
  pub entered : IsEntering S sub facts p t → Enters S.binding (view_in S).callings sub facts p t
  entered enters = record {
    into = enters.followed.call.into;
    there = enters.followed.call.there;
    apart = enters.followed.apart;
    plain = enters.plain;
  }

-- what a context enters is called
pub entering_called : (S : Setting) (sub : ℕ) (context : Context) (within : Inside S sub context) (p : Place) (t : ℕ) → IsEntering S sub within.facts p t
    → IsEntered S t
entering_called S sub context within p t enters =
    inr (record {
      plain = enters.plain;
      from = p;
      there = ((within.are.kept.keeps (key.Call p t)).0 (within.are.least.closed.kept (key.Call p t) enters.followed.call.there)).1;
    })

-- what a context enters, one of its program points does
pub entering_node : (S : Setting) (sub : ℕ) (args : List Value) (w : Within) → IsWithin S sub args w → (p : Place) (t : ℕ)
    → IsEntering S sub (fact_at compare w.facts) p t → Contains w.nodes.items p
entering_node S sub args w is p t enters =
    subst (λ (nodes : List Place). Contains nodes p) is.nodes
    ((is.shape.points.each p).1 (is.stand (key.Call p t) enters.followed.call.there))

-- what a key calls that is no stub is called
called_by : (S : Setting) (k : Key) (sub : ℕ) → is_some (fact_at compare S.pieces k) ≡ true → Contains (called_in S.binding k) sub → IsCalled S sub
called_by S (key.Node p) sub there has = absurd (none_in_empty sub has)
called_by S (key.Edge p q) sub there has = absurd (none_in_empty sub has)
called_by S (key.Call p t) sub there has = by (is_stub S.binding t) refl has where
  by : (b : Bool) → is_stub S.binding t ≡ b → Contains (if b then [] else t ∷ []) sub → IsCalled S sub
  by true stub has = absurd (none_in_empty sub has)
  by false plain has = elim (contains_cases t [] sub has) [
    | inl same ↦ subst (λ (n : ℕ). IsCalled S n) same (record { plain = plain; from = p; there = there })
    | inr later ↦ absurd (none_in_empty sub later)
  ]
called_by S (key.Summary q) sub there has = absurd (none_in_empty sub has)
called_by S (key.Gap q pc kind) sub there has = absurd (none_in_empty sub has)

-- what is listed is entered
pub listed_entered : (S : Setting) (subs : List ℕ) (sub : ℕ) → AreListed S.binding (keys_of S.pieces) subs → Contains subs sub → IsEntered S sub
listed_entered S subs sub listed has =
    elim (Contains-append_cases (roots S.binding) (flat_map (called_in S.binding) (keys_of S.pieces)) sub ((listed.are sub).0 has)) [
      | inl root ↦ inl root
      | inr called ↦
          let from = flat_from (called_in S.binding) (keys_of S.pieces) sub called in
          inr (called_by S from.one sub (listed_key compare keys_order S.pieces from.one from.listed) from.inner)
    ]
