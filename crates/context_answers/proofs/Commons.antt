-- The reasons that a view and the bounds of callees show are those of a context, but those of its loops and of its cost.
use Rattle.std.proofs.Common.{◌≡◌, ◌==◌, ℕ, ◌<◌, true, List, length, map, Option, Some, Contains, refl, sym, ap, subst, ◌∙◌}
use Rattle.std.specs.Prelude.{is_some, slice_get}
use Rattle.std.specs.List.{flat_map}
use Rattle.std.specs.Map.{keys_of}
use Rattle.std.proofs.lemmas.Bool.{eq-eqb}
use Rattle.std.proofs.lemmas.Option.{slice_get_within}
use Rattle.abs_state.specs.Key.{compare}
use Rattle.abs_state.specs.declared.key.GapKind.{GapKind}
use Rattle.abs_state.specs.declared.key.GapKind.TheVariants as why
use Rattle.abs_state.specs.declared.key.Key.TheVariants as key
use Rattle.abs_state.specs.declared.key.Place.{Place}
use Rattle.context_answers.proofs.Lists.{at_among, mapped_at, some_same}
use Rattle.context_answers.specs.Adding.{IsCommon, IsOpenAmong}
use Rattle.context_bounds.proofs.Shapes.{keys_order}
use Rattle.context_inside.specs.Within.{IsWithin, inside_of}
use Rattle.context_inside.specs.declared.within.Within.{Within}
use Rattle.context_outcomes.specs.Arguments.{AreArgumentsOf}
use Rattle.context_outcomes.specs.Bounding.{IsOpenCall, IsOther}
use Rattle.context_outcomes.specs.Calls.{IsEntering}
use Rattle.context_outcomes.specs.Inside.{Inside}
use Rattle.context_outcomes.specs.Setting.{Setting, facts_in, view_in}
use Rattle.context_outcomes.specs.Spending.{Callees}
use Rattle.flow_core.proofs.WritingLemmas.{key_listed, listed_key}
use Rattle.flow_system.specs.Facts.{fact_at}
use Rattle.graph_view.proofs.Filling.{filter_from}
use Rattle.graph_view.proofs.Keyed.{filter_to}
use Rattle.graph_view.proofs.Stands.{has_from, has_to, keys_stand_in_lists}
use Rattle.graph_view.specs.Lists.{open_in}
use Rattle.graph_view.specs.Sites.{call_address}
use Rattle.graph_view.specs.Subs.{open_sub}
use Rattle.graph_view.specs.View.{opens_of}
use Rattle.graph_view.specs.declared.lists.OpenPoint.{OpenPoint}
use Rattle.value_lattice.specs.declared.value.Value.{Value}
use Rattle.wcet_report.specs.declared.context.Context.{Context}
use Rattle.wcet_report.specs.declared.reason.Reason.{Reason}
use Rattle.wcet_report.specs.declared.reason.Reason.TheVariants as reason

-- what isn't known in a subprogram stands in its view exactly where the facts have it
module _ (S : Setting) (sub : ℕ) where
  gap_there : (pc : ℕ) (kind : GapKind) → Contains (opens_of (view_in S) sub) (record { sub = sub; pc = pc; why = kind })
      → is_some (facts_in S (key.Gap sub pc kind)) ≡ true
  gap_there pc kind has =
      let all : Contains (flat_map open_in (keys_of S.pieces)) (record { sub = sub; pc = pc; why = kind }) =
      has_to (flat_map open_in (keys_of S.pieces)) (record { sub = sub; pc = pc; why = kind })
      (filter_from (λ (x : OpenPoint). open_sub x == sub) (flat_map open_in (keys_of S.pieces)) (record { sub = sub; pc = pc; why = kind })
      (has_from (opens_of (view_in S) sub) (record { sub = sub; pc = pc; why = kind }) has)) in
      listed_key compare keys_order S.pieces (key.Gap sub pc kind) (((keys_stand_in_lists (keys_of S.pieces)).opens sub pc kind).1 all)

  there_gap : (pc : ℕ) (kind : GapKind) → is_some (facts_in S (key.Gap sub pc kind)) ≡ true
      → Contains (opens_of (view_in S) sub) (record { sub = sub; pc = pc; why = kind })
  there_gap pc kind some =
      let all : Contains (flat_map open_in (keys_of S.pieces)) (record { sub = sub; pc = pc; why = kind }) =
      ((keys_stand_in_lists (keys_of S.pieces)).opens sub pc kind).0 (key_listed compare keys_order S.pieces (key.Gap sub pc kind) some) in
      has_to (opens_of (view_in S) sub) (record { sub = sub; pc = pc; why = kind })
      (filter_to (λ (x : OpenPoint). open_sub x == sub) (flat_map open_in (keys_of S.pieces)) (record { sub = sub; pc = pc; why = kind })
      (eq-eqb sub sub refl) (has_from (flat_map open_in (keys_of S.pieces)) (record { sub = sub; pc = pc; why = kind }) all))

callee_parts : (a b c d : ℕ) → reason.Callee a b ≡ reason.Callee c d → (a ≡ c) × (b ≡ d)
callee_parts a b c d e = (let f : reason.Callee a b ≡ reason.Callee c d = e in cc, let f : reason.Callee a b ≡ reason.Callee c d = e in cc)

module _ (S : Setting) {sub : ℕ} {args : List Value} {w : Within} (context : Context) (arguments : AreArgumentsOf S sub context args) (is : IsWithin S sub args w)
    (callees : Callees) (bounds : List (Option ℕ)) (leads : map callees w.nodes.items ≡ bounds) where
  abbrev within : Inside S sub context
  within = inside_of context arguments is

  -- the bound of a program point's callee
  bound_at : (k : ℕ) (p : Place) (bound : Option ℕ) → slice_get w.nodes.items k ≡ Some p → slice_get bounds k ≡ Some bound → callees p ≡ bound
  bound_at k p bound at told = some_same (sym (mapped_at callees w.nodes.items k p at) ∙ (ap (λ (l : List (Option ℕ)). slice_get l k) leads ∙ told))

  called : (call target : ℕ) → IsOpenAmong S.binding (view_in S).callings (fact_at compare w.facts) sub w.nodes.items bounds (length w.nodes.items) (reason.Callee call target)
      → IsOpenCall S within callees call target
  called call target among =
      let parts = callee_parts call target (call_address (record { from = among.p; callee = among.calls.target })) among.calls.target among.calls.to.told in
      let o = among.calls.to.open_into in
      let enters : IsEntering S sub (fact_at compare w.facts) among.p among.calls.target =
      record { followed = record { call = record { into = among.calls.into; there = o.there }; apart = o.apart }; plain = o.plain } in
      record {
        place = among.p;
        enters = subst (IsEntering S sub (fact_at compare w.facts) among.p) (sym parts.1) enters;
        address = parts.0 ∙ ap (λ (t : ℕ). call_address (record { from = among.p; callee = t })) (sym parts.1);
        unbounded = bound_at among.place among.p among.bound among.at among.leads ∙ o.unbounded;
      }

  open_call : (call target : ℕ) → IsOpenCall S within callees call target
      → IsOpenAmong S.binding (view_in S).callings (fact_at compare w.facts) sub w.nodes.items bounds (length w.nodes.items) (reason.Callee call target)
  open_call call target opened =
      let there = opened.enters.followed.call.there in
      let node : is_some (fact_at compare w.facts (key.Node opened.place)) ≡ true = is.stand (key.Call opened.place target) there in
      let among : Contains w.nodes.items opened.place =
      subst (λ (l : List Place). Contains l opened.place) is.nodes ((is.shape.points.each opened.place).1 node) in
      let at = at_among w.nodes.items opened.place among in
      let low : at.0 < length w.nodes.items = slice_get_within w.nodes.items at.0 opened.place at.1 in
      record {
        place = at.0;
        low = low;
        p = opened.place;
        at = at.1;
        bound = callees opened.place;
        leads = ap (λ (l : List (Option ℕ)). slice_get l at.0) (sym leads) ∙ mapped_at callees w.nodes.items at.0 opened.place at.1;
        calls = record {
          target = target;
          into = opened.enters.followed.call.into;
          to = record {
            open_into = record { there = there; apart = opened.enters.followed.apart; plain = opened.enters.plain; unbounded = opened.unbounded };
            told = ap (λ (n : ℕ). reason.Callee n target) opened.address;
          };
        };
      }

  abbrev Common : Reason → Type 0
  Common one = IsCommon S.binding (view_in S) (fact_at compare w.facts) sub w.nodes.items bounds one

  -- each is a reason
  pub common_is : (one : Reason) → Common one → IsOther S within callees one
  common_is (reason.Jump pc) c = gap_there S sub pc why.Jump c
  common_is (reason.Call pc) c = gap_there S sub pc why.Call c
  common_is (reason.Instr pc) c = gap_there S sub pc why.Instr c
  common_is (reason.Loop head) c = absurd c
  common_is (reason.Irreducible one two) c = absurd c
  common_is (reason.Callee call target) c = called call target c
  common_is (reason.Recursion pc) c = c
  common_is (reason.Windows need) c = record { needs = c.needs; more = c.more }
  common_is (reason.TooLarge place) c = absurd c

  -- whether a reason is one of these kinds
  abbrev pub IsOfCommon : Reason → Type 0
  IsOfCommon (reason.Loop head) = ⊥
  IsOfCommon (reason.Irreducible one two) = ⊥
  IsOfCommon (reason.TooLarge place) = ⊥
  IsOfCommon one = Unit {0}

  -- and each reason of these kinds is among them
  pub is_common : (one : Reason) → IsOfCommon one → IsOther S within callees one → Common one
  is_common (reason.Jump pc) kind o = there_gap S sub pc why.Jump o
  is_common (reason.Call pc) kind o = there_gap S sub pc why.Call o
  is_common (reason.Instr pc) kind o = there_gap S sub pc why.Instr o
  is_common (reason.Loop head) kind o = absurd kind
  is_common (reason.Irreducible one two) kind o = absurd kind
  is_common (reason.Callee call target) kind o = open_call call target o
  is_common (reason.Recursion pc) kind o = o
  is_common (reason.Windows need) kind o = record { needs = o.needs; more = o.more }
  is_common (reason.TooLarge place) kind o = absurd kind
