-- The bounds of plain subprograms are one, and what has a reason against a bound isn't plain.
use Rattle.std.proofs.Common.{◌≡◌, ℕ, ◌+◌, ◌<◌, ◌≤◌, Bool, true, false, List, Option, Some, None, Contains, refl, sym, ap, subst, ◌∙◌, arith}
use Rattle.std.specs.Prelude.{◌==◌, is_some, slice_get, if◌then◌else◌}
use Rattle.std.specs.BTreeMap.{is_at}
use Rattle.std.specs.Map.{keys_of}
use Rattle.std.specs.Ordering.{is_eq}
use Rattle.std.specs.declared.cmp.Ordering.{Ordering}
use Rattle.std.specs.declared.cmp.Ordering.TheVariants.{Less, Equal, Greater}
use Rattle.std.proofs.lemmas.Bool.{eqb-true, false≢true}
use Rattle.std.proofs.lemmas.Map.Views.{Contains-keys_from_lookup}
use Rattle.abs_state.proofs.KeyLemmas.{keys_are_ordered}
use Rattle.abs_state.specs.Key.{compare}
use Rattle.abs_state.specs.declared.key.Key.{Key}
use Rattle.abs_state.specs.declared.key.Key.TheVariants as key
use Rattle.abs_state.specs.declared.key.Next.{Next}
use Rattle.abs_state.specs.declared.key.Next.TheVariants.{At, Into, Back}
use Rattle.abs_state.specs.declared.key.Place.{Place}
use Rattle.assert_bind.specs.Binding.{stub}
use Rattle.bt_base.specs.Graph.{is_edge}
use Rattle.graph_laws.proofs.Nests.{reach-trans}
use Rattle.graph_laws.specs.Loops.{CostAtMost, IsAttained}
use Rattle.graph_laws.specs.Nest.{Reaches, SamePart}
use Rattle.graph_laws.specs.Walk.{Costs}
use Rattle.graph_view.proofs.Stands.{keys_stand_in_lists}
use Rattle.graph_view.specs.Cycles.{IsCycleCall}
use Rattle.graph_view.specs.Need.{calls_of}
use Rattle.graph_view.specs.Sites.{call_address}
use Rattle.loop_nest.specs.declared.natural_loop.Loop.{Loop}
use Rattle.path_bound.specs.Capped.{limit}
use Rattle.path_bound.specs.Places.{bound_in, loops_in}
use Rattle.sparc_machine.specs.Straight.{code_instruction}
use Rattle.sparc_runs.specs.Cost.{own_cost}
use Rattle.transfer_rules.specs.Give.{Facts}
use Rattle.wcet_report.specs.declared.context.Context.{Context}
use Rattle.wcet_report.specs.declared.context.Context.TheVariants.{Plain}
use Rattle.wcet_report.specs.declared.reason.Reason.{Reason}
use Rattle.wcet_report.specs.declared.reason.Reason.TheVariants as reason
use Rattle.context_outcomes.specs.Bounding.{AreBounded, HasReason, IsCost, IsGreatest, IsReason}
use Rattle.context_outcomes.specs.Calls.{AreCyclic, IsEntering}
use Rattle.context_outcomes.specs.Inside.{Inside}
use Rattle.context_outcomes.specs.Outcomes.{HasPlainBound, IsPlain, plain}
use Rattle.context_outcomes.specs.Setting.{Setting, facts_in, view_in}
use Rattle.context_outcomes.specs.Spending.{Callees, call_time, called_cost, cost_if, costs_of, place_cost, start_cost, step_cost}
use Rattle.context_inside.specs.Laws.{AreDue}
use Rattle.plain_laws.proofs.OneHeads.{bounds_one}
use Rattle.plain_laws.proofs.OneInside.{attained_there, bounded_there, costs_at, data_of, data_same, facts_same, irreducible_there, unbounded_there}
use Rattle.plain_laws.proofs.OneNest.{attained_below, heads_one}
use Rattle.plain_laws.specs.Laws.{OpenCallsAreAgainst, PlainBoundsAreOne, ReasonsAreAgainst}

none_some : {X : Type 0} {x : X} → None ≡ Some x → ⊥
none_some e = cc

some_same : {X : Type 0} {x y : X} → Some x ≡ Some y → x ≡ y
some_same e = cc

equal_of : (o : Ordering) → is_eq o ≡ true → o ≡ Equal
equal_of Less is = absurd (false≢true is)
equal_of Equal is = refl
equal_of Greater is = absurd (false≢true is)

key_exact : (j k : Key) → is_at (compare j) k ≡ true → j ≡ k
key_exact j k is = keys_are_ordered.exact j k (equal_of (compare j k) is)

-- a call of a context's facts is one of the program, also where it is inside a call cycle
module _ (S : Setting) {sub : ℕ} {context : Context} (within : Inside S sub context) (p : Place) (t : ℕ)
    (there : is_some (within.facts (key.Call p t)) ≡ true) where
  call_listed : ((p.sub == sub) ≡ true) × (is_some (facts_in S (key.Call p t)) ≡ true)
  call_listed = (within.are.kept.keeps (key.Call p t)).0 (within.are.least.closed.kept (key.Call p t) there)

  call_among : Contains (view_in S).callings (record { from = p; callee = t })
  call_among =
      ((keys_stand_in_lists (keys_of S.pieces)).callings p t).0
      (Contains-keys_from_lookup {eq = λ j. is_at (compare j)} key_exact (key.Call p t) S.pieces call_listed.1)

  pub cycle_call : AreCyclic S sub t → IsCycleCall (view_in S).callings sub (call_address (record { from = p; callee = t }))
  cycle_call cyclic =
      let own : sub ≡ p.sub = sym (eqb-true p.sub sub call_listed.0) in
      let round : Reaches (calls_of (view_in S).callings) sub sub =
      reach-trans (calls_of (view_in S).callings) sub t sub cyclic.there cyclic.back in
      record {
        calling = record { from = p; callee = t };
        among = call_among;
        caller = subst (λ (n : ℕ). SamePart (calls_of (view_in S).callings) sub n) own (record { there = round; back = round });
        callee = cyclic;
        is = refl;
      }

-- Where no call is inside the call cycle of its subprogram, a context costs the same with callees that agree on what it enters.
module _ (S : Setting) {sub : ℕ} {context : Context} (within : Inside S sub context) (callees others : Callees)
    (free : (pc : ℕ) → IsCycleCall (view_in S).callings sub pc → ⊥)
    (agree : (p : Place) (t : ℕ) → IsEntering S sub within.facts p t → callees p ≡ others p) where
  entered_cost : (p : Place) (t : ℕ) → p.next ≡ Into t → is_some (within.facts (key.Call p t)) ≡ true → (time : Option ℕ) → stub S.binding t ≡ time
      → call_time time (callees p) ≡ call_time time (others p)
  entered_cost p t into there (Some time) is = refl
  entered_cost p t into there None is =
      ap (call_time None)
      (agree p t (record {
        followed = record {
          call = record { into = into; there = there };
          apart = λ cyclic. free (call_address (record { from = p; callee = t })) (cycle_call S within p t there cyclic);
        };
        plain = ap is_some is;
      }))

  called_same : (p : Place) (next : Next) → p.next ≡ next
      → called_cost S.binding within.facts (callees p) p next ≡ called_cost S.binding within.facts (others p) p next
  called_same p (At n) into = refl
  called_same p (Into t) into = by (is_some (within.facts (key.Call p t))) refl where
    by : (b : Bool) → is_some (within.facts (key.Call p t)) ≡ b
        → (if b then call_time (stub S.binding t) (callees p) else 0) ≡ (if b then call_time (stub S.binding t) (others p) else 0)
    by true there = entered_cost p t into there (stub S.binding t) refl
    by false there = refl
  called_same p Back into = refl

  place_same : (p : Place) → place_cost S within.facts (callees p) p ≡ place_cost S within.facts (others p) p
  place_same p = ap (λ (n : ℕ). own_cost S.costs (code_instruction S.image p.pc) + n) (called_same p p.next refl)

  pub costs_same : costs_at S (data_of within) callees ≡ costs_at S (data_of within) others
  costs_same = λ i. record {
    node = λ n. cost_if (slice_get within.shape.nodes n) (λ p. place_same p i);
    edge = λ n m. if is_edge within.shape.graph n m then step_cost S.image S.costs (slice_get within.shape.nodes n) (slice_get within.shape.nodes m) else 0;
  }

-- So a walk through one of two contexts that are the same spends at most what all walks through the other spend.
module _ (S : Setting) {sub : ℕ} {context : Context} (one two : Inside S sub context) (same : data_of one ≡ data_of two) (callees others : Callees)
    (free : (r : Reason) → IsReason S two others r → ⊥)
    (agree : (p : Place) (t : ℕ) → IsEntering S sub two.facts p t → callees p ≡ others p) where
  walks_below : (xs ys : List Loop) (bs cs : List ℕ) → AreBounded S one xs bs → AreBounded S two ys cs → (cost most : ℕ)
      → IsAttained (is_edge one.shape.graph) one.shape.entry (loops_in xs) (bound_in xs bs) (costs_of S one.shape callees) cost
      → CostAtMost (is_edge two.shape.graph) two.shape.entry (loops_in ys) (bound_in ys cs) (costs_of S two.shape others) most → cost ≤ most
  walks_below xs ys bs cs bounded too cost most attained all =
      let here : AreBounded S two xs bs = bounded_there S one two same xs bs bounded in
      let moved = attained_there S one two same (loops_in xs) (bound_in xs bs) callees cost attained in
      let spent : IsAttained (is_edge two.shape.graph) two.shape.entry (loops_in xs) (bound_in xs bs) (costs_of S two.shape others) cost =
      subst (λ (costs : Costs). IsAttained (is_edge two.shape.graph) two.shape.entry (loops_in xs) (bound_in xs bs) costs cost)
      (costs_same S two callees others (λ pc cyclic. free (reason.Recursion pc) cyclic) agree) moved in
      attained_below (is_edge two.shape.graph) two.shape.entry xs ys here.nest too.nest bs cs
      (λ h there.
      bounds_one S two xs ys bs cs here too h there
      (sym (heads_one (is_edge two.shape.graph) two.shape.entry xs ys here.nest too.nest h) ∙ there))
      (costs_of S two.shape others) cost most spent all

  cost_below : (a b : ℕ) → IsGreatest S one callees a → IsGreatest S two others b → a ≤ b
  cost_below a b is too =
      let most : is.walks ≤ too.walks =
      walks_below is.loops too.loops is.bounds too.bounds is.bounded too.bounded is.walks too.walks is.greatest.attained too.greatest.most in
      let here : a ≡ start_cost S sub + is.walks = is.is in
      let there : b ≡ start_cost S sub + too.walks = too.is in
      omega (arith, most, here, there)

  -- and what is a reason against a bound of the one is one against a bound of the other
  against : (bounds : Place → ℕ) → ((p : Place) → callees p ≡ Some (bounds p)) → (b : ℕ) → IsCost S two others b → (r : Reason) → IsReason S one callees r → ⊥
  against bounds some b cost (reason.Jump pc) is = free (reason.Jump pc) is
  against bounds some b cost (reason.Call pc) is = free (reason.Call pc) is
  against bounds some b cost (reason.Instr pc) is = free (reason.Instr pc) is
  against bounds some b cost (reason.Loop head) is = free (reason.Loop head) (unbounded_there S one two same head is)
  against bounds some b cost (reason.Irreducible p q) is = free (reason.Irreducible p q) (irreducible_there S one two same p q is)
  against bounds some b cost (reason.Callee call target) is = none_some (sym is.unbounded ∙ some is.place)
  against bounds some b cost (reason.Recursion pc) is = free (reason.Recursion pc) is
  against bounds some b cost (reason.Windows need) is = free (reason.Windows need) is
  against bounds some b cost (reason.TooLarge place) is =
      let large = is.1.large in
      let most : large.walks ≤ cost.greatest.walks =
      walks_below large.loops cost.greatest.loops large.bounds cost.greatest.bounds large.bounded cost.greatest.bounded large.walks cost.greatest.walks
      large.greatest.attained cost.greatest.greatest.most in
      let here : limit ≤ start_cost S sub + large.walks = large.large in
      let there : b ≡ start_cost S sub + cost.greatest.walks = cost.greatest.is in
      let told : b < limit = cost.told in
      omega (arith, most, here, there, told)

-- what a context enters, all contexts that are the same enter
pub enters_there : (S : Setting) (sub : ℕ) {context : Context} (one two : Inside S sub context) (p : Place) (t : ℕ) → IsEntering S sub one.facts p t
    → IsEntering S sub two.facts p t
enters_there S sub {context} one two p t enters = subst (λ (x : Facts). IsEntering S sub x p t) (facts_same S sub context one two) enters

pub plain_bounds_are_one : PlainBoundsAreOne
plain_bounds_are_one S due sub a b (plain one bounds calls is) (plain two others too also) =
    let less : a ≤ b =
    cost_below S one two (data_same S sub Plain one two) (λ p. Some (bounds p)) (λ p. Some (others p)) also.free
    (λ p t enters.
    ap Some (plain_bounds_are_one S due t (bounds p) (others p) (calls p t (enters_there S sub two one p t enters)) (too p t enters)))
    a b is.greatest also.greatest in
    let more : b ≤ a =
    cost_below S two one (data_same S sub Plain two one) (λ p. Some (others p)) (λ p. Some (bounds p)) is.free
    (λ p t enters.
    ap Some (sym (plain_bounds_are_one S due t (bounds p) (others p) (calls p t enters) (too p t (enters_there S sub one two p t enters)))))
    b a also.greatest is.greatest in
    omega (arith, less, more)

call_against : (S : Setting) (sub : ℕ) (within : Inside S sub Plain) (p : Place) (t b : ℕ) → IsEntering S sub within.facts p t → (IsPlain S t → ⊥)
    → HasPlainBound S sub b → ⊥
call_against S sub within p t b enters never (plain two others too also) =
    never (record { bound = others p; is = too p t (enters_there S sub within two p t enters) })

pub open_calls_are_against : OpenCallsAreAgainst
open_calls_are_against S due sub within p t enters never is = call_against S sub within p t is.bound enters never is.is

reason_against : (S : Setting) → AreDue S → (sub : ℕ) (one : Inside S sub Plain) (bounds : Place → ℕ)
    → ((p : Place) (t : ℕ) → IsEntering S sub one.facts p t → HasPlainBound S t (bounds p))
    → HasReason S one (λ p. Some (bounds p)) → (b : ℕ) → HasPlainBound S sub b → ⊥
reason_against S due sub one bounds calls has b (plain two others too also) =
    against S one two (data_same S sub Plain one two) (λ p. Some (bounds p)) (λ p. Some (others p)) also.free
    (λ p t enters.
    ap Some (plain_bounds_are_one S due t (bounds p) (others p) (calls p t (enters_there S sub two one p t enters)) (too p t enters)))
    bounds (λ p. refl) b also has.one has.is

pub reasons_are_against : ReasonsAreAgainst
reasons_are_against S due sub within bounds calls has is = reason_against S due sub within bounds calls has is.bound is.is
