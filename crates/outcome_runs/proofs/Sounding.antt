-- The counters of outcomes bound their heads, and their bounds are bounds of walks.
use Rattle.std.proofs.Common.{◌≡◌, ℕ, zero, suc, ◌<◌, ◌≤◌, Bool, true, false, List, [], ◌∷◌, ◌++◌, length, get_or, Option, Some, None, Contains, refl, sym, ap, subst, ◌∙◌, arith}
use Rattle.std.specs.Prelude.{◌==◌, ◌+◌, ◌-◌, is_some, map, slice_get, slice_index, unwrap_or, if◌then◌else◌}
use Rattle.std.specs.BTreeMap.{is_at}
use Rattle.std.specs.Map.{keys_of}
use Rattle.std.specs.Option.{option_and_then, option_map}
use Rattle.std.specs.Ordering.{is_eq}
use Rattle.std.specs.declared.cmp.Ordering.{Ordering}
use Rattle.std.specs.declared.cmp.Ordering.TheVariants.{Less, Equal, Greater}
use Rattle.std.proofs.lemmas.Bool.{eqb-true, false≢true, ltb-true}
use Rattle.std.proofs.lemmas.Map.Views.{Contains-keys_from_lookup}
use Rattle.std.proofs.lemmas.Option.{slice_get-get_or, slice_get_within}
use Rattle.abs_state.proofs.KeyLemmas.{keys_are_ordered}
use Rattle.abs_state.specs.Key.{compare}
use Rattle.abs_state.specs.declared.key.Key.{Key}
use Rattle.abs_state.specs.declared.key.Key.TheVariants as key
use Rattle.abs_state.specs.declared.key.Next.{Next}
use Rattle.abs_state.specs.declared.key.Next.TheVariants.{At, Into, Back}
use Rattle.abs_state.specs.declared.key.Place.{Place}
use Rattle.assert_bind.specs.Binding.{stub}
use Rattle.bt_base.specs.Graph.{is_edge}
use Rattle.frame_laws.specs.Context.{Counter, Family, Standing, Free, Stub, In, IsBound, IsCounter, IsSound, call_cost, costs_in, is_bounded}
use Rattle.graph_laws.proofs.Nests.{reach-trans}
use Rattle.graph_laws.specs.Loops.{CostAtMost, KeepsBounds, Loops}
use Rattle.graph_laws.specs.Nest.{Reaches, SamePart}
use Rattle.graph_laws.specs.Walk.{Costs, IsWalk, cost_of, passes}
use Rattle.graph_view.proofs.Stands.{keys_stand_in_lists}
use Rattle.graph_view.specs.Need.{calls_of}
use Rattle.graph_view.specs.Sites.{call_address}
use Rattle.graph_view.specs.declared.lists.Calling.{Calling}
use Rattle.local_facts.specs.Restricted.{is_listed}
use Rattle.loop_nest.specs.LoopNest.{is_head}
use Rattle.loop_nest.specs.declared.natural_loop.Loop.{Loop}
use Rattle.path_bound.specs.Places.{bound_in, loops_in, place_of}
use Rattle.sparc_machine.specs.Straight.{code_instruction}
use Rattle.sparc_runs.specs.Cost.{own_cost}
use Rattle.wcet_report.specs.declared.context.Context.{Context}
use Rattle.wcet_report.specs.declared.loops.By.{By}
use Rattle.wcet_report.specs.declared.loops.LoopOutcome.{LoopOutcome}
use Rattle.wcet_report.specs.declared.outcome.Outcome.{Outcome}
use Rattle.wcet_report.specs.declared.reason.Reason.{Reason}
use Rattle.wcet_report.specs.declared.reason.Reason.TheVariants as reason
use Rattle.context_outcomes.specs.Bounding.{IsBoundWith, IsCost, IsReason}
use Rattle.context_outcomes.specs.Calls.{IsEntering}
use Rattle.context_outcomes.specs.Heads.{AreHeadBounds, passes_by}
use Rattle.context_outcomes.specs.Inside.{Inside}
use Rattle.context_outcomes.specs.Outcomes.{AreTold}
use Rattle.context_outcomes.specs.Setting.{Setting, facts_in, view_in}
use Rattle.context_outcomes.specs.Spending.{Callees, call_time, called_cost, cost_if, costs_of, place_cost, start_cost}
use Rattle.outcome_runs.proofs.Filling.{IsInto, enters_into, follows_at, node_at}
use Rattle.outcome_runs.proofs.Heads.{IsHeadWith, counter_holds, get_there, head_with}
use Rattle.outcome_runs.specs.Family.{Looped, bounds_of, by_at, context_of, contexts_of, counters_of, follows_into, follows_to, leads_if, leads_of, looped, looped_by, loops_of, own_costs, passes_at, root_of}
use Rattle.outcome_runs.specs.Laws.{OutcomesAreSound}
use Rattle.outcome_runs.specs.Told.{Entry, IsKnown, LeadsToEntry, Told}

some_same : {X : Type 0} {x y : X} → Some x ≡ Some y → x ≡ y
some_same e = cc

none_some : {X : Type 0} {x : X} → None ≡ Some x → ⊥
none_some e = cc

-- where nodes cost no more and edges the same, a walk costs no more
cost_rises : (low high : Costs) → ((n : ℕ) → low.node n ≤ high.node n) → ((n m : ℕ) → low.edge n m ≡ high.edge n m) → (n : ℕ) (rest : List ℕ)
    → cost_of low n rest ≤ cost_of high n rest
cost_rises low high nodes edges n [] = nodes n
cost_rises low high nodes edges n (m ∷ rest) =
    let one : low.node n ≤ high.node n = nodes n in
    let step : low.edge n m ≡ high.edge n m = edges n m in
    let more : cost_of low m rest ≤ cost_of high m rest = cost_rises low high nodes edges m rest in
    omega (arith, one, step, more)

-- a call of a context's facts is one of the program
equal_of : (o : Ordering) → is_eq o ≡ true → o ≡ Equal
equal_of Less is = absurd (false≢true is)
equal_of Equal is = refl
equal_of Greater is = absurd (false≢true is)

key_exact : (j k : Key) → is_at (compare j) k ≡ true → j ≡ k
key_exact j k is = keys_are_ordered.exact j k (equal_of (compare j k) is)

module _ (S : Setting) (one : Entry S) where
  call_listed : (p : Place) (t : ℕ) → is_some (one.is.within.facts (key.Call p t)) ≡ true → ((p.sub == one.outcome.sub) ≡ true) × (is_some (facts_in S (key.Call p t)) ≡ true)
  call_listed p t there = (one.is.within.are.kept.keeps (key.Call p t)).0 (one.is.within.are.least.closed.kept (key.Call p t) there)

  call_among : (p : Place) (t : ℕ) → is_some (one.is.within.facts (key.Call p t)) ≡ true → Contains (view_in S).callings (record { from = p; callee = t })
  call_among p t there =
      ((keys_stand_in_lists (keys_of S.pieces)).callings p t).0
      (Contains-keys_from_lookup {eq = λ j. is_at (compare j)} key_exact (key.Call p t) S.pieces (call_listed p t there).1)

  -- a call inside a call cycle is a reason
  cycle_call : (p : Place) (t : ℕ) → is_some (one.is.within.facts (key.Call p t)) ≡ true → SamePart (calls_of (view_in S).callings) one.outcome.sub t
      → IsReason S one.is.within one.is.callees (reason.Recursion (call_address (record { from = p; callee = t })))
  cycle_call p t there cyclic =
      let own : one.outcome.sub ≡ p.sub = sym (eqb-true p.sub one.outcome.sub (call_listed p t there).0) in
      let round : Reaches (calls_of (view_in S).callings) one.outcome.sub one.outcome.sub =
      reach-trans (calls_of (view_in S).callings) one.outcome.sub t one.outcome.sub cyclic.there cyclic.back in
      record {
        calling = record { from = p; callee = t };
        among = call_among p t there;
        caller = subst (λ (n : ℕ). SamePart (calls_of (view_in S).callings) one.outcome.sub n) own (record { there = round; back = round });
        callee = cyclic;
        is = refl;
      }

module _ (S : Setting) (list : List Outcome) (told : Told S list) (known : IsKnown S) where
  abbrev all : Family
  all = (contexts_of told).family

  -- what a call leads to costs no more than its caller counts for it
  into_cost : (c : ℕ) (one : Entry S) (p : Place) (t : ℕ) (time : Option ℕ) (cyclic there : Bool)
      → ((d : ℕ) → follows_into told c p time cyclic there ≡ In d → LeadsToEntry told.entries one p t d)
      → call_cost all (Some (follows_into told c p time cyclic there)) ≤ call_time time (one.is.callees p)
  into_cost c one p t (Some time) cyclic there leads = omega arith
  into_cost c one p t None true there leads = omega arith
  into_cost c one p t None false false leads = omega arith
  into_cost c one p t None false true leads =
      let d : ℕ = told.place c p in
      let e = leads d refl in
      let same : unwrap_or (all d).most 0 ≡ unwrap_or (one.is.callees p) 0 =
      ap (λ (o : Option (Entry S)). unwrap_or (context_of told d o).most 0) e.at ∙ ap (λ (o : Option ℕ). unwrap_or o 0) (sym e.bound) in
      omega (arith, same)

  leads_entry : (c : ℕ) (one : Entry S) (p : Place) (t d : ℕ) → slice_get told.entries c ≡ Some one → p.next ≡ Into t → follows_to told c one p p.next ≡ In d
      → LeadsToEntry told.entries one p t d
  leads_entry c one p t d at into is =
      let case = enters_into S list told c one p t d into is in
      subst (λ (e : ℕ). LeadsToEntry told.entries one p t e) case.place (told.leads c one p t at case.enters)

  called_at_most : (c : ℕ) (one : Entry S) (p : Place) (next : Next) → slice_get told.entries c ≡ Some one → p.next ≡ next
      → call_cost all (leads_if told c one p next) ≤ called_cost S.binding one.is.within.facts (one.is.callees p) p next
  called_at_most c one p (At n) at into = omega arith
  called_at_most c one p (Into t) at into = by (is_some (one.is.within.facts (key.Call p t))) refl where
    by : (b : Bool) → is_some (one.is.within.facts (key.Call p t)) ≡ b
        → call_cost all (if b then Some (follows_to told c one p p.next) else None) ≤ (if b then call_time (stub S.binding t) (one.is.callees p) else 0)
    by true there =
        let most =
        into_cost c one p t (stub S.binding t) (told.cyclic one.outcome.sub t) (is_some (one.is.within.facts (key.Call p t)))
        (λ d is. leads_entry c one p t d at into (follows_at S list told c one p t into ∙ is)) in
        subst (λ (s : Standing). call_cost all (Some s) ≤ call_time (stub S.binding t) (one.is.callees p)) (sym (follows_at S list told c one p t into)) most
    by false there = omega arith
  called_at_most c one p Back at into = omega arith

  abbrev own_at : Place → ℕ
  own_at p = own_cost S.costs (code_instruction S.image p.pc)

  node_cost : (c : ℕ) (one : Entry S) (o : Option Place) → slice_get told.entries c ≡ Some one
      → cost_if o own_at + call_cost all (option_and_then (leads_of told c one) o)
      ≤ cost_if o (λ p. place_cost S one.is.within.facts (one.is.callees p) p)
  node_cost c one None at = omega arith
  node_cost c one (Some p) at = let most = called_at_most c one p p.next at refl in omega (arith, most)

  -- each call of a context with a bound has one
  into_bounded : (c : ℕ) (one : Entry S) (p : Place) (t : ℕ) (time : Option ℕ) (cyclic there : Bool) → there ≡ true → (cyclic ≡ true → ⊥)
      → ((d : ℕ) → follows_into told c p time cyclic there ≡ In d → LeadsToEntry told.entries one p t d × (is_some (one.is.callees p) ≡ true))
      → is_bounded all (Some (follows_into told c p time cyclic there)) ≡ true
  into_bounded c one p t (Some time) cyclic there found apart leads = refl
  into_bounded c one p t None true there found apart leads = absurd (apart refl)
  into_bounded c one p t None false false found apart leads = absurd (false≢true found)
  into_bounded c one p t None false true found apart leads =
      let d : ℕ = told.place c p in
      let both = leads d refl in
      ap (λ (o : Option (Entry S)). is_some (context_of told d o).most) both.0.at ∙ (ap is_some (sym both.0.bound) ∙ both.1)

  called_bounded : (c : ℕ) (one : Entry S) → slice_get told.entries c ≡ Some one → ((r : Reason) → IsReason S one.is.within one.is.callees r → ⊥)
      → (p : Place) (next : Next) → p.next ≡ next → is_bounded all (leads_if told c one p next) ≡ true
  called_bounded c one at free p (At n) into = refl
  called_bounded c one at free p (Into t) into = by (is_some (one.is.within.facts (key.Call p t))) refl where
    closed : IsEntering S one.outcome.sub one.is.within.facts p t → (o : Option ℕ) → one.is.callees p ≡ o → is_some (one.is.callees p) ≡ true
    closed enters None bare =
        absurd (free (reason.Callee (call_address (record { from = p; callee = t })) t) (record { place = p; enters = enters; address = refl; unbounded = bare }))
    closed enters (Some most) bare = ap is_some bare

    by : (b : Bool) → is_some (one.is.within.facts (key.Call p t)) ≡ b → is_bounded all (if b then Some (follows_to told c one p p.next) else None) ≡ true
    by true there =
        let bounded =
        into_bounded c one p t (stub S.binding t) (told.cyclic one.outcome.sub t) (is_some (one.is.within.facts (key.Call p t))) there
        (λ cyclic. free (reason.Recursion (call_address (record { from = p; callee = t }))) (cycle_call S one p t there ((told.decides one.outcome.sub t).0 cyclic)))
        (λ d is.
        let same : follows_to told c one p p.next ≡ In d = follows_at S list told c one p t into ∙ is in
        let case = enters_into S list told c one p t d into same in
        (leads_entry c one p t d at into same, closed case.enters (one.is.callees p) refl)) in
        subst (λ (s : Standing). is_bounded all (Some s) ≡ true) (sym (follows_at S list told c one p t into)) bounded
    by false there = refl
  called_bounded c one at free p Back into = refl

  node_bounded : (c : ℕ) (one : Entry S) → slice_get told.entries c ≡ Some one → ((r : Reason) → IsReason S one.is.within one.is.callees r → ⊥)
      → (o : Option Place) → is_bounded all (option_and_then (leads_of told c one) o) ≡ true
  node_bounded c one at free None = refl
  node_bounded c one at free (Some p) = called_bounded c one at free p p.next refl

-- a walk that keeps the bounds of the heads that have one keeps those of all, where all have one
module _ (S : Setting) {sub : ℕ} {context : Context} (within : Inside S sub context) (l : Looped S within) (bounds : List ℕ) (are : AreHeadBounds l.outcomes bounds) where
  passed : (h : ℕ) → is_head l.loops h ≡ true → passes_at l.loops l.outcomes h ≡ Some (bound_in l.loops bounds h)
  passed h there =
      let w = head_with S within l h there in
      let low : place_of l.loops h < length bounds =
      let under : place_of l.loops h < length l.outcomes = slice_get_within l.outcomes (place_of l.loops h) w.outcome w.at in omega (arith, under, are.count) in
      ap (option_and_then passes_by) w.by
      ∙ are.each (place_of l.loops h) (bound_in l.loops bounds h) w.outcome w.at (slice_get-get_or bounds (place_of l.loops h) 0 low)

  pub keeps_all : (walk : List ℕ) → KeepsBounds (loops_of S within (Some l)) (bounds_of S within (Some l)) walk
      → KeepsBounds (loops_in l.loops) (bound_in l.loops bounds) walk
  keeps_all walk keeps = record {
    kept = λ h before stretch after there split inside.
        let some = passed h there in
        let most = keeps.kept h before stretch after (ap is_some some) split inside in
        let same : bounds_of S within (Some l) h ≡ bound_in l.loops bounds h = ap (λ (o : Option ℕ). unwrap_or o 0) some in
        subst (λ (n : ℕ). passes h stretch ≤ n) same most;
  }

module _ (S : Setting) (list : List Outcome) (told : Told S list) (known : IsKnown S) (c : ℕ) (one : Entry S) (at : slice_get told.entries c ≡ Some one) where
  abbrev inside : Inside S one.outcome.sub one.outcome.context
  inside = one.is.within

  -- what its nodes cost with the calls at them
  abbrev spent : Costs
  spent = record {
    node = λ n. (own_costs S inside one.is.callees).node n + call_cost (all S list told known) (option_and_then (leads_of told c one) (slice_get inside.shape.nodes n));
    edge = (own_costs S inside one.is.callees).edge;
  }

  walks_bounded : (most : Option ℕ) (is : IsBoundWith S inside one.is.callees most) (are : AreTold S inside one.outcome.loops) (cost : ℕ) → most ≡ Some cost
      → CostAtMost (is_edge inside.shape.graph) inside.shape.entry (loops_of S inside (looped_by S inside one.is.callees most one.outcome.loops is are))
      (bounds_of S inside (looped_by S inside one.is.callees most one.outcome.loops is are)) spent (cost - start_cost S one.outcome.sub)
  walks_bounded None is are cost same rest walk keeps = absurd (none_some same)
  walks_bounded (Some n) is are cost same rest walk keeps =
      let l : Looped S inside = record {
        loops = is.greatest.loops;
        nest = is.greatest.bounded.nest;
        outcomes = is.greatest.bounded.outcomes;
        each = is.greatest.bounded.each;
      } in
      let less = cost_rises spent (costs_of S inside.shape one.is.callees) (λ k. node_cost S list told known c one (slice_get inside.shape.nodes k) at) (λ k m. refl)
      inside.shape.entry rest in
      let most = is.greatest.greatest.most rest walk (keeps_all S inside l is.greatest.bounds is.greatest.bounded.passes (inside.shape.entry ∷ rest) keeps) in
      let total = is.greatest.is in
      let told_cost : n ≡ cost = some_same same in
      omega (arith, less, most, total, told_cost)

  start_at_most : (most : Option ℕ) (is : IsBoundWith S inside one.is.callees most) (cost : ℕ) → most ≡ Some cost → start_cost S one.outcome.sub ≤ cost
  start_at_most None is cost same = absurd (none_some same)
  start_at_most (Some n) is cost same = let total = is.greatest.is in let told_cost : n ≡ cost = some_same same in omega (arith, total, told_cost)

  no_reason : (most : Option ℕ) (is : IsBoundWith S inside one.is.callees most) (cost : ℕ) → most ≡ Some cost
      → (r : Reason) → IsReason S inside one.is.callees r → ⊥
  no_reason None is cost same = absurd (none_some same)
  no_reason (Some n) is cost same = is.free

  pub bound_holds : (cost : ℕ) → one.outcome.bound ≡ Some cost → IsBound (all S list told known) (context_of told c (Some one)) cost
  bound_holds cost same = record {
    start = start_at_most one.outcome.bound one.is.bound cost same;
    walks = walks_bounded one.outcome.bound one.is.bound one.is.loops cost same;
    calls = λ n. node_bounded S list told known c one at (no_reason one.outcome.bound one.is.bound cost same) (slice_get inside.shape.nodes n);
  }

module _ (S : Setting) (list : List Outcome) (told : Told S list) (known : IsKnown S) where
  counters_hold : (c : ℕ) (o : Option (Entry S)) (h : ℕ) (counter : Counter) → (context_of told c o).loops.has h ≡ true → (context_of told c o).counter h ≡ Some counter
      → IsCounter (context_of told c o).edge ((context_of told c o).loops.body h) h ((context_of told c o).bound h) counter
  counters_hold c None h counter there found = absurd (false≢true there)
  counters_hold c (Some one) h counter there found = by (looped one) there found where
    by : (l : Option (Looped S one.is.within)) → (loops_of S one.is.within l).has h ≡ true → counters_of S one.is.within l h ≡ Some counter
        → IsCounter (is_edge one.is.within.shape.graph) ((loops_of S one.is.within l).body h) h (bounds_of S one.is.within l h) counter
    by None there found = absurd (false≢true there)
    by (Some l) there found = counter_holds S one.is.within l h counter there found

  bounds_hold : (c : ℕ) (o : Option (Entry S)) (most : ℕ) → slice_get told.entries c ≡ o → (context_of told c o).most ≡ Some most
      → IsBound (all S list told known) (context_of told c o) most
  bounds_hold c None most at same = absurd (none_some same)
  bounds_hold c (Some one) most at same = bound_holds S list told known c one at most same

  pub sound : IsSound (contexts_of told).family
  sound = record {
    counters = λ c h counter there found. counters_hold c (slice_get told.entries c) h counter there found;
    bounds = λ c most same. bounds_hold c (slice_get told.entries c) most refl same;
  }

pub outcomes_are_sound : OutcomesAreSound
outcomes_are_sound S list told known = sound S list told known
