-- The facts of a context answer, and enter what they call.
use Rattle.std.proofs.Common.{◌≡◌, ℕ, ◌<◌, Bool, true, false, List, [], ◌∷◌, ◌++◌, length, Option, Some, None, Contains, IsTrue, refl, sym, ap, subst}
use Rattle.std.proofs.Common.{◌∙◌, arith, inl, inr}
use Rattle.std.specs.Prelude.{◌==◌, is_some, map, not, get_or}
use Rattle.std.specs.List.{All}
use Rattle.std.proofs.lemmas.Bool.{eq-eqb, eqb-true, false≢true}
use Rattle.std.proofs.lemmas.List.Elements.{All-contains, All-map, Contains-append_right, Contains-get_or}
use Rattle.call_effects.specs.Summary.{effects_of_stub}
use Rattle.call_effects.specs.declared.summary.Summary.{Summary as Effects}
use Rattle.value_lattice.specs.Height.{are_at_most}
use Rattle.value_lattice.specs.declared.value.Value.{Value}
use Rattle.abs_state.proofs.CellsLemmas.{cells_onward}
use Rattle.abs_state.proofs.OrderLemmas.{states_are_ordered}
use Rattle.abs_state.specs.State.{State}
use Rattle.abs_state.specs.declared.key.Key.{Key}
use Rattle.abs_state.specs.declared.key.Key.TheVariants as key
use Rattle.abs_state.specs.declared.key.Next.{Next}
use Rattle.abs_state.specs.declared.key.Next.TheVariants.{At, Into, Back}
use Rattle.abs_state.specs.declared.key.Place.{Place}
use Rattle.flow_system.specs.State.{AllFit, ContainsPiece, IsClosed}
use Rattle.transfer_rules.proofs.Closing.{closed_starts, state_above}
use Rattle.transfer_rules.proofs.FactKinds.{fitting}
use Rattle.transfer_rules.proofs.FactOrder.{same_fact}
use Rattle.transfer_rules.proofs.HandedValues.{entered_up}
use Rattle.transfer_rules.proofs.System.{fit_stays}
use Rattle.transfer_rules.specs.Closed.{HasCall, HasState, IsAllowed, IsTaken, LeadsTo, Says}
use Rattle.transfer_rules.specs.Fact.{Piece, fits, is_at_most, state_in}
use Rattle.transfer_rules.specs.Family.{Family, Program}
use Rattle.transfer_rules.specs.Give.{Facts, act_beside, act_entered, act_gives, act_here, arguments, callee_of, entered, entered_to, entered_with}
use Rattle.transfer_rules.specs.Give.{entry_of, given_if, gives, node_gives, pieces_of, starts}
use Rattle.transfer_rules.specs.Given.{sub_of}
use Rattle.transfer_rules.specs.Lawful.{IsLawfulFamily, IsLawfulProgram, rules_of}
use Rattle.transfer_rules.specs.declared.act.Act.{Act}
use Rattle.transfer_rules.specs.declared.act.Act.TheVariants.{Acts}
use Rattle.transfer_rules.specs.declared.act.Way.{Way}
use Rattle.transfer_rules.specs.declared.act.Way.TheVariants.{Onward}
use Rattle.transfer_rules.specs.declared.fact.Fact.{Fact}
use Rattle.transfer_rules.specs.declared.fact.Fact.TheVariants as fact
use Rattle.transfer_rules.specs.declared.step.Step.{Step}
use Rattle.closed_steps.proofs.Covering.{closed_answers}
use Rattle.closed_steps.specs.Graph.{Answers}
use Rattle.context_facts.proofs.Least.{entry_up, given_among}
use Rattle.context_facts.proofs.OwnPieces.{closed_off, fewer_given, own_given}
use Rattle.context_facts.specs.Context.{AreLawful, ContextsAnswer, ContextsEnter, IsAmong, IsContext, is_local, with_others}

module _ (t more : List ℕ) (f g : Family) (m : Program) (x : Facts) (sub : ℕ) (args : List Value) (s : Facts) (lawful : AreLawful t more f g m)
    (closed : IsClosed (rules_of t f m) x) (context : IsContext more g m x sub args s) where
  z_fits : (k : Key) (v : Fact) → with_others s x k ≡ Some v → fits more k v ≡ true
  z_fits (key.Node p) v found = context.fit (key.Node p) v found
  z_fits (key.Edge p q) v found = context.fit (key.Edge p q) v found
  z_fits (key.Call p q) v found = context.fit (key.Call p q) v found
  z_fits (key.Summary q) v found = fit_stays t more (key.Summary q) v lawful.finer.thresholds (closed.fit (key.Summary q) v found)
  z_fits (key.Gap q pc kind) v found = fit_stays t more (key.Gap q pc kind) v lawful.finer.thresholds (closed.fit (key.Gap q pc kind) v found)

  among_itself : (k : Key) (v : Fact) → x k ≡ Some v → IsAmong x k v
  among_itself k v found = record { fact = v; found = found; above = same_fact t v (fitting t k v (closed.fit k v found)).over }

  z_below : (k : Key) (v : Fact) → with_others s x k ≡ Some v → IsAmong x k v
  z_below (key.Node p) v found = context.below (key.Node p) v found
  z_below (key.Edge p q) v found = context.below (key.Edge p q) v found
  z_below (key.Call p q) v found = context.below (key.Call p q) v found
  z_below (key.Summary q) v found = among_itself (key.Summary q) v found
  z_below (key.Gap q pc kind) v found = among_itself (key.Gap q pc kind) v found

  -- a program point of the context is one of the closed state
  known_there : (p : Place) → is_some (s (key.Node p)) ≡ true → is_some (x (key.Node p)) ≡ true
  known_there p there = by (s (key.Node p)) refl there where
    by : (o : Option Fact) → s (key.Node p) ≡ o → is_some o ≡ true → is_some (x (key.Node p)) ≡ true
    by None is none = absurd (false≢true none)
    by (Some v) is some = ap is_some (context.below (key.Node p) v is).found

  -- what the context gives is in the closed state
  in_whole : (p : Place) (k : Key) (v : Fact) → is_some (s (key.Node p)) ≡ true → Contains (gives g m (key.Node p) (with_others s x)) (k, v) → IsAmong x k v
  in_whole p k v there has = given_among t more f g m x (with_others s x) lawful closed z_fits z_below p k v (known_there p there) has

  local_of : (p : Place) (k : Key) → is_some (s (key.Node p)) ≡ true → sub_of k ≡ p.sub → sub_of k ≡ sub
  local_of p k there same = same ∙ eqb-true p.sub sub (context.local (key.Node p) there)

  z_given : (p : Place) (k : Key) (v : Fact) → is_some (s (key.Node p)) ≡ true → Contains (gives g (closed_off m) (key.Node p) (with_others s x)) (k, v)
      → ContainsPiece (rules_of more g (closed_off m)) (with_others s x) k v
  z_given p k v there has = by k pieces (own_given g m p (with_others s x) (k, v) has) (in_whole p k v there pieces) where
    pieces : Contains (gives g m (key.Node p) (with_others s x)) (k, v)
    pieces = fewer_given g m p (with_others s x) (k, v) has

    by : (j : Key) → Contains (gives g m (key.Node p) (with_others s x)) (j, v) → sub_of j ≡ p.sub → IsAmong x j v
        → ContainsPiece (rules_of more g (closed_off m)) (with_others s x) j v
    by (key.Node q) these own among =
        let a = context.given p (key.Node q) v there these (eq-eqb q.sub sub (local_of p (key.Node q) there own)) (ap is_some among.found) in
        record { fact = a.fact; found = a.found; above = a.above }
    by (key.Edge q r) these own among =
        let a = context.given p (key.Edge q r) v there these (eq-eqb q.sub sub (local_of p (key.Edge q r) there own)) (ap is_some among.found) in
        record { fact = a.fact; found = a.found; above = a.above }
    by (key.Call q r) these own among =
        let a = context.given p (key.Call q r) v there these (eq-eqb q.sub sub (local_of p (key.Call q r) there own)) (ap is_some among.found) in
        record { fact = a.fact; found = a.found; above = a.above }
    by (key.Summary q) these own among = record { fact = among.fact; found = among.found; above = among.above }
    by (key.Gap q pc kind) these own among = record { fact = among.fact; found = among.found; above = among.above }

  z_closed : IsClosed (rules_of more g (closed_off m)) (with_others s x)
  z_closed = record { fit = z_fits; starts = begins; given = gives_on } where
    stubs : All (λ (piece : Piece). ContainsPiece (rules_of more g (closed_off m)) (with_others s x) piece.0 piece.1)
        (map (λ stub. (key.Summary stub, fact.Sum effects_of_stub)) m.stubs)
    stubs =
        All-map (λ (piece : Piece). ContainsPiece (rules_of more g (closed_off m)) (with_others s x) piece.0 piece.1)
        (λ stub. (key.Summary stub, fact.Sum effects_of_stub)) m.stubs
        (λ k d h.
        (let says = closed_starts.stubs t f m x (get_or m.stubs k d) closed (Contains-get_or m.stubs k d h) in
        record { fact = fact.Sum says.all; found = says.found; above = says.above }))

    begins : (k : Key) (v : Fact) → Contains (starts (closed_off m)) (k, v) → ContainsPiece (rules_of more g (closed_off m)) (with_others s x) k v
    begins k v has =
        All-contains (λ (piece : Piece). ContainsPiece (rules_of more g (closed_off m)) (with_others s x) piece.0 piece.1)
        (map (λ stub. (key.Summary stub, fact.Sum effects_of_stub)) m.stubs) (k, v) stubs has

    gives_on : (k : Key) → is_some (with_others s x k) ≡ true → (j : Key) (v : Fact) → Contains (gives g (closed_off m) k (with_others s x)) (j, v)
        → ContainsPiece (rules_of more g (closed_off m)) (with_others s x) j v
    gives_on (key.Node p) there j v has = z_given p j v there has
    gives_on (key.Edge p q) there j v has = absurd (let low = has.1 in omega arith)
    gives_on (key.Call p q) there j v has = absurd (let low = has.1 in omega arith)
    gives_on (key.Summary q) there j v has = absurd (let low = has.1 in omega arith)
    gives_on (key.Gap q pc kind) there j v has = absurd (let low = has.1 in omega arith)

  all : Answers more g (closed_off m) (with_others s x) (with_others s x)
  all = closed_answers more g (closed_off m) (with_others s x) z_closed

  -- the same over the two maps apart
  allowed_z : (p : Place) (before : State) → IsAllowed g s p before → IsAllowed g (with_others s x) p before
  allowed_z p before is = record { state = is.state; found = is.found; narrowed = is.narrowed }

  taken_z : (p : Place) (step : Step) (way : Way) (before after : State) → IsTaken g m s p step way before after
      → IsTaken g (closed_off m) (with_others s x) p step way before after
  taken_z p step way before after is = record { allowed = allowed_z p before is.allowed; act = is.act; stepped = is.stepped }

  leads_s : (p q : Place) (u : State) → LeadsTo (with_others s x) p q u → LeadsTo s p q u
  leads_s p q u is = record { state = is.state; found = is.found; above = is.above; edge = is.edge }

  says_x : (q : ℕ) (e : Effects) → Says (with_others s x) q e → Says x q e
  says_x q e is = record { all = is.all; found = is.found; above = is.above }

  pub contexts_answer_here : Answers more g m s x
  contexts_answer_here = record {
    over = λ p u found. all.over p u found;
    goes_on = λ p n step before after is at. leads_s p _ after (all.goes_on p n step before after (taken_z p step Onward before after is) at);
    first = λ p step exit other before after u is left. leads_s p _ u (all.first p step exit other before after u (taken_z p step _ before after is) left);
    second = λ p step exit other before after u is left. leads_s p _ u (all.second p step exit other before after u (taken_z p step _ before after is) left);
    calls = λ p target step aim before after is has apart. leads_s p _ after
        (all.calls p target step aim before after (taken_z p step _ before after is) has apart);
    jumps = λ p target step aim before after is has. leads_s p _ after (all.jumps p target step aim before after (taken_z p step _ before after is) has);
    returns = λ p c step before after is may. leads_s p _ after (all.returns p c step before after (taken_z p step _ before after is) may);
    makes_call = λ p target step before after is at.
        (let call = all.makes_call p target step before after (taken_z p step Onward before after is) at in
        record { all = call.all; found = call.found; above = call.above });
    comes_back = λ p target step before after there is at found comes.
        leads_s p _ _ (all.comes_back p target step before after there (taken_z p step Onward before after is) at found comes);
    skips = λ p target step before after there is at found comes.
        leads_s p _ _ (all.skips p target step before after there (taken_z p step Onward before after is) at found comes);
    unfollowed = λ p kind before is acts. all.unfollowed p kind before (allowed_z p before is) acts;
    unknown_calls = λ p step aim before after is unknown. all.unknown_calls p step aim before after (taken_z p step _ before after is) unknown;
    unknown_jumps = λ p step aim before after is unknown. all.unknown_jumps p step aim before after (taken_z p step _ before after is) unknown;
    unknown_returns = λ p c step before after is unknown. all.unknown_returns p c step before after (taken_z p step _ before after is) unknown;
    deep = λ p step before after is at low. all.deep p step before after (taken_z p step Onward before after is) at low;
    writes = λ p step way before is acts. says_x p.sub _ (all.writes p step way before (allowed_z p before is) acts);
    says_calls = λ p target step before after there is at found.
        says_x p.sub _ (all.says_calls p target step before after there (taken_z p step Onward before after is) at found);
    says_back = λ p step before after is at flat. says_x p.sub _ (all.says_back p step before after (taken_z p step Onward before after is) at flat);
  }

  -- the entry of what is called, in the closed state
  pub enters_whole : (target : ℕ) (p : Place) (step : Step) (before after : State) → IsTaken g m s p step Onward before after → p.next ≡ Into target
      → m.is_stub target ≡ false → HasState x (entry_of target) (entered_with (arguments step.depth after))
  enters_whole target p step before after is next followed =
      let state = state_above (entered_with (arguments step.depth after)) among.fact among.above in
      record { state = state.0; found = among.found ∙ ap Some state.1; above = state.2 }
    where
      in_act : Contains (act_gives g m p (Acts step Onward) (callee_of p.next (with_others s x)) before)
          (key.Node (entry_of target), fact.State (entered_with (arguments step.depth after)))
      in_act =
          Contains-append_right (act_beside g m p (Acts step Onward) (callee_of p.next (with_others s x)) before)
          (act_here g p (Acts step Onward) (callee_of p.next (with_others s x)) before ++ act_entered g m p (Acts step Onward) before)
          (key.Node (entry_of target), fact.State (entered_with (arguments step.depth after)))
          (Contains-append_right (act_here g p (Acts step Onward) (callee_of p.next (with_others s x)) before) (act_entered g m p (Acts step Onward) before)
          (key.Node (entry_of target), fact.State (entered_with (arguments step.depth after)))
          (subst (λ (o : Option State). Contains (pieces_of o (entered m p step Onward))
          (key.Node (entry_of target), fact.State (entered_with (arguments step.depth after)))) (sym is.stepped)
          (subst (λ (n : Next). Contains (entered_to n m step.depth after)
          (key.Node (entry_of target), fact.State (entered_with (arguments step.depth after)))) (sym next)
          (subst (λ (b : Bool). Contains (given_if (not b) ((key.Node (entry_of target), fact.State (entered_with (arguments step.depth after))) ∷ []))
          (key.Node (entry_of target), fact.State (entered_with (arguments step.depth after)))) (sym followed) (0, omega arith, refl)))))

      in_given : Contains (gives g m (key.Node p) (with_others s x)) (key.Node (entry_of target), fact.State (entered_with (arguments step.depth after)))
      in_given =
          subst (λ (o : Option Fact). Contains (pieces_of (state_in o) (node_gives g m p (callee_of p.next (with_others s x))))
          (key.Node (entry_of target), fact.State (entered_with (arguments step.depth after)))) (sym is.allowed.found)
          (subst (λ (o : Option State). Contains (pieces_of o (act_gives g m p (m.act p) (callee_of p.next (with_others s x))))
          (key.Node (entry_of target), fact.State (entered_with (arguments step.depth after)))) (sym is.allowed.narrowed)
          (subst (λ (a : Act). Contains (act_gives g m p a (callee_of p.next (with_others s x)) before)
          (key.Node (entry_of target), fact.State (entered_with (arguments step.depth after)))) (sym is.act) in_act))

      among : IsAmong x (key.Node (entry_of target)) (fact.State (entered_with (arguments step.depth after)))
      among = in_whole p (key.Node (entry_of target)) (fact.State (entered_with (arguments step.depth after))) (ap is_some is.allowed.found) in_given

-- the facts of a context lead on within them, and the closed state says of subprograms and of gaps what they give
pub contexts_answer : ContextsAnswer
contexts_answer t more f g m x sub args s lawful closed context = contexts_answer_here t more f g m x sub args s lawful closed context

-- what a program point of a context calls is entered: in a context of the subprogram whose arguments have those of the
-- call, and in the closed state
pub contexts_enter : ContextsEnter
contexts_enter = record { context = into; whole = whole } where
  into : (t more other : List ℕ) (f g h : Family) (m : Program) (x : Facts) (sub target : ℕ) (args theirs : List Value) (s u : Facts) (p : Place) (step : Step)
      (before after : State) → AreLawful t more f g m → IsClosed (rules_of t f m) x → IsContext more g m x sub args s → IsContext other h m x target theirs u
      → ((list : List Value) → s (key.Call p target) ≡ Some (fact.Args list) → are_at_most list theirs ≡ true)
      → IsTaken g m s p step Onward before after → p.next ≡ Into target → HasState u (entry_of target) (entered_with (arguments step.depth after))
  into t more other f g h m x sub target args theirs s u p step before after lawful closed context callee handed is next =
      let call = (contexts_answer t more f g m x sub args s lawful closed context).makes_call p target step before after is next in
      let up = cells_onward (arguments step.depth after) call.all theirs call.above (handed call.all call.found) in
      let states = entered_up (arguments step.depth after) theirs (entry_up t lawful.coarse.thresholds) up in
      record {
        state = callee.enters.state;
        found = callee.enters.found;
        above = states_are_ordered.onward (entered_with (arguments step.depth after)) (entered_with theirs) callee.enters.state states callee.enters.above;
      }

  whole : (t more : List ℕ) (f g : Family) (m : Program) (x : Facts) (sub target : ℕ) (args : List Value) (s : Facts) (p : Place) (step : Step)
      (before after : State) → AreLawful t more f g m → IsClosed (rules_of t f m) x → IsContext more g m x sub args s
      → IsTaken g m s p step Onward before after → p.next ≡ Into target → m.is_stub target ≡ false
      → HasState x (entry_of target) (entered_with (arguments step.depth after))
  whole t more f g m x sub target args s p step before after lawful closed context is next followed =
      enters_whole t more f g m x sub args s lawful closed context target p step before after is next followed
