-- What the whole program has of contexts: their facts, what they call, the roots, and what every call hands on.
use Rattle.std.proofs.Common.{◌≡◌, ◌==◌, ℕ, Bool, true, false, List, Option, Some, None, Contains, inl, inr, refl, sym, ap, subst, ◌∙◌}
use Rattle.std.specs.Prelude.{is_some, length}
use Rattle.std.specs.List.{list_all}
use Rattle.std.proofs.lemmas.Bool.{and_parts, eqb-true, false≢true}
use Rattle.std.proofs.lemmas.Grind.{get_or_default_zero}
use Rattle.abs_state.proofs.CellsLemmas.{cells_onward}
use Rattle.abs_state.specs.State.{State}
use Rattle.abs_state.specs.declared.key.Key.TheVariants as key
use Rattle.abs_state.specs.declared.key.Place.{Place}
use Rattle.assert_bind.specs.Binding.{roots}
use Rattle.bt_base.specs.Graph.{has}
use Rattle.context_inside.proofs.Contexts.{all_among, context_is}
use Rattle.context_inside.proofs.Finer.{coarse}
use Rattle.context_inside.specs.Laws.{AreBelow, AreDue, IsCalled, IsEntered, IsEnteredWith, IsHandedOn}
use Rattle.context_inside.specs.Laws.{ContextsAreBelow, JoinsAreBelow, PlainAreBelow, RootsAreBelow}
use Rattle.context_outcomes.specs.Arguments.{AreJoined, ArePlain, any_arguments, thresholds_with}
use Rattle.context_outcomes.specs.Inside.{AreFacts}
use Rattle.context_outcomes.specs.Setting.{Setting, facts_in, program_of}
use Rattle.loop_nest.proofs.Lists.{IsPlace, has_where, place_of}
use Rattle.outcome_runs.proofs.Entries.{IsEntered as IsEnteredAt, calls_enter, entered_with_any, entry_values, has_entered, state_over, values_over}
use Rattle.transfer_acts.specs.Reading.{is_stub}
use Rattle.transfer_rules.proofs.Closing.{closed_starts}
use Rattle.transfer_rules.proofs.FactKinds.{fitting}
use Rattle.transfer_rules.specs.Closed.{HasState}
use Rattle.transfer_rules.specs.Fact.{fits, is_at_most}
use Rattle.transfer_rules.specs.Give.{Facts, entry_of}
use Rattle.transfer_rules.specs.declared.fact.Fact.{Fact}
use Rattle.transfer_rules.specs.declared.fact.Fact.TheVariants as fact
use Rattle.transfer_values.specs.Family.{family}
use Rattle.value_lattice.specs.Height.{are_at_most}
use Rattle.value_lattice.specs.Test.{is_over}
use Rattle.value_lattice.specs.declared.value.Value.{Value}

-- the content of what is there is one
some_same : {X : Type 0} {x y : X} → Some x ≡ Some y → x ≡ y
some_same e = cc

-- and so is the state of a fact
state_same : {a b : State} → fact.State a ≡ fact.State b → a ≡ b
state_same e = cc

-- what a list is tested to have stands in it
root_there : (list : List ℕ) (n : ℕ) → has list n ≡ true → Contains list n
root_there list n there =
    let p : IsPlace list n = place_of list n there in
    (p.at, p.within, get_or_default_zero list p.at n p.within ∙ p.is)

-- and what stands in it passes the test
there_root : (list : List ℕ) (n : ℕ) → Contains list n → has list n ≡ true
there_root list n c = has_where list c.0 n c.1 (sym (get_or_default_zero list c.0 n c.1) ∙ c.2)

module _ (S : Setting) (due : AreDue S) where
  -- a call of the whole program hands on arguments
  call_args : (p : Place) (t : ℕ) → is_some (facts_in S (key.Call p t)) ≡ true
      → (given : List Value) × (facts_in S (key.Call p t) ≡ Some (fact.Args given))
  call_args p t there = by (facts_in S (key.Call p t)) refl there where
    of_kind : (v : Fact) → facts_in S (key.Call p t) ≡ Some v → fits S.thresholds (key.Call p t) v ≡ true
        → (given : List Value) × (facts_in S (key.Call p t) ≡ Some (fact.Args given))
    of_kind (fact.State s) found fit = absurd (false≢true (fitting S.thresholds (key.Call p t) (fact.State s) fit).kind)
    of_kind (fact.Args given) found fit = (given, found)
    of_kind (fact.Sum e) found fit = absurd (false≢true (fitting S.thresholds (key.Call p t) (fact.Sum e) fit).kind)
    of_kind fact.Mark found fit = absurd (false≢true (fitting S.thresholds (key.Call p t) fact.Mark fit).kind)

    by : (o : Option Fact) → facts_in S (key.Call p t) ≡ o → is_some o ≡ true
        → (given : List Value) × (facts_in S (key.Call p t) ≡ Some (fact.Args given))
    by None found some = absurd (false≢true some)
    by (Some v) found some = of_kind v found (due.due.closed.fit (key.Call p t) v found)

  -- what is called is entered with at least these
  enters_call : (p : Place) (t : ℕ) (given : List Value) → is_stub S.binding t ≡ false → facts_in S (key.Call p t) ≡ Some (fact.Args given)
      → IsEnteredAt (facts_in S) t given
  enters_call =
      calls_enter S.thresholds (family S.thresholds S.image S.binding) (program_of S) (facts_in S) (coarse S due.thresholds) due.due

  -- and with all that is at most the values at the entry
  entered_by : (t : ℕ) (given args : List Value) → (is : IsEnteredAt (facts_in S) t given) → are_at_most args (entry_values is.state) ≡ true
      → IsEnteredWith S t args
  entered_by =
      has_entered S.thresholds (family S.thresholds S.image S.binding) (program_of S) (facts_in S) (coarse S due.thresholds) due.due

  -- the state at one entry is one, whatever call it is that enters it
  same_entry : (t : ℕ) (given other : List Value) → (one : IsEnteredAt (facts_in S) t given) → IsEnteredAt (facts_in S) t other
      → are_at_most other (entry_values one.state) ≡ true
  same_entry t given other one two =
      subst (λ (u : State). are_at_most other (entry_values u) ≡ true) (state_same (some_same (sym two.found ∙ one.found))) two.above

  -- a root is entered with anything
  root_entered : (root : ℕ) → Contains (roots S.binding) root → IsEnteredWith S root any_arguments
  root_entered root rooted =
      subst (λ (s : State). HasState (facts_in S) (entry_of root) s) (sym entered_with_any)
      (closed_starts.roots S.thresholds (family S.thresholds S.image S.binding) (program_of S) (facts_in S) root due.due.closed rooted)

  -- what is called is entered with the join of the arguments of all calls
  join_entered : (sub : ℕ) (args : List Value) → IsCalled S sub → AreJoined S.thresholds (facts_in S) sub args → IsEnteredWith S sub args
  join_entered sub args called joined =
      let one = call_args called.from sub called.there in
      let is : IsEnteredAt (facts_in S) sub one.0 = enters_call called.from sub one.0 called.plain one.1 in
      let over =
      state_over S.thresholds (family S.thresholds S.image S.binding) (program_of S) (facts_in S) (coarse S due.thresholds) due.due (entry_of sub) is.state is.found in
      entered_by sub one.0 args is
      (joined.least (entry_values is.state) (record { count = refl; values = values_over S.thresholds is.state due.thresholds over })
      (λ p other found. same_entry sub one.0 other is (enters_call p sub other called.plain found)))

  -- so both are entered with what holds of the arguments of every call
  plain_entered : (sub : ℕ) (args : List Value) → IsEntered S sub → ArePlain S sub args → IsEnteredWith S sub args
  plain_entered sub args entered plain = by (has (roots S.binding) sub) refl entered where
    by : (b : Bool) → has (roots S.binding) sub ≡ b → IsEntered S sub → IsEnteredWith S sub args
    by true rooted entered =
        subst (λ (vs : List Value). IsEnteredWith S sub vs) (sym (plain.root rooted)) (root_entered sub (root_there (roots S.binding) sub rooted))
    by false not_rooted (inl rooted) = absurd (false≢true (sym not_rooted ∙ there_root (roots S.binding) sub rooted))
    by false not_rooted (inr called) = join_entered sub args called (plain.called not_rooted)

  -- what a call of a context hands on
  handed : (sub : ℕ) (args : List Value) (facts : Facts) → IsEnteredWith S sub args → AreFacts S sub args facts → (p : Place) (t : ℕ) (given : List Value)
      → facts (key.Call p t) ≡ Some (fact.Args given) → IsHandedOn S (thresholds_with S args) p t given
  handed sub args facts enters are p t given found =
      let context = context_is S sub args facts due enters are in
      let fit = (fitting (thresholds_with S args) (key.Call p t) (fact.Args given) (context.fit (key.Call p t) (fact.Args given) found)).over in
      let parts = and_parts (length given == 13) (list_all (is_over (thresholds_with S args)) given) fit in
      record {
        count = eqb-true (length given) 13 parts.0;
        values = parts.1;
        there = all_among S sub args facts due enters are (key.Call p t) (ap is_some found);
        below = λ stub.
            let among = context.below (key.Call p t) (fact.Args given) found in
            let wider = call_args p t (ap is_some among.found) in
            let is : IsEnteredAt (facts_in S) t wider.0 = enters_call p t wider.0 stub wider.1 in
            let up : are_at_most given wider.0 ≡ true =
            subst (λ (v : Fact). is_at_most (fact.Args given) v ≡ true) (some_same (sym among.found ∙ wider.1)) among.above in
            entered_by t wider.0 given is (cells_onward given wider.0 (entry_values is.state) up is.above);
      }

  -- all facts of a context are at most those of the whole program, and so is what its calls enter
  context_below : (sub : ℕ) (args : List Value) (facts : Facts) → IsEnteredWith S sub args → AreFacts S sub args facts → AreBelow S args facts
  context_below sub args facts enters are = record {
    each = (context_is S sub args facts due enters are).below;
    calls = handed sub args facts enters are;
  }

-- The facts of a context are at most those of the whole program, and so is what their calls enter.
pub contexts_are_below : ContextsAreBelow
contexts_are_below S sub args facts due enters are = context_below S due sub args facts enters are

-- The whole program has the entries of the roots.
pub roots_are_below : RootsAreBelow
roots_are_below S root due rooted = root_entered S due root rooted

-- It has those of what is called, with the join of the arguments of all calls.
pub joins_are_below : JoinsAreBelow
joins_are_below S sub args due called joined = join_entered S due sub args called joined

-- So it has those of both, with what holds of the arguments of every call.
pub plain_are_below : PlainAreBelow
plain_are_below S sub args due entered plain = plain_entered S due sub args entered plain
