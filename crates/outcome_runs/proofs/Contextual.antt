-- The facts of outcomes are those of contexts.
use Rattle.std.proofs.Common.{◌≡◌, ℕ, zero, suc, ◌^◌, ◌<◌, Bool, true, false, eqb, ℤ, List, [], ◌∷◌, length, Option, Some, None, Contains, refl, sym, ap, subst, ◌∙◌, arith}
use Rattle.std.specs.Prelude.{◌==◌, ◌&&◌, is_some, map, nat_lt, slice_get}
use Rattle.std.specs.List.{list_all, flat_map}
use Rattle.std.specs.Set.{is_member}
use Rattle.std.proofs.lemmas.Bool.{and_from, and_parts, eqb-true, false≢true, lt-ltb, ltb-true, or_left}
use Rattle.std.proofs.lemmas.List.Elements.{All-contains}
use Rattle.std.proofs.lemmas.Grind.{get_or_default_zero}
use Rattle.abs_state.proofs.CellsLemmas.{cells_onward, cells_same}
use Rattle.abs_state.specs.State.{State, entry_state, is_at_most as is_state_at_most, is_state_over}
use Rattle.abs_state.specs.declared.key.Key.TheVariants as key
use Rattle.abs_state.specs.declared.key.Next.{Next}
use Rattle.abs_state.specs.declared.key.Next.TheVariants.{At, Into, Back}
use Rattle.abs_state.specs.declared.key.Place.{Place}
use Rattle.assert_bind.specs.Binding.{roots}
use Rattle.bt_base.specs.Graph.{has}
use Rattle.context_facts.proofs.Least.{entry_up, least_maps_are_contexts}
use Rattle.context_facts.specs.Context.{AreLawful, IsAmong, IsContext}
use Rattle.context_steps.specs.Followed.{AreContexts}
use Rattle.frame_laws.specs.Context.{In}
use Rattle.loop_nest.proofs.Lists.{IsPlace, has_where, place_of}
use Rattle.transfer_acts.proofs.Depths.{programs_are_lawful}
use Rattle.transfer_fns.specs.Setting.{program_in}
use Rattle.transfer_rules.proofs.Closing.{closed_starts}
use Rattle.transfer_rules.proofs.FactKinds.{fitting}
use Rattle.transfer_rules.specs.Closed.{HasState}
use Rattle.transfer_rules.specs.Fact.{fits, is_at_most}
use Rattle.transfer_rules.specs.Family.{Family, Program}
use Rattle.transfer_rules.specs.Give.{Facts, argument_registers, entered_with, entry_of}
use Rattle.transfer_rules.specs.declared.fact.Fact.{Fact}
use Rattle.transfer_rules.specs.declared.fact.Fact.TheVariants as fact
use Rattle.transfer_values.proofs.LawLemmas.{families_are_lawful}
use Rattle.transfer_values.specs.Family.{family}
use Rattle.transfer_values.specs.Resolve.{widest}
use Rattle.value_lattice.proofs.TestLemmas.{member_decides, the_order_is_one}
use Rattle.value_lattice.proofs.WordsBelowLemmas.{passing_is_there, words_fit, words_rise}
use Rattle.value_lattice.specs.Height.{are_at_most}
use Rattle.value_lattice.specs.Laws.{AreMore}
use Rattle.value_lattice.specs.Least.{top}
use Rattle.value_lattice.specs.Order.{rank_of}
use Rattle.value_lattice.specs.Passing.{words_below}
use Rattle.value_lattice.specs.Test.{has_ends_in, is_at_most as is_value_at_most, is_over, is_value}
use Rattle.value_lattice.specs.Thresholds.{IsThresholds, is_widened, widen}
use Rattle.value_lattice.specs.declared.value.Value.{Value}
use Rattle.wcet_report.specs.declared.context.Context.{Context}
use Rattle.wcet_report.specs.declared.context.Context.TheVariants.{Plain, With}
use Rattle.wcet_report.specs.declared.outcome.Outcome.{Outcome}
use Rattle.context_outcomes.specs.Arguments.{AreArgumentsOf, AreJoined, AreOver, ArePlain, any_arguments, numbers_in, thresholds_with}
use Rattle.context_outcomes.specs.Calls.{IsEntering}
use Rattle.context_outcomes.specs.Inside.{Inside}
use Rattle.context_outcomes.specs.Outcomes.{IsChosen, IsNeeded, LeadsTo, called, root}
use Rattle.context_outcomes.specs.Setting.{Setting, facts_in}
use Rattle.outcome_runs.proofs.Entries.{IsEntered, calls_enter, entered_with_any, entry_values, has_entered, state_over, values_over}
use Rattle.outcome_runs.proofs.Filling.{enters_into, has_maker, not_free, root_at}
use Rattle.outcome_runs.specs.Family.{contexts_of, facts_of, follows_of, follows_to, root_of, sub_of}
use Rattle.outcome_runs.specs.Laws.{OutcomesAreContexts}
use Rattle.outcome_runs.specs.Told.{Entry, IsKnown, IsRootAt, LeadsToEntry, Told}

some_same : {X : Type 0} {x y : X} → Some x ≡ Some y → x ≡ y
some_same e = cc

none_some : {X : Type 0} {x : X} → None ≡ Some x → ⊥
none_some e = cc

args_same : {one two : List Value} → fact.Args one ≡ fact.Args two → one ≡ two
args_same e = cc

-- thresholds that more numbers are added to
keeps_old : (old : List ℕ) (list : List ℤ) → IsThresholds old → (k : ℕ) → Contains old k → Contains (widen old list) k
unfolding widen
keeps_old old list is k there =
    passing_is_there (2 ^ 32) (is_widened old list) k (All-contains (λ v. v < 2 ^ 32) old k is.places there)
    (or_left (is_member eqb old k) (is_member eqb (map rank_of list) k) ((member_decides old k).1 there))

widened_are : (old : List ℕ) (list : List ℤ) → IsThresholds old → IsThresholds (widen old list)
unfolding widen
widened_are old list is = record {
  rising = words_rise (2 ^ 32) (is_widened old list);
  places = words_fit (2 ^ 32) (is_widened old list);
  least = keeps_old old list is 0 is.least;
  greatest = keeps_old old list is 4294967295 is.greatest;
}

-- nothing is known of what is top
top_above : (t : List ℕ) (rs : List ℕ) (vs : List Value) → length vs ≡ length rs → list_all (is_over t) vs ≡ true → are_at_most vs (map (λ r. top) rs) ≡ true
unfolding is_over
top_above t [] [] same over = refl
top_above t [] (v ∷ vs) same over = absurd (omega (arith, same))
top_above t (r ∷ rs) [] same over = absurd (omega (arith, same))
top_above t (r ∷ rs) (v ∷ vs) same over =
    let parts = and_parts (is_value v && has_ends_in t v) (list_all (is_over t) vs) over in
    and_from (is_value_at_most v top) (are_at_most vs (map (λ q. top) rs)) (the_order_is_one.under_top v (and_parts (is_value v) (has_ends_in t v) parts.0).0)
    (top_above t rs vs (omega (arith, same)) parts.1)

root_there : (list : List ℕ) (n : ℕ) → has list n ≡ true → Contains list n
root_there list n there =
    let p : IsPlace list n = place_of list n there in
    (p.at, p.within, get_or_default_zero list p.at n p.within ∙ p.is)

there_root : (list : List ℕ) (n : ℕ) → Contains list n → has list n ≡ true
there_root list n c = has_where list c.0 n c.1 (sym (get_or_default_zero list c.0 n c.1) ∙ c.2)

state_same : {a b : State} → fact.State a ≡ fact.State b → a ≡ b
state_same e = cc

module _ (S : Setting) (known : IsKnown S) where
  abbrev the_program : Program
  the_program = program_in S.image S.binding S.eight

  abbrev the_family : Family
  the_family = family S.thresholds S.image S.binding

  abbrev x : Facts
  x = facts_in S

  abbrev finer : List Value → Family
  finer args = family (thresholds_with S args) S.image S.binding

  pub wide : (args : List Value) → IsThresholds (thresholds_with S args)
  wide args = widened_are S.thresholds (flat_map numbers_in args) known.thresholds

  pub more : (args : List Value) → AreMore S.thresholds (thresholds_with S args)
  more args = record { thresholds = keeps_old S.thresholds (flat_map numbers_in args) known.thresholds }

  lawful : (args : List Value) → AreLawful S.thresholds (thresholds_with S args) the_family (finer args) the_program
  lawful args = record {
    coarse = families_are_lawful.lawful S.thresholds S.image S.binding known.thresholds;
    fine = families_are_lawful.lawful (thresholds_with S args) S.image S.binding (wide args);
    finer = families_are_lawful.finer S.thresholds (thresholds_with S args) S.image S.binding known.thresholds (wide args) (more args);
    program = programs_are_lawful S.image S.binding S.eight (widest S.image S.binding);
  }

  -- where it is entered with its arguments, a context's facts are those of one
  context_is : (sub : ℕ) (context : Context) (within : Inside S sub context) → HasState x (entry_of sub) (entered_with within.args)
      → IsContext (thresholds_with S within.args) (finer within.args) the_program x sub within.args within.facts
  context_is sub context within entry =
      least_maps_are_contexts S.thresholds (thresholds_with S within.args) the_family (finer within.args) the_program x sub within.args
      within.are.keep within.are.fixed within.facts (lawful within.args) known.due.closed entry within.are.kept within.are.apart within.are.least

  -- the arguments of a call of the program
  call_args : (p : Place) (t : ℕ) → is_some (x (key.Call p t)) ≡ true → (given : List Value) × (x (key.Call p t) ≡ Some (fact.Args given))
  call_args p t there = by (x (key.Call p t)) refl there where
    of_kind : (v : Fact) → x (key.Call p t) ≡ Some v → fits S.thresholds (key.Call p t) v ≡ true → (given : List Value) × (x (key.Call p t) ≡ Some (fact.Args given))
    of_kind (fact.State s) found fit = absurd (false≢true (fitting S.thresholds (key.Call p t) (fact.State s) fit).kind)
    of_kind (fact.Args given) found fit = (given, found)
    of_kind (fact.Sum e) found fit = absurd (false≢true (fitting S.thresholds (key.Call p t) (fact.Sum e) fit).kind)
    of_kind fact.Mark found fit = absurd (false≢true (fitting S.thresholds (key.Call p t) fact.Mark fit).kind)

    by : (o : Option Fact) → x (key.Call p t) ≡ o → is_some o ≡ true → (given : List Value) × (x (key.Call p t) ≡ Some (fact.Args given))
    by None found some = absurd (false≢true some)
    by (Some v) found some = of_kind v found (known.due.closed.fit (key.Call p t) v found)

  enters_call : (p : Place) (t : ℕ) (given : List Value) → the_program.is_stub t ≡ false → x (key.Call p t) ≡ Some (fact.Args given) → IsEntered x t given
  enters_call = calls_enter S.thresholds the_family the_program x (families_are_lawful.lawful S.thresholds S.image S.binding known.thresholds) known.due

  entered_by : (t : ℕ) (given args : List Value) → (is : IsEntered x t given) → are_at_most args (entry_values is.state) ≡ true → HasState x (entry_of t) (entered_with args)
  entered_by = has_entered S.thresholds the_family the_program x (families_are_lawful.lawful S.thresholds S.image S.binding known.thresholds) known.due

  root_entered : (sub : ℕ) (args : List Value) → Contains (roots S.binding) sub → args ≡ any_arguments → HasState x (entry_of sub) (entered_with args)
  root_entered sub args rooted any =
      subst (λ (vs : List Value). HasState x (entry_of sub) (entered_with vs)) (sym any)
      (subst (λ (s : State). HasState x (entry_of sub) s) (sym entered_with_any)
      (closed_starts.roots S.thresholds the_family the_program x sub known.due.closed rooted))

  -- the state at one entry is one, whatever call it is that enters it
  same_entry : (t : ℕ) (given other : List Value) → (one : IsEntered x t given) → IsEntered x t other → are_at_most other (entry_values one.state) ≡ true
  same_entry t given other one two =
      subst (λ (u : State). are_at_most other (entry_values u) ≡ true) (state_same (some_same (sym two.found ∙ one.found))) two.above

  plain_entered : (t : ℕ) (args given : List Value) → ArePlain S t args → the_program.is_stub t ≡ false → IsEntered x t given
      → HasState x (entry_of t) (entered_with args)
  plain_entered t args given plain stub is = by (has (roots S.binding) t) refl where
    by : (b : Bool) → has (roots S.binding) t ≡ b → HasState x (entry_of t) (entered_with args)
    by true rooted = root_entered t args (root_there (roots S.binding) t rooted) (plain.root rooted)
    by false not_rooted =
        let over = state_over S.thresholds the_family the_program x (families_are_lawful.lawful S.thresholds S.image S.binding known.thresholds) known.due
        (entry_of t) is.state is.found in
        entered_by t given args is
        ((plain.called not_rooted).least (entry_values is.state)
        (record { count = refl; values = values_over S.thresholds is.state known.thresholds over })
        (λ p other found. same_entry t given other is (enters_call p t other stub found)))

  -- what the calls of a context enter
  call_entered : (sub : ℕ) (context : Context) (within : Inside S sub context) → HasState x (entry_of sub) (entered_with within.args)
      → (p : Place) (t : ℕ) (given : List Value) → the_program.is_stub t ≡ false → within.facts (key.Call p t) ≡ Some (fact.Args given) → IsEntered x t given
  call_entered sub context within entry p t given stub found =
      let among = (context_is sub context within entry).below (key.Call p t) (fact.Args given) found in
      let wider = call_args p t (ap is_some among.found) in
      let is = enters_call p t wider.0 stub wider.1 in
      let up : are_at_most given wider.0 ≡ true =
      subst (λ (v : Fact). is_at_most (fact.Args given) v ≡ true) (some_same (sym among.found ∙ wider.1)) among.above in
      record { state = is.state; found = is.found; own = is.own; above = cells_onward given wider.0 (entry_values is.state) up is.above }

  -- what a root's context is entered with
  root_any : (sub : ℕ) (context : Context) (args : List Value) → Contains (roots S.binding) sub → IsChosen S sub any_arguments context
      → AreArgumentsOf S sub context args → args ≡ any_arguments
  root_any sub Plain args rooted chosen plain = plain.root (there_root (roots S.binding) sub rooted)
  root_any sub (With list) args rooted chosen same = same ∙ chosen.1

  called_entered : (t : ℕ) (context : Context) (args given : List Value) → IsChosen S t given context → AreArgumentsOf S t context args
      → the_program.is_stub t ≡ false → IsEntered x t given → HasState x (entry_of t) (entered_with args)
  called_entered t Plain args given chosen plain stub is = plain_entered t args given plain stub is
  called_entered t (With list) args given chosen same stub is =
      entered_by t given args is (subst (λ (vs : List Value). are_at_most vs (entry_values is.state) ≡ true) (sym (same ∙ chosen.1)) is.above)

  -- the program has the entry of each needed context with its arguments
  entered : (sub : ℕ) (context : Context) → IsNeeded S sub context → (within : Inside S sub context) → HasState x (entry_of sub) (entered_with within.args)
  entered sub context (root rooted chosen) within =
      root_entered sub within.args rooted (root_any sub context within.args rooted chosen within.arguments)
  entered t next (called needed caller enters leads) within =
      called_entered t next within.args leads.given leads.chosen within.arguments enters.plain
      (call_entered _ _ caller (entered _ _ needed caller) _ t leads.given enters.plain leads.there)

  entry_context : (one : Entry S) → IsContext (thresholds_with S one.is.within.args) (finer one.is.within.args) the_program x one.outcome.sub one.is.within.args one.is.within.facts
  entry_context one = context_is one.outcome.sub one.outcome.context one.is.within (entered one.outcome.sub one.outcome.context one.needed one.is.within)

  -- the arguments of a call are among those of the context to which it leads
  handed_to : (c : Context) (t : ℕ) (p : Place) (args given wider : List Value) → IsChosen S t given c → AreArgumentsOf S t c args
      → x (key.Call p t) ≡ Some (fact.Args wider) → are_at_most given wider ≡ true → (more_t : List ℕ) → length given ≡ 13
      → list_all (is_over more_t) given ≡ true → are_at_most given args ≡ true
  handed_to Plain t p args given wider chosen plain found up more_t count over = by (has (roots S.binding) t) refl where
    by : (b : Bool) → has (roots S.binding) t ≡ b → are_at_most given args ≡ true
    by true rooted =
        subst (λ (vs : List Value). are_at_most given vs ≡ true) (sym (plain.root rooted)) (top_above more_t argument_registers given count over)
    by false not_rooted = cells_onward given wider args up ((plain.called not_rooted).above p wider found)
  handed_to (With list) t p args given wider chosen same found up more_t count over =
      subst (λ (vs : List Value). are_at_most given vs ≡ true) (sym (same ∙ chosen.1)) (cells_same more_t given over)

module _ (S : Setting) (list : List Outcome) (told : Told S list) (known : IsKnown S) where
  abbrev pub args_of : Option (Entry S) → List Value
  args_of None = any_arguments
  args_of (Some one) = one.is.within.args

  pub facts_at : (o : Option (Entry S)) → is_some o ≡ true
      → IsContext (thresholds_with S (args_of o)) (finer S known (args_of o)) (the_program S known) (facts_in S) (sub_of told o) (args_of o) (facts_of told o)
  facts_at None there = absurd (false≢true there)
  facts_at (Some one) there = entry_context S known one

  pub record IsLed (c : ℕ) (one : Entry S) (p : Place) (d : ℕ) : Type 0 where
    pub target : ℕ
    pub into : p.next ≡ Into target
    pub enters : IsEntering S one.outcome.sub one.is.within.facts p target
    pub leads : LeadsToEntry told.entries one p target d

  led_by : (c : ℕ) (one : Entry S) (p : Place) (d : ℕ) (next : Next) → slice_get told.entries c ≡ Some one → p.next ≡ next → follows_to told c one p next ≡ In d
      → IsLed c one p d
  led_by c one p d (At n) at into is = absurd (not_free d is)
  led_by c one p d (Into t) at into is =
      let case = enters_into S list told c one p t d into (ap (λ (n : Next). follows_to told c one p n) into ∙ is) in
      record {
        target = t;
        into = into;
        enters = case.enters;
        leads = subst (λ (e : ℕ). LeadsToEntry told.entries one p t e) case.place (told.leads c one p t at case.enters);
      }
  led_by c one p d Back at into is = absurd (not_free d is)

  pub led : (c : ℕ) (o : Option (Entry S)) (p : Place) (d : ℕ) → slice_get told.entries c ≡ o → is_some o ≡ true → follows_of told c o p ≡ In d
      → (one : Entry S) × (o ≡ Some one) × IsLed c one p d
  led c None p d at there is = absurd (false≢true there)
  led c (Some one) p d at there is = (one, refl, led_by c one p d p.next at refl is)

  into_same : (s t : ℕ) → Into s ≡ Into t → s ≡ t
  into_same s t e = cc

  pub callee_at : (c d target : ℕ) (p : Place) → is_some (slice_get told.entries c) ≡ true → p.next ≡ Into target
      → follows_of told c (slice_get told.entries c) p ≡ In d → sub_of told (slice_get told.entries d) ≡ target
  callee_at c d target p there into is =
      let l = led c (slice_get told.entries c) p d refl there is in
      ap (sub_of told) l.2.leads.at ∙ (l.2.leads.sub ∙ into_same l.2.target target (sym l.2.into ∙ into))

  pub handed_at : (c d target : ℕ) (p : Place) (given : List Value) → is_some (slice_get told.entries c) ≡ true
      → follows_of told c (slice_get told.entries c) p ≡ In d → facts_of told (slice_get told.entries c) (key.Call p target) ≡ Some (fact.Args given)
      → are_at_most given (args_of (slice_get told.entries d)) ≡ true
  handed_at c d target p given there is found =
      let l = led c (slice_get told.entries c) p d refl there is in
      handed_by c d target p given l.0 l.2 (subst (λ (o : Option (Entry S)). facts_of told o (key.Call p target) ≡ Some (fact.Args given)) l.1 found)
    where
      handed_by : (c d target : ℕ) (p : Place) (given : List Value) (one : Entry S) → IsLed c one p d → one.is.within.facts (key.Call p target) ≡ Some (fact.Args given)
          → are_at_most given (args_of (slice_get told.entries d)) ≡ true
      handed_by c d target p given one l found =
          let maker = has_maker S known one p target (ap is_some found) in
          let same : target ≡ l.target = into_same target l.target (sym maker.into ∙ l.into) in
          let here : one.is.within.facts (key.Call p l.target) ≡ Some (fact.Args given) =
          subst (λ (q : ℕ). one.is.within.facts (key.Call p q) ≡ Some (fact.Args given)) same found in
          let calls = one.is.leads p l.target l.enters in
          let one_list : calls.given ≡ given = args_same (some_same (sym calls.there ∙ here)) in
          let entry = l.leads.entry in
          let chosen : IsChosen S l.target given (one.is.next p) = subst (λ (vs : List Value). IsChosen S l.target vs (one.is.next p)) one_list calls.chosen in
          let theirs : AreArgumentsOf S l.target (one.is.next p) entry.is.within.args =
          subst (λ (k : Context). AreArgumentsOf S l.target k entry.is.within.args) l.leads.context
          (subst (λ (n : ℕ). AreArgumentsOf S n entry.outcome.context entry.is.within.args) l.leads.sub entry.is.within.arguments) in
          let among = (entry_context S known one).below (key.Call p l.target) (fact.Args given) here in
          let wider = call_args S known p l.target (ap is_some among.found) in
          let up : are_at_most given wider.0 ≡ true =
          subst (λ (v : Fact). is_at_most (fact.Args given) v ≡ true) (some_same (sym among.found ∙ wider.1)) among.above in
          let fit = (fitting (thresholds_with S one.is.within.args) (key.Call p l.target) (fact.Args given) (one.is.within.are.least.closed.fit (key.Call p l.target) (fact.Args given) here)).over in
          let parts = and_parts (length given == 13) (list_all (is_over (thresholds_with S one.is.within.args)) given) fit in
          subst (λ (o : Option (Entry S)). are_at_most given (args_of o) ≡ true) (sym l.leads.at)
          (handed_to S known (one.is.next p) l.target p entry.is.within.args given wider.0 chosen theirs wider.1 up (thresholds_with S one.is.within.args)
          (eqb-true (length given) 13 parts.0) parts.1)

  pub root_args_at : (r c : ℕ) → IsRootAt told.entries r c → is_state_at_most entry_state (entered_with (args_of (slice_get told.entries c))) ≡ true
  root_args_at r c is =
      let any : is.entry.is.within.args ≡ any_arguments =
      root_any S known r is.entry.outcome.context is.entry.is.within.args is.rooted is.chosen
      (subst (λ (n : ℕ). AreArgumentsOf S n is.entry.outcome.context is.entry.is.within.args) is.sub is.entry.is.within.arguments) in
      subst (λ (o : Option (Entry S)). is_state_at_most entry_state (entered_with (args_of o)) ≡ true) (sym is.at)
      (subst (λ (vs : List Value). is_state_at_most entry_state (entered_with vs) ≡ true) (sym any)
      (subst (λ (s : State). is_state_at_most entry_state s ≡ true) (sym entered_with_any) (entry_up S.thresholds known.thresholds)))

  unfoldable pub are_contexts : AreContexts S.image S.binding S.eight S.thresholds (facts_in S) (contexts_of told)
  are_contexts = record {
    has = λ c. is_some (slice_get told.entries c);
    thresholds = λ c. thresholds_with S (args_of (slice_get told.entries c));
    arguments = λ c. args_of (slice_get told.entries c);
    are = λ c there. wide S known (args_of (slice_get told.entries c));
    wider = λ c there. more S known (args_of (slice_get told.entries c));
    facts = λ c there. facts_at (slice_get told.entries c) there;
    roots = λ r c is. ap is_some (root_at S list told r c is).at;
    root_sub = λ r c is. let q = root_at S list told r c is in ap (sub_of told) q.at ∙ q.sub;
    root_args = λ r c is. root_args_at r c (root_at S list told r c is);
    follows = λ c d p there is. ap is_some (led c (slice_get told.entries c) p d refl there is).2.leads.at;
    callee = λ c d target p there into is. callee_at c d target p there into is;
    handed = λ c d target p given there is found. handed_at c d target p given there is found;
  }

pub outcomes_are_contexts : OutcomesAreContexts
outcomes_are_contexts S list told known = are_contexts S list told known
