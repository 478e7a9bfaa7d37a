-- The arguments that are chosen are those of plain contexts.
use Rattle.std.proofs.Common.{◌≡◌, ◌==◌, ◌↔◌, ℕ, ◌<◌, Bool, true, if◌then◌else◌, List, [], length, get_or, Option, Some, None, Contains, inl, inr}
use Rattle.std.proofs.Common.{refl, sym, ap, subst, ◌∙◌}
use Rattle.std.specs.Prelude.{is_some}
use Rattle.std.specs.List.{list_all}
use Rattle.std.specs.Map.{keys_of}
use Rattle.std.specs.Option.{option_to_list}
use Rattle.std.proofs.lemmas.Bool.{and_from, and_parts, eq-eqb, eqb-true, false≢true}
use Rattle.std.proofs.lemmas.Bool.Decides.{eqb_tells}
use Rattle.std.proofs.lemmas.Grind.{get_or_default_zero}
use Rattle.abs_state.specs.Key.{compare}
use Rattle.abs_state.specs.declared.key.Key.{Key}
use Rattle.abs_state.specs.declared.key.Key.TheVariants as key
use Rattle.abs_state.specs.declared.key.Place.{Place}
use Rattle.assert_bind.specs.Binding.{roots}
use Rattle.bt_base.specs.Graph.{has}
use Rattle.call_laws.proofs.Risings.{contains_cases, contains_first, none_in_empty}
use Rattle.context_bounds.proofs.Shapes.{keys_order}
use Rattle.context_inside.specs.Laws.{AreDue, IsCalled, IsEntered}
use Rattle.context_outcomes.specs.Arguments.{AreAboveCalls, AreJoined, AreOver, ArePlain}
use Rattle.context_outcomes.specs.Setting.{Setting, facts_in}
use Rattle.flow_core.proofs.WritingLemmas.{flat_from, flat_listed, key_listed}
use Rattle.loop_nest.proofs.Lists.{has_where, place_of}
use Rattle.plain_bounds.proofs.Entered.{listed_entered}
use Rattle.plain_bounds.specs.Contexts.{IsChosenAt}
use Rattle.plain_parts.proofs.JoinedFacts.{AreGiven, all_given, all_least, all_up, given_of, none_joined}
use Rattle.plain_parts.specs.Joined.{AreJoins, HasArguments, IsGiven, IsGivenOrNone, entry_at, given_in, given_to, join_all}
use Rattle.plain_parts.specs.Listed.{AreListed}
use Rattle.transfer_rules.proofs.FactKinds.{fitting, from_fitting}
use Rattle.transfer_rules.specs.Fact.{is_at_most, is_kind, OfArgs}
use Rattle.transfer_rules.specs.Give.{entry_of}
use Rattle.transfer_rules.specs.declared.fact.Fact.{Fact}
use Rattle.transfer_rules.specs.declared.fact.Fact.TheVariants as fact
use Rattle.value_lattice.specs.Height.{are_at_most}
use Rattle.value_lattice.specs.Test.{is_over}
use Rattle.value_lattice.specs.declared.value.Value.{Value}

some_same : {X : Type 0} {x y : X} → Some x ≡ Some y → x ≡ y
some_same e = cc

none_some : {X : Type 0} {x : X} → None ≡ Some x → ⊥
none_some e = cc

-- what a list is tested to have stands in it
has_there : (list : List ℕ) (n : ℕ) → has list n ≡ true → Contains list n
has_there list n there = let p = place_of list n there in (p.at, p.within, get_or_default_zero list p.at n p.within ∙ p.is)

-- and what stands in it passes the test
there_has : (list : List ℕ) (n : ℕ) → Contains list n → has list n ≡ true
there_has list n c = has_where list c.0 n c.1 (sym (get_or_default_zero list c.0 n c.1) ∙ c.2)

-- what an option has
option_has : (o : Option Fact) (v : Fact) → Contains (option_to_list o) v → o ≡ Some v
option_has None v has = absurd (none_in_empty v has)
option_has (Some u) v has = elim (contains_cases u [] v has) [
  | inl same ↦ ap Some same
  | inr later ↦ absurd (none_in_empty v later)
]

-- arguments are the list that they have
args_of : (v : Fact) → is_kind v OfArgs ≡ true → (list : List Value) × (v ≡ fact.Args list)
args_of (fact.State s) kind = absurd (false≢true kind)
args_of (fact.Args list) kind = (list, refl)
args_of (fact.Sum effects) kind = absurd (false≢true kind)
args_of fact.Mark kind = absurd (false≢true kind)

module _ (S : Setting) (due : AreDue S) (sub : ℕ) where
  -- a call hands on a fact
  record IsHanded (v : Fact) : Type 0 where
    from : Place
    there : facts_in S (key.Call from sub) ≡ Some v

  -- what a key hands on
  handed_by : (k : Key) (v : Fact) → Contains (given_in (facts_in S) sub k) v → IsHanded v
  handed_by (key.Node p) v has = absurd (none_in_empty v has)
  handed_by (key.Edge p q) v has = absurd (none_in_empty v has)
  handed_by (key.Call p s) v has = elim (eqb_tells sub s) [
    | inl same ↦
        let inner : Contains (option_to_list (facts_in S (key.Call p s))) v =
        subst (λ (b : Bool). Contains (if b then option_to_list (facts_in S (key.Call p s)) else []) v) same.0 has in
        record { from = p; there = subst (λ (q : ℕ). facts_in S (key.Call p q) ≡ Some v) (sym same.1) (option_has (facts_in S (key.Call p s)) v inner) }
    | inr other ↦
        absurd (none_in_empty v (subst (λ (b : Bool). Contains (if b then option_to_list (facts_in S (key.Call p s)) else []) v) other.0 has))
  ]
  handed_by (key.Summary q) v has = absurd (none_in_empty v has)
  handed_by (key.Gap q pc kind) v has = absurd (none_in_empty v has)

  abbrev given : List Fact
  given = given_to (facts_in S) sub (keys_of S.pieces)

  handed : (v : Fact) → Contains given v → IsHanded v
  handed v has = let one = flat_from (given_in (facts_in S) sub) (keys_of S.pieces) v has in handed_by one.one v one.inner

  -- all that is handed on are facts of calls
  are_given : AreGiven S.thresholds given
  are_given v has =
      let one = handed v has in
      given_of S.thresholds one.from sub v (due.due.closed.fit (key.Call one.from sub) v one.there)

  -- and all that calls have is handed on
  given_has : (p : Place) (v : Fact) → facts_in S (key.Call p sub) ≡ Some v → Contains given v
  given_has p v found =
      flat_listed (given_in (facts_in S) sub) (keys_of S.pieces) (key.Call p sub) v
      (key_listed compare keys_order S.pieces (key.Call p sub) (ap is_some found))
      (subst (λ (b : Bool). Contains (if b then option_to_list (facts_in S (key.Call p sub)) else []) v) (sym (eq-eqb sub sub refl))
      (subst (λ (o : Option Fact). Contains (option_to_list o) v) (sym found) (contains_first v [])))

  -- what is called has arguments
  pub joined_args : IsCalled S sub → (o : Option Fact) → join_all S.thresholds None given ≡ o → HasArguments o
  joined_args called None is = by (facts_in S (key.Call called.from sub)) refl called.there where
    by : (o : Option Fact) → facts_in S (key.Call called.from sub) ≡ o → is_some o ≡ true → ⊥
    by None found some = false≢true some
    by (Some v) found some = none_joined S.thresholds given is v (given_has called.from v found)
  joined_args called (Some v) is =
      let fit : IsGivenOrNone S.thresholds (Some v) =
      subst (λ (o : Option Fact). IsGivenOrNone S.thresholds o) is (all_given S.thresholds due.thresholds None given tt are_given) in
      (fitting S.thresholds (key.Call (entry_of 0) 0) v fit).kind

  module _ (args : List Value) (is : join_all S.thresholds None given ≡ Some (fact.Args args)) where
    args_given : IsGiven S.thresholds (fact.Args args)
    args_given =
        subst (λ (o : Option Fact). IsGivenOrNone S.thresholds o) is (all_given S.thresholds due.thresholds None given tt are_given)

    over : AreOver S.thresholds args
    over =
        let parts =
        and_parts (length args == 13) (list_all (is_over S.thresholds) args) (fitting S.thresholds (key.Call (entry_of 0) 0)
        (fact.Args args) args_given).over in
        record { count = eqb-true (length args) 13 parts.0; values = parts.1 }

    others_given : (others : List Value) → AreOver S.thresholds others → IsGiven S.thresholds (fact.Args others)
    others_given others are =
        from_fitting S.thresholds (key.Call (entry_of 0) 0) (fact.Args others) (record {
          kind = refl;
          depths = refl;
          over = and_from (length others == 13) (list_all (is_over S.thresholds) others) (eq-eqb (length others) 13 are.count) are.values;
        })

    least : (others : List Value) → AreOver S.thresholds others → AreAboveCalls (facts_in S) sub others → are_at_most args others ≡ true
    least others are above =
        all_least S.thresholds due.thresholds None given (fact.Args args) (fact.Args others) tt are_given (others_given others are) is
        (λ u none. absurd (none_some none)) each
      where
        each : (v : Fact) → Contains given v → is_at_most v (fact.Args others) ≡ true
        each v has =
            let one = handed v has in
            let list = args_of v (fitting S.thresholds (key.Call (entry_of 0) 0) v (are_given v has)).kind in
            subst (λ (u : Fact). is_at_most u (fact.Args others) ≡ true) (sym list.1) (above one.from list.0 (one.there ∙ ap Some list.1))

    -- the join of what all calls hand on is that of their arguments
    pub joined_are : AreJoined S.thresholds (facts_in S) sub args
    joined_are = record {
      over = over;
      above = λ p one found.
          all_up S.thresholds due.thresholds None given (fact.Args args) tt are_given is (fact.Args one) (given_has p (fact.Args one) found);
      least = least;
    }

module _ (S : Setting) (due : AreDue S) (subs list : List ℕ) (listed : AreListed S.binding (keys_of S.pieces) subs)
    (same : (sub : ℕ) → Contains list sub ↔ Contains (roots S.binding) sub) (joined : List (Option Fact))
    (joins : AreJoins S.thresholds (facts_in S) subs (keys_of S.pieces) joined) (n : ℕ) (less : n < length subs) where
  -- a listed subprogram that is no root has arguments
  pub has_arguments : (Contains list (get_or subs n 0) → ⊥) → HasArguments (entry_at joined n)
  has_arguments none = by (listed_entered S subs (get_or subs n 0) listed (n, less, get_or_default_zero subs n (get_or subs n 0) less)) where
    by : IsEntered S (get_or subs n 0) → HasArguments (entry_at joined n)
    by (inl root) = absurd (none ((same (get_or subs n 0)).1 root))
    by (inr called) = joined_args S due (get_or subs n 0) called (entry_at joined n) (sym (joins.each n less))

  -- and what is chosen are the arguments of its plain context
  pub chosen_are : (args : List Value) → IsChosenAt list subs joined n args → ArePlain S (get_or subs n 0) args
  chosen_are args chosen = record {
    root = λ root. chosen.root ((same (get_or subs n 0)).1 (has_there (roots S.binding) (get_or subs n 0) root));
    called = λ called.
        joined_are S due (get_or subs n 0) args
        (sym (joins.each n less)
        ∙ chosen.called
        (λ c. false≢true (sym called ∙ there_has (roots S.binding) (get_or subs n 0) ((same (get_or subs n 0)).0 c))));
  }
