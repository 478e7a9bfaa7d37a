-- A context that waits is there for another that does.
use Rattle.std.proofs.Common.{◌≡◌, ◌≤◌, ℕ, Bool, zero, suc, ◌<◌, true, List, [], ◌∷◌, Contains, length, Option, Some, None, inl, inr, refl, sym, ap, subst, ◌∙◌, arith, eqb-true}
use Rattle.std.specs.Prelude.{is_some, slice_get}
use Rattle.std.specs.List.{flat_map}
use Rattle.std.specs.Map.{keys_of}
use Rattle.std.proofs.lemmas.Bool.Decides.{eqb_tells}
use Rattle.std.proofs.lemmas.Option.{slice_get_within}
use Rattle.abs_state.specs.Key.{compare}
use Rattle.abs_state.specs.declared.key.Key.TheVariants as key
use Rattle.abs_state.specs.declared.key.Place.{Place}
use Rattle.call_laws.proofs.Risings.{contains_cases, contains_first, contains_later, none_in_empty}
use Rattle.context_answers.proofs.Lists.{get_there, none_some, some_same}
use Rattle.context_answers.specs.declared.answer.Answer.{Answer}
use Rattle.context_bounds.proofs.Shapes.{keys_order}
use Rattle.context_list.specs.Numbered.{One}
use Rattle.context_order.proofs.Chains.{AreFollowedPairs, CallsWaiting, nothing_waits}
use Rattle.context_order.specs.Filled.{AreFilled, HasAnswer, HasUnknown, IsStuck, IsUnknown, IsWaiting, Table}
use Rattle.context_order.specs.Opened.{IsLink, IsOpened}
use Rattle.context_order.specs.declared.opened.Opened.{Opened}
use Rattle.context_outcomes.specs.Calls.{IsEntering}
use Rattle.context_outcomes.specs.Setting.{Setting, facts_in, view_in}
use Rattle.flow_core.proofs.WritingLemmas.{key_listed}
use Rattle.flow_system.specs.Facts.{fact_at}
use Rattle.graph_laws.proofs.Nests.{step_reaches}
use Rattle.graph_laws.specs.Nest.{Reaches}
use Rattle.graph_view.proofs.CallGraphs.{call_to}
use Rattle.graph_view.proofs.Stands.{has_from, keys_stand_in_lists}
use Rattle.graph_view.specs.Lists.{calling_in}
use Rattle.graph_view.specs.Need.{calls_of}
use Rattle.graph_view.specs.declared.lists.Calling.{Calling}

module _ (S : Setting) (list : List One) (table : Table) (number : ℕ) (one : One) (at : slice_get list number ≡ Some one) (o : Opened)
    (is : IsOpened S list one o) where
  -- what a context calls, its subprogram calls
  called : (p : Place) (t : ℕ) → IsEntering S one.0 (fact_at compare o.within.facts) p t → calls_of (view_in S).callings one.0 t ≡ true
  called p t enters =
      let there : is_some (facts_in S (key.Call p t)) ≡ true = is.inside.is.among (key.Call p t) enters.followed.call.there in
      let calling : Calling = record { from = p; callee = t } in
      let listed : Contains (flat_map calling_in (keys_of S.pieces)) calling =
      ((keys_stand_in_lists (keys_of S.pieces)).callings p t).0 (key_listed compare keys_order S.pieces (key.Call p t) there) in
      let own : p.sub ≡ one.0 = eqb-true p.sub one.0 (is.inside.is.local (key.Call p t) enters.followed.call.there) in
      subst (λ (n : ℕ). calls_of (view_in S).callings n t ≡ true) own
      (call_to (flat_map calling_in (keys_of S.pieces)) calling (has_from (flat_map calling_in (keys_of S.pieces)) calling listed))

  -- a call into a context without an answer is why it waits
  waits_by : (p : Place) (link : Option ℕ) → IsLink S list one.0 (fact_at compare o.within.facts) p link → IsUnknown table link
      → IsWaiting S list table number
  waits_by p None linked unknown = absurd unknown
  waits_by p (Some callee) linked unknown = record {
    one = one;
    at = at;
    callee = callee;
    next = (linked.target, linked.context);
    leads = linked.at;
    called = called p linked.target linked.enters;
    apart = linked.enters.followed.apart;
    unknown = unknown;
  }

  -- one that calls into one without an answer waits
  pub waits : HasUnknown table o.links.items → IsWaiting S list table number
  waits unknown =
      let low : unknown.place < length o.links.items = slice_get_within o.links.items unknown.place unknown.link unknown.at in
      let count : length o.links.items ≡ length o.within.nodes.items = is.links.count in
      let p = get_there o.within.nodes.items unknown.place (omega (arith, low, count)) in
      waits_by p.0 unknown.link (is.links.each unknown.place p.0 unknown.link p.1 unknown.at) unknown.unknown

-- a context that waits, with its call among pairs of subprograms
record IsPaired (S : Setting) (list : List One) (table : Table) (pairs : List (ℕ × ℕ)) (n : ℕ) : Type 0 where
  pub waits : IsWaiting S list table n
  pub listed : Contains pairs (waits.one.0, waits.next.0)

-- the calls for which the first contexts wait, as pairs of subprograms
record HasPairs (S : Setting) (list : List One) (table : Table) (count : ℕ) : Type 0 where
  pub pairs : List (ℕ × ℕ)
  pub followed : AreFollowedPairs (calls_of (view_in S).callings) pairs
  pub each : (n : ℕ) → n < count → slice_get table n ≡ Some None → IsPaired S list table pairs n

-- a subprogram has a context that waits
record HasWaiting (list : List One) (table : Table) (sub : ℕ) : Type 0 where
  pub number : ℕ
  pub one : One
  pub at : slice_get list number ≡ Some one
  pub of : one.0 ≡ sub
  pub none : slice_get table number ≡ Some None

module _ (S : Setting) (list : List One) (table : Table) (right : AreFilled S list table)
    (stuck : (n : ℕ) → n < length list → IsStuck S list table n) where
  abbrev calls : ℕ → ℕ → Bool
  calls = calls_of (view_in S).callings

  -- the callee doesn't lead back
  not_back : (n : ℕ) (w : IsWaiting S list table n) → Reaches calls w.next.0 w.one.0 → ⊥
  not_back n w back = w.apart (record { there = step_reaches calls w.one.0 w.next.0 w.called; back = back })

  -- one context more that waits
  with_one : (count : ℕ) → HasPairs S list table count → IsWaiting S list table count → HasPairs S list table (suc count)
  with_one count before w = record {
    pairs = (w.one.0, w.next.0) ∷ before.pairs;
    followed = record {
      called = λ n m has. elim (contains_cases (w.one.0, w.next.0) before.pairs (n, m) has) [
        | inl same ↦ subst (λ (p : ℕ × ℕ). calls p.0 p.1 ≡ true) same w.called
        | inr later ↦ before.followed.called n m later
      ];
      apart = λ n m has back. elim (contains_cases (w.one.0, w.next.0) before.pairs (n, m) has) [
        | inl same ↦ not_back count w (subst (λ (p : ℕ × ℕ). Reaches calls p.1 p.0) (sym same) back)
        | inr later ↦ before.followed.apart n m later back
      ];
    };
    each = λ n low none. elim (eqb_tells n count) [
      | inl same ↦ subst (λ (k : ℕ). IsPaired S list table ((w.one.0, w.next.0) ∷ before.pairs) k) (sym same.1)
          (record { waits = w; listed = contains_first (w.one.0, w.next.0) before.pairs })
      | inr other ↦
          let apart : n ≡ count → ⊥ = other.1 in
          let less : n < count = omega (arith, low, apart) in
          let earlier = before.each n less none in
          record {
            waits = earlier.waits;
            listed = contains_later (w.one.0, w.next.0) before.pairs (earlier.waits.one.0, earlier.waits.next.0) earlier.listed;
          }
    ];
  }

  -- one more that doesn't
  without : (count : ℕ) → HasPairs S list table count → (slice_get table count ≡ Some None → ⊥) → HasPairs S list table (suc count)
  without count before never = record {
    pairs = before.pairs;
    followed = before.followed;
    each = λ n low none. elim (eqb_tells n count) [
      | inl same ↦ absurd (never (sym (ap (slice_get table) same.1) ∙ none))
      | inr other ↦
          let apart : n ≡ count → ⊥ = other.1 in
          let less : n < count = omega (arith, low, apart) in
          before.each n less none
    ];
  }

  -- one more
  one_more : (count : ℕ) → count < length list → HasPairs S list table count → (entry : Option (Option Answer)) → slice_get table count ≡ entry
      → HasPairs S list table (suc count)
  one_more count low before None at = without count before (λ none. none_some (sym at ∙ none))
  one_more count low before (Some None) at = with_one count before (stuck count low at)
  one_more count low before (Some (Some answer)) at = without count before (λ none. none_some (some_same (sym none ∙ at)))

  -- so the contexts have such pairs
  pairs_of : (count : ℕ) → count ≤ length list → HasPairs S list table count
  pairs_of zero low = record {
    pairs = [];
    followed = record { called = λ n m has. absurd (none_in_empty (n, m) has); apart = λ n m has back. none_in_empty (n, m) has };
    each = λ n less none. absurd (omega (arith, less));
  }
  pairs_of (suc count) low = one_more count (omega (arith, low)) (pairs_of count (omega (arith, low))) (slice_get table count) refl

  abbrev all_pairs : HasPairs S list table (length list)
  all_pairs = pairs_of (length list) (omega arith)

  -- a subprogram with a context that waits calls another one
  waits_on : (sub : ℕ) → HasWaiting list table sub → CallsWaiting all_pairs.pairs (HasWaiting list table) sub
  waits_on sub w =
      let low : w.number < length list = slice_get_within list w.number w.one w.at in
      let paired = all_pairs.each w.number low w.none in
      let same : paired.waits.one ≡ w.one = some_same (sym paired.waits.at ∙ w.at) in
      record {
        callee = paired.waits.next.0;
        called = subst (λ (n : ℕ). Contains all_pairs.pairs (n, paired.waits.next.0)) (ap (λ (x : One). x.0) same ∙ w.of) paired.listed;
        waiting = record { number = paired.waits.callee; one = paired.waits.next; at = paired.waits.leads; of = refl; none = paired.waits.unknown };
      }

  -- which can't be: an entry has an answer
  has_answer : (n : ℕ) → n < length table → (entry : Option Answer) → slice_get table n ≡ Some entry → HasAnswer table n
  has_answer n low (Some answer) at = record { answer = answer; there = at }
  has_answer n low None at =
      let count : length table ≡ length list = right.count in
      let one = get_there list n (omega (arith, low, count)) in
      absurd (nothing_waits calls all_pairs.pairs all_pairs.followed (HasWaiting list table) waits_on one.0.0
      (record { number = n; one = one.0; at = one.1; of = refl; none = at }))

  -- so none does
  pub all_answered : (n : ℕ) → n < length table → HasAnswer table n
  all_answered n low = let entry = get_there table n low in has_answer n low entry.0 entry.1
