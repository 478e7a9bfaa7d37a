-- The keys of a due graph are those of a view: each step leads from a program point to another of the same subprogram, each
-- call begins at one, and no key is more than one window down.
use Rattle.std.proofs.Common.{◌≡◌, ◌∙◌, ◌==◌, ◌&&◌, ◌≤◌, ℕ, Bool, true, List, [], ◌∷◌, length, map, All, Contains, Option, Some, IsSome, IsTrue, is_some, false, cond, ◌+◌, None, nat_lt, refl, sym, ap, subst, arith}
use Rattle.std.proofs.lemmas.Bool.{and_from, and_parts}
use Rattle.std.proofs.lemmas.Bool.Decides.{nat_tests}
use Rattle.std.proofs.lemmas.List.Elements.{All-append, All-cons, All-contains, All-map, All-nil}
use Rattle.std.proofs.lemmas.List.Recursion.{is_count_by}
use Rattle.std.specs.List.{flat_map}
use Rattle.std.specs.Map.{keys_of}
use Rattle.abs_state.specs.Key.{compare}
use Rattle.abs_state.specs.State.{entry_state}
use Rattle.abs_state.specs.declared.key.Key.{Key}
use Rattle.abs_state.specs.declared.key.Key.TheVariants as key
use Rattle.abs_state.specs.declared.key.Place.{Place}
use Rattle.call_effects.specs.Summary.{effects_of_stub}
use Rattle.flow_core.proofs.WritingLemmas.{key_listed, listed_key}
use Rattle.flow_core.specs.Core.{counted_keys}
use Rattle.flow_system.proofs.Inductions.{graph_passes}
use Rattle.flow_system.specs.Due.{IsHandedOn}
use Rattle.flow_system.specs.Facts.{fact_at, KeysRise}
use Rattle.flow_system.specs.Laws.{IsLawful}
use Rattle.flow_system.specs.State.{IsClosed, IsDueGraph}
use Rattle.graph_view.specs.Lists.{place_in}
use Rattle.graph_view.specs.View.{AreViewed, StepStands}
use Rattle.transfer_rules.proofs.Giving.{given_hold, only_places_give, places_have_edges}
use Rattle.transfer_rules.specs.Fact.{Piece, is_kind, kind_at, names_depths, is_fact_over}
use Rattle.transfer_rules.specs.Family.{Family, Program}
use Rattle.transfer_rules.specs.Give.{Facts, arguments, effects, entry_of, gap, gives, starts}
use Rattle.transfer_rules.specs.Lawful.{rules_of}
use Rattle.transfer_rules.specs.declared.fact.Fact.{Fact}
use Rattle.transfer_rules.specs.declared.fact.Fact.TheVariants as fact

-- ---- what a program point gives

-- a call begins at a place
abbrev IsFrom : Place → Key → Type 0
IsFrom p (key.Node q) = Unit {0}
IsFrom p (key.Edge a b) = Unit {0}
IsFrom p (key.Call q t) = q ≡ p
IsFrom p (key.Summary sub) = Unit {0}
IsFrom p (key.Gap sub pc kind) = Unit {0}

one_of : (p : Place) (piece : Piece) → IsFrom p piece.0 → All (λ (piece : Piece). IsFrom p piece.0) (piece ∷ [])
one_of p piece is = All-cons (λ (piece : Piece). IsFrom p piece.0) piece [] is (All-nil (λ (piece : Piece). IsFrom p piece.0))

two_of : (p : Place) (one two : Piece) → IsFrom p one.0 → IsFrom p two.0 → All (λ (piece : Piece). IsFrom p piece.0) (one ∷ two ∷ [])
two_of p one two is also = All-cons (λ (piece : Piece). IsFrom p piece.0) one (two ∷ []) is (one_of p two also)

calls_begin_there : (f : Family) (m : Program) (p q : Place) (t : ℕ) (v : Fact) (x : Facts) → Contains (gives f m (key.Node p) x) (key.Call q t, v) → q ≡ p
calls_begin_there f m p q t v x has =
    All-contains (λ (piece : Piece). IsFrom p piece.0) (gives f m (key.Node p) x) (key.Call q t, v)
    (given_hold (λ others piece. IsFrom p piece.0) (λ xs ys piece is. is) (λ xs ys piece is. is) m p
    (λ r s same. two_of p (key.Node r, fact.State s) (key.Edge p r, fact.Mark) tt tt)
    (λ kind. one_of p (gap p kind) tt)
    (λ returns skips written. one_of p (effects p.sub returns skips written) tt)
    (λ callee depth s is. one_of p (key.Call p callee, fact.Args (arguments depth s)) refl)
    (λ callee s is. one_of p (key.Node (entry_of callee), fact.State s) tt) f x) has

-- ---- what stands in a closed state

-- the program points of a step are there and of one subprogram, and that of a call is there
abbrev stands : (Key → Option Fact) → Key → Bool
stands s (key.Node p) = true
stands s (key.Edge p q) = is_some (s (key.Node p)) && (is_some (s (key.Node q)) && (p.sub == q.sub))
stands s (key.Call p t) = is_some (s (key.Node p))
stands s (key.Summary sub) = true
stands s (key.Gap sub pc kind) = true

same_number : (a b : ℕ) → a ≡ b → (a == b) ≡ true
same_number a b is = grind (arith, nat_tests)

one_number : (a b : ℕ) → (a == b) ≡ true → a ≡ b
one_number a b is = grind (arith, nat_tests)

module _ (t : List ℕ) (f : Family) (m : Program) (s : Key → Option Fact) (closed : IsClosed (rules_of t f m) s) where
  given_there : (p : Place) (k : Key) (v : Fact) → IsSome (s (key.Node p)) → Contains (gives f m (key.Node p) s) (k, v) → IsSome (s k)
  given_there p k v some has = let piece = closed.given (key.Node p) some k v has in subst (λ (o : Option Fact). IsSome o) (sym piece.found) refl

  given_stands : (p : Place) (k : Key) (v : Fact) → IsSome (s (key.Node p)) → Contains (gives f m (key.Node p) s) (k, v) → IsTrue (stands s k)
  given_stands p (key.Node q) v some has = refl
  given_stands p (key.Edge a b) v some has =
      let led = places_have_edges.places f m p a b v s has in
      let from : IsSome (s (key.Node a)) = subst (λ (r : Place). IsSome (s (key.Node r))) (sym led.from) some in
      let to : IsSome (s (key.Node b)) = given_there p (key.Node b) (fact.State led.state) some led.given in
      let same : a.sub ≡ b.sub = ap (λ (r : Place). r.sub) led.from ∙ sym led.sub in
      and_from (is_some (s (key.Node a))) (is_some (s (key.Node b)) && (a.sub == b.sub)) from
      (and_from (is_some (s (key.Node b))) (a.sub == b.sub) to (same_number a.sub b.sub same))
  given_stands p (key.Call q callee) v some has =
      subst (λ (r : Place). IsSome (s (key.Node r))) (sym (calls_begin_there f m p q callee v s has)) some
  given_stands p (key.Summary sub) v some has = refl
  given_stands p (key.Gap sub pc kind) v some has = refl

  of_given : (j k : Key) (u v : Fact) → s j ≡ Some u → Contains (gives f m j s) (k, v) → IsTrue (stands s k)
  of_given j k u v found has =
      let at = only_places_give f m j k v s has in
      let some : IsSome (s j) = subst (λ (o : Option Fact). IsSome o) (sym found) refl in
      given_stands at.0 k v (subst (λ (i : Key). IsSome (s i)) at.1 some) (subst (λ (i : Key). Contains (gives f m i s) (k, v)) at.1 has)

  of_starts : (k : Key) (v : Fact) → Contains (starts m) (k, v) → IsTrue (stands s k)
  of_starts k v has =
      All-contains (λ (piece : Piece). IsTrue (stands s piece.0)) (starts m) (k, v)
      (All-append (λ (piece : Piece). IsTrue (stands s piece.0)) (map (λ root. (key.Node (entry_of root), fact.State entry_state)) m.roots)
      (map (λ stub. (key.Summary stub, fact.Sum effects_of_stub)) m.stubs)
      (All-map (λ (piece : Piece). IsTrue (stands s piece.0)) (λ root. (key.Node (entry_of root), fact.State entry_state)) m.roots (λ i d h. refl))
      (All-map (λ (piece : Piece). IsTrue (stands s piece.0)) (λ stub. (key.Summary stub, fact.Sum effects_of_stub)) m.stubs (λ i d h. refl))) has

  handed_on : IsHandedOn (rules_of t f m) s (λ k v. stands s k)
  handed_on = record {
    starts = of_starts;
    greater = λ k v w fv fw up is. is;
    given = λ j u found passes k v has. of_given j k u v found has;
  }

-- ---- the keys of a due graph

-- the program points among keys are the counted ones
few_places : (facts : List (Key × Fact)) (t : List ℕ) (f : Family) (m : Program) → length (flat_map place_in (keys_of facts)) ≡ counted_keys (rules_of t f m) facts
few_places facts t f m = is_count_by (λ list. length (flat_map place_in (keys_of list))) (λ fact. (rules_of t f m).counted fact.0) refl one facts
  where
    one : (fact : Key × Fact) (rest : List (Key × Fact)) → length (flat_map place_in (keys_of (fact ∷ rest)))
        ≡ cond ((rules_of t f m).counted fact.0) (1 + length (flat_map place_in (keys_of rest))) (length (flat_map place_in (keys_of rest)))
    one (key.Node p, v) rest = omega arith
    one (key.Edge p q, v) rest = refl
    one (key.Call p callee, v) rest = refl
    one (key.Summary sub, v) rest = refl
    one (key.Gap sub pc kind, v) rest = refl

module _ (t : List ℕ) (f : Family) (m : Program) (facts : List (Key × Fact)) (law : IsLawful compare (rules_of t f m)) (rise : KeysRise compare facts)
    (graph : IsDueGraph (rules_of t f m) (fact_at compare facts)) where
  abbrev here : Key → Option Fact
  here = fact_at compare facts

  passes : (k : Key) (o : Option Fact) → here k ≡ o → IsSome o → IsTrue (stands here k)
  passes k None found some = let no : false ≡ true = some in absurd (cc)
  passes k (Some v) found some =
      graph_passes compare (rules_of t f m) law here (λ k v. stands here k) graph (handed_on t f m here graph.closed) k v found

  listed_stands : (k : Key) → Contains (keys_of facts) k → IsTrue (stands here k)
  listed_stands k has = passes k (here k) refl (listed_key compare law.keys facts k has)

  step_stands : (from to : Place) → Contains (keys_of facts) (key.Edge from to) → StepStands (keys_of facts) from to
  step_stands from to has =
      let all = and_parts (is_some (here (key.Node from))) (is_some (here (key.Node to)) && (from.sub == to.sub)) (listed_stands (key.Edge from to) has) in
      let rest = and_parts (is_some (here (key.Node to))) (from.sub == to.sub) all.1 in
      record {
        from = key_listed compare law.keys facts (key.Node from) all.0;
        to = key_listed compare law.keys facts (key.Node to) rest.0;
        one = one_number from.sub to.sub rest.1;
      }

  call_stands : (from : Place) (callee : ℕ) → Contains (keys_of facts) (key.Call from callee) → Contains (keys_of facts) (key.Node from)
  call_stands from callee has = key_listed compare law.keys facts (key.Node from) (listed_stands (key.Call from callee) has)

  fit_depth : (place : Place) (o : Option Fact) → here (key.Node place) ≡ o → IsSome o → place.depth ≤ 1
  fit_depth place None found some = let no : false ≡ true = some in absurd (cc)
  fit_depth place (Some v) found some =
      let fit = and_parts (is_kind v (kind_at (key.Node place))) (names_depths (key.Node place) && is_fact_over t v) (graph.closed.fit (key.Node place) v found) in
      let depth = (and_parts (names_depths (key.Node place)) (is_fact_over t v) fit.1).0 in
      shallow place.depth depth
    where
      shallow : (d : ℕ) → nat_lt d 2 ≡ true → d ≤ 1
      shallow d is = grind (arith, nat_tests)

  node_depth : (place : Place) → Contains (keys_of facts) (key.Node place) → place.depth ≤ 1
  node_depth place has = fit_depth place (here (key.Node place)) refl (listed_key compare law.keys facts (key.Node place) has)

  -- the keys of a due graph that is within the limit are those of a view
  pub keys_are_viewed : counted_keys (rules_of t f m) facts ≤ 131072 → AreViewed (keys_of facts)
  keys_are_viewed within = record {
    rising = rise;
    few = let count = few_places facts t f m in omega (arith, count, within);
    shallow = node_depth;
    steps = step_stands;
    calls = call_stands;
  }
