-- One loop of a nest, its body, and the graph of the body.
use Rattle.std.proofs.Common.{◌≡◌, ◌==◌, ◌&&◌, ◌+◌, ◌^◌, ◌<◌, ◌≤◌, inl, inr, ℕ, zero, suc, Bool, true, false, Option, Some, None, List, [], ◌∷◌, ◌++◌, length, map, get_or, refl, sym, ap, subst, ◌∙◌, arith, cond}
use Rattle.std.specs.List.{slice_get}
use Rattle.std.specs.List.Sorted.{IsStrictlyIncreasing}
use Rattle.std.proofs.lemmas.Bool.{cases_lt}
use Rattle.std.proofs.lemmas.Bool.Decides.{eqb_tells}
use Rattle.std.proofs.lemmas.Option.{slice_get-get_or}
use Rattle.bt_base.specs.Graph.{has, is_edge, IsGraph}
use Rattle.bt_base.proofs.RisingLists.{rising_below}
use Rattle.counter_bound.specs.Body.{IsBodyGraph, AreUps, AreDowns}
use Rattle.counter_bound.specs.Change.{changes_of, touches, up_in, down_in, up_of, down_of}
use Rattle.counter_bound.specs.Counts.{HasNest, IsAdded}
use Rattle.counter_bound.specs.declared.change.Change.{Change}
use Rattle.counter_bound.specs.declared.change.Change.TheVariants.{Add, Other}
use Rattle.counter_bound.proofs.Balance.{IsInnerLoop, IsRound, is_round, even_inside}
use Rattle.counter_bound.proofs.Moving.{IsMoved, Moves, walk_moves, once_moves, ups_move, downs_move, inside_moves, step_moves, other_node}
use Rattle.graph_laws.specs.Counter.{Changes}
use Rattle.graph_laws.specs.Loops.{AreLoops, edges_inside}
use Rattle.graph_laws.specs.Nest.{loops_of}
use Rattle.graph_laws.specs.Forward.{AreEqual}
use Rattle.graph_laws.specs.Walk.{IsWalk, AreInside, passes, total}
use Rattle.graph_laws.proofs.Nests.{two_true}
use Rattle.graph_laws.proofs.Walks.{passes_here, passes_other}
use Rattle.loop_nest.specs.LoopNest.{IsLoopOf}
use Rattle.loop_nest.specs.declared.natural_loop.Loop.{Loop}
use Rattle.path_bound.specs.Places.{held, loops_in, AreLoopsBelow}
use Rattle.path_bound.specs.Ranked.{rank_in}
use Rattle.path_bound.proofs.Facts.{equal, below, hold, are_loops, edge_from}
use Rattle.path_bound.proofs.Ordered.{rank_within, rank_at}
use Rattle.path_bound.proofs.Placed.{place_is}
use Rattle.turn_sums.specs.Search.{steps_of, all_nodes, AreBalanced}
use Rattle.turn_sums.specs.Step.{IsStep, IsStepOrNone}
use Rattle.turn_sums.specs.declared.step.TurnStep.{TurnStep}
use Rattle.turn_sums.proofs.Lists.{has_at}

-- a list that rises below a number isn't longer
at_least : (xs : List ℕ) → IsStrictlyIncreasing xs → (i : ℕ) → i < length xs → i ≤ get_or xs i 0
at_least xs up zero l = omega arith
at_least xs up (suc i) l =
    let a : i ≤ get_or xs i 0 = at_least xs up i (omega (arith, l)) in
    let b : get_or xs i 0 < get_or xs (suc i) 0 = rising_below xs up i (suc i) (omega arith) l in omega (arith, a, b)

pub rising_length : (xs : List ℕ) (n : ℕ) → IsStrictlyIncreasing xs → ((m : ℕ) → has xs m ≡ true → m < n) → length xs ≤ n
rising_length [] n up b = omega arith
rising_length (x ∷ xs) n up b =
    let last : length xs < length (x ∷ xs) = omega arith in
    let a : length xs ≤ get_or (x ∷ xs) (length xs) 0 = at_least (x ∷ xs) up (length xs) last in
    let c : get_or (x ∷ xs) (length xs) 0 < n = b (get_or (x ∷ xs) (length xs) 0) (has_at (x ∷ xs) (length xs) last) in
    omega (arith, a, c)

-- a loop that is taken by its place
pub one_at : (lent loops : List Loop) (number : ℕ) (one : Loop) → lent ≡ loops → number < length loops → one ≡ get_or lent number one
    → slice_get loops number ≡ Some one
one_at lent loops number one e l is =
    ap (λ (x : List Loop). slice_get x number) (sym e)
    ∙ (slice_get-get_or lent number one (subst (λ (x : List Loop). number < length x) (sym e) l) ∙ ap (λ (x : Loop). Some x) (sym is))

-- the same number stands at one place
pub rising_one : (xs : List ℕ) → IsStrictlyIncreasing xs → (i j : ℕ) → i < length xs → j < length xs → get_or xs i 0 ≡ get_or xs j 0 → i ≡ j
rising_one xs up i j a b e = elim (cases_lt i j) [
  | inl l ↦ let q : get_or xs i 0 < get_or xs j 0 = rising_below xs up i j l b in absurd (omega (arith, q, e))
  | inr l ↦ elim (cases_lt j i) [
    | inl m ↦ let q : get_or xs j 0 < get_or xs i 0 = rising_below xs up j i m a in absurd (omega (arith, q, e))
    | inr m ↦ omega (arith, l, m)
  ]
]

all_in : (xs : List ℕ) → AreInside all_nodes xs
all_in [] = tt
all_in (x ∷ xs) = (refl, all_in xs)

-- a change that doesn't touch a cell adds nothing to it and takes nothing
not_added : (b : Bool) (n m : ℕ) → b ≡ false → cond b n 0 ≡ cond b m 0
not_added false n m e = refl
not_added true n m e = cc

untouched_by : (o : Option Change) (cell : ℕ) → ((change : Change) → o ≡ Some change → touches change cell ≡ false) → up_in o cell ≡ down_in o cell
untouched_by None cell h = refl
untouched_by (Some (Add c k)) cell h = not_added (cell == c) (up_of k) (down_of k) (h (Add c k) refl)
untouched_by (Some (Other mask)) cell h = refl

untouched : (changes : List Change) (cell n : ℕ) → ((change : Change) → slice_get changes n ≡ Some change → touches change cell ≡ false)
    → (changes_of changes cell).up n ≡ (changes_of changes cell).down n
untouched changes cell n h = untouched_by (slice_get changes n) cell h

module _ (graph : List (List ℕ)) (loops : List Loop) (nest : HasNest graph loops) (number : ℕ) (one : Loop) (at : slice_get loops number ≡ Some one) where
  loop_of : IsLoopOf nest.nest.nest one
  loop_of = nest.nest.each number one at

  under : AreLoopsBelow (length graph) loops
  under = below graph nest.entry loops nest.nest nest.reached

  pub body_is : (n : ℕ) → (loops_in loops).body one.head n ≡ has one.body.items n
  body_is n = ap (λ (o : Option Loop). held o n) (ap (slice_get loops) (place_is loops under.rising number one at) ∙ at)

  pub head_has : (loops_in loops).has one.head ≡ true
  head_has = sym (nest.nest.heads one.head) ∙ loop_of.head

  pub rising : IsStrictlyIncreasing one.body.items
  rising = under.bodies number one at

  pub nodes_below : (n : ℕ) → has one.body.items n ≡ true → n < length graph
  nodes_below n h = under.nodes number n one at h

  pub head_in : has one.body.items one.head ≡ true
  head_in = hold graph nest.entry loops nest.nest nest.reached number one at

  pub few : length graph < 2 ^ 32 → length one.body.items < 2 ^ 32
  few l = let a : length one.body.items ≤ length graph = rising_length one.body.items (length graph) rising nodes_below in omega (arith, a, l)

  pub loops_are : AreLoops (is_edge graph) nest.entry (loops_in loops)
  loops_are = are_loops graph nest.entry loops nest.nest nest.reached

  nest_body : (n : ℕ) → nest.nest.nest.body one.head n ≡ has one.body.items n
  nest_body n = sym (loop_of.body n)

  same : AreEqual (loops_of nest.nest.nest) (loops_in loops)
  same = equal graph nest.entry loops nest.nest nest.reached

  -- what isn't changed in the loops inside is even on walks that come back to a node but not to the head
  pub even : (changes : List Change) (cell : ℕ) → IsAdded (loops_in loops) one.head changes cell → (n : ℕ) (between : List ℕ) → has one.body.items n ≡ true
      → IsWalk (edges_inside (is_edge graph) (has one.body.items)) n (between ++ n ∷ []) → passes one.head (n ∷ between) ≡ 0
      → total (changes_of changes cell).up (n ∷ between) ≡ total (changes_of changes cell).down (n ∷ between)
  even changes cell added n between b w p =
      let r : IsRound (is_edge graph) nest.entry nest.nest.nest nest.nest.is one.head loop_of.head n between =
      is_round (is_edge graph) nest.entry nest.nest.nest nest.nest.is one.head loop_of.head n between (nest_body n ∙ b) (walk_in n (between ++ n ∷ []) w) p in
      even_inside (nest.nest.nest.body r.inner) (changes_of changes cell) (n ∷ between) (kept r.inner r.is_inner) r.inside
    where
      walk_in : (x : ℕ) (rest : List ℕ) → IsWalk (edges_inside (is_edge graph) (has one.body.items)) x rest
          → IsWalk (edges_inside (is_edge graph) (nest.nest.nest.body one.head)) x rest
      walk_in x [] v = tt
      walk_in x (y ∷ rest) v = (
        ap (λ (z : Bool). is_edge graph x y && (z && nest.nest.nest.body one.head y)) (nest_body x)
            ∙ (ap (λ (z : Bool). is_edge graph x y && (has one.body.items x && z)) (nest_body y) ∙ v.0),
        walk_in y rest v.1,
      )

      kept : (k : ℕ) → IsInnerLoop nest.nest.nest one.head k → (y : ℕ) → nest.nest.nest.body k y ≡ true
          → (changes_of changes cell).up y ≡ (changes_of changes cell).down y
      kept k inner y h =
          untouched changes cell y (λ change e. added.outside k y change (sym (same.has k) ∙ inner.loop)
          (sym (same.body one.head k loop_of.head) ∙ inner.within) inner.other (sym (same.body k y inner.loop) ∙ h) e)

  -- a body as a list and as a test
  into : (changes : Changes) → Moves (is_edge graph) (has one.body.items) one.head changes (is_edge graph) ((loops_in loops).body one.head) one.head changes (λ n. n)
  into changes = record {
    here = head_in;
    head_is = refl;
    edges = λ n m a b e. e;
    moved = λ n m a b e. record { body = body_is m ∙ b; apart = λ q. q; up = refl; down = refl };
    up = refl;
    down = refl;
  }

  out : (changes : Changes) → Moves (is_edge graph) ((loops_in loops).body one.head) one.head changes (is_edge graph) (has one.body.items) one.head changes (λ n. n)
  out changes = record {
    here = body_is one.head ∙ head_in;
    head_is = refl;
    edges = λ n m a b e. e;
    moved = λ n m a b e. record { body = sym (body_is m) ∙ b; apart = λ q. q; up = refl; down = refl };
    up = refl;
    down = refl;
  }

  module _ (small : List (List ℕ)) (small_is : IsBodyGraph (is_edge graph) one.body.items small) (small_graph : IsGraph small)
      (place : ℕ) (place_within : place < length one.body.items) (place_head : get_or one.body.items place 0 ≡ one.head)
      (changes : List Change) (cell : ℕ) (ups downs : List ℕ) (ups_count : length ups ≡ length one.body.items) (downs_count : length downs ≡ length one.body.items)
      (ups_are : AreUps one.body.items changes cell ups) (downs_are : AreDowns one.body.items changes cell downs) where
    small_within : (i j : ℕ) → is_edge small i j ≡ true → (i < length one.body.items) × (j < length one.body.items)
    small_within i j e =
        let a : i < length small = edge_from small i j e in
        let b : j < length small = small_graph.within i j e in
        let q : length small ≡ length one.body.items = small_is.count in
        (omega (arith, a, q), omega (arith, b, q))

    small_edge : (i j : ℕ) → is_edge small i j ≡ true → is_edge graph (get_or one.body.items i 0) (get_or one.body.items j 0) ≡ true
    small_edge i j e = let w = small_within i j e in sym (small_is.edges i j w.0 w.1) ∙ e

    up_at : (i : ℕ) → i < length one.body.items → (steps_of ups downs).up i ≡ (changes_of changes cell).up (get_or one.body.items i 0)
    up_at i l = ups_are i (omega (arith, l, ups_count))

    down_at : (i : ℕ) → i < length one.body.items → (steps_of ups downs).down i ≡ (changes_of changes cell).down (get_or one.body.items i 0)
    down_at i l = downs_are i (omega (arith, l, downs_count))

    -- from the places to the nodes
    pub outward : Moves (is_edge small) all_nodes place (steps_of ups downs) (is_edge graph) (has one.body.items) one.head (changes_of changes cell)
        (λ i. get_or one.body.items i 0)
    outward = record {
      here = refl;
      head_is = place_head;
      edges = λ i j a b e. small_edge i j e;
      moved = λ i j a b e. let w = small_within i j e in record {
        body = has_at one.body.items j w.1;
        apart = λ q. rising_one one.body.items rising j place w.1 place_within (q ∙ sym place_head);
        up = sym (up_at j w.1);
        down = sym (down_at j w.1);
      };
      up = ap (changes_of changes cell).up (sym place_head) ∙ sym (up_at place place_within);
      down = ap (changes_of changes cell).down (sym place_head) ∙ sym (down_at place place_within);
    }

    at_node : (n : ℕ) → has one.body.items n ≡ true → IsMoved all_nodes place (changes_of changes cell) (steps_of ups downs) one.head (rank_in one.body.items n) n
    at_node n h =
        let l : rank_in one.body.items n < length one.body.items = rank_within one.body.items n h in
        let e : get_or one.body.items (rank_in one.body.items n) 0 ≡ n = rank_at one.body.items n h in
        record {
          body = refl;
          apart = λ q. sym e ∙ (ap (λ (i : ℕ). get_or one.body.items i 0) q ∙ place_head);
          up = up_at (rank_in one.body.items n) l ∙ ap (changes_of changes cell).up e;
          down = down_at (rank_in one.body.items n) l ∙ ap (changes_of changes cell).down e;
        }

    -- from the nodes to their places
    pub inward : Moves (is_edge graph) (has one.body.items) one.head (changes_of changes cell) (is_edge small) all_nodes place (steps_of ups downs)
        (rank_in one.body.items)
    inward = record {
      here = head_in;
      head_is = head_place;
      edges = λ n m a b e.
          small_is.edges (rank_in one.body.items n) (rank_in one.body.items m) (rank_within one.body.items n a) (rank_within one.body.items m b)
          ∙ (ap (λ (x : ℕ). is_edge graph x (get_or one.body.items (rank_in one.body.items m) 0)) (rank_at one.body.items n a)
          ∙ (ap (is_edge graph n) (rank_at one.body.items m b) ∙ e));
      moved = λ n m a b e. at_node m b;
      up = ap (steps_of ups downs).up (sym head_place) ∙ (at_node one.head head_in).up;
      down = ap (steps_of ups downs).down (sym head_place) ∙ (at_node one.head head_in).down;
    }
      where
        head_place : rank_in one.body.items one.head ≡ place
        head_place = rising_one one.body.items rising (rank_in one.body.items one.head) place (rank_within one.body.items one.head head_in) place_within
            (rank_at one.body.items one.head head_in ∙ sym place_head)

    -- walks that come back to a place but not to the head's are even
    pub balanced : IsAdded (loops_in loops) one.head changes cell → AreBalanced (is_edge small) place (steps_of ups downs)
    balanced added n between w p =
        let f : ℕ → ℕ = λ i. get_or one.body.items i 0 in
        let there = first_in n between n w in
        let walk : IsWalk (is_edge graph) (f n) (map f between ++ f n ∷ []) =
        walk_moves (is_edge small) all_nodes place (steps_of ups downs) (is_edge graph) (has one.body.items) one.head (changes_of changes cell) f outward
        n n between refl refl (all_in between) w in
        let inside : AreInside (has one.body.items) (map f between) =
        inside_moves (is_edge small) all_nodes place (steps_of ups downs) (is_edge graph) (has one.body.items) one.head (changes_of changes cell) f outward
        n between (n ∷ []) refl (all_in between) w in
        let here : has one.body.items (f n) ≡ true = has_at one.body.items n there in
        let q = apart_of n between p in
        let once : passes one.head (map f between) ≡ 0 =
        once_moves (is_edge small) all_nodes place (steps_of ups downs) (is_edge graph) (has one.body.items) one.head (changes_of changes cell) f outward
        n between (n ∷ []) refl (all_in between) w q.1 in
        let other : (f n == one.head) ≡ false =
        other_node (f n) one.head (λ e. q.0 (rising_one one.body.items rising n place there place_within (e ∙ sym place_head))) in
        let all : passes one.head (f n ∷ map f between) ≡ 0 = passes_other one.head (f n) (map f between) other ∙ once in
        let e : total (changes_of changes cell).up (f n ∷ map f between) ≡ total (changes_of changes cell).down (f n ∷ map f between) =
        even changes cell added (f n) (map f between) here (within (f n) (f n) (map f between) here here inside walk) all in
        let ups_same : total (changes_of changes cell).up (map f between) ≡ total (steps_of ups downs).up between =
        ups_move (is_edge small) all_nodes place (steps_of ups downs) (is_edge graph) (has one.body.items) one.head (changes_of changes cell) f outward
        n between (n ∷ []) refl (all_in between) w in
        let downs_same : total (changes_of changes cell).down (map f between) ≡ total (steps_of ups downs).down between =
        downs_move (is_edge small) all_nodes place (steps_of ups downs) (is_edge graph) (has one.body.items) one.head (changes_of changes cell) f outward
        n between (n ∷ []) refl (all_in between) w in
        let u : (steps_of ups downs).up n ≡ (changes_of changes cell).up (f n) = up_at n there in
        let d : (steps_of ups downs).down n ≡ (changes_of changes cell).down (f n) = down_at n there in
        omega (arith, e, ups_same, downs_same, u, d)
      where
        first_in : (x : ℕ) (rest : List ℕ) (last : ℕ) → IsWalk (is_edge small) x (rest ++ last ∷ []) → x < length one.body.items
        first_in x [] last v = (small_within x last v.0).0
        first_in x (y ∷ rest) last v = (small_within x y v.0).0

        within : (x last : ℕ) (rest : List ℕ) → has one.body.items x ≡ true → has one.body.items last ≡ true → AreInside (has one.body.items) rest
            → IsWalk (is_edge graph) x (rest ++ last ∷ []) → IsWalk (edges_inside (is_edge graph) (has one.body.items)) x (rest ++ last ∷ [])
        within x last [] a b i v = (
          two_true (is_edge graph x last) (has one.body.items x && has one.body.items last) v.0
              (two_true (has one.body.items x) (has one.body.items last) a b),
          tt,
        )
        within x last (y ∷ rest) a b i v = (
          two_true (is_edge graph x y) (has one.body.items x && has one.body.items y) v.0
              (two_true (has one.body.items x) (has one.body.items y) a i.0),
          within y last rest i.0 b i.1 v.1,
        )

        apart_of : (x : ℕ) (rest : List ℕ) → passes place (x ∷ rest) ≡ 0 → (x ≡ place → ⊥) × (passes place rest ≡ 0)
        apart_of x rest v = elim (eqb_tells x place) [
          | inl a ↦ let h : passes place (x ∷ rest) ≡ 1 + passes place rest = passes_here place x rest a.1 in absurd (omega (arith, h, v))
          | inr a ↦ (a.1, sym (passes_other place x rest a.0) ∙ v)
        ]

    -- the step of the places is the step of the nodes
    in_body : (step : TurnStep) → IsStep (is_edge graph) (has one.body.items) one.head (changes_of changes cell) step
        → IsStep (is_edge graph) ((loops_in loops).body one.head) one.head (changes_of changes cell) step
    in_body step s = step_moves (is_edge graph) (has one.body.items) one.head (changes_of changes cell) (is_edge graph) ((loops_in loops).body one.head) one.head (changes_of changes cell)
        (λ n. n) (λ n. n) (into (changes_of changes cell)) (out (changes_of changes cell)) step s

    pub whole_step : (step : Option TurnStep) → IsStepOrNone (is_edge small) all_nodes place (steps_of ups downs) step
        → IsStepOrNone (is_edge graph) ((loops_in loops).body one.head) one.head (changes_of changes cell) step
    whole_step None none = λ step s. none step
        (step_moves (is_edge graph) (has one.body.items) one.head (changes_of changes cell) (is_edge small) all_nodes place (steps_of ups downs)
        (rank_in one.body.items) (λ i. get_or one.body.items i 0) inward outward step
        (step_moves (is_edge graph) ((loops_in loops).body one.head) one.head (changes_of changes cell) (is_edge graph) (has one.body.items) one.head (changes_of changes cell)
        (λ n. n) (λ n. n) (out (changes_of changes cell)) (into (changes_of changes cell)) step s))
    whole_step (Some step) s = in_body step
        (step_moves (is_edge small) all_nodes place (steps_of ups downs) (is_edge graph) (has one.body.items) one.head (changes_of changes cell)
        (λ i. get_or one.body.items i 0) (rank_in one.body.items) outward inward step s)
