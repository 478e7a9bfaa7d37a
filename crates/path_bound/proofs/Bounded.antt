-- The greatest cost of all walks, as it is told, or the node that is named where it can't be.
use Rattle.std.proofs.Common.{◌≡◌, ◌⊎◌, ◌↔◌, ◌*◌, ◌-◌, ℕ, zero, suc, ◌+◌, ◌<◌, ◌≤◌, inl, inr, Bool, true, false, Option, Some, None, List, [], ◌∷◌}
use Rattle.std.proofs.Common.{length, map, get_or, cond, ltb, refl, sym, ap, subst, ◌∙◌, arith, Vec, Global}
use Rattle.std.specs.Prelude.{min}
use Rattle.std.specs.List.{slice_get}
use Rattle.std.proofs.lemmas.Bool.{ltb-true, lt-ltb}
use Rattle.std.proofs.lemmas.Option.{slice_get_within}
use Rattle.bt_base.specs.Graph.{has, is_edge}
use Rattle.graph_laws.specs.Walk.{AreInside, end_of}
use Rattle.graph_laws.specs.Loops.{AreLoops, IsGreatestCost}
use Rattle.graph_laws.specs.Collapsed.{RankBelow, further_cost, steps_cost}
use Rattle.graph_laws.proofs.Stretches.{tells}
use Rattle.loop_nest.proofs.Lists.{has_take_all}
use Rattle.loop_nest.specs.LoopNest.{HeadsRise}
use Rattle.loop_nest.specs.declared.natural_loop.Loop.{Loop}
use Rattle.path_bound.specs.declared.choosing.Label.{Label}
use Rattle.path_bound.specs.declared.long_walk.LongWalk.{LongWalk}
use Rattle.path_bound.specs.declared.long_walk.Turn.{Turn}
use Rattle.path_bound.specs.declared.stepping.Step.{Step}
use Rattle.path_bound.specs.declared.weights.Costs.{Costs as Weights}
use Rattle.path_bound.specs.Blamed.{first_of, AreLarge}
use Rattle.path_bound.specs.Capped.{limit, cap}
use Rattle.path_bound.specs.Choosing.{label_at, cost_of}
use Rattle.path_bound.specs.Exact.{move_of, labels_by, laps_of, own_of}
use Rattle.path_bound.specs.LongWalk.{rest_of, turn_walk, turns_in, IsTold, AreTold, IsLongest, IsTooLarge}
use Rattle.path_bound.specs.Places.{place_of, held, loops_in, bound_in, costs_in}
use Rattle.path_bound.specs.Ranked.{rank_in, IsForwardOrder}
use Rattle.path_bound.specs.Steps.{moves, steps_at}
use Rattle.path_bound.specs.Turned.{task_of, size_of, IsGround, IsTurnOf, IsTurnAt, AreTurnedUpTo}
use Rattle.path_bound.specs.Turning.{ArePassed, IsFollowed, IsWeighed, toll}
use Rattle.path_bound.proofs.Best.{IsLabel}
use Rattle.path_bound.proofs.Final.{AreSame, further, toll_capped, steps_toll, full_next, full_of, full_fixed, told_full, lap_capped}
use Rattle.path_bound.proofs.Labelled.{starting, greatest, own_greatest}
use Rattle.path_bound.proofs.Ordered.{place_in}
use Rattle.path_bound.proofs.Named.{IsLoopOf, named}
use Rattle.path_bound.proofs.Placed.{IsLoopAt, place_is, place_reads, head_place}
use Rattle.path_bound.proofs.Told.{IsCapped, IsTrip, told_capped, trip_of}
use Rattle.path_bound.proofs.Turns.{laps_told, no_laps, capped_cost, capped_some, small}

-- sums up to the limit
told_sum : (s a b c d l : ℕ) → a ≡ min c l → b ≡ min d l → min (s + min (a + b) l) l ≡ min (s + (c + d)) l
told_sum s a b c d l e f = omega (arith, e, f)

below_limit : (s c d cost l : ℕ) → cost ≡ min (s + (c + d)) l → cost < l → cost ≡ s + (c + d)
below_limit s c d cost l e h = omega (arith, e, h)

exact_sum : (a b c d l : ℕ) → min a l ≡ min c l → min b l ≡ min d l → a + b < l → a + b ≡ c + d
exact_sum a b c d l e f h = omega (arith, e, f, h)

at_least_limit : (s c d cost l : ℕ) → cost ≡ min (s + (c + d)) l → l ≤ cost → l ≤ s + (c + d)
at_least_limit s c d cost l e h = omega (arith, e, h)

some_same : {A : Type 0} {x y : A} → Some x ≡ Some y → x ≡ y
some_same e = cc

-- the loop of a turn's head stands at its place
same_head : (turns : List Turn) (loops : List Loop) (k : ℕ) (one : Turn) → map (λ (x : Turn). x.head) turns ≡ map (λ (x : Loop). x.head) loops
    → slice_get turns k ≡ Some one → IsLoopAt loops k one.head
same_head [] loops k one e g = cc
same_head (t ∷ turns) [] k one e g = cc
same_head (t ∷ turns) (l ∷ loops) zero one e g =
    record { one = l; at = refl; head = let h : t.head ≡ l.head = cc in sym h ∙ ap (λ (x : Turn). x.head) (some_same g) }
same_head (t ∷ turns) (l ∷ loops) (suc k) one e g =
    let r : IsLoopAt loops k one.head = same_head turns loops k one
    (let h : map (λ (x : Turn). x.head) turns ≡ map (λ (x : Loop). x.head) loops = cc in h) g in record { one = r.one; at = r.at; head = r.head }

abbrev turn_cost : Option Turn → ℕ
turn_cost None = 0
turn_cost (Some one) = one.cost

-- what the walk of a head's turn costs
abbrev pub full : List Loop → List Turn → List (List ℕ) → List ℕ → Weights → List ℕ → ℕ → ℕ
full loops turns graph bounds costs order h = full_of (task_of graph loops bounds costs) (λ k. turn_walk (slice_get turns (place_of loops k))) (size_of order) h

-- what is known after all turns and a pass over all nodes
module _ (graph : List (List ℕ)) (entry : ℕ) (loops : List Loop) (bounds : List ℕ) (costs : Weights) (order : List ℕ) (whole : ℕ → Bool)
    (ground : IsGround (task_of graph loops bounds costs) order) (are : AreLoops (is_edge graph) entry (loops_in loops))
    (one : (h : ℕ) → (loops_in loops).has h ≡ true → 1 ≤ bound_in loops bounds h)
    (sorted : IsForwardOrder (is_edge graph) (loops_in loops) whole order) (within : (n m : ℕ) → is_edge graph n m ≡ true → whole m ≡ true)
    (here : whole entry ≡ true)
    (steps : List (Vec Step Global)) (rows : (n : ℕ)
    → steps_at steps n ≡ moves (λ m. cap ((costs_in costs).node n + (costs_in costs).edge n m)) (get_or graph n [])) (laps : List ℕ)
    (turns : List Turn)
    (turned : AreTurnedUpTo (task_of graph loops bounds costs) loops order (length order) laps turns) (rise : HeadsRise loops) where
  the_small : (n : ℕ) → rank_in order n < size_of order
  the_small n = small (task_of graph loops bounds costs) loops order ground n

  turn_at : (h : ℕ) → (loops_in loops).has h ≡ true → IsTurnAt (task_of graph loops bounds costs) order (λ n. get_or laps n 0) turns (place_of loops h) h
  turn_at h a = turned.each h a (has_take_all order (length order) h (omega arith) ∙ ground.placed h a)

  lap_told : (n : ℕ) → get_or laps n 0 ≡ cap (laps_of (task_of graph loops bounds costs) (size_of order) n)
  lap_told n = elim (tells ((loops_in loops).has n)) [
    | inl a ↦ laps_told (task_of graph loops bounds costs) loops order ground (λ n. get_or laps n 0) turns n a (turn_at n a)
    | inr a ↦ turned.others n (inl a) ∙ ap (λ (c : ℕ). cap c) (sym (no_laps (task_of graph loops bounds costs) loops order ground n a))
  ]

  turn_of : (h : ℕ) → (loops_in loops).has h ≡ true
      → IsTurnOf (task_of graph loops bounds costs) (rank_in order) (λ n. get_or laps n 0) h (turn_walk (slice_get turns (place_of loops h)))
      (turn_cost (slice_get turns (place_of loops h)))
  turn_of h a =
      let w : IsTurnAt (task_of graph loops bounds costs) order (λ n. get_or laps n 0) turns (place_of loops h) h = turn_at h a in
      subst (λ (o : Option Turn). IsTurnOf (task_of graph loops bounds costs) (rank_in order) (λ n. get_or laps n 0) h (turn_walk o) (turn_cost o))
      (sym w.at) w.turn

  full_told : (h : ℕ) → (loops_in loops).has h ≡ true → turn_cost (slice_get turns (place_of loops h)) ≡ cap (full loops turns graph bounds costs order h)
  full_told h a = told_full (task_of graph loops bounds costs) (rank_in order) (size_of order) the_small (λ n. get_or laps n 0)
      (λ k. turn_walk (slice_get turns (place_of loops k)))
      (λ k. turn_cost (slice_get turns (place_of loops k))) turn_of (λ n o. turned.others n (inl o)) h a

  full_is : (h : ℕ) → (loops_in loops).has h ≡ true → full loops turns graph bounds costs order h
      ≡ full_next (task_of graph loops bounds costs) (λ k. turn_walk (slice_get turns (place_of loops k))) (full loops turns graph bounds costs order) h
  full_is h a = full_fixed (task_of graph loops bounds costs) (rank_in order) (size_of order) the_small (λ n. get_or laps n 0)
      (λ k. turn_walk (slice_get turns (place_of loops k)))
      (λ k. turn_cost (slice_get turns (place_of loops k))) turn_of (λ n o. turned.others n (inl o)) h a

  -- the laps that are told are those of what the turns cost, up to the limit
  lap_full : (n : ℕ) → cap (get_or laps n 0) ≡ cap (further (loops_in loops) (bound_in loops bounds) (full loops turns graph bounds costs order) n)
  lap_full n = by (tells ((loops_in loops).has n))
    where
      twice : (x l : ℕ) → min (min x l) l ≡ min x l
      twice x l = omega arith

      by : ((loops_in loops).has n ≡ true) ⊎ ((loops_in loops).has n ≡ false)
          → cap (get_or laps n 0) ≡ cap (further (loops_in loops) (bound_in loops bounds) (full loops turns graph bounds costs order) n)
      by (inl a) =
          ap (λ (x : ℕ). cap x) (turn_of n a).lap
          ∙ (twice ((bound_in loops bounds n - 1) * turn_cost (slice_get turns (place_of loops n))) limit
          ∙ (ap (λ (x : ℕ). cap ((bound_in loops bounds n - 1) * x)) (full_told n a)
          ∙ (lap_capped (bound_in loops bounds n - 1) (full loops turns graph bounds costs order n)
          ∙ sym (ap (λ (c : Bool). cap (cond c ((bound_in loops bounds n - 1) * full loops turns graph bounds costs order n) 0)) a))))
      by (inr a) =
          ap (λ (x : ℕ). cap x) (turned.others n (inl a))
          ∙ sym (ap (λ (c : Bool). cap (cond c ((bound_in loops bounds n - 1) * full loops turns graph bounds costs order n) 0)) a)

  laps_full : (rest : List ℕ) → AreSame (λ n. get_or laps n 0)
      (further (loops_in loops) (bound_in loops bounds) (full loops turns graph bounds costs order)) rest
  laps_full [] = tt
  laps_full (n ∷ rest) = (lap_full n, laps_full rest)

  -- the turns are told
  the_turns : AreTold (is_edge graph) loops (bound_in loops bounds) (costs_in costs) turns (full loops turns graph bounds costs order)
  the_turns = record {
    heads = turned.heads;
    each = λ k one e. told k one e;
    rank = rank_in order;
    turns = record {
      walk = λ h a. (turn_of h a).walked;
      back = λ h a. (turn_of h a).back;
      inside = λ h a. (turn_of h a).stays;
      forward = λ h a. (turn_of h a).forward;
      cost = λ h a. full_is h a ∙ ap (λ (s : ℕ). s + move_of (task_of graph loops bounds costs) (end_of h (turn_walk (slice_get turns (place_of loops h)))) h)
          (sym (steps_toll (loops_in loops) (bound_in loops bounds) (costs_in costs)
          (turns_in loops turns (full loops turns graph bounds costs order)) h (turn_walk (slice_get turns (place_of loops h)))));
      lower = λ h a. lower h (turn_walk (slice_get turns (place_of loops h))) (turn_of h a).lower;
    };
  }
    where
      lower : (h : ℕ) (rest : List ℕ) → AreInside (λ m. ltb (rank_in order m) (rank_in order h)) rest
          → RankBelow (loops_in loops) (rank_in order) (rank_in order h) rest
      lower h [] s = tt
      lower h (m ∷ rest) s = ((λ a. ltb-true (rank_in order m) (rank_in order h) s.0), lower h rest s.1)

      told : (k : ℕ) (one : Turn) → slice_get turns k ≡ Some one → IsTold (full loops turns graph bounds costs order) one
      told k one e =
          let l : IsLoopAt loops k one.head = same_head turns loops k one turned.heads e in
          let p : place_of loops one.head ≡ k = ap (place_of loops) (sym l.head) ∙ place_is loops rise k l.one l.at in
          let a : (loops_in loops).has one.head ≡ true =
          head_place loops one.head ∙ lt-ltb (place_of loops one.head) (length loops)
          (let w : k < length loops = slice_get_within loops k l.one l.at in omega (arith, w, p)) in
          let w : IsTurnAt (task_of graph loops bounds costs) order (λ n. get_or laps n 0) turns (place_of loops one.head) one.head = turn_at one.head a in
          let s : slice_get turns (place_of loops one.head) ≡ Some one = ap (slice_get turns) p ∙ e in
          let q : w.one ≡ one = some_same (sym w.at ∙ s) in
          record {
            rest = rest_of one.walk.items;
            begins = subst (λ (x : Turn). x.walk.items ≡ one.head ∷ rest_of x.walk.items) q w.begins;
            cost = sym (ap turn_cost s) ∙ full_told one.head a;
          }

  -- a pass over all nodes
  module _ (node : List ℕ) (node_is : (n : ℕ) → get_or node n 0 ≡ (costs_in costs).node n) (labels : List (Option Label))
      (passed : ArePassed order None node steps laps labels) where
    like : IsCapped (label_at labels entry)
        (labels_by (task_of graph loops bounds costs) whole None (laps_of (task_of graph loops bounds costs) (size_of order)) (size_of order) entry)
    like = told_capped (task_of graph loops bounds costs) whole order sorted None node steps laps labels passed node_is rows (rank_in order)
        (size_of order) the_small ground.falls
        (λ n i. place_in order n (sorted.sorted.same n ∙ i)) (laps_of (task_of graph loops bounds costs) (size_of order)) (λ m i e. lap_told m) entry here

    label : (a : Label) × (label_at labels entry ≡ Some a)
    label =
        let l : IsLabel (labels_by (task_of graph loops bounds costs) whole None (laps_of (task_of graph loops bounds costs) (size_of order))
        (size_of order) entry) ((costs_in costs).node entry) =
        starting (task_of graph loops bounds costs) whole (rank_in order) (size_of order) the_small ground.falls ground.inner within whole entry in
        capped_some (label_at labels entry)
        (labels_by (task_of graph loops bounds costs) whole None (laps_of (task_of graph loops bounds costs) (size_of order))
        (size_of order) entry) ((costs_in costs).node entry) like l

    -- the greatest cost of all walks
    pub is_greatest : IsGreatestCost (is_edge graph) entry (loops_in loops) (bound_in loops bounds) (costs_in costs)
        (laps_of (task_of graph loops bounds costs) (size_of order) entry
        + cost_of (labels_by (task_of graph loops bounds costs) whole None (laps_of (task_of graph loops bounds costs) (size_of order)) (size_of order) entry))
    is_greatest = greatest (task_of graph loops bounds costs) whole (rank_in order) (size_of order) the_small ground.falls ground.inner within entry are one

    module _ (cost : ℕ) (told : cost ≡ cap (costs.start + cap (get_or laps entry 0 + cost_of (label_at labels entry)))) where
      sum_told : cost ≡ cap (costs.start + (laps_of (task_of graph loops bounds costs) (size_of order) entry
          + cost_of (labels_by (task_of graph loops bounds costs) whole None (laps_of (task_of graph loops bounds costs) (size_of order))
          (size_of order) entry)))
      sum_told = told ∙ told_sum costs.start (get_or laps entry 0) (cost_of (label_at labels entry))
          (laps_of (task_of graph loops bounds costs) (size_of order) entry)
          (cost_of (labels_by (task_of graph loops bounds costs) whole None (laps_of (task_of graph loops bounds costs) (size_of order))
          (size_of order) entry)) limit (lap_told entry)
          (capped_cost (label_at labels entry)
          (labels_by (task_of graph loops bounds costs) whole None (laps_of (task_of graph loops bounds costs) (size_of order))
          (size_of order) entry) like)

      pub is_large : limit ≤ cost → limit ≤ costs.start + (laps_of (task_of graph loops bounds costs) (size_of order) entry
          + cost_of (labels_by (task_of graph loops bounds costs) whole None (laps_of (task_of graph loops bounds costs) (size_of order))
          (size_of order) entry))
      is_large h = at_least_limit costs.start (laps_of (task_of graph loops bounds costs) (size_of order) entry)
          (cost_of (labels_by (task_of graph loops bounds costs) whole None (laps_of (task_of graph loops bounds costs) (size_of order))
          (size_of order) entry)) cost limit sum_told h

      module _ (fits : cost < limit) (walk : List ℕ) (followed : IsFollowed labels entry walk) where
        trip : IsTrip (task_of graph loops bounds costs) whole None (λ m. get_or laps m 0) (rank_in order) entry followed.rest label.0
        trip = trip_of (task_of graph loops bounds costs) whole order sorted None node steps laps labels passed node_is rows (rank_in order) ground.falls
            (λ n i. place_in order n (sorted.sorted.same n ∙ i)) followed.rest entry label.0 here label.1 followed.leads followed.ends

        is_sum : cost ≡ costs.start + (laps_of (task_of graph loops bounds costs) (size_of order) entry
            + cost_of (labels_by (task_of graph loops bounds costs) whole None (laps_of (task_of graph loops bounds costs) (size_of order))
            (size_of order) entry))
        is_sum = below_limit costs.start (laps_of (task_of graph loops bounds costs) (size_of order) entry)
            (cost_of (labels_by (task_of graph loops bounds costs) whole None (laps_of (task_of graph loops bounds costs) (size_of order))
            (size_of order) entry)) cost limit sum_told fits

        lap_here : cap (laps_of (task_of graph loops bounds costs) (size_of order) entry) ≡
            cap (further (loops_in loops) (bound_in loops bounds) (full loops turns graph bounds costs order) entry)
        lap_here = sym (twice (laps_of (task_of graph loops bounds costs) (size_of order) entry) limit)
            ∙ (ap (λ (x : ℕ). cap x) (sym (lap_told entry)) ∙ lap_full entry)
          where
            twice : (x l : ℕ) → min (min x l) l ≡ min x l
            twice x l = omega arith

        rest_here : cap (cost_of (labels_by (task_of graph loops bounds costs) whole None
            (laps_of (task_of graph loops bounds costs) (size_of order)) (size_of order) entry))
            ≡ cap (toll (costs_in costs) (further (loops_in loops) (bound_in loops bounds) (full loops turns graph bounds costs order)) entry
            followed.rest + (costs_in costs).node (end_of entry followed.rest))
        rest_here =
            sym (capped_cost (label_at labels entry)
            (labels_by (task_of graph loops bounds costs) whole None (laps_of (task_of graph loops bounds costs) (size_of order))
            (size_of order) entry) like)
            ∙ (ap cost_of label.1 ∙ (trip.cost
            ∙ toll_capped (costs_in costs) (λ n. get_or laps n 0)
            (further (loops_in loops) (bound_in loops bounds) (full loops turns graph bounds costs order)) entry followed.rest
            ((costs_in costs).node (end_of entry followed.rest)) (laps_full followed.rest)))

        -- what is found is the longest walk, with its turns
        pub is_longest : (long : LongWalk) → long.cost ≡ cost → long.walk.items ≡ walk → long.turns.items ≡ turns
            → IsLongest (is_edge graph) entry loops bounds costs long
        is_longest long c w s = record {
          greatest = laps_of (task_of graph loops bounds costs) (size_of order) entry
              + cost_of (labels_by (task_of graph loops bounds costs) whole None (laps_of (task_of graph loops bounds costs) (size_of order))
              (size_of order) entry);
          is = is_greatest;
          cost = c ∙ is_sum;
          fits = omega (arith, c, fits);
          full = full loops turns graph bounds costs order;
          told = subst (λ (list : List Turn). AreTold (is_edge graph) loops (bound_in loops bounds) (costs_in costs) list
              (full loops turns graph bounds costs order)) (sym s) the_turns;
          rest = followed.rest;
          begins = w ∙ followed.begins;
          walk = trip.walk;
          forward = trip.forward;
          spends = subst (λ (list : List Turn). laps_of (task_of graph loops bounds costs) (size_of order) entry
              + cost_of (labels_by (task_of graph loops bounds costs) whole None (laps_of (task_of graph loops bounds costs) (size_of order))
              (size_of order) entry)
              ≡ further_cost (loops_in loops) (bound_in loops bounds) (turns_in loops list (full loops turns graph bounds costs order)) entry
              + (steps_cost (loops_in loops) (bound_in loops bounds) (costs_in costs)
              (turns_in loops list (full loops turns graph bounds costs order)) entry followed.rest
              + (costs_in costs).node (end_of entry followed.rest))) (sym s)
              (exact_sum (laps_of (task_of graph loops bounds costs) (size_of order) entry)
              (cost_of (labels_by (task_of graph loops bounds costs) whole None (laps_of (task_of graph loops bounds costs) (size_of order))
              (size_of order) entry))
              (further (loops_in loops) (bound_in loops bounds) (full loops turns graph bounds costs order) entry)
              (toll (costs_in costs) (further (loops_in loops) (bound_in loops bounds) (full loops turns graph bounds costs order)) entry
              followed.rest + (costs_in costs).node (end_of entry followed.rest))
              limit lap_here rest_here (omega (arith, is_sum, fits))
              ∙ ap (λ (x : ℕ). further (loops_in loops) (bound_in loops bounds)
              (full loops turns graph bounds costs order) entry + (x + (costs_in costs).node (end_of entry followed.rest)))
              (sym (steps_toll (loops_in loops) (bound_in loops bounds) (costs_in costs)
              (turns_in loops turns (full loops turns graph bounds costs order)) entry followed.rest)));
        }

  module _ (node : List ℕ) (node_is : (n : ℕ) → get_or node n 0 ≡ (costs_in costs).node n) where
    -- the marks of loops are those of their own greatest costs
    pub weighed : (h : ℕ) → (loops_in loops).has h ≡ true → (one : Loop) → one.head ≡ h
        → ((n : ℕ) → (loops_in loops).body h n ≡ has one.body.items n) → (large : Bool)
        → IsWeighed (is_edge graph) (loops_in loops) one node steps laps large
        → (large ≡ true) ↔ (limit ≤ laps_of (task_of graph loops bounds costs) (size_of order) h + own_of (task_of graph loops bounds costs)
        (size_of order) h h)
    weighed h a one_loop named body large w =
        let s : IsForwardOrder (is_edge graph) (loops_in loops) ((loops_in loops).body h) w.nodes =
        ground.forward h w.nodes a (record {
          same = λ n. w.sorted.same n ∙ sym (body n);
          once = w.sorted.once;
          before = λ k m l b. w.sorted.before k m l (sym (body m) ∙ b);
        }) in
        let like : IsCapped (label_at w.labels h)
        (labels_by (task_of graph loops bounds costs) ((loops_in loops).body h) None (laps_of (task_of graph loops bounds costs) (size_of order))
        (size_of order) h) =
        told_capped (task_of graph loops bounds costs) ((loops_in loops).body h) w.nodes s None node steps laps w.labels w.passed node_is rows
        (rank_in order) (size_of order) the_small ground.falls
        (λ n i. place_in w.nodes n (s.sorted.same n ∙ i)) (laps_of (task_of graph loops bounds costs) (size_of order)) (λ m i e. lap_told m) h
        (ground.head h a) in
        let c : cost_of (label_at w.labels h) ≡ cap (own_of (task_of graph loops bounds costs) (size_of order) h h) =
        capped_cost (label_at w.labels h) (labels_by (task_of graph loops bounds costs) ((loops_in loops).body h) None
        (laps_of (task_of graph loops bounds costs) (size_of order)) (size_of order) h) like in
        let says : (large ≡ true) ↔ (limit ≤ cap (get_or laps h 0 + cost_of (label_at w.labels h))) =
        subst (λ (k : ℕ). (large ≡ true) ↔ (limit ≤ cap (get_or laps k 0 + cost_of (label_at w.labels k)))) named w.says in (
          (λ t. over (get_or laps h 0) (cost_of (label_at w.labels h)) (laps_of (task_of graph loops bounds costs) (size_of order) h)
              (own_of (task_of graph loops bounds costs) (size_of order) h h) limit (lap_told h) c (says.0 t)),
          (λ l. says.1 (back (get_or laps h 0) (cost_of (label_at w.labels h)) (laps_of (task_of graph loops bounds costs) (size_of order) h)
              (own_of (task_of graph loops bounds costs) (size_of order) h h) limit (lap_told h) c l)),
        )
      where
        over : (a b c d l : ℕ) → a ≡ min c l → b ≡ min d l → l ≤ min (a + b) l → l ≤ c + d
        over a b c d l e f h = omega (arith, e, f, h)

        back : (a b c d l : ℕ) → a ≡ min c l → b ≡ min d l → l ≤ c + d → l ≤ min (a + b) l
        back a b c d l e f h = omega (arith, e, f, h)

    module _ (large : ℕ → Bool) (marks : AreLarge (is_edge graph) loops (loops_in loops) node steps laps large) where
      the_loop : (h : ℕ) → (loops_in loops).has h ≡ true → IsLoopOf (loops_in loops) loops h
      the_loop h a =
          let r : IsLoopAt loops (place_of loops h) h = place_reads loops h (ltb-true (place_of loops h) (length loops) (sym (head_place loops h) ∙ a)) in
          record { place = place_of loops h; one = r.one; at = r.at; head = r.head }

      is_there : (k : ℕ) (one_loop : Loop) → slice_get loops k ≡ Some one_loop → (loops_in loops).has one_loop.head ≡ true
      is_there k one_loop e =
          let p : place_of loops one_loop.head ≡ k = place_is loops rise k one_loop e in
          let w : k < length loops = slice_get_within loops k one_loop e in
          head_place loops one_loop.head ∙ lt-ltb (place_of loops one_loop.head) (length loops) (omega (arith, p, w))

      the_body : (k n : ℕ) (one_loop : Loop) → slice_get loops k ≡ Some one_loop → (loops_in loops).body one_loop.head n ≡ has one_loop.body.items n
      the_body k n one_loop e = ap (λ (o : Option Loop). held o n) (ap (slice_get loops) (place_is loops rise k one_loop e) ∙ e)

      says : (h : ℕ) → (loops_in loops).has h ≡ true
          → (large h ≡ true) ↔ (limit ≤ laps_of (task_of graph loops bounds costs) (size_of order) h + own_of (task_of graph loops bounds costs)
          (size_of order) h h)
      says h a =
          let r : IsLoopOf (loops_in loops) loops h = the_loop h a in
          weighed h a r.one r.head (λ n. ap (λ (x : ℕ). (loops_in loops).body x n) (sym r.head) ∙ the_body r.place n r.one r.at) (large h)
          (subst (λ (x : ℕ). IsWeighed (is_edge graph) (loops_in loops) r.one node steps laps (large x)) r.head (marks.each r.place r.one r.at))

      -- the greatest cost is too large, and a node is named
      pub is_too_large : (labels : List (Option Label)) → ArePassed order None node steps laps labels → (cost : ℕ)
          → cost ≡ cap (costs.start + cap (get_or laps entry 0 + cost_of (label_at labels entry))) → limit ≤ cost
          → IsTooLarge (is_edge graph) entry loops bounds costs (first_of large loops entry)
      is_too_large labels passed cost told l = record {
        greatest = laps_of (task_of graph loops bounds costs) (size_of order) entry
            + cost_of (labels_by (task_of graph loops bounds costs) whole None (laps_of (task_of graph loops bounds costs) (size_of order))
            (size_of order) entry);
        is = is_greatest node node_is labels passed;
        large = is_large node node_is labels passed cost told l;
        own = λ h. laps_of (task_of graph loops bounds costs) (size_of order) h + own_of (task_of graph loops bounds costs) (size_of order) h h;
        owns = own_greatest (task_of graph loops bounds costs) whole (rank_in order) (size_of order) the_small ground.falls ground.inner within entry are one;
        named = named (loops_in loops) loops rise the_loop is_there the_body large
            (λ h. laps_of (task_of graph loops bounds costs) (size_of order) h + own_of (task_of graph loops bounds costs) (size_of order) h h) says
            marks.others entry;
      }
