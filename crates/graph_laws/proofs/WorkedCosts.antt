-- The costs of the worked graphs, by their labels.
use Rattle.graph_laws.proofs.Expanded.{collapsed_expand}
use Rattle.graph_laws.specs.Collapsed.{RankBelow, steps_cost, IsExpanded}
use Rattle.graph_laws.specs.Walk.{IsWalk, AreInside, end_of}
use Rattle.std.proofs.Common.{◌≡◌, ◌≢◌, ◌==◌, ◌⊎◌, ℕ, zero, suc, ◌+◌, ◌≤◌, inl, inr, true, false, Option, Some, None, refl, sym, arith, [], ◌∷◌}
use Rattle.graph_laws.specs.Loops.{AreLoops, is_back, edges_inside, IsForward}
use Rattle.graph_laws.specs.Labels.{Labels, step_cost, IsAtLeast, AreLabels, IsAsked, AreChosen}
use Rattle.graph_laws.specs.Nest.{loops_of}
use Rattle.graph_laws.specs.Worked.{ones, two_nodes, below_two, two_loops, LoopOfTwoCostsSix, nested, nested_body, nested_nest, nested_bound}
use Rattle.graph_laws.specs.Worked.{NestedLoopsCostFourteen, InnerLoopCostsSix, one_up, CounterMeetsItsBound, nested_turns, nested_turn_walk}
use Rattle.graph_laws.specs.Worked.{nested_turn_cost, CollapsedWalkCostsFourteen}
use Rattle.graph_laws.specs.WorkedNests.{LoopOfTwoHasLabels}
use Rattle.graph_laws.proofs.Attained.{chosen_greatest, own_greatest}
use Rattle.graph_laws.proofs.Counters.{rising_sums}
use Rattle.graph_laws.proofs.WorkedNests.{nested_are_loops}

some_is : {a b : ℕ} → ◌≡◌ {A = Option ℕ} (Some a) (Some b) → a ≡ b
some_is e = cc

-- the loop of two nodes
two_entered : (h n m : ℕ) → two_loops.has h ≡ true → two_nodes n m ≡ true → two_loops.body h n ≡ false → two_loops.body h m ≡ true → m ≡ h
two_entered zero zero m a e o i = cc
two_entered zero (suc zero) m a e o i = cc
two_entered zero (suc (suc n)) m a e o i = cc
two_entered (suc h) n m a e o i = cc

two_at_entry : (h : ℕ) → two_loops.has h ≡ true → two_loops.body h 0 ≡ true → 0 ≡ h
two_at_entry zero a i = refl
two_at_entry (suc h) a i = cc

two_head : (h : ℕ) → two_loops.has h ≡ true → two_loops.body h h ≡ true
two_head zero a = refl
two_head (suc h) a = cc

two_within : (h k n : ℕ) → two_loops.has h ≡ true → two_loops.has k ≡ true → two_loops.body k h ≡ true → h ≢ k → two_loops.body h n ≡ true
    → two_loops.body k n ≡ true
two_within zero zero n a b i ne j = j
two_within (suc h) k n a b i ne j = cc
two_within zero (suc k) n a b i ne j = cc

two_apart : (h k : ℕ) → two_loops.has h ≡ true → two_loops.has k ≡ true → two_loops.body k h ≡ true → h ≢ k → two_loops.body h k ≡ false
two_apart zero zero a b i ne = absurd (ne refl)
two_apart (suc h) k a b i ne = cc
two_apart zero (suc k) a b i ne = cc

two_are_loops : AreLoops two_nodes 0 two_loops
two_are_loops = record { head = two_head; entered = two_entered; at_entry = two_at_entry; within = two_within; apart = two_apart }

abbrev two_rest : ℕ → ℕ
two_rest zero = 2
two_rest (suc n) = 1

abbrev two_turn_of : ℕ → Option ℕ
two_turn_of zero = Some 2
two_turn_of (suc zero) = Some 1
two_turn_of (suc (suc n)) = None

abbrev two_turn : ℕ → ℕ → Option ℕ
two_turn zero n = two_turn_of n
two_turn (suc h) n = None

abbrev two_labels : Labels
two_labels = record { rest = two_rest; turn = two_turn }

abbrev two_rank : ℕ → ℕ
two_rank zero = 1
two_rank (suc n) = 0

two_node : (n : ℕ) → 1 ≤ two_rest n
two_node zero = omega arith
two_node (suc n) = omega arith

two_falls : (n m : ℕ) → two_nodes n m ≡ true → is_back two_loops n m ≡ false → step_cost two_loops (λ _. 3) ones two_labels n m + two_rest m ≤ two_rest n
two_falls zero zero e f = cc
two_falls zero (suc zero) e f = omega arith
two_falls zero (suc (suc zero)) e f = omega arith
two_falls zero (suc (suc (suc m))) e f = cc
two_falls (suc zero) zero e f = cc
two_falls (suc zero) (suc m) e f = cc
two_falls (suc (suc n)) m e f = cc

two_turns : (h n m v : ℕ) → two_loops.has h ≡ true → 2 ≤ 3 → two_loops.body h n ≡ true → two_loops.body h m ≡ true → two_nodes n m ≡ true
    → is_back two_loops n m ≡ false
    → two_turn h m ≡ Some v → IsAtLeast (two_turn h n) (step_cost two_loops (λ _. 3) ones two_labels n m + v)
two_turns zero zero zero v a t i j e f l = cc
two_turns zero zero (suc zero) v a t i j e f l = record { value = 2; is = refl; least = (let q : 1 ≡ v = some_is l in omega (arith, q)) }
two_turns zero zero (suc (suc m)) v a t i j e f l = cc
two_turns zero (suc zero) zero v a t i j e f l = cc
two_turns zero (suc zero) (suc m) v a t i j e f l = cc
two_turns zero (suc (suc n)) m v a t i j e f l = cc
two_turns (suc h) n m v a t i j e f l = cc

two_backs : (h n : ℕ) → two_loops.has h ≡ true → 2 ≤ 3 → two_loops.body h n ≡ true → two_nodes n h ≡ true
    → IsAtLeast (two_turn h n) (ones.node n + ones.edge n h)
two_backs zero zero a t i e = cc
two_backs zero (suc zero) a t i e = record { value = 1; is = refl; least = omega arith }
two_backs zero (suc (suc n)) a t i e = cc
two_backs (suc h) n a t i e = cc

two_are_labels : AreLabels two_nodes two_loops (λ _. 3) ones two_labels
two_are_labels = record { node = two_node; rest = two_falls; turn = two_turns; back = two_backs }

two_chosen_rest : (n : ℕ) → (two_rest n ≡ ones.node n) ⊎ IsAsked two_nodes two_loops (λ _. 3) ones two_labels two_rank (λ m. Some (two_rest m)) n (two_rest n)
two_chosen_rest zero = inr (record { next = 1; asked = 1; leads = refl; forward = refl; lower = omega arith; label = refl; is = refl })
two_chosen_rest (suc n) = inl refl

two_chosen_turn : (h n v : ℕ) → two_loops.has h ≡ true → two_loops.body h n ≡ true → two_turn h n ≡ Some v
    → ((two_nodes n h ≡ true) × (v ≡ ones.node n + ones.edge n h))
    ⊎ IsAsked (edges_inside two_nodes (two_loops.body h)) two_loops (λ _. 3) ones two_labels two_rank (two_turn h) n v
two_chosen_turn zero zero v a i l = inr (record { next = 1; asked = 1; leads = refl; forward = refl; lower = omega arith; label = refl; is = sym (some_is l) })
two_chosen_turn zero (suc zero) v a i l = inl (refl, sym (some_is l))
two_chosen_turn zero (suc (suc n)) v a i l = cc
two_chosen_turn (suc h) n v a i l = cc

two_chosen : AreChosen two_nodes two_loops (λ _. 3) ones two_labels two_rank
two_chosen = record { rest = two_chosen_rest; turn = two_chosen_turn }

-- a loop of two nodes whose head is passed at most three times, with an exit from its head, costs six where each node
-- costs one
pub two_cost : LoopOfTwoCostsSix
two_cost = chosen_greatest two_nodes 0 two_loops (λ _. 3) ones two_labels two_rank two_are_loops (λ h a. omega arith) two_are_labels two_chosen

-- the loop of two nodes has labels that ask enough, each what some edge asks, and they say six
pub two_has_labels : LoopOfTwoHasLabels
two_has_labels = record { labels = two_labels; rank = two_rank; asked = two_are_labels; chosen = two_chosen; says = refl }

-- the nested loops
abbrev nested_rest : ℕ → ℕ
nested_rest zero = 7
nested_rest (suc zero) = 2
nested_rest (suc (suc n)) = 1

abbrev outer_turn : ℕ → Option ℕ
outer_turn zero = Some 7
outer_turn (suc zero) = Some 2
outer_turn (suc (suc zero)) = Some 1
outer_turn (suc (suc (suc n))) = None

abbrev inner_turn : ℕ → Option ℕ
inner_turn zero = None
inner_turn (suc zero) = Some 2
inner_turn (suc (suc zero)) = Some 1
inner_turn (suc (suc (suc n))) = None

abbrev nested_turn : ℕ → ℕ → Option ℕ
nested_turn zero n = outer_turn n
nested_turn (suc zero) n = inner_turn n
nested_turn (suc (suc h)) n = None

abbrev nested_labels : Labels
nested_labels = record { rest = nested_rest; turn = nested_turn }

abbrev nested_rank : ℕ → ℕ
nested_rank zero = 2
nested_rank (suc zero) = 1
nested_rank (suc (suc n)) = 0

nested_node : (n : ℕ) → 1 ≤ nested_rest n
nested_node zero = omega arith
nested_node (suc zero) = omega arith
nested_node (suc (suc n)) = omega arith

nested_falls : (n m : ℕ) → nested n m ≡ true → is_back (loops_of nested_nest) n m ≡ false
    → step_cost (loops_of nested_nest) nested_bound ones nested_labels n m + nested_rest m ≤ nested_rest n
nested_falls zero zero e f = cc
nested_falls zero (suc zero) e f = omega arith
nested_falls zero (suc (suc m)) e f = cc
nested_falls (suc zero) zero e f = cc
nested_falls (suc zero) (suc zero) e f = cc
nested_falls (suc zero) (suc (suc zero)) e f = omega arith
nested_falls (suc zero) (suc (suc (suc m))) e f = cc
nested_falls (suc (suc zero)) zero e f = cc
nested_falls (suc (suc zero)) (suc zero) e f = cc
nested_falls (suc (suc zero)) (suc (suc m)) e f = cc
nested_falls (suc (suc (suc n))) m e f = cc

nested_turn_asks : (h n m v : ℕ) → nested_nest.has h ≡ true → 2 ≤ nested_bound h → nested_body h n ≡ true → nested_body h m ≡ true
    → nested n m ≡ true → is_back (loops_of nested_nest) n m ≡ false
    → nested_turn h m ≡ Some v → IsAtLeast (nested_turn h n) (step_cost (loops_of nested_nest) nested_bound ones nested_labels n m + v)
nested_turn_asks zero zero zero v a t i j e f l = cc
nested_turn_asks zero zero (suc zero) v a t i j e f l = record { value = 7; is = refl; least = (let q : 2 ≡ v = some_is l in omega (arith, q)) }
nested_turn_asks zero zero (suc (suc m)) v a t i j e f l = cc
nested_turn_asks zero (suc zero) zero v a t i j e f l = cc
nested_turn_asks zero (suc zero) (suc zero) v a t i j e f l = cc
nested_turn_asks zero (suc zero) (suc (suc zero)) v a t i j e f l = record { value = 2; is = refl; least = (let q : 1 ≡ v = some_is l in omega (arith, q)) }
nested_turn_asks zero (suc zero) (suc (suc (suc m))) v a t i j e f l = cc
nested_turn_asks zero (suc (suc zero)) zero v a t i j e f l = cc
nested_turn_asks zero (suc (suc zero)) (suc zero) v a t i j e f l = cc
nested_turn_asks zero (suc (suc zero)) (suc (suc m)) v a t i j e f l = cc
nested_turn_asks zero (suc (suc (suc n))) m v a t i j e f l = cc
nested_turn_asks (suc zero) zero m v a t i j e f l = cc
nested_turn_asks (suc zero) (suc zero) zero v a t i j e f l = cc
nested_turn_asks (suc zero) (suc zero) (suc zero) v a t i j e f l = cc
nested_turn_asks (suc zero) (suc zero) (suc (suc zero)) v a t i j e f l =
    record { value = 2; is = refl; least = (let q : 1 ≡ v = some_is l in omega (arith, q)) }
nested_turn_asks (suc zero) (suc zero) (suc (suc (suc m))) v a t i j e f l = cc
nested_turn_asks (suc zero) (suc (suc zero)) zero v a t i j e f l = cc
nested_turn_asks (suc zero) (suc (suc zero)) (suc zero) v a t i j e f l = cc
nested_turn_asks (suc zero) (suc (suc zero)) (suc (suc m)) v a t i j e f l = cc
nested_turn_asks (suc zero) (suc (suc (suc n))) m v a t i j e f l = cc
nested_turn_asks (suc (suc h)) n m v a t i j e f l = cc

nested_backs : (h n : ℕ) → nested_nest.has h ≡ true → 2 ≤ nested_bound h → nested_body h n ≡ true → nested n h ≡ true
    → IsAtLeast (nested_turn h n) (ones.node n + ones.edge n h)
nested_backs zero zero a t i e = cc
nested_backs zero (suc zero) a t i e = cc
nested_backs zero (suc (suc zero)) a t i e = record { value = 1; is = refl; least = omega arith }
nested_backs zero (suc (suc (suc n))) a t i e = cc
nested_backs (suc zero) zero a t i e = cc
nested_backs (suc zero) (suc zero) a t i e = cc
nested_backs (suc zero) (suc (suc zero)) a t i e = record { value = 1; is = refl; least = omega arith }
nested_backs (suc zero) (suc (suc (suc n))) a t i e = cc
nested_backs (suc (suc h)) n a t i e = cc

nested_are_labels : AreLabels nested (loops_of nested_nest) nested_bound ones nested_labels
nested_are_labels = record { node = nested_node; rest = nested_falls; turn = nested_turn_asks; back = nested_backs }

nested_chosen_rest : (n : ℕ) → (nested_rest n ≡ ones.node n)
    ⊎ IsAsked nested (loops_of nested_nest) nested_bound ones nested_labels nested_rank (λ m. Some (nested_rest m)) n (nested_rest n)
nested_chosen_rest zero = inr (record { next = 1; asked = 2; leads = refl; forward = refl; lower = omega arith; label = refl; is = refl })
nested_chosen_rest (suc zero) = inr (record { next = 2; asked = 1; leads = refl; forward = refl; lower = omega arith; label = refl; is = refl })
nested_chosen_rest (suc (suc n)) = inl refl

nested_chosen_turn : (h n v : ℕ) → nested_nest.has h ≡ true → nested_body h n ≡ true → nested_turn h n ≡ Some v
    → ((nested n h ≡ true) × (v ≡ ones.node n + ones.edge n h))
    ⊎ IsAsked (edges_inside nested (nested_body h)) (loops_of nested_nest) nested_bound ones nested_labels nested_rank (nested_turn h) n v
nested_chosen_turn zero zero v a i l =
    inr (record { next = 1; asked = 2; leads = refl; forward = refl; lower = omega arith; label = refl; is = sym (some_is l) })
nested_chosen_turn zero (suc zero) v a i l =
    inr (record { next = 2; asked = 1; leads = refl; forward = refl; lower = omega arith; label = refl; is = sym (some_is l) })
nested_chosen_turn zero (suc (suc zero)) v a i l = inl (refl, sym (some_is l))
nested_chosen_turn zero (suc (suc (suc n))) v a i l = cc
nested_chosen_turn (suc zero) zero v a i l = cc
nested_chosen_turn (suc zero) (suc zero) v a i l =
    inr (record { next = 2; asked = 1; leads = refl; forward = refl; lower = omega arith; label = refl; is = sym (some_is l) })
nested_chosen_turn (suc zero) (suc (suc zero)) v a i l = inl (refl, sym (some_is l))
nested_chosen_turn (suc zero) (suc (suc (suc n))) v a i l = cc
nested_chosen_turn (suc (suc h)) n v a i l = cc

nested_chosen : AreChosen nested (loops_of nested_nest) nested_bound ones nested_labels nested_rank
nested_chosen = record { rest = nested_chosen_rest; turn = nested_chosen_turn }

nested_bounded : (h : ℕ) → nested_nest.has h ≡ true → 1 ≤ nested_bound h
nested_bounded zero a = omega arith
nested_bounded (suc h) a = omega arith

-- two nested loops, with two passes of the outer head and three of the inner: fourteen
pub nested_cost : NestedLoopsCostFourteen
nested_cost = chosen_greatest nested 0
    (loops_of nested_nest) nested_bound ones nested_labels nested_rank nested_are_loops nested_bounded nested_are_labels nested_chosen

-- the inner loop's own labels
abbrev own_rest : ℕ → ℕ
own_rest zero = 1
own_rest (suc zero) = 2
own_rest (suc (suc n)) = 1

own_node : (n : ℕ) → nested_body 1 n ≡ true → ones.node n ≤ own_rest n
own_node zero i = omega arith
own_node (suc zero) i = omega arith
own_node (suc (suc n)) i = omega arith

own_falls : (n m : ℕ) → nested_body 1 n ≡ true → nested_body 1 m ≡ true → nested n m ≡ true → is_back (loops_of nested_nest) n m ≡ false
    → step_cost (loops_of nested_nest) nested_bound ones nested_labels n m + own_rest m ≤ own_rest n
own_falls zero m i j e f = cc
own_falls (suc zero) zero i j e f = cc
own_falls (suc zero) (suc zero) i j e f = cc
own_falls (suc zero) (suc (suc zero)) i j e f = omega arith
own_falls (suc zero) (suc (suc (suc m))) i j e f = cc
own_falls (suc (suc zero)) zero i j e f = cc
own_falls (suc (suc zero)) (suc zero) i j e f = cc
own_falls (suc (suc zero)) (suc (suc m)) i j e f = cc
own_falls (suc (suc (suc n))) m i j e f = cc

own_chosen : (n : ℕ) → nested_body 1 n ≡ true
    → (own_rest n ≡ ones.node n) ⊎ IsAsked (edges_inside nested (nested_body 1)) (loops_of nested_nest) nested_bound ones nested_labels nested_rank
    (λ m. Some (own_rest m)) n (own_rest n)
own_chosen zero i = cc
own_chosen (suc zero) i = inr (record { next = 2; asked = 1; leads = refl; forward = refl; lower = omega arith; label = refl; is = refl })
own_chosen (suc (suc n)) i = inl refl

-- the inner loop's own cost: six
pub inner_cost : InnerLoopCostsSix
inner_cost = own_greatest nested 0 (loops_of nested_nest) nested_bound ones nested_labels nested_rank 1 own_rest nested_are_loops nested_bounded
    nested_are_labels nested_chosen refl
    (record { node = own_node; rest = own_falls }) (record { rest = own_chosen })

-- a counter along the loop of two nodes
two_sum_on : (n m : ℕ) → below_two n ≡ true → below_two m ≡ true → two_nodes n m ≡ true → (m == 0) ≡ false → 0 + one_up.down n ≤ 0 + one_up.up n
two_sum_on n m i j e z = omega arith

two_sum_end : (n : ℕ) → below_two n ≡ true → two_nodes n 0 ≡ true → 0 + 1 + one_up.down n ≤ 0 + one_up.up n
two_sum_end zero i e = cc
two_sum_end (suc zero) i e = omega arith
two_sum_end (suc (suc n)) i e = cc

-- a counter from 0 to 3 that rises by one in each turn, along a walk that passes the head four times
pub meets_its_bound : CounterMeetsItsBound
meets_its_bound = record {
  counted = record {
    walk = (refl, (refl, (refl, (refl, (refl, (refl, tt))))));
    inside = (refl, (refl, (refl, (refl, (refl, (refl, (refl, tt)))))));
    counted = (refl, (refl, (refl, (refl, (refl, (refl, tt))))));
    within = (
      (λ e. (omega arith, omega arith)),
      (
        (λ e. (omega arith, omega arith)),
        (
          (λ e. (omega arith, omega arith)),
          (
            (λ e. (omega arith, omega arith)),
            ((λ e. (omega arith, omega arith)), ((λ e. (omega arith, omega arith)), ((λ e. (omega arith, omega arith)), tt))),
          ),
        ),
      ),
    );
  };
  rises = rising_sums two_nodes below_two 0 one_up 1 (λ _. 0) refl (record { on = two_sum_on; end = two_sum_end });
  passed = refl;
}

-- the collapsed walk of the nested loops
turns_walk : (h : ℕ) → nested_nest.has h ≡ true → IsWalk nested h (nested_turn_walk h)
turns_walk zero a = (refl, (refl, tt))
turns_walk (suc zero) a = (refl, tt)
turns_walk (suc (suc h)) a = cc

turns_back : (h : ℕ) → nested_nest.has h ≡ true → nested (end_of h (nested_turn_walk h)) h ≡ true
turns_back zero a = refl
turns_back (suc zero) a = refl
turns_back (suc (suc h)) a = cc

turns_inside : (h : ℕ) → nested_nest.has h ≡ true → AreInside (nested_body h) (nested_turn_walk h)
turns_inside zero a = (refl, (refl, tt))
turns_inside (suc zero) a = (refl, tt)
turns_inside (suc (suc h)) a = cc

turns_forward : (h : ℕ) → nested_nest.has h ≡ true → IsForward (loops_of nested_nest) h (nested_turn_walk h)
turns_forward zero a = (refl, (refl, tt))
turns_forward (suc zero) a = (refl, tt)
turns_forward (suc (suc h)) a = cc

turns_cost : (h : ℕ) → nested_nest.has h ≡ true
    → nested_turn_cost h ≡ steps_cost (loops_of nested_nest) nested_bound ones nested_turns h
    (nested_turn_walk h) + (ones.node (end_of h (nested_turn_walk h)) + ones.edge (end_of h (nested_turn_walk h)) h)
turns_cost zero a = refl
turns_cost (suc zero) a = refl
turns_cost (suc (suc h)) a = cc

turns_lower : (h : ℕ) → nested_nest.has h ≡ true → RankBelow (loops_of nested_nest) nested_rank (nested_rank h) (nested_turn_walk h)
turns_lower zero a = ((λ b. omega arith), ((λ b. omega arith), tt))
turns_lower (suc zero) a = ((λ b. cc), tt)
turns_lower (suc (suc h)) a = cc

-- the collapsed walk of the nested loops stands for a walk of cost fourteen
pub collapsed_cost : CollapsedWalkCostsFourteen
collapsed_cost =
    let e : IsExpanded nested (loops_of nested_nest) nested_bound ones nested_turns 0 (1 ∷ 2 ∷ []) =
    collapsed_expand nested 0 (loops_of nested_nest) nested_bound ones nested_turns nested_rank nested_are_loops nested_bounded
    (record { walk = turns_walk; back = turns_back; inside = turns_inside; forward = turns_forward; cost = turns_cost; lower = turns_lower })
    0 (1 ∷ 2 ∷ []) (refl, (refl, tt)) (refl, (refl, tt)) in
    record { expanded = e; spends = e.spends }
