-- The worked contexts are sound: the counter counts, and labels show the bounds.
use Rattle.std.proofs.Common.{◌≡◌, ◌≢◌, ◌==◌, ℕ, zero, suc, ◌+◌, ◌≤◌, inl, true, false, Option, Some, None, refl, subst, arith}
use Rattle.graph_laws.specs.Loops.{AreLoops, is_back, CostAtMost}
use Rattle.graph_laws.specs.Labels.{Labels, step_cost, IsAtLeast, AreLabels}
use Rattle.graph_laws.specs.Counter.{TurnsRise}
use Rattle.graph_laws.specs.Worked.{two_body, two_loops}
use Rattle.graph_laws.specs.WorkedSums.{head_up}
use Rattle.graph_laws.proofs.Costs.{labels_bound}
use Rattle.graph_laws.proofs.Counters.{rising_sums}
use Rattle.frame_laws.specs.Context.{Counter, IsSound, IsBound, IsCounter, costs_in, is_bounded}
use Rattle.frame_laws.specs.Worked.{outer, outer_edge, outer_counter, outer_leads, inner, inner_edge, inner_loops, worked}

-- what is there is one
pub some_is : {A : Type 0} {a b : A} → ◌≡◌ {A = Option A} (Some a) (Some b) → a ≡ b
some_is e = cc

-- the loops of the outer context
outer_head : (h : ℕ) → two_loops.has h ≡ true → two_loops.body h h ≡ true
outer_head zero a = refl
outer_head (suc h) a = cc

outer_entered : (h n m : ℕ) → two_loops.has h ≡ true → outer_edge n m ≡ true → two_loops.body h n ≡ false → two_loops.body h m ≡ true → m ≡ h
outer_entered (suc h) n m a e o i = cc
outer_entered zero zero m a e o i = cc
outer_entered zero (suc zero) m a e o i = cc
outer_entered zero (suc (suc zero)) zero a e o i = refl
outer_entered zero (suc (suc zero)) (suc zero) a e o i = cc
outer_entered zero (suc (suc zero)) (suc (suc m)) a e o i = cc
outer_entered zero (suc (suc (suc n))) m a e o i = cc

outer_at_entry : (h : ℕ) → two_loops.has h ≡ true → two_loops.body h 0 ≡ true → 0 ≡ h
outer_at_entry zero a i = refl
outer_at_entry (suc h) a i = cc

outer_within : (h k n : ℕ) → two_loops.has h ≡ true → two_loops.has k ≡ true → two_loops.body k h ≡ true → h ≢ k → two_loops.body h n ≡ true
    → two_loops.body k n ≡ true
outer_within zero zero n a b i ne j = j
outer_within (suc h) k n a b i ne j = cc
outer_within zero (suc k) n a b i ne j = cc

outer_apart : (h k : ℕ) → two_loops.has h ≡ true → two_loops.has k ≡ true → two_loops.body k h ≡ true → h ≢ k → two_loops.body h k ≡ false
outer_apart zero zero a b i ne = absurd (ne refl)
outer_apart (suc h) k a b i ne = cc
outer_apart zero (suc k) a b i ne = cc

outer_are_loops : AreLoops outer_edge 0 two_loops
outer_are_loops = record { head = outer_head; entered = outer_entered; at_entry = outer_at_entry; within = outer_within; apart = outer_apart }

-- and its labels
abbrev outer_rest : ℕ → ℕ
outer_rest zero = 10
outer_rest (suc zero) = 7
outer_rest (suc (suc zero)) = 8
outer_rest (suc (suc (suc n))) = 1

abbrev outer_turn_of : ℕ → Option ℕ
outer_turn_of zero = Some 10
outer_turn_of (suc zero) = Some 8
outer_turn_of (suc (suc n)) = None

abbrev outer_turn : ℕ → ℕ → Option ℕ
outer_turn zero n = outer_turn_of n
outer_turn (suc h) n = None

abbrev outer_labels : Labels
outer_labels = record { rest = outer_rest; turn = outer_turn }

outer_node : (n : ℕ) → (costs_in worked outer).node n ≤ outer_rest n
outer_node zero = omega arith
outer_node (suc zero) = omega arith
outer_node (suc (suc zero)) = omega arith
outer_node (suc (suc (suc n))) = omega arith

outer_falls : (n m : ℕ) → outer_edge n m ≡ true → is_back two_loops n m ≡ false
    → step_cost two_loops (λ _. 2) (costs_in worked outer) outer_labels n m + outer_rest m ≤ outer_rest n
outer_falls zero zero e f = cc
outer_falls zero (suc zero) e f = omega arith
outer_falls zero (suc (suc zero)) e f = omega arith
outer_falls zero (suc (suc (suc m))) e f = cc
outer_falls (suc zero) zero e f = cc
outer_falls (suc zero) (suc m) e f = cc
outer_falls (suc (suc zero)) zero e f = cc
outer_falls (suc (suc zero)) (suc zero) e f = cc
outer_falls (suc (suc zero)) (suc (suc zero)) e f = cc
outer_falls (suc (suc zero)) (suc (suc (suc zero))) e f = omega arith
outer_falls (suc (suc zero)) (suc (suc (suc (suc m)))) e f = cc
outer_falls (suc (suc (suc n))) m e f = cc

outer_turns : (h n m v : ℕ) → two_loops.has h ≡ true → 2 ≤ 2 → two_loops.body h n ≡ true → two_loops.body h m ≡ true → outer_edge n m ≡ true
    → is_back two_loops n m ≡ false
    → outer_turn h m ≡ Some v → IsAtLeast (outer_turn h n) (step_cost two_loops (λ _. 2) (costs_in worked outer) outer_labels n m + v)
outer_turns zero zero zero v a t i j e f l = cc
outer_turns zero zero (suc zero) v a t i j e f l = record { value = 10; is = refl; least = (let q : 8 ≡ v = some_is l in omega (arith, q)) }
outer_turns zero zero (suc (suc m)) v a t i j e f l = cc
outer_turns zero (suc zero) zero v a t i j e f l = cc
outer_turns zero (suc zero) (suc m) v a t i j e f l = cc
outer_turns zero (suc (suc n)) m v a t i j e f l = cc
outer_turns (suc h) n m v a t i j e f l = cc

outer_backs : (h n : ℕ) → two_loops.has h ≡ true → 2 ≤ 2 → two_loops.body h n ≡ true → outer_edge n h ≡ true
    → IsAtLeast (outer_turn h n) ((costs_in worked outer).node n + 1)
outer_backs zero zero a t i e = cc
outer_backs zero (suc zero) a t i e = record { value = 8; is = refl; least = omega arith }
outer_backs zero (suc (suc n)) a t i e = cc
outer_backs (suc h) n a t i e = cc

outer_are_labels : AreLabels outer_edge two_loops (λ _. 2) (costs_in worked outer) outer_labels
outer_are_labels = record { node = outer_node; rest = outer_falls; turn = outer_turns; back = outer_backs }

outer_calls : (n : ℕ) → is_bounded worked (outer_leads n) ≡ true
outer_calls zero = refl
outer_calls (suc zero) = refl
outer_calls (suc (suc zero)) = refl
outer_calls (suc (suc (suc n))) = refl

outer_cost : CostAtMost outer_edge 0 two_loops (λ _. 2) (costs_in worked outer) 20
outer_cost = labels_bound outer_edge 0 two_loops (λ _. 2) (costs_in worked outer) outer_labels outer_are_loops outer_are_labels

outer_bound : IsBound worked outer 21
outer_bound = record { start = omega arith; walks = outer_cost; calls = outer_calls }

-- the cell rises in each turn
abbrev outer_sum : ℕ → ℕ
outer_sum zero = 0
outer_sum (suc n) = 1

sums_on : (n m : ℕ) → two_body 0 n ≡ true → two_body 0 m ≡ true → outer_edge n m ≡ true → (m == 0) ≡ false
    → outer_sum m + head_up.down n ≤ outer_sum n + head_up.up n
sums_on zero zero b c e o = cc
sums_on zero (suc m) b c e o = omega arith
sums_on (suc zero) zero b c e o = cc
sums_on (suc zero) (suc m) b c e o = cc
sums_on (suc (suc n)) m b c e o = cc

sums_end : (n : ℕ) → two_body 0 n ≡ true → outer_edge n 0 ≡ true → outer_sum 0 + 1 + head_up.down n ≤ outer_sum n + head_up.up n
sums_end zero b e = cc
sums_end (suc zero) b e = omega arith
sums_end (suc (suc n)) b e = cc

outer_rises : TurnsRise outer_edge (two_body 0) 0 head_up 1
outer_rises = rising_sums outer_edge (two_body 0) 0 head_up 1 outer_sum refl (record { on = sums_on; end = sums_end })

outer_counts : IsCounter outer_edge (two_body 0) 0 2 outer_counter
outer_counts = record { step = omega arith; turns = inl outer_rises; passes = omega arith }

-- the loop of the inner context and its labels
inner_head : (h : ℕ) → inner_loops.has h ≡ true → inner_loops.body h h ≡ true
inner_head zero a = refl
inner_head (suc h) a = cc

inner_entered : (h n m : ℕ) → inner_loops.has h ≡ true → inner_edge n m ≡ true → inner_loops.body h n ≡ false → inner_loops.body h m ≡ true → m ≡ h
inner_entered (suc h) n m a e o i = cc
inner_entered zero zero m a e o i = cc
inner_entered zero (suc n) m a e o i = cc

inner_at_entry : (h : ℕ) → inner_loops.has h ≡ true → inner_loops.body h 0 ≡ true → 0 ≡ h
inner_at_entry zero a i = refl
inner_at_entry (suc h) a i = cc

inner_within : (h k n : ℕ) → inner_loops.has h ≡ true → inner_loops.has k ≡ true → inner_loops.body k h ≡ true → h ≢ k → inner_loops.body h n ≡ true
    → inner_loops.body k n ≡ true
inner_within zero zero n a b i ne j = j
inner_within (suc h) k n a b i ne j = cc
inner_within zero (suc k) n a b i ne j = cc

inner_apart : (h k : ℕ) → inner_loops.has h ≡ true → inner_loops.has k ≡ true → inner_loops.body k h ≡ true → h ≢ k → inner_loops.body h k ≡ false
inner_apart zero zero a b i ne = absurd (ne refl)
inner_apart (suc h) k a b i ne = cc
inner_apart zero (suc k) a b i ne = cc

inner_are_loops : AreLoops inner_edge 0 inner_loops
inner_are_loops = record { head = inner_head; entered = inner_entered; at_entry = inner_at_entry; within = inner_within; apart = inner_apart }

abbrev inner_rest : ℕ → ℕ
inner_rest zero = 3
inner_rest (suc n) = 1

abbrev inner_turn_of : ℕ → Option ℕ
inner_turn_of zero = Some 2
inner_turn_of (suc n) = None

abbrev inner_turn : ℕ → ℕ → Option ℕ
inner_turn zero n = inner_turn_of n
inner_turn (suc h) n = None

abbrev inner_labels : Labels
inner_labels = record { rest = inner_rest; turn = inner_turn }

inner_node : (n : ℕ) → (costs_in worked inner).node n ≤ inner_rest n
inner_node zero = omega arith
inner_node (suc n) = omega arith

inner_falls : (n m : ℕ) → inner_edge n m ≡ true → is_back inner_loops n m ≡ false
    → step_cost inner_loops (λ _. 2) (costs_in worked inner) inner_labels n m + inner_rest m ≤ inner_rest n
inner_falls zero zero e f = cc
inner_falls zero (suc zero) e f = omega arith
inner_falls zero (suc (suc m)) e f = cc
inner_falls (suc n) m e f = cc

inner_turns : (h n m v : ℕ) → inner_loops.has h ≡ true → 2 ≤ 2 → inner_loops.body h n ≡ true → inner_loops.body h m ≡ true → inner_edge n m ≡ true
    → is_back inner_loops n m ≡ false
    → inner_turn h m ≡ Some v → IsAtLeast (inner_turn h n) (step_cost inner_loops (λ _. 2) (costs_in worked inner) inner_labels n m + v)
inner_turns zero zero zero v a t i j e f l = cc
inner_turns zero zero (suc m) v a t i j e f l = cc
inner_turns zero (suc n) m v a t i j e f l = cc
inner_turns (suc h) n m v a t i j e f l = cc

inner_backs : (h n : ℕ) → inner_loops.has h ≡ true → 2 ≤ 2 → inner_loops.body h n ≡ true → inner_edge n h ≡ true
    → IsAtLeast (inner_turn h n) ((costs_in worked inner).node n + 1)
inner_backs zero zero a t i e = record { value = 2; is = refl; least = omega arith }
inner_backs zero (suc n) a t i e = cc
inner_backs (suc h) n a t i e = cc

inner_are_labels : AreLabels inner_edge inner_loops (λ _. 2) (costs_in worked inner) inner_labels
inner_are_labels = record { node = inner_node; rest = inner_falls; turn = inner_turns; back = inner_backs }

inner_cost : CostAtMost inner_edge 0 inner_loops (λ _. 2) (costs_in worked inner) 5
inner_cost = labels_bound inner_edge 0 inner_loops (λ _. 2) (costs_in worked inner) inner_labels inner_are_loops inner_are_labels

inner_bound : IsBound worked inner 6
inner_bound = record { start = omega arith; walks = inner_cost; calls = λ n. refl }

-- both are sound
worked_counters : (c h : ℕ) (counter : Counter) → (worked c).loops.has h ≡ true → (worked c).counter h ≡ Some counter
    → IsCounter (worked c).edge ((worked c).loops.body h) h ((worked c).bound h) counter
worked_counters zero zero counter has by = subst (IsCounter outer_edge (two_body 0) 0 2) (some_is by) outer_counts
worked_counters zero (suc h) counter has by = cc
worked_counters (suc c) h counter has by = cc

worked_bounds : (c most : ℕ) → (worked c).most ≡ Some most → IsBound worked (worked c) most
worked_bounds zero most e = subst (IsBound worked outer) (some_is e) outer_bound
worked_bounds (suc c) most e = subst (IsBound worked inner) (some_is e) inner_bound

-- the worked contexts are sound
pub worked_sound : IsSound worked
worked_sound = record { counters = worked_counters; bounds = worked_bounds }
