-- The cells of the worked graphs, by their labels of sums.
use Rattle.std.proofs.Common.{◌≡◌, ◌≢◌, ◌==◌, ℕ, zero, suc, ◌+◌, ◌≤◌, true, false, refl, arith}
use Rattle.graph_laws.specs.Loops.{is_back}
use Rattle.graph_laws.specs.Nest.{loops_of}
use Rattle.graph_laws.specs.Counter.{IsSumFrom, AreRisingSums, AreFallingSums, HasTurn}
use Rattle.graph_laws.specs.Worked.{two_nodes, below_two, nested, nested_body, nested_nest}
use Rattle.graph_laws.specs.WorkedSums.{one_down, FallingCounterMeetsItsBound, head_up, head_down, NestedSumsRise, NestedSumsFall}
use Rattle.graph_laws.proofs.Counters.{rising_sums, falling_sums}
use Rattle.graph_laws.proofs.Sums.{chosen_sums, forward_rise, forward_fall}
use Rattle.graph_laws.proofs.WorkedNests.{nested_are_loops}

-- a counter that falls along the loop of two nodes
two_fall_on : (n m : ℕ) → below_two n ≡ true → below_two m ≡ true → two_nodes n m ≡ true → (m == 0) ≡ false → 0 + one_down.up n ≤ 0 + one_down.down n
two_fall_on n m i j e z = omega arith

two_fall_end : (n : ℕ) → below_two n ≡ true → two_nodes n 0 ≡ true → 0 + one_down.up n + 1 ≤ 0 + one_down.down n
two_fall_end zero i e = cc
two_fall_end (suc zero) i e = omega arith
two_fall_end (suc (suc n)) i e = cc

-- a counter from 3 to 0 that falls by one in each turn, along a walk that passes the head four times
pub falling_meets : FallingCounterMeetsItsBound
falling_meets = record {
  counted = record {
    walk = (refl, (refl, (refl, (refl, (refl, (refl, tt))))));
    inside = (refl, (refl, (refl, (refl, (refl, (refl, (refl, tt)))))));
    counted = (refl, (refl, (refl, (refl, (refl, (refl, tt))))));
    within = (
      (λ e. (omega arith, omega arith)),
      (
        (λ e. (omega arith, omega arith)),
        (
          (λ e. (omega arith, omega arith)),
          (
            (λ e. (omega arith, omega arith)),
            ((λ e. (omega arith, omega arith)), ((λ e. (omega arith, omega arith)), ((λ e. (omega arith, omega arith)), tt))),
          ),
        ),
      ),
    );
  };
  falls = falling_sums two_nodes below_two 0 one_down 1 (λ _. 0) refl (record { on = two_fall_on; end = two_fall_end });
  passed = refl;
}

-- the head of the nested loops adds one
abbrev rising_label : ℕ → ℕ
rising_label zero = 0
rising_label (suc n) = 1

rise_keep : (k n : ℕ) → nested_nest.has k ≡ true → nested_body 0 k ≡ true → 0 ≢ k → nested_body k n ≡ true → head_up.up n ≡ head_up.down n
rise_keep zero n a i ne j = absurd (ne refl)
rise_keep (suc zero) zero a i ne j = cc
rise_keep (suc zero) (suc n) a i ne j = refl
rise_keep (suc (suc k)) n a i ne j = cc

rise_chosen : (n : ℕ) → nested_body 0 n ≡ true → (n == 0) ≡ false → IsSumFrom nested (loops_of nested_nest) 0 head_up rising_label (λ m. m) n
rise_chosen zero i z = cc
rise_chosen (suc zero) i z = record { from = 0; inside = refl; leads = refl; forward = refl; lower = omega arith; is = refl }
rise_chosen (suc (suc zero)) i z = record { from = 1; inside = refl; leads = refl; forward = refl; lower = omega arith; is = refl }
rise_chosen (suc (suc (suc n))) i z = cc

rise_on : (n m : ℕ) → nested_body 0 n ≡ true → nested_body 0 m ≡ true → nested n m ≡ true → is_back (loops_of nested_nest) n m ≡ false
    → rising_label m + head_up.down n ≤ rising_label n + head_up.up n
rise_on zero zero i j e f = cc
rise_on zero (suc m) i j e f = omega arith
rise_on (suc n) zero i j e f = omega arith
rise_on (suc n) (suc m) i j e f = omega arith

rise_end : (n : ℕ) → nested_body 0 n ≡ true → nested n 0 ≡ true → rising_label 0 + 1 + head_up.down n ≤ rising_label n + head_up.up n
rise_end zero i e = cc
rise_end (suc n) i e = omega arith

rise_sums : AreRisingSums nested (nested_body 0) 0 head_up 1 rising_label
rise_sums = forward_rise nested 0 (loops_of nested_nest) 0 head_up 1 rising_label (λ m. m) nested_are_loops refl rise_keep rise_chosen rise_on rise_end

-- labels of sums of the nested loops, whose outer head alone adds to the cell, show that each turn rises by one
pub nested_rise : NestedSumsRise
nested_rise =
    let t : HasTurn nested (nested_body 0) 0 head_up rising_label 2 =
    chosen_sums nested (loops_of nested_nest) 0 head_up rising_label (λ m. m) refl rise_chosen 2 refl refl in
    record {
      keep = rise_keep;
      label = rising_label;
      rank = λ m. m;
      chosen = rise_chosen;
      sums = rise_sums;
      rises = rising_sums nested (nested_body 0) 0 head_up 1 rising_label refl rise_sums;
      between = t.between;
      turn = t.turn;
      least = (let s = t.sum in omega (arith, s));
    }

-- the head of the nested loops takes one
abbrev falling_label : ℕ → ℕ
falling_label zero = 1
falling_label (suc n) = 0

fall_keep : (k n : ℕ) → nested_nest.has k ≡ true → nested_body 0 k ≡ true → 0 ≢ k → nested_body k n ≡ true → head_down.up n ≡ head_down.down n
fall_keep zero n a i ne j = absurd (ne refl)
fall_keep (suc zero) zero a i ne j = cc
fall_keep (suc zero) (suc n) a i ne j = refl
fall_keep (suc (suc k)) n a i ne j = cc

fall_chosen : (n : ℕ) → nested_body 0 n ≡ true → (n == 0) ≡ false → IsSumFrom nested (loops_of nested_nest) 0 head_down falling_label (λ m. m) n
fall_chosen zero i z = cc
fall_chosen (suc zero) i z = record { from = 0; inside = refl; leads = refl; forward = refl; lower = omega arith; is = refl }
fall_chosen (suc (suc zero)) i z = record { from = 1; inside = refl; leads = refl; forward = refl; lower = omega arith; is = refl }
fall_chosen (suc (suc (suc n))) i z = cc

fall_on : (n m : ℕ) → nested_body 0 n ≡ true → nested_body 0 m ≡ true → nested n m ≡ true → is_back (loops_of nested_nest) n m ≡ false
    → falling_label n + head_down.up n ≤ falling_label m + head_down.down n
fall_on zero zero i j e f = cc
fall_on zero (suc m) i j e f = omega arith
fall_on (suc n) zero i j e f = omega arith
fall_on (suc n) (suc m) i j e f = omega arith

fall_end : (n : ℕ) → nested_body 0 n ≡ true → nested n 0 ≡ true → falling_label n + head_down.up n + 1 ≤ falling_label 0 + head_down.down n
fall_end zero i e = cc
fall_end (suc n) i e = omega arith

fall_sums : AreFallingSums nested (nested_body 0) 0 head_down 1 falling_label
fall_sums = forward_fall nested 0 (loops_of nested_nest) 0 head_down 1 falling_label (λ m. m) nested_are_loops refl fall_keep fall_chosen fall_on fall_end

-- the same where the outer head takes from the cell
pub nested_fall : NestedSumsFall
nested_fall =
    let t : HasTurn nested (nested_body 0) 0 head_down falling_label 2 =
    chosen_sums nested (loops_of nested_nest) 0 head_down falling_label (λ m. m) refl fall_chosen 2 refl refl in
    record {
      keep = fall_keep;
      label = falling_label;
      rank = λ m. m;
      chosen = fall_chosen;
      sums = fall_sums;
      falls = falling_sums nested (nested_body 0) 0 head_down 1 falling_label refl fall_sums;
      between = t.between;
      turn = t.turn;
      least = (let s = t.sum in omega (arith, s));
    }
