-- Lists of the values of cells: in order, joined, written and forgotten.
use Rattle.std.proofs.Common.{◌≡◌, ◌≢◌, ℕ, zero, suc, ◌+◌, ◌*◌, ◌<◌, ◌≤◌, ◌⊎◌, inl, inr, ◌&&◌, Bool, true, false, List, [], ◌∷◌, ◌++◌, length, take}
use Rattle.std.proofs.Common.{drop, set, refl, sym, ap, subst, ◌∙◌, arith, add-one, Decides}
use Rattle.std.specs.Prelude.{◌==◌, if◌then◌else◌, slice_index_or, slice_set}
use Rattle.std.specs.List.{All, list_all}
use Rattle.std.proofs.lemmas.Bool.{and_parts, and_from, cases_Bool, false≢true}
use Rattle.std.proofs.lemmas.Bool.Decides.{Decides-by_and}
use Rattle.std.proofs.lemmas.List.{length-set}
use Rattle.std.proofs.lemmas.List.Elements.{All-cons, All-head, All-nil, All-set, All-tail, All-weaker}
use Rattle.call_effects.specs.Mask.{has_cell, is_within}
use Rattle.call_effects.proofs.MaskLemmas.{within_has}
use Rattle.value_lattice.proofs.FunctionLemmas.{join_over, join_left, join_right, join_least, join_is_ret}
use Rattle.value_lattice.proofs.TestLemmas.{is_over-value, over_decides, the_order_is_one}
use Rattle.value_lattice.specs.Height.{are_at_most}
use Rattle.value_lattice.specs.Least.{join, top}
use Rattle.value_lattice.specs.Test.{is_value, is_over, is_at_most}
use Rattle.value_lattice.specs.Thresholds.{IsThresholds}
use Rattle.value_lattice.specs.Value.{IsValue, IsOver}
use Rattle.value_lattice.specs.declared.value.Value.{Value}
use Rattle.abs_state.specs.State.{cell_in, joined_cells, with_value, forgotten, forgotten_from}

-- values over the thresholds, as a test and as a fact
pub over_all : (t : List ℕ) (vs : List Value) → Decides (list_all (is_over t) vs) (All (IsOver t) vs)
over_all t vs = Decides-by_and (is_over t) (IsOver t) (list_all (is_over t)) (over_decides t) refl (λ x xs. refl) vs

-- cells over thresholds are values
pub values_of : (t : List ℕ) (vs : List Value) → All (IsOver t) vs → All IsValue vs
values_of t vs over = All-weaker (IsOver t) IsValue (λ v is. is.value) vs over

-- the order of lists
pub cells_same : (t : List ℕ) (vs : List Value) → list_all (is_over t) vs ≡ true → are_at_most vs vs ≡ true
cells_same t [] over = refl
cells_same t (v ∷ vs) over =
    let parts = and_parts (is_over t v) (list_all (is_over t) vs) over in
    and_from (is_at_most v v) (are_at_most vs vs) (the_order_is_one.same v (is_over-value t v parts.0)) (cells_same t vs parts.1)

-- the order of cells goes on from one list to the next
pub cells_onward : (vs us ws : List Value) → are_at_most vs us ≡ true → are_at_most us ws ≡ true → are_at_most vs ws ≡ true
cells_onward [] [] [] one two = refl
cells_onward [] [] (w ∷ ws) one two = absurd (false≢true two)
cells_onward [] (u ∷ us) ws one two = absurd (false≢true one)
cells_onward (v ∷ vs) [] ws one two = absurd (false≢true one)
cells_onward (v ∷ vs) (u ∷ us) [] one two = absurd (false≢true two)
cells_onward (v ∷ vs) (u ∷ us) (w ∷ ws) one two =
    let first = and_parts (is_at_most v u) (are_at_most vs us) one in
    let second = and_parts (is_at_most u w) (are_at_most us ws) two in
    and_from (is_at_most v w) (are_at_most vs ws) (the_order_is_one.onward v u w first.0 second.0) (cells_onward vs us ws first.1 second.1)

-- each place of lists in order is in order
pub cells_at : (vs us : List Value) (c : ℕ) → are_at_most vs us ≡ true → c < length vs → is_at_most (cell_in vs c) (cell_in us c) ≡ true
cells_at [] us c up below = absurd (omega arith)
cells_at (v ∷ vs) [] c up below = absurd (false≢true up)
cells_at (v ∷ vs) (u ∷ us) zero up below = (and_parts (is_at_most v u) (are_at_most vs us) up).0
cells_at (v ∷ vs) (u ∷ us) (suc c) up below = cells_at vs us c ((and_parts (is_at_most v u) (are_at_most vs us) up).1) (omega arith)

-- ordered cells are as many
pub cells_length : (vs us : List Value) → are_at_most vs us ≡ true → length vs ≡ length us
cells_length [] [] up = refl
cells_length [] (u ∷ us) up = absurd (false≢true up)
cells_length (v ∷ vs) [] up = absurd (false≢true up)
cells_length (v ∷ vs) (u ∷ us) up = let rest = cells_length vs us ((and_parts (is_at_most v u) (are_at_most vs us) up).1) in omega arith

-- what is written in order is in order
pub set_up : (vs us : List Value) (c : ℕ) (v u : Value) → are_at_most vs us ≡ true → is_at_most v u ≡ true
    → are_at_most (slice_set vs c v) (slice_set us c u) ≡ true
set_up [] [] c v u up here = refl
set_up [] (y ∷ us) c v u up here = absurd (false≢true up)
set_up (x ∷ vs) [] c v u up here = absurd (false≢true up)
set_up (x ∷ vs) (y ∷ us) zero v u up here = and_from (is_at_most v u) (are_at_most vs us) here ((and_parts (is_at_most x y) (are_at_most vs us) up).1)
set_up (x ∷ vs) (y ∷ us) (suc c) v u up here =
    let parts = and_parts (is_at_most x y) (are_at_most vs us) up in
    and_from (is_at_most x y) (are_at_most (slice_set vs c v) (slice_set us c u)) parts.0 (set_up vs us c v u parts.1 here)

-- joined lists
pub joined-length : (t : List ℕ) (vs us : List Value) → length vs ≡ length us → length (joined_cells t vs us) ≡ length vs
joined-length t [] us e = refl
joined-length t (v ∷ vs) [] e = absurd (omega arith)
joined-length t (v ∷ vs) (u ∷ us) e = let same : length vs ≡ length us = omega arith in let rest = joined-length t vs us same in omega arith

-- a joined cell is the join of the two
pub joined-at : (t : List ℕ) (vs us : List Value) (c : ℕ) → length vs ≡ length us → c < length vs
    → cell_in (joined_cells t vs us) c ≡ join t (cell_in vs c) (cell_in us c)
joined-at t [] us c e below = absurd (omega arith)
joined-at t (v ∷ vs) [] c e below = absurd (omega arith)
joined-at t (v ∷ vs) (u ∷ us) zero e below = refl
joined-at t (v ∷ vs) (u ∷ us) (suc c) e below = joined-at t vs us c (omega arith) (omega arith)

-- joined cells are over the thresholds, by the tests
pub joined_over : (t : List ℕ) (vs us : List Value) → IsThresholds t → list_all (is_over t) vs ≡ true → list_all (is_over t) us ≡ true
    → list_all (is_over t) (joined_cells t vs us) ≡ true
joined_over t [] us is left right = refl
joined_over t (v ∷ vs) [] is left right = refl
joined_over t (v ∷ vs) (u ∷ us) is left right =
    let a = and_parts (is_over t v) (list_all (is_over t) vs) left in
    let b = and_parts (is_over t u) (list_all (is_over t) us) right in
    and_from (is_over t (join t v u)) (list_all (is_over t) (joined_cells t vs us)) (join_over t v u is a.0 b.0) (joined_over t vs us is a.1 b.1)

-- joined cells are over the thresholds
pub joined_all : (t : List ℕ) (vs us : List Value) → IsThresholds t → All (IsOver t) vs → All (IsOver t) us → All (IsOver t) (joined_cells t vs us)
joined_all t vs us is left right = (over_all t (joined_cells t vs us)).0 (joined_over t vs us is ((over_all t vs).1 left) ((over_all t us).1 right))

-- the first cells are at most the joined ones
pub cells_first : (t : List ℕ) (vs us : List Value) → IsThresholds t → length vs ≡ length us → list_all (is_over t) vs ≡ true
    → list_all (is_over t) us ≡ true → are_at_most vs (joined_cells t vs us) ≡ true
cells_first t [] us is e left right = refl
cells_first t (v ∷ vs) [] is e left right = absurd (omega arith)
cells_first t (v ∷ vs) (u ∷ us) is e left right =
    let a = and_parts (is_over t v) (list_all (is_over t) vs) left in
    let b = and_parts (is_over t u) (list_all (is_over t) us) right in
    and_from (is_at_most v (join t v u)) (are_at_most vs (joined_cells t vs us)) (join_left t v u is a.0 b.0) (cells_first t vs us is (omega arith) a.1 b.1)

-- the second cells are at most the joined ones
pub cells_second : (t : List ℕ) (vs us : List Value) → IsThresholds t → length vs ≡ length us → list_all (is_over t) vs ≡ true
    → list_all (is_over t) us ≡ true → are_at_most us (joined_cells t vs us) ≡ true
cells_second t [] [] is e left right = refl
cells_second t [] (u ∷ us) is e left right = absurd (omega arith)
cells_second t (v ∷ vs) [] is e left right = absurd (omega arith)
cells_second t (v ∷ vs) (u ∷ us) is e left right =
    let a = and_parts (is_over t v) (list_all (is_over t) vs) left in
    let b = and_parts (is_over t u) (list_all (is_over t) us) right in
    and_from (is_at_most u (join t v u)) (are_at_most us (joined_cells t vs us)) (join_right t v u is a.0 b.0) (cells_second t vs us is (omega arith) a.1 b.1)

-- joined cells are at most what both are at most
pub cells_least : (t : List ℕ) (vs us ws : List Value) → IsThresholds t → list_all (is_over t) vs ≡ true → list_all (is_over t) us ≡ true
    → list_all (is_over t) ws ≡ true → are_at_most vs ws ≡ true → are_at_most us ws ≡ true → are_at_most (joined_cells t vs us) ws ≡ true
cells_least t [] us ws is left right most one two = one
cells_least t (v ∷ vs) [] [] is left right most one two = refl
cells_least t (v ∷ vs) [] (w ∷ ws) is left right most one two = absurd (false≢true two)
cells_least t (v ∷ vs) (u ∷ us) [] is left right most one two = absurd (false≢true one)
cells_least t (v ∷ vs) (u ∷ us) (w ∷ ws) is left right most one two =
    let a = and_parts (is_over t v) (list_all (is_over t) vs) left in
    let b = and_parts (is_over t u) (list_all (is_over t) us) right in
    let c = and_parts (is_over t w) (list_all (is_over t) ws) most in
    let first = and_parts (is_at_most v w) (are_at_most vs ws) one in
    let second = and_parts (is_at_most u w) (are_at_most us ws) two in
    and_from (is_at_most (join t v u) w) (are_at_most (joined_cells t vs us) ws) (join_least t v u w is a.0 b.0 c.0 first.0 second.0)
    (cells_least t vs us ws is a.1 b.1 c.1 first.1 second.1)

-- forgotten cells
pub forgotten-length : (mask : ℕ) (cells : List Value) → length (forgotten mask cells) ≡ length cells
forgotten-length mask [] = refl
forgotten-length mask (v ∷ vs) = (let rest = from 1 vs in omega arith) where
  from : (c : ℕ) (us : List Value) → length (forgotten_from mask c us) ≡ length us
  from c [] = refl
  from c (u ∷ us) = let rest = from (c + 1) us in omega arith

-- what holds of any word and of the cells holds of forgotten ones
pub forgotten_all : (P : Value → Type 0) (mask : ℕ) (cells : List Value) → P top → All P cells → All P (forgotten mask cells)
forgotten_all P mask [] any all = all
forgotten_all P mask (v ∷ vs) any all = All-cons P v (forgotten_from mask 1 vs) (All-head P v vs all) (from 1 vs (All-tail P v vs all)) where
  chosen : (b : Bool) (u : Value) → P u → P (if b then top else u)
  chosen true u is = any
  chosen false u is = is

  from : (c : ℕ) (us : List Value) → All P us → All P (forgotten_from mask c us)
  from c [] each = each
  from c (u ∷ us) each =
      All-cons P (if has_cell mask c then top else u) (forgotten_from mask (c + 1) us) (chosen (has_cell mask c) u (All-head P u us each))
      (from (c + 1) us (All-tail P u us each))

-- cells that are forgotten of greater ones are greater
pub forgotten_up : (t more : List ℕ) (m n : ℕ) (vs us : List Value) → is_within m n ≡ true → list_all (is_over more) vs ≡ true
    → list_all (is_over t) us ≡ true → is_at_most top top ≡ true → are_at_most vs us ≡ true → are_at_most (forgotten m vs) (forgotten n us) ≡ true
forgotten_up t more m n [] [] within left right any up = refl
forgotten_up t more m n [] (u ∷ us) within left right any up = absurd (false≢true up)
forgotten_up t more m n (v ∷ vs) [] within left right any up = absurd (false≢true up)
forgotten_up t more m n (v ∷ vs) (u ∷ us) within left right any up =
    let parts = and_parts (is_at_most v u) (are_at_most vs us) up in
    and_from (is_at_most v u) (are_at_most (forgotten_from m 1 vs) (forgotten_from n 1 us)) parts.0
    (from 1 vs us ((and_parts (is_over more v) (list_all (is_over more) vs) left).1) parts.1)
  where
    chosen : (a b : Bool) (x y : Value) → (a ≡ true → b ≡ true) → is_value x ≡ true → is_at_most x y ≡ true
        → is_at_most (if a then top else x) (if b then top else y) ≡ true
    chosen true true x y imp is here = any
    chosen true false x y imp is here = absurd (false≢true (imp refl))
    chosen false true x y imp is here = the_order_is_one.under_top x is
    chosen false false x y imp is here = here

    from : (c : ℕ) (xs ys : List Value) → list_all (is_over more) xs ≡ true → are_at_most xs ys ≡ true
        → are_at_most (forgotten_from m c xs) (forgotten_from n c ys) ≡ true
    from c [] [] over here = refl
    from c [] (y ∷ ys) over here = absurd (false≢true here)
    from c (x ∷ xs) [] over here = absurd (false≢true here)
    from c (x ∷ xs) (y ∷ ys) over here =
        let parts = and_parts (is_at_most x y) (are_at_most xs ys) here in
        let is = and_parts (is_over more x) (list_all (is_over more) xs) over in
        and_from (is_at_most (if has_cell m c then top else x) (if has_cell n c then top else y))
        (are_at_most (forgotten_from m (c + 1) xs) (forgotten_from n (c + 1) ys))
        (chosen (has_cell m c) (has_cell n c) x y (within_has m n within c) (is_over-value more x is.0) parts.0)
        (from (c + 1) xs ys is.1 parts.1)

-- a step of the loop that forgets
pub forget_step : (mask j k : ℕ) (cells : List Value) → k < length cells → has_cell mask j ≡ true
    → take (suc k) (slice_set cells k top) ++ forgotten_from mask (suc j) (drop (suc k) (slice_set cells k top)) ≡ take k cells
    ++ forgotten_from mask j (drop k cells)
forget_step mask j k [] below has = absurd (omega arith)
forget_step mask j zero (v ∷ vs) below has = rw (has, add-one) refl
forget_step mask j (suc k) (v ∷ vs) below has = ap (λ (us : List Value). v ∷ us) (forget_step mask j k vs (omega arith) has)

pub keep_step : (mask j k : ℕ) (cells : List Value) → k < length cells → has_cell mask j ≡ false
    → take (suc k) cells ++ forgotten_from mask (suc j) (drop (suc k) cells) ≡ take k cells ++ forgotten_from mask j (drop k cells)
keep_step mask j k [] below has = absurd (omega arith)
keep_step mask j zero (v ∷ vs) below has = rw (has, add-one) refl
keep_step mask j (suc k) (v ∷ vs) below has = ap (λ (us : List Value). v ∷ us) (keep_step mask j k vs (omega arith) has)

-- a cell is forgotten where the set has it
pub any_step : (mask k : ℕ) (cells : List Value) → k < length cells
    → take (suc k) (if has_cell mask k then slice_set cells k top else cells)
    ++ forgotten_from mask (suc k) (drop (suc k) (if has_cell mask k then slice_set cells k top else cells)) ≡ take k cells
    ++ forgotten_from mask k (drop k cells)
any_step mask k cells below = by_test (has_cell mask k) refl where
  by_test : (b : Bool) → has_cell mask k ≡ b
      → take (suc k) (if b then slice_set cells k top else cells)
      ++ forgotten_from mask (suc k) (drop (suc k) (if b then slice_set cells k top else cells)) ≡ take k cells
      ++ forgotten_from mask k (drop k cells)
  by_test true has = forget_step mask k k cells below has
  by_test false has = keep_step mask k k cells below has

-- a cell that is made any word leaves their number
pub any_length : (b : Bool) (cells : List Value) (k : ℕ) → length (if b then slice_set cells k top else cells) ≡ length cells
any_length true cells k = length-set cells k top
any_length false cells k = refl
