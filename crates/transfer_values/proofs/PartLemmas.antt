-- States of which a cell has less: they stay states, and keep their order.
use Rattle.std.proofs.Common.{◌≡◌, ◌≢◌, ℕ, ◌<◌, ◌⊎◌, inl, inr, Bool, true, false, List, length, Option, Some, None, refl, sym, ap, subst, ◌∙◌, arith, eq-eqb}
use Rattle.std.specs.Prelude.{◌==◌, nat_lt, not, if◌then◌else◌, slice_set}
use Rattle.std.specs.Option.{option_and_then}
use Rattle.std.proofs.lemmas.Bool.{and_parts, and_from, cases_eq, cases_lt, ltb-true, true≢false}
use Rattle.std.proofs.lemmas.List.{get_or-set_same, get_or-set_other, length-set, set-get_or, get_or_past}
use Rattle.value_lattice.proofs.TestLemmas.{over_decides, is_over-value, the_order_is_one}
use Rattle.value_lattice.specs.Height.{are_at_most}
use Rattle.value_lattice.specs.Least.{top}
use Rattle.value_lattice.specs.Test.{is_over, is_over_or_none, is_less as is_value_less, is_at_most as is_value_at_most}
use Rattle.value_lattice.specs.Thresholds.{IsThresholds}
use Rattle.value_lattice.specs.Value.{IsOver, is_ret, is_some_ret, is_zero}
use Rattle.value_lattice.specs.declared.value.Value.{Value}
use Rattle.abs_state.proofs.CellsLemmas.{over_all, cells_at, cells_length}
use Rattle.abs_state.proofs.OrderLemmas.{stands, from_stands}
use Rattle.abs_state.proofs.WriteLemmas.{value_all, any_over, writes_keep_order}
use Rattle.abs_state.specs.Flags.{flags_at_most}
use Rattle.abs_state.specs.State.{State, cell_in, cell_at, is_state_over, is_at_most, with_value, with_cell, may_name, may_name_right, may_speak}
use Rattle.abs_state.specs.declared.flags.Flags.{Flags}
use Rattle.abs_state.specs.declared.flags.Flags.TheVariants.{Unknown, Cmp, Res}
use Rattle.abs_state.specs.declared.flags.Right.{Right}
use Rattle.abs_state.specs.declared.flags.Right.TheVariants.{Cell, Word}
use Rattle.transfer_rules.specs.Lawful.{is_over_or_none as is_left_over, is_less}
use Rattle.transfer_values.specs.Test.{with_part, left_with}

-- any word is over the thresholds
pub top_over : (t : List ℕ) → IsThresholds t → is_over t top ≡ true
top_over t is = (over_decides t top).1 (any_over t is)

-- a value is at most itself
pub same_value : (t : List ℕ) (v : Value) → is_over t v ≡ true → is_value_at_most v v ≡ true
same_value t v over = the_order_is_one.same v (is_over-value t v over)

-- each value is at most any word
pub under_top : (t : List ℕ) (v : Value) → is_over t v ≡ true → is_value_at_most v top ≡ true
under_top t v over = the_order_is_one.under_top v (is_over-value t v over)

-- a cell of a state over thresholds has a value over them, and where there is no such cell, any word is meant
pub cell_over : (t : List ℕ) (s : State) (c : ℕ) → IsThresholds t → is_state_over t s ≡ true → is_over t (cell_at s c) ≡ true
cell_over t s c is fits =
    elim (cases_lt c (length s.cells)) [
      | inl low ↦ (over_decides t (cell_at s c)).1 ((over_all t s.cells).0 (stands t s fits).over c top low)
      | inr high ↦ (let past = get_or_past s.cells c top high in subst (λ (v : Value). is_over t v ≡ true) (sym past) (top_over t is))
    ]

-- cells of ordered states are ordered
pub any_cell_up : (t : List ℕ) (vs us : List Value) (c : ℕ) → IsThresholds t → are_at_most vs us ≡ true → is_value_at_most (cell_in vs c) (cell_in us c) ≡ true
any_cell_up t vs us c is up =
    elim (cases_lt c (length vs)) [
      | inl low ↦ cells_at vs us c up low
      | inr high ↦
          (let same = cells_length vs us up in
          let past = get_or_past vs c top high in
          let also = get_or_past us c top (omega arith) in
          let here : is_value_at_most top top ≡ true = same_value t top (top_over t is) in
          subst (λ (v : Value). is_value_at_most v (cell_in us c) ≡ true) (sym past) (subst (λ (v : Value). is_value_at_most top v ≡ true) (sym also) here))
    ]

-- a greater state has greater cells
pub cell_up : (t : List ℕ) (a b : State) (c : ℕ) → IsThresholds t → is_at_most a b ≡ true → is_value_at_most (cell_at a c) (cell_at b c) ≡ true
cell_up t a b c is up = any_cell_up t a.cells b.cells c is (and_parts (are_at_most a.cells b.cells) (flags_at_most a.flags b.flags) up).0

-- what a write leaves of other cells, of cell 0 and of the length
pub value_length : (cells : List Value) (c : ℕ) (v : Value) → length (with_value cells c v) ≡ length cells
value_length cells c v = by_test (c == 0) where
  by_test : (b : Bool) → length (if b then cells else slice_set cells c v) ≡ length cells
  by_test true = refl
  by_test false = length-set cells c v

other_value : (cells : List Value) (c k : ℕ) (v : Value) → k ≢ c → cell_in (with_value cells c v) k ≡ cell_in cells k
other_value cells c k v apart = by_test (c == 0) where
  by_test : (b : Bool) → cell_in (if b then cells else slice_set cells c v) k ≡ cell_in cells k
  by_test true = refl
  by_test false = get_or-set_other cells c k v top apart

-- a write leaves cell 0
pub first_value : (cells : List Value) (c : ℕ) (v : Value) → cell_in (with_value cells c v) 0 ≡ cell_in cells 0
first_value cells c v =
    elim (cases_eq c 0) [
      | inl zero_cell ↦ (let t : (c == 0) ≡ true = eq-eqb c 0 zero_cell in rw t refl)
      | inr other ↦ other_value cells c 0 v (λ e. other (sym e))
    ]

-- a cell behind a write has what is written, or what it had
pub written_cases : (cells : List Value) (c k : ℕ) (v : Value) → k < length cells
    → (cell_in (with_value cells c v) k ≡ v) ⊎ (cell_in (with_value cells c v) k ≡ cell_in cells k)
written_cases cells c k v low =
    elim (cases_eq k c) [
      | inl same ↦ by_test (c == 0) same
      | inr other ↦ inr (other_value cells c k v other)
    ]
  where
    by_test : (b : Bool) → k ≡ c → (cell_in (if b then cells else slice_set cells c v) k ≡ v)
        ⊎ (cell_in (if b then cells else slice_set cells c v) k ≡ cell_in cells k)
    by_test true same = inr refl
    by_test false same =
        let within : c < length cells = omega arith in
        inl (ap (λ (n : ℕ). cell_in (slice_set cells c v) n) same ∙ get_or-set_same cells c v top within)

-- flags may speak of a cell that has less, where it isn't the return address
name_part : (cells : List Value) (c k : ℕ) (v : Value) → length cells ≡ 48 → is_ret v ≡ false → may_name cells k ≡ true
    → may_name (with_value cells c v) k ≡ true
name_part cells c k v size words may =
    let parts = and_parts (nat_lt k 48) (not (is_ret (cell_in cells k))) may in
    let low : k < 48 = ltb-true k 48 parts.0 in
    and_from (nat_lt k 48) (not (is_ret (cell_in (with_value cells c v) k))) parts.0
    (elim (written_cases cells c k v (omega arith)) [
      | inl new ↦ ap (λ (u : Value). not (is_ret u)) new ∙ ap not words
      | inr old ↦ ap (λ (u : Value). not (is_ret u)) old ∙ parts.1
    ])

right_part : (cells : List Value) (c : ℕ) (r : Right) (v : Value) → length cells ≡ 48 → is_ret v ≡ false → may_name_right cells r ≡ true
    → may_name_right (with_value cells c v) r ≡ true
right_part cells c (Cell k) v size words may = name_part cells c k v size words may
right_part cells c (Word n) v size words may = may

pub speak_part : (cells : List Value) (c : ℕ) (f : Flags) (v : Value) → length cells ≡ 48 → is_ret v ≡ false → may_speak cells f ≡ true
    → may_speak (with_value cells c v) f ≡ true
speak_part cells c Unknown v size words may = refl
speak_part cells c (Cmp left right) v size words may =
    let parts = and_parts (may_name cells left) (may_name_right cells right) may in
    and_from (may_name (with_value cells c v) left) (may_name_right (with_value cells c v) right)
    (name_part cells c left v size words parts.0) (right_part cells c right v size words parts.1)
speak_part cells c (Res cell) v size words may = name_part cells c cell v size words may

-- a state of which a cell has less is one
pub part_over : (t : List ℕ) (s : State) (c : ℕ) (v : Value) → is_state_over t s ≡ true → is_over t v ≡ true → is_ret v ≡ false
    → is_state_over t (with_part s c v) ≡ true
part_over t s c v fits over words =
    let a = stands t s fits in
    from_stands t (with_part s c v)
    (record {
      size = value_length s.cells c v ∙ a.size;
      over = (over_all t (with_value s.cells c v)).1 (value_all (IsOver t) s.cells c v ((over_decides t v).0 over) ((over_all t s.cells).0 a.over));
      zero_cell = ap is_zero (first_value s.cells c v) ∙ a.zero_cell;
      named = speak_part s.cells c s.flags v a.size words a.named;
    })

-- writes of ordered values to ordered states
pub part_up : (a b : State) (c : ℕ) (v u : Value) → is_at_most a b ≡ true → is_value_at_most v u ≡ true → is_at_most (with_part a c v) (with_part b c u) ≡ true
part_up a b c v u up here =
    let parts = and_parts (are_at_most a.cells b.cells) (flags_at_most a.flags b.flags) up in
    let cells = and_parts (are_at_most (with_value a.cells c v) (with_value b.cells c u)) (flags_at_most (with_cell a c v).flags (with_cell b c u).flags)
    (writes_keep_order.cell a b c v u up here) in
    and_from (are_at_most (with_value a.cells c v) (with_value b.cells c u)) (flags_at_most a.flags b.flags) cells.0 parts.1

-- a cell written with its own value stays
pub same_written : (cells : List Value) (c : ℕ) → with_value cells c (cell_in cells c) ≡ cells
same_written cells c = by_test (c == 0) where
  by_test : (b : Bool) → (if b then cells else slice_set cells c (cell_in cells c)) ≡ cells
  by_test true = refl
  by_test false = set-get_or cells c top

-- a state of which a cell has less is at most the state
pub part_under : (a b : State) (c : ℕ) (v : Value) → is_at_most a b ≡ true → is_value_at_most v (cell_at b c) ≡ true → is_at_most (with_part a c v) b ≡ true
part_under a b c v up here =
    subst (λ (cells : List Value). is_at_most (with_part a c v) (record { cells = cells; flags = b.flags }) ≡ true) (same_written b.cells c)
    (part_up a b c v (cell_at b c) up here)

-- the same, where anything is left of the cell
pub left_over : (t : List ℕ) (s : State) (c : ℕ) (r : Option Value) → is_state_over t s ≡ true → is_over_or_none t r ≡ true → is_some_ret r ≡ false
    → is_left_over t (left_with c s r) ≡ true
left_over t s c None fits over words = refl
left_over t s c (Some v) fits over words = part_over t s c v fits over words

-- a lesser value written to a lesser state leaves less
pub left_falls : (a b : State) (c : ℕ) (q r : Option Value) → is_at_most a b ≡ true → is_value_less q r ≡ true
    → is_less (left_with c a q) (left_with c b r) ≡ true
left_falls a b c None r up less = refl
left_falls a b c (Some v) None up less = less
left_falls a b c (Some v) (Some u) up less = part_up a b c v u up less

-- what a cell is narrowed to leaves at most the state
pub left_under : (a b : State) (c : ℕ) (q : Option Value) → is_at_most a b ≡ true → is_value_less q (Some (cell_at b c)) ≡ true
    → is_less (left_with c a q) (Some b) ≡ true
left_under a b c None up less = refl
left_under a b c (Some v) up less = part_under a b c v up less

-- one after the other: what may stand, and what is less
pub then_over : (t : List ℕ) (o : Option State) (f : State → Option State) → is_left_over t o ≡ true
    → ((s : State) → o ≡ Some s → is_state_over t s ≡ true → is_left_over t (f s) ≡ true) → is_left_over t (option_and_then f o) ≡ true
then_over t None f fits each = refl
then_over t (Some s) f fits each = each s refl fits

-- what is made of less is less
pub then_falls : (o p : Option State) (f g : State → Option State) → is_less o p ≡ true
    → ((a b : State) → o ≡ Some a → p ≡ Some b → is_at_most a b ≡ true → is_less (f a) (g b) ≡ true)
    → is_less (option_and_then f o) (option_and_then g p) ≡ true
then_falls None p f g less each = refl
then_falls (Some a) None f g less each = absurd (true≢false (sym less))
then_falls (Some a) (Some b) f g less each = each a b refl refl less

-- what is made of what is left stays at most a state
pub then_under : (o : Option State) (b : State) (f : State → Option State) → is_less o (Some b) ≡ true
    → ((a : State) → o ≡ Some a → is_at_most a b ≡ true → is_less (f a) (Some b) ≡ true) → is_less (option_and_then f o) (Some b) ≡ true
then_under None b f less each = refl
then_under (Some a) b f less each = each a refl less

-- a state that is left may stand there
pub some_over : (t : List ℕ) (o : Option State) (s : State) → is_left_over t o ≡ true → o ≡ Some s → is_state_over t s ≡ true
some_over t o s over is = subst (λ (p : Option State). is_left_over t p ≡ true) is over
