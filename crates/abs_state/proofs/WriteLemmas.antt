-- What is written to states: it keeps their order, and may stand where they may.
use Rattle.std.proofs.Common.{◌≡◌, ◌≢◌, ℕ, ◌<◌, ◌&&◌, ◌||◌, ◌⊎◌, inl, inr, Bool, true, false, List, [], ◌∷◌, length, get_or, refl, sym, ap, subst}
use Rattle.std.proofs.Common.{◌∙◌, arith, eq-eqb}
use Rattle.std.specs.Prelude.{◌==◌, nat_lt, not, if◌then◌else◌, slice_set}
use Rattle.std.specs.List.{All, list_all, range_with_len}
use Rattle.std.proofs.lemmas.Bool.{and_parts, and_from, cases_Bool, cases_eq, eqb-true, both_ways}
use Rattle.std.proofs.lemmas.List.{get_or-set_other, length-set}
use Rattle.std.proofs.lemmas.List.Elements.{All-set, All-map}
use Rattle.call_effects.specs.Mask.{is_within}
use Rattle.value_lattice.proofs.FunctionLemmas.{top_is_least}
use Rattle.value_lattice.proofs.MayLemmas.{one_set}
use Rattle.value_lattice.proofs.TestLemmas.{over_decides, value_decides, the_order_is_one}
use Rattle.value_lattice.specs.Height.{are_at_most}
use Rattle.value_lattice.specs.Least.{top}
use Rattle.value_lattice.specs.Test.{is_over, is_value, is_at_most as is_value_at_most}
use Rattle.value_lattice.specs.Thresholds.{IsThresholds}
use Rattle.value_lattice.specs.Value.{IsOver, IsValue, is_ret, is_zero}
use Rattle.value_lattice.specs.declared.value.Value.{Value}
use Rattle.value_lattice.specs.declared.value.Value.TheVariants.{Words, Ret}
use Rattle.abs_state.proofs.CellsLemmas.{over_all, values_of, set_up, forgotten-length, forgotten_all, forgotten_up}
use Rattle.abs_state.proofs.FlagsLemmas.{or_first, or_second, forget_up}
use Rattle.abs_state.proofs.OrderLemmas.{Stands, stands, from_stands, state_stands}
use Rattle.abs_state.proofs.StateLemmas.{entry_is_state, top_is_value}
use Rattle.abs_state.specs.Flags.{names, is_right_cell, flags_at_most}
use Rattle.abs_state.specs.Laws.{WritesKeepOrder, WritesStand}
use Rattle.abs_state.specs.State.{State, IsState, cell_in, cell_at, entry_cell, entry_cells, entry_state, is_state_over, is_at_most, with_value}
use Rattle.abs_state.specs.State.{with_cell, with_flags, forgotten, without, may_name, may_name_right, may_speak}
use Rattle.abs_state.specs.declared.flags.Flags.{Flags}
use Rattle.abs_state.specs.declared.flags.Flags.TheVariants.{Unknown, Cmp, Res}
use Rattle.abs_state.specs.declared.flags.Right.{Right}
use Rattle.abs_state.specs.declared.flags.Right.TheVariants.{Cell, Word}

value_up : (b : Bool) (vs us : List Value) (c : ℕ) (v u : Value) → are_at_most vs us ≡ true → is_value_at_most v u ≡ true
    → are_at_most (if b then vs else slice_set vs c v) (if b then us else slice_set us c u) ≡ true
value_up true vs us c v u up here = up
value_up false vs us c v u up here = set_up vs us c v u up here

-- what is written to greater states is greater
pub writes_keep_order : WritesKeepOrder
writes_keep_order = record { cell = cell; forgotten = gone } where
  cell : (a b : State) (c : ℕ) (v u : Value) → is_at_most a b ≡ true → is_value_at_most v u ≡ true → is_at_most (with_cell a c v) (with_cell b c u) ≡ true
  cell a b c v u up here =
      let parts = and_parts (are_at_most a.cells b.cells) (flags_at_most a.flags b.flags) up in
      and_from (are_at_most (with_value a.cells c v) (with_value b.cells c u)) (flags_at_most (with_cell a c v).flags (with_cell b c u).flags)
      (value_up (c == 0) a.cells b.cells c v u parts.0 here)
      (forget_up a.flags b.flags c parts.1)

  gone : (t more : List ℕ) (a b : State) (m n : ℕ) → is_state_over more a ≡ true → is_state_over t b ≡ true → is_at_most a b ≡ true
      → is_within m n ≡ true → is_at_most (without a m) (without b n) ≡ true
  gone t more a b m n left right up within =
      let parts = and_parts (are_at_most a.cells b.cells) (flags_at_most a.flags b.flags) up in
      and_from (are_at_most (forgotten m a.cells) (forgotten n b.cells)) true
      (forgotten_up t more m n a.cells b.cells within (stands more a left).over (stands t b right).over
      (the_order_is_one.under_top top ((value_decides top).1 top_is_value)) parts.0)
      refl

-- flags may speak of cells that stay
name_same : (vs us : List Value) (c : ℕ) → cell_in us c ≡ cell_in vs c → may_name vs c ≡ true → may_name us c ≡ true
name_same vs us c e may = ap (λ (v : Value). nat_lt c 48 && not (is_ret v)) e ∙ may

right_same : (vs us : List Value) (r : Right) → ((c : ℕ) → is_right_cell r c ≡ true → cell_in us c ≡ cell_in vs c) → may_name_right vs r ≡ true
    → may_name_right us r ≡ true
right_same vs us (Cell c) each may = name_same vs us c (each c (eq-eqb c c refl)) may
right_same vs us (Word w) each may = may

pub speak_same : (vs us : List Value) (f : Flags) → ((c : ℕ) → names f c ≡ true → cell_in us c ≡ cell_in vs c) → may_speak vs f ≡ true → may_speak us f ≡ true
speak_same vs us Unknown each may = refl
speak_same vs us (Cmp left right) each may =
    let parts = and_parts (may_name vs left) (may_name_right vs right) may in
    and_from (may_name us left) (may_name_right us right)
    (name_same vs us left (each left (or_first (left == left) (is_right_cell right left) (eq-eqb left left refl))) parts.0)
    (right_same vs us right (λ c here. each c (or_second (left == c) (is_right_cell right c) here)) parts.1)
speak_same vs us (Res cell) each may = name_same vs us cell (each cell (eq-eqb cell cell refl)) may

-- a write changes no other cell
other_value : (cells : List Value) (c k : ℕ) (v : Value) → k ≢ c → cell_in (with_value cells c v) k ≡ cell_in cells k
other_value cells c k v apart = by_test (c == 0) where
  by_test : (b : Bool) → cell_in (if b then cells else slice_set cells c v) k ≡ cell_in cells k
  by_test true = refl
  by_test false = get_or-set_other cells c k v top apart

-- a write leaves cell 0
first_value : (cells : List Value) (c : ℕ) (v : Value) → cell_in (with_value cells c v) 0 ≡ cell_in cells 0
first_value cells c v =
    elim (cases_eq c 0) [
      | inl zero_cell ↦ (let t : (c == 0) ≡ true = eq-eqb c 0 zero_cell in rw t refl)
      | inr other ↦ other_value cells c 0 v (λ e. other (sym e))
    ]

value_length : (cells : List Value) (c : ℕ) (v : Value) → length (with_value cells c v) ≡ length cells
value_length cells c v = by_test (c == 0) where
  by_test : (b : Bool) → length (if b then cells else slice_set cells c v) ≡ length cells
  by_test true = refl
  by_test false = length-set cells c v

-- what holds of a value and of the cells holds of the cells with it
pub value_all : (P : Value → Type 0) (cells : List Value) (c : ℕ) (v : Value) → P v → All P cells → All P (with_value cells c v)
value_all P cells c v is all = by_test (c == 0) where
  by_test : (b : Bool) → All P (if b then cells else slice_set cells c v)
  by_test true = all
  by_test false = All-set P cells c v is all

speak_written : (cells : List Value) (f : Flags) (c : ℕ) (v : Value) → may_speak cells f ≡ true
    → may_speak (with_value cells c v) (if names f c then Unknown else f) ≡ true
speak_written cells f c v may = by_test (names f c) refl where
  by_test : (b : Bool) → names f c ≡ b → may_speak (with_value cells c v) (if b then Unknown else f) ≡ true
  by_test true named = refl
  by_test false free =
      speak_same cells (with_value cells c v) f
      (λ k here. other_value cells c k v (λ same. both_ways (names f c) free (subst (λ (n : ℕ). names f n ≡ true) same here))) may

-- any word is over the thresholds
pub any_over : (t : List ℕ) → IsThresholds t → IsOver t top
any_over t is = (top_is_least t is).over

entry_over : (t : List ℕ) (c : ℕ) → IsThresholds t → IsOver t (entry_cell c)
entry_over t c is = by_tests (c == 0) (c == 15) where
  by_tests : (zero_cell link : Bool) → IsOver t (if zero_cell then Words (0 ∷ []) else (if link then Ret else top))
  by_tests true link = record { value = one_set 0 (omega arith); ends = tt }
  by_tests false true = record { value = tt; ends = tt }
  by_tests false false = any_over t is

-- the cells at an entry are over any thresholds
pub entry_all : (t : List ℕ) → IsThresholds t → All (IsOver t) entry_cells
unfolding entry_cells
entry_all t is = All-map (IsOver t) entry_cell (range_with_len 0 48) (λ k d h. entry_over t (get_or (range_with_len 0 48) k d) is)

-- what is forgotten leaves cell 0
pub first_kept : (mask : ℕ) (cells : List Value) → cell_in (forgotten mask cells) 0 ≡ cell_in cells 0
first_kept mask [] = refl
first_kept mask (v ∷ vs) = refl

-- what is written to a state may stand where the state may
pub writes_stand : WritesStand
writes_stand = record {
  cell = cell;
  flags = flags;
  forgotten = gone;
  entry = λ t is. from_stands t entry_state (state_stands t entry_state entry_is_state (entry_all t is));
} where
  cell : (t : List ℕ) (s : State) (c : ℕ) (v : Value) → is_state_over t s ≡ true → is_over t v ≡ true → is_state_over t (with_cell s c v) ≡ true
  cell t s c v is over =
      let a = stands t s is in
      from_stands t (with_cell s c v)
      (record {
        size = value_length s.cells c v ∙ a.size;
        over = (over_all t (with_value s.cells c v)).1 (value_all (IsOver t) s.cells c v ((over_decides t v).0 over) ((over_all t s.cells).0 a.over));
        zero_cell = ap is_zero (first_value s.cells c v) ∙ a.zero_cell;
        named = speak_written s.cells s.flags c v a.named;
      })

  flags : (t : List ℕ) (s : State) (f : Flags) → is_state_over t s ≡ true → may_speak s.cells f ≡ true → is_state_over t (with_flags s f) ≡ true
  flags t s f is may =
      let a = stands t s is in
      from_stands t (with_flags s f) (record { size = a.size; over = a.over; zero_cell = a.zero_cell; named = may })

  gone : (t : List ℕ) (s : State) (mask : ℕ) → IsThresholds t → is_state_over t s ≡ true → is_state_over t (without s mask) ≡ true
  gone t s mask ok is =
      let a = stands t s is in
      from_stands t (without s mask)
      (record {
        size = forgotten-length mask s.cells ∙ a.size;
        over = (over_all t (forgotten mask s.cells)).1 (forgotten_all (IsOver t) mask s.cells (any_over t ok) ((over_all t s.cells).0 a.over));
        zero_cell = ap is_zero (first_kept mask s.cells) ∙ a.zero_cell;
        named = refl;
      })

-- a state without what it said of some cells is one
pub forget_is_state : (s : State) (mask : ℕ) → IsState s → IsState (without s mask)
forget_is_state s mask is =
    record {
      size = forgotten-length mask s.cells ∙ is.size;
      values = forgotten_all IsValue mask s.cells top_is_value is.values;
      zero_cell = first_kept mask s.cells ∙ is.zero_cell;
      named = refl;
    }
