-- The join of states is the least that is at least both.
use Rattle.std.proofs.Common.{◌≡◌, ℕ, ◌<◌, ◌&&◌, ◌⊎◌, inl, inr, Bool, true, false, List, [], ◌∷◌, length, refl, sym, ap, subst, ◌∙◌, arith}
use Rattle.std.specs.Prelude.{◌==◌, ◌^◌, nat_lt, not, if◌then◌else◌}
use Rattle.std.specs.List.{All, list_all}
use Rattle.std.proofs.lemmas.Bool.{and_parts, and_from, ltb-true, false≢true}
use Rattle.value_lattice.proofs.FunctionLemmas.{join_least, join_is_ret}
use Rattle.value_lattice.proofs.MayLemmas.{zero_is, one_set}
use Rattle.value_lattice.proofs.TestLemmas.{over_decides, is_over-value, the_order_is_one}
use Rattle.value_lattice.specs.Height.{are_at_most}
use Rattle.value_lattice.specs.Least.{join}
use Rattle.value_lattice.specs.Test.{is_over, is_at_most as is_value_at_most}
use Rattle.value_lattice.specs.Thresholds.{IsThresholds}
use Rattle.value_lattice.specs.Value.{IsOver, is_ret, is_zero}
use Rattle.value_lattice.specs.declared.value.Value.{Value}
use Rattle.value_lattice.specs.declared.value.Value.TheVariants.{Words}
use Rattle.abs_state.proofs.CellsLemmas.{over_all, joined-length, joined-at, joined_over, cells_first, cells_second, cells_least}
use Rattle.abs_state.proofs.FlagsLemmas.{joined_cases, joined_first, joined_second, joined_least}
use Rattle.abs_state.proofs.OrderLemmas.{Stands, stands, from_stands, state_stands, stands_state}
use Rattle.abs_state.specs.Flags.{flags_at_most, joined_flags}
use Rattle.abs_state.specs.Laws.{StatesAreJoined}
use Rattle.abs_state.specs.State.{State, IsState, cell_in, cell_at, is_state_over, joined_cells, joined, is_at_most, may_name, may_name_right, may_speak}
use Rattle.abs_state.specs.declared.flags.Flags.{Flags}
use Rattle.abs_state.specs.declared.flags.Flags.TheVariants.{Unknown, Cmp, Res}
use Rattle.abs_state.specs.declared.flags.Right.{Right}
use Rattle.abs_state.specs.declared.flags.Right.TheVariants.{Cell, Word}

-- the set of the word 0 is over all thresholds
zero_over : (t : List ℕ) → is_over t (Words (0 ∷ [])) ≡ true
zero_over t = (over_decides t (Words (0 ∷ []))).1 (record { value = one_set 0 (omega arith); ends = tt })

zero_joined : (t : List ℕ) (v u : Value) → IsThresholds t → is_zero v ≡ true → is_zero u ≡ true → is_zero (join t v u) ≡ true
zero_joined t v u is left right =
    let z = Words (0 ∷ []) in
    let a : v ≡ Words (0 ∷ []) = zero_is v left in
    let b : u ≡ Words (0 ∷ []) = zero_is u right in
    let o = zero_over t in
    let same = the_order_is_one.same (Words (0 ∷ [])) (is_over-value t (Words (0 ∷ [])) o) in
    let most = join_least t (Words (0 ∷ [])) (Words (0 ∷ [])) (Words (0 ∷ [])) is o o o same same in
    let e : join t (Words (0 ∷ [])) (Words (0 ∷ [])) ≡ Words (0 ∷ []) = the_order_is_one.under_zero (join t (Words (0 ∷ [])) (Words (0 ∷ []))) most in
    ap is_zero (ap (λ (x : Value). join t x u) a ∙ ap (λ (x : Value). join t (Words (0 ∷ [])) x) b ∙ e)

module _ (t : List ℕ) (vs us : List Value) (size : length vs ≡ 48) (other : length us ≡ 48) where
  -- a cell of which both may speak stays one
  name_joined : (c : ℕ) → may_name vs c ≡ true → may_name us c ≡ true → may_name (joined_cells t vs us) c ≡ true
  name_joined c left right =
      let a = and_parts (nat_lt c 48) (not (is_ret (cell_in vs c))) left in
      let b = and_parts (nat_lt c 48) (not (is_ret (cell_in us c))) right in
      let below : c < 48 = ltb-true c 48 a.0 in
      let at : cell_in (joined_cells t vs us) c ≡ join t (cell_in vs c) (cell_in us c) = joined-at t vs us c (size ∙ sym other) (omega arith) in
      let ret : is_ret (cell_in (joined_cells t vs us) c) ≡ (is_ret (cell_in vs c) && is_ret (cell_in us c)) =
      ap is_ret at ∙ join_is_ret t (cell_in vs c) (cell_in us c) in
      and_from (nat_lt c 48) (not (is_ret (cell_in (joined_cells t vs us) c))) a.0 (ap not ret ∙ none (is_ret (cell_in vs c)) (is_ret (cell_in us c)) a.1)
    where
      none : (x y : Bool) → not x ≡ true → not (x && y) ≡ true
      none true y e = absurd (false≢true e)
      none false y e = refl

  right_joined : (r : Right) → may_name_right vs r ≡ true → may_name_right us r ≡ true → may_name_right (joined_cells t vs us) r ≡ true
  right_joined (Cell c) left right = name_joined c left right
  right_joined (Word w) left right = left

  speak_joined : (f : Flags) → may_speak vs f ≡ true → may_speak us f ≡ true → may_speak (joined_cells t vs us) f ≡ true
  speak_joined Unknown left right = refl
  speak_joined (Cmp c r) left right =
      let a = and_parts (may_name vs c) (may_name_right vs r) left in
      let b = and_parts (may_name us c) (may_name_right us r) right in
      and_from (may_name (joined_cells t vs us) c) (may_name_right (joined_cells t vs us) r) (name_joined c a.0 b.0) (right_joined r a.1 b.1)
  speak_joined (Res c) left right = name_joined c left right

pub join_stands : (t : List ℕ) (a b : State) → IsThresholds t → Stands t a → Stands t b → Stands t (joined t a b)
join_stands t a b is left right =
    let same : length a.cells ≡ length b.cells = left.size ∙ sym right.size in
    let some : 0 < length a.cells = (let e = left.size in omega arith) in
    record {
      size = joined-length t a.cells b.cells same ∙ left.size;
      over = joined_over t a.cells b.cells is left.over right.over;
      zero_cell = ap is_zero (joined-at t a.cells b.cells 0 same some) ∙ zero_joined t (cell_at a 0) (cell_at b 0) is left.zero_cell right.zero_cell;
      named = named (joined_cases a.flags b.flags);
    }
  where
    named : ((a.flags ≡ b.flags) × (joined_flags a.flags b.flags ≡ a.flags)) ⊎ (joined_flags a.flags b.flags ≡ Unknown)
        → may_speak (joined_cells t a.cells b.cells) (joined_flags a.flags b.flags) ≡ true
    named (inl e) =
        subst (λ (f : Flags). may_speak (joined_cells t a.cells b.cells) f ≡ true) (sym e.1)
        (speak_joined t a.cells b.cells left.size right.size a.flags left.named (subst (λ (f : Flags). may_speak b.cells f ≡ true) (sym e.0) right.named))
    named (inr e) = subst (λ (f : Flags). may_speak (joined_cells t a.cells b.cells) f ≡ true) (sym e) refl

-- the join of states is one
pub join_is_state : (t : List ℕ) (a b : State) → IsThresholds t → IsState a → IsState b → All (IsOver t) a.cells → All (IsOver t) b.cells
    → IsState (joined t a b)
join_is_state t a b is left right first second =
    stands_state t (joined t a b) (join_stands t a b is (state_stands t a left first) (state_stands t b right second))

-- the join of two states is the least that is at least both, and its flags speak of no return address
pub states_are_joined : StatesAreJoined
states_are_joined = record { stands = both; first = first; second = second; least = least } where
  both : (t : List ℕ) (a b : State) → IsThresholds t → is_state_over t a ≡ true → is_state_over t b ≡ true → is_state_over t (joined t a b) ≡ true
  both t a b is left right = from_stands t (joined t a b) (join_stands t a b is (stands t a left) (stands t b right))

  first : (t : List ℕ) (a b : State) → IsThresholds t → is_state_over t a ≡ true → is_state_over t b ≡ true → is_at_most a (joined t a b) ≡ true
  first t a b is left right =
      let x = stands t a left in
      let y = stands t b right in
      and_from (are_at_most a.cells (joined_cells t a.cells b.cells)) (flags_at_most a.flags (joined_flags a.flags b.flags))
      (cells_first t a.cells b.cells is (x.size ∙ sym y.size) x.over y.over)
      (joined_first a.flags b.flags)

  second : (t : List ℕ) (a b : State) → IsThresholds t → is_state_over t a ≡ true → is_state_over t b ≡ true → is_at_most b (joined t a b) ≡ true
  second t a b is left right =
      let x = stands t a left in
      let y = stands t b right in
      and_from (are_at_most b.cells (joined_cells t a.cells b.cells)) (flags_at_most b.flags (joined_flags a.flags b.flags))
      (cells_second t a.cells b.cells is (x.size ∙ sym y.size) x.over y.over)
      (joined_second a.flags b.flags)

  least : (t : List ℕ) (a b c : State) → IsThresholds t → is_state_over t a ≡ true → is_state_over t b ≡ true → is_state_over t c ≡ true
      → is_at_most a c ≡ true → is_at_most b c ≡ true → is_at_most (joined t a b) c ≡ true
  least t a b c is left right most one two =
      let p = and_parts (are_at_most a.cells c.cells) (flags_at_most a.flags c.flags) one in
      let q = and_parts (are_at_most b.cells c.cells) (flags_at_most b.flags c.flags) two in
      and_from (are_at_most (joined_cells t a.cells b.cells) c.cells) (flags_at_most (joined_flags a.flags b.flags) c.flags)
      (cells_least t a.cells b.cells c.cells is (stands t a left).over (stands t b right).over (stands t c most).over p.0 q.0)
      (joined_least a.flags b.flags c.flags p.1 q.1)
