-- The order and the ranks of states, and what it is to stand where thresholds are.
use Rattle.std.proofs.Common.{◌≡◌, ℕ, ◌+◌, ◌*◌, ◌<◌, ◌≤◌, ◌⊎◌, inl, inr, ◌&&◌, Bool, true, false, List, [], ◌∷◌, length, refl, sym, ap, subst, ◌∙◌}
use Rattle.std.proofs.Common.{arith, eq-eqb}
use Rattle.std.specs.Prelude.{◌==◌, if◌then◌else◌}
use Rattle.std.specs.List.{All, list_all}
use Rattle.std.proofs.lemmas.Bool.{and_parts, and_from, cases_Bool, eqb-true, both_ways}
use Rattle.value_lattice.proofs.MayLemmas.{zero_is}
use Rattle.value_lattice.proofs.RankLemmas.{heights_rise, heights_bound, lists_are_same}
use Rattle.value_lattice.specs.Height.{are_at_most, heights}
use Rattle.value_lattice.specs.Test.{is_over}
use Rattle.value_lattice.specs.Value.{IsValue, IsOver, is_zero}
use Rattle.value_lattice.specs.declared.value.Value.{Value}
use Rattle.value_lattice.specs.declared.value.Value.TheVariants.{Words}
use Rattle.abs_state.proofs.CellsLemmas.{over_all, values_of, cells_same, cells_onward}
use Rattle.abs_state.proofs.FlagsLemmas.{up_cases, up_same, up_onward, up_both}
use Rattle.abs_state.specs.Flags.{flags_at_most, is_unknown}
use Rattle.abs_state.specs.Laws.{StatesAreOrdered, StatesRise}
use Rattle.abs_state.specs.State.{State, IsState, cell_at, is_state_over, is_at_most, may_speak, rank}
use Rattle.abs_state.specs.declared.flags.Flags.{Flags}
use Rattle.abs_state.specs.declared.flags.Flags.TheVariants.{Unknown, Cmp, Res}

-- the parts of a state over thresholds
pub record Stands (t : List ℕ) (s : State) : Type 0 where
  pub size : length s.cells ≡ 48
  pub over : list_all (is_over t) s.cells ≡ true
  pub zero_cell : is_zero (cell_at s 0) ≡ true
  pub named : may_speak s.cells s.flags ≡ true

-- a state that passes the test stands over the thresholds
pub stands : (t : List ℕ) (s : State) → is_state_over t s ≡ true → Stands t s
stands t s is =
    let a = and_parts (length s.cells == 48) (list_all (is_over t) s.cells && (is_zero (cell_at s 0) && may_speak s.cells s.flags)) is in
    let b = and_parts (list_all (is_over t) s.cells) (is_zero (cell_at s 0) && may_speak s.cells s.flags) a.1 in
    let c = and_parts (is_zero (cell_at s 0)) (may_speak s.cells s.flags) b.1 in
    record { size = eqb-true (length s.cells) 48 a.0; over = b.0; zero_cell = c.0; named = c.1 }

-- a state that stands over thresholds passes the test
pub from_stands : (t : List ℕ) (s : State) → Stands t s → is_state_over t s ≡ true
from_stands t s is =
    and_from (length s.cells == 48) (list_all (is_over t) s.cells && (is_zero (cell_at s 0) && may_speak s.cells s.flags)) (eq-eqb (length s.cells) 48 is.size)
    (and_from (list_all (is_over t) s.cells) (is_zero (cell_at s 0) && may_speak s.cells s.flags) is.over
    (and_from (is_zero (cell_at s 0)) (may_speak s.cells s.flags) is.zero_cell is.named))

-- a state whose values are over the thresholds stands there, and what stands there is a state
pub state_stands : (t : List ℕ) (s : State) → IsState s → All (IsOver t) s.cells → Stands t s
state_stands t s is over = record { size = is.size; over = (over_all t s.cells).1 over; zero_cell = ap is_zero is.zero_cell; named = is.named }

-- a state that stands over thresholds is one
pub stands_state : (t : List ℕ) (s : State) → Stands t s → IsState s
stands_state t s is =
    record {
      size = is.size;
      values = values_of t s.cells ((over_all t s.cells).0 is.over);
      zero_cell = zero_is (cell_at s 0) is.zero_cell;
      named = is.named;
    }

-- each state is at most itself, the order goes on from one to the next, and two states that are at most each other are
-- the same
pub states_are_ordered : StatesAreOrdered
states_are_ordered = record { same = same; onward = onward; both = both } where
  same : (t : List ℕ) (a : State) → is_state_over t a ≡ true → is_at_most a a ≡ true
  same t a is = and_from (are_at_most a.cells a.cells) (flags_at_most a.flags a.flags) (cells_same t a.cells (stands t a is).over)
      (up_same a.flags a.flags refl)

  onward : (a b c : State) → is_at_most a b ≡ true → is_at_most b c ≡ true → is_at_most a c ≡ true
  onward a b c one two =
      let first = and_parts (are_at_most a.cells b.cells) (flags_at_most a.flags b.flags) one in
      let second = and_parts (are_at_most b.cells c.cells) (flags_at_most b.flags c.flags) two in
      and_from (are_at_most a.cells c.cells) (flags_at_most a.flags c.flags) (cells_onward a.cells b.cells c.cells first.0 second.0)
      (up_onward a.flags b.flags c.flags first.1 second.1)

  both : (a b : State) → is_at_most a b ≡ true → is_at_most b a ≡ true → a ≡ b
  both a b one two =
      let first = and_parts (are_at_most a.cells b.cells) (flags_at_most a.flags b.flags) one in
      let second = and_parts (are_at_most b.cells a.cells) (flags_at_most b.flags a.flags) two in
      let cells : a.cells ≡ b.cells = lists_are_same a.cells b.cells first.0 second.0 in
      let flags : a.flags ≡ b.flags = up_both a.flags b.flags first.1 second.1 in
      λ i. record { cells = cells i; flags = flags i }

-- 1 where nothing is known of the condition codes
unknown_rank : Flags → ℕ
unknown_rank f = if is_unknown f then 1 else 0

ranks_up : (f g : Flags) → flags_at_most f g ≡ true → unknown_rank f ≤ unknown_rank g
unfolding unknown_rank
ranks_up f g up = elim (up_cases f g up)
    [ inl same ↦ (let e = ap unknown_rank same in omega arith) | inr none ↦ (let e = ap unknown_rank none in let m = few f in omega arith) ] where
      few : (h : Flags) → unknown_rank h ≤ 1
      few Unknown = omega arith
      few (Cmp a b) = omega arith
      few (Res c) = omega arith

-- flags that aren't at most the lesser ones have a greater rank
ranks_rise : (f g : Flags) → flags_at_most f g ≡ true → flags_at_most g f ≡ false → unknown_rank f < unknown_rank g
unfolding unknown_rank
ranks_rise f g up down = elim (up_cases f g up)
    [ inl same ↦ absurd (both_ways (flags_at_most g f) down (up_same g f (sym same))) | inr none ↦ known f none down ] where
      known : (h : Flags) → g ≡ Unknown → flags_at_most g h ≡ false → unknown_rank h < unknown_rank g
      known Unknown none below = absurd (both_ways (flags_at_most g Unknown) below (up_same g Unknown none))
      known (Cmp a b) none below = let e = ap unknown_rank none in omega arith
      known (Res c) none below = let e = ap unknown_rank none in omega arith

-- a state that is above another one has a greater rank, and the thresholds limit all ranks
pub states_rise : StatesRise
unfolding unknown_rank
states_rise = record { rises = rises; limit = limit } where
  rises : (t : List ℕ) (a b : State) → is_state_over t a ≡ true → is_state_over t b ≡ true → is_at_most a b ≡ true → is_at_most b a ≡ false
      → rank t a < rank t b
  rises t a b left right up down =
      let parts = and_parts (are_at_most a.cells b.cells) (flags_at_most a.flags b.flags) up in
      elim (heights_rise t a.cells b.cells (stands t a left).over (stands t b right).over parts.0) [
        | inl more ↦ (let flags = ranks_up a.flags b.flags parts.1 in omega arith)
        | inr back ↦
            elim (cases_Bool (flags_at_most b.flags a.flags)) [
              | inl also ↦ absurd (both_ways (is_at_most b a) down (and_from (are_at_most b.cells a.cells) (flags_at_most b.flags a.flags) back also))
              | inr apart ↦
                  (let cells : heights t a.cells ≡ heights t b.cells = ap (heights t) (lists_are_same a.cells b.cells parts.0 back) in
                  let flags = ranks_rise a.flags b.flags parts.1 apart in
                  omega arith)
            ]
      ]

  limit : (t : List ℕ) (a : State) → is_state_over t a ≡ true → rank t a ≤ 48 * (128 + length t) + 1
  limit t a is =
      let s = stands t a is in
      let most : heights t a.cells ≤ 48 * (128 + length t) =
      subst (λ (n : ℕ). heights t a.cells ≤ n * (128 + length t)) s.size (heights_bound t a.cells s.over) in
      let flags = few a.flags in
      omega arith
    where
      few : (h : Flags) → unknown_rank h ≤ 1
      few Unknown = omega arith
      few (Cmp x y) = omega arith
      few (Res c) = omega arith
