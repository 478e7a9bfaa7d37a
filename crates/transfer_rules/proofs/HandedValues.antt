-- What a call hands on: the values of cells, of arguments, and the state at the entry of what is called.
use Rattle.std.proofs.Common.{◌≡◌, ℕ, ◌&&◌, true, List, [], ◌∷◌, length, refl, sym, subst, arith, inl, inr}
use Rattle.std.specs.Prelude.{◌==◌, map}
use Rattle.std.specs.List.{list_all}
use Rattle.std.proofs.lemmas.Bool.{and_from, and_parts, cases_lt, false≢true}
use Rattle.std.proofs.lemmas.List.{get_or_past}
use Rattle.call_effects.specs.Cell.{cell_of}
use Rattle.value_lattice.proofs.TestLemmas.{over_decides, the_order_is_one, value_decides}
use Rattle.value_lattice.specs.Height.{are_at_most}
use Rattle.value_lattice.specs.Least.{top}
use Rattle.value_lattice.specs.Test.{is_at_most, is_inside, is_over, is_value}
use Rattle.value_lattice.specs.Thresholds.{IsThresholds}
use Rattle.value_lattice.specs.Value.{is_ret}
use Rattle.value_lattice.specs.declared.value.Value.{Value}
use Rattle.value_lattice.specs.declared.value.Value.TheVariants.{Words, Range, Ret}
use Rattle.abs_state.proofs.CellsLemmas.{cells_at, over_all}
use Rattle.abs_state.proofs.OrderLemmas.{stands}
use Rattle.abs_state.proofs.StateLemmas.{top_is_value}
use Rattle.abs_state.proofs.WriteLemmas.{any_over, writes_keep_order, writes_stand}
use Rattle.abs_state.specs.Flags.{flags_at_most}
use Rattle.abs_state.specs.State.{State, cell_at, entry_state, is_at_most as is_state_at_most, is_state_over, with_cell}
use Rattle.transfer_rules.proofs.PieceLists.{IsUnder}
use Rattle.transfer_rules.specs.Fact.{is_fact_over}
use Rattle.transfer_rules.specs.Give.{argument_registers, arguments, entered_with, handed, with_each}
use Rattle.transfer_rules.specs.declared.fact.Fact.TheVariants as fact

pub top_fits : is_value top ≡ true
top_fits = (value_decides top).1 top_is_value

top_under_itself : is_at_most top top ≡ true
top_under_itself = the_order_is_one.under_top top top_fits

pub top_over : (t : List ℕ) → IsThresholds t → is_over t top ≡ true
top_over t is = (over_decides t top).1 (any_over t is)

-- only the return address is at most the return address
pub under_ret : (v u : Value) → is_at_most v u ≡ true → is_ret u ≡ true → is_ret v ≡ true
unfolding is_at_most
under_ret v (Words ys) up ret = absurd (false≢true ret)
under_ret v (Range lo hi) up ret = absurd (false≢true ret)
under_ret (Words xs) Ret up ret =
    let a = and_parts (is_value (Words xs)) (is_value Ret && is_inside (Words xs) Ret) up in
    absurd (false≢true ((and_parts (is_value Ret) (is_inside (Words xs) Ret) a.1).1))
under_ret (Range lo hi) Ret up ret =
    let a = and_parts (is_value (Range lo hi)) (is_value Ret && is_inside (Range lo hi) Ret) up in
    absurd (false≢true ((and_parts (is_value Ret) (is_inside (Range lo hi) Ret) a.1).1))
under_ret Ret Ret up ret = refl

-- what is handed on of lesser values is less
pub handed_up : (v u : Value) → is_at_most v u ≡ true → is_at_most (handed v) (handed u) ≡ true
unfolding is_at_most
handed_up Ret Ret up = top_under_itself
handed_up Ret (Words ys) up =
    let a = and_parts (is_value Ret) (is_value (Words ys) && is_inside Ret (Words ys)) up in
    absurd (false≢true ((and_parts (is_value (Words ys)) (is_inside Ret (Words ys)) a.1).1))
handed_up Ret (Range lo hi) up =
    let a = and_parts (is_value Ret) (is_value (Range lo hi) && is_inside Ret (Range lo hi)) up in
    let b = and_parts (is_value (Range lo hi)) (is_inside Ret (Range lo hi)) a.1 in
    and_from (is_value top) (is_value (Range lo hi) && is_inside top (Range lo hi)) top_fits
    (and_from (is_value (Range lo hi)) (is_inside top (Range lo hi)) b.0 b.1)
handed_up (Words xs) Ret up = absurd (false≢true (under_ret (Words xs) Ret up refl))
handed_up (Range lo hi) Ret up = absurd (false≢true (under_ret (Range lo hi) Ret up refl))
handed_up (Words xs) (Words ys) up = up
handed_up (Words xs) (Range lo hi) up = up
handed_up (Range lo hi) (Words ys) up = up
handed_up (Range lo hi) (Range first last) up = up

handed_over : (t : List ℕ) (v : Value) → IsThresholds t → is_over t v ≡ true → is_over t (handed v) ≡ true
handed_over t (Words xs) is over = over
handed_over t (Range lo hi) is over = over
handed_over t Ret is over = top_over t is

-- the value of a cell, whatever its number is
pub cell_over : (t : List ℕ) (s : State) (c : ℕ) → IsThresholds t → is_state_over t s ≡ true → is_over t (cell_at s c) ≡ true
cell_over t s c is over =
    let parts = stands t s over in
    elim (cases_lt c 48) [
      | inl below ↦ (over_decides t (cell_at s c)).1 ((over_all t s.cells).0 parts.over c top (let e = parts.size in omega arith))
      | inr past ↦
          subst (λ (v : Value). is_over t v ≡ true) (sym (get_or_past s.cells c top (let e = parts.size in omega arith))) (top_over t is)
    ]

-- a greater state has greater cells
pub cell_up : (t more : List ℕ) (a b : State) (c : ℕ) → IsUnder t more a b → is_at_most (cell_at a c) (cell_at b c) ≡ true
cell_up t more a b c under =
    let cells = (and_parts (are_at_most a.cells b.cells) (flags_at_most a.flags b.flags) under.up).0 in
    let size = (stands more a under.lower).size in
    let other = (stands t b under.upper).size in
    elim (cases_lt c 48) [
      | inl below ↦ cells_at a.cells b.cells c cells (omega arith)
      | inr past ↦
          (let left : cell_at a c ≡ top = get_or_past a.cells c top (omega arith) in
          let right : cell_at b c ≡ top = get_or_past b.cells c top (omega arith) in
          rw (left, right) top_under_itself)
    ]

-- the values of arguments
mapped_up : (f g : ℕ → Value) (rs : List ℕ) → ((r : ℕ) → is_at_most (f r) (g r) ≡ true) → are_at_most (map f rs) (map g rs) ≡ true
mapped_up f g [] up = refl
mapped_up f g (r ∷ rs) up = and_from (is_at_most (f r) (g r)) (are_at_most (map f rs) (map g rs)) (up r) (mapped_up f g rs up)

mapped_over : (t : List ℕ) (f : ℕ → Value) (rs : List ℕ) → ((r : ℕ) → is_over t (f r) ≡ true) → list_all (is_over t) (map f rs) ≡ true
mapped_over t f [] over = refl
mapped_over t f (r ∷ rs) over = and_from (is_over t (f r)) (list_all (is_over t) (map f rs)) (over r) (mapped_over t f rs over)

-- a greater state hands on greater arguments
pub arguments_up : (t more : List ℕ) (depth : ℕ) (a b : State) → IsUnder t more a b → are_at_most (arguments depth a) (arguments depth b) ≡ true
arguments_up t more depth a b under =
    mapped_up (λ r. handed (cell_at a (cell_of depth r))) (λ r. handed (cell_at b (cell_of depth r))) argument_registers
    (λ r. handed_up (cell_at a (cell_of depth r)) (cell_at b (cell_of depth r)) (cell_up t more a b (cell_of depth r) under))

arguments_over : (t : List ℕ) (depth : ℕ) (s : State) → IsThresholds t → is_state_over t s ≡ true → list_all (is_over t) (arguments depth s) ≡ true
arguments_over t depth s is over =
    mapped_over t (λ r. handed (cell_at s (cell_of depth r))) argument_registers
    (λ r. handed_over t (cell_at s (cell_of depth r)) is (cell_over t s (cell_of depth r) is over))

-- the arguments of a state are a fact over the thresholds
pub arguments_fit : (t : List ℕ) (depth : ℕ) (s : State) → IsThresholds t → is_state_over t s ≡ true → is_fact_over t (fact.Args (arguments depth s)) ≡ true
arguments_fit t depth s is over = and_from (length (arguments depth s) == 13) (list_all (is_over t) (arguments depth s)) refl (arguments_over t depth s is over)

-- the state at the entry
each_up : (a b : State) (rs : List ℕ) (vs us : List Value) → is_state_at_most a b ≡ true → are_at_most vs us ≡ true
    → is_state_at_most (with_each a rs vs) (with_each b rs us) ≡ true
each_up a b [] vs us up values = up
each_up a b (r ∷ rs) [] [] up values = up
each_up a b (r ∷ rs) [] (u ∷ us) up values = absurd (false≢true values)
each_up a b (r ∷ rs) (v ∷ vs) [] up values = absurd (false≢true values)
each_up a b (r ∷ rs) (v ∷ vs) (u ∷ us) up values =
    let parts = and_parts (is_at_most v u) (are_at_most vs us) values in
    each_up (with_cell a r v) (with_cell b r u) rs vs us (writes_keep_order.cell a b r v u up parts.0) parts.1

each_over : (t : List ℕ) (s : State) (rs : List ℕ) (vs : List Value) → is_state_over t s ≡ true → list_all (is_over t) vs ≡ true
    → is_state_over t (with_each s rs vs) ≡ true
each_over t s [] vs over values = over
each_over t s (r ∷ rs) [] over values = over
each_over t s (r ∷ rs) (v ∷ vs) over values =
    let parts = and_parts (is_over t v) (list_all (is_over t) vs) values in
    each_over t (with_cell s r v) rs vs (writes_stand.cell t s r v over parts.0) parts.1

-- greater arguments are entered with a greater state
pub entered_up : (vs us : List Value) → is_state_at_most entry_state entry_state ≡ true → are_at_most vs us ≡ true
    → is_state_at_most (entered_with vs) (entered_with us) ≡ true
entered_up vs us same values = each_up entry_state entry_state argument_registers vs us same values

-- the state of an entry with arguments may stand where the state of the call may
pub entered_over : (t : List ℕ) (depth : ℕ) (s : State) → IsThresholds t → is_state_over t s ≡ true → is_state_over t (entered_with (arguments depth s)) ≡ true
entered_over t depth s is over = each_over t entry_state argument_registers (arguments depth s) (writes_stand.entry t is) (arguments_over t depth s is over)
