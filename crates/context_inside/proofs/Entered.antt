-- The state at the entry of a context, and its arguments.
use Rattle.std.proofs.Common.{◌≡◌, ◌&&◌, ℕ, ◌<◌, true, List, [], ◌∷◌, length, refl, subst, arith}
use Rattle.std.specs.Prelude.{map, nat_lt}
use Rattle.std.specs.List.{All, list_all}
use Rattle.std.proofs.lemmas.Bool.{and_from, and_parts, ltb-true}
use Rattle.std.proofs.lemmas.List.Elements.{All-cons, All-nil}
use Rattle.abs_state.proofs.CellsLemmas.{cells_at}
use Rattle.abs_state.proofs.WriteLemmas.{writes_stand}
use Rattle.abs_state.specs.Flags.{flags_at_most}
use Rattle.abs_state.specs.State.{State, cell_at, entry_cells, entry_state, is_state_over, with_cell}
use Rattle.abs_state.specs.declared.key.Key.TheVariants as key
use Rattle.context_inside.specs.Laws.{IsEnteredWith}
use Rattle.context_outcomes.specs.Setting.{Setting}
use Rattle.transfer_rules.proofs.FactKinds.{from_fitting}
use Rattle.transfer_rules.specs.Fact.{fits}
use Rattle.transfer_rules.specs.Give.{argument_registers, entered_with, entry_of, with_each}
use Rattle.transfer_rules.specs.declared.fact.Fact.TheVariants as fact
use Rattle.value_lattice.proofs.TestLemmas.{value_decides}
use Rattle.value_lattice.specs.Height.{are_at_most}
use Rattle.value_lattice.specs.Test.{is_at_most as is_value_at_most, is_inside, is_over, is_value}
use Rattle.value_lattice.specs.Thresholds.{IsThresholds}
use Rattle.value_lattice.specs.Value.{IsValue}
use Rattle.value_lattice.specs.declared.value.Value.{Value}

-- what is at most a value is a value
value_of : (v u : Value) → is_value_at_most v u ≡ true → is_value v ≡ true
unfolding is_value_at_most
value_of v u up = (and_parts (is_value v) (is_value u && is_inside v u) up).0

-- so are the cells of a state whose cells are at most those of another
cells_are : (a b : State) (rs : List ℕ) → are_at_most a.cells b.cells ≡ true → length a.cells ≡ 48 → list_all (λ r. nat_lt r 48) rs ≡ true
    → list_all is_value (map (cell_at a) rs) ≡ true
cells_are a b [] up size low = refl
cells_are a b (r ∷ rs) up size low =
    let parts = and_parts (nat_lt r 48) (list_all (λ q. nat_lt q 48) rs) low in
    let below : r < 48 = ltb-true r 48 parts.0 in
    and_from (is_value (cell_at a r)) (list_all is_value (map (cell_at a) rs))
    (value_of (cell_at a r) (cell_at b r) (cells_at a.cells b.cells r up (omega (arith, below, size)))) (cells_are a b rs up size parts.1)

-- the state that is entered with values has them in the registers of the arguments
record HasValues (args : List Value) : Type 0 where
  size : length (entered_with args).cells ≡ 48
  values : map (cell_at (entered_with args)) argument_registers ≡ args

-- as its cells are written one after the other
has_values : (args : List Value) → length args ≡ 13 → HasValues args
unfolding entry_cells
has_values [] is = absurd (omega (arith, is))
has_values (a ∷ []) is = absurd (omega (arith, is))
has_values (a ∷ b ∷ []) is = absurd (omega (arith, is))
has_values (a ∷ b ∷ c ∷ []) is = absurd (omega (arith, is))
has_values (a ∷ b ∷ c ∷ d ∷ []) is = absurd (omega (arith, is))
has_values (a ∷ b ∷ c ∷ d ∷ e ∷ []) is = absurd (omega (arith, is))
has_values (a ∷ b ∷ c ∷ d ∷ e ∷ f ∷ []) is = absurd (omega (arith, is))
has_values (a ∷ b ∷ c ∷ d ∷ e ∷ f ∷ g ∷ []) is = absurd (omega (arith, is))
has_values (a ∷ b ∷ c ∷ d ∷ e ∷ f ∷ g ∷ h ∷ []) is = absurd (omega (arith, is))
has_values (a ∷ b ∷ c ∷ d ∷ e ∷ f ∷ g ∷ h ∷ i ∷ []) is = absurd (omega (arith, is))
has_values (a ∷ b ∷ c ∷ d ∷ e ∷ f ∷ g ∷ h ∷ i ∷ j ∷ []) is = absurd (omega (arith, is))
has_values (a ∷ b ∷ c ∷ d ∷ e ∷ f ∷ g ∷ h ∷ i ∷ j ∷ k ∷ []) is = absurd (omega (arith, is))
has_values (a ∷ b ∷ c ∷ d ∷ e ∷ f ∷ g ∷ h ∷ i ∷ j ∷ k ∷ l ∷ []) is = absurd (omega (arith, is))
has_values (a ∷ b ∷ c ∷ d ∷ e ∷ f ∷ g ∷ h ∷ i ∷ j ∷ k ∷ l ∷ m ∷ []) is = record { size = refl; values = refl }
has_values (a ∷ b ∷ c ∷ d ∷ e ∷ f ∷ g ∷ h ∷ i ∷ j ∷ k ∷ l ∷ m ∷ n ∷ rest) is = absurd (omega (arith, is))

-- the arguments with which the whole program has an entry are values
pub given_values : (S : Setting) (sub : ℕ) (args : List Value) → length args ≡ 13 → IsEnteredWith S sub args → list_all is_value args ≡ true
given_values S sub args count is =
    let has : HasValues args = has_values args count in
    let up = and_parts (are_at_most (entered_with args).cells is.state.cells) (flags_at_most (entered_with args).flags is.state.flags) is.above in
    subst (λ (vs : List Value). list_all is_value vs ≡ true) has.values
    (cells_are (entered_with args) is.state argument_registers up.0 has.size refl)

-- each of them is one
pub all_values : (vs : List Value) → list_all is_value vs ≡ true → All IsValue vs
all_values [] are = All-nil IsValue
all_values (v ∷ vs) are =
    let parts = and_parts (is_value v) (list_all is_value vs) are in
    All-cons IsValue v vs ((value_decides v).0 parts.0) (all_values vs parts.1)

-- a state with values over thresholds written into it stands over them
each_over : (t : List ℕ) (s : State) (rs : List ℕ) (vs : List Value) → is_state_over t s ≡ true → list_all (is_over t) vs ≡ true
    → is_state_over t (with_each s rs vs) ≡ true
each_over t s [] vs over values = over
each_over t s (r ∷ rs) [] over values = over
each_over t s (r ∷ rs) (v ∷ vs) over values =
    let parts = and_parts (is_over t v) (list_all (is_over t) vs) values in
    each_over t (with_cell s r v) rs vs (writes_stand.cell t s r v over parts.0) parts.1

-- so the state that is entered with such values fits the entry
pub begins_fit : (t : List ℕ) (sub : ℕ) (args : List Value) → IsThresholds t → list_all (is_over t) args ≡ true
    → fits t (key.Node (entry_of sub)) (fact.State (entered_with args)) ≡ true
begins_fit t sub args is over =
    from_fitting t (key.Node (entry_of sub)) (fact.State (entered_with args))
    (record { kind = refl; depths = refl; over = each_over t entry_state argument_registers args (writes_stand.entry t is) over })
