-- States: their invariant at the entry.
use Rattle.std.proofs.Common.{rules, ◌≡◌, ℕ, ◌^◌, ◌<◌, List, length, map, get_or, refl, ap, ◌∙◌, subst, sym, arith, Bool, true, false, [], ◌∷◌}
use Rattle.std.specs.Prelude.{◌==◌, if◌then◌else◌}
use Rattle.std.specs.List.{All, range_with_len}
use Rattle.std.proofs.lemmas.List.Elements.{All-cons, All-map, All-nil}
use Rattle.std.proofs.lemmas.List.FromFn.{length-map-range_with_len, get_or-map-range_with_len}
use Rattle.value_lattice.specs.Least.{top}
use Rattle.value_lattice.specs.Set.{IsSet}
use Rattle.value_lattice.specs.Value.{IsValue}
use Rattle.value_lattice.specs.declared.value.Value.{Value}
use Rattle.value_lattice.specs.declared.value.Value.TheVariants.{Words, Ret}
use Rattle.abs_state.specs.Flags.{names}
use Rattle.abs_state.specs.State.{State, IsState, entry_state, entry_cells, entry_cell}
use Rattle.abs_state.specs.declared.flags.Flags.TheVariants.{Unknown}

-- the word 0 alone is a set
zero_is_set : IsSet (0 ∷ [])
zero_is_set = record {
  some = omega arith;
  few = omega arith;
  rising = λ k h. absurd (omega arith);
  fits = All-cons (λ w. w < 2 ^ 32) 0 [] (omega arith) (All-nil (λ w. w < 2 ^ 32));
}

-- any word is a value
pub top_is_value : IsValue top
top_is_value = (search rules, search rules, omega arith)

entry_value : (c : ℕ) → IsValue (entry_cell c)
entry_value c = by_tests (c == 0) (c == 15) where
  by_tests : (zero_cell link : Bool) → IsValue (if zero_cell then Words (0 ∷ []) else (if link then Ret else top))
  by_tests true link = zero_is_set
  by_tests false true = tt
  by_tests false false = top_is_value

-- the state at an entry is one
pub entry_is_state : IsState entry_state
unfolding entry_cells
entry_is_state =
    record {
      size = length-map-range_with_len entry_cell 0 48;
      values = All-map IsValue entry_cell (range_with_len 0 48) (λ k d h. entry_value (get_or (range_with_len 0 48) k d));
      zero_cell = refl;
      named = refl;
    }

-- the loop over all cells makes the state at the entry
pub entry_from_loop : (cells : List Value) (n : ℕ) → cells ≡ map entry_cell (range_with_len 0 n) → n ≡ 48
    → record { cells = cells; flags = Unknown } ≡ entry_state
unfolding entry_cells
entry_from_loop cells n made all = ap state_with (made ∙ ap (λ (k : ℕ). map entry_cell (range_with_len 0 k)) all) where
  state_with : List Value → State
  state_with values = record { cells = values; flags = Unknown }
