-- The cell of a counter is one that some program point adds to.
use Rattle.std.proofs.Common.{◌≡◌, ℕ, zero, suc, ◌+◌, ◌<◌, ◌≤◌, Bool, true, false, ℤ, List, [], ◌∷◌, Option, Some, None, inl, inr, refl, sym, ap, subst, ◌∙◌, arith}
use Rattle.std.specs.Prelude.{◌==◌, map, slice_get, if◌then◌else◌}
use Rattle.std.specs.Option.{option_and_then, option_map}
use Rattle.std.proofs.lemmas.Bool.{cases_lt, eqb-true, false≢true}
use Rattle.abs_state.specs.State.{State}
use Rattle.abs_state.specs.declared.key.Place.{Place}
use Rattle.call_effects.proofs.CellLemmas.{cells_tell_registers_apart}
use Rattle.call_effects.specs.Cell.{cell_of}
use Rattle.counter_bound.specs.Change.{changes_of, down_in, down_of, up_in, up_of}
use Rattle.counter_bound.specs.Counts.{CellCounts}
use Rattle.counter_bound.specs.declared.change.Change.{Change}
use Rattle.counter_bound.specs.declared.change.Change.TheVariants.{Add, Other}
use Rattle.graph_laws.specs.Counter.{turn_down, turn_up}
use Rattle.graph_laws.specs.Loops.{Loops}
use Rattle.graph_laws.specs.Walk.{total}
use Rattle.sparc_decode.proofs.FieldRanges.{all_in_range}
use Rattle.sparc_decode.specs.Instr.{InRange, instruction_of}
use Rattle.sparc_decode.specs.declared.instruction.Instr.{Instr}
use Rattle.sparc_decode.specs.declared.instruction.Instr.TheVariants.{Alu}
use Rattle.sparc_machine.specs.Effect.{code_word}
use Rattle.sparc_machine.specs.Straight.{code_instruction}
use Rattle.turn_sums.specs.Step.{IsStep}
use Rattle.turn_sums.specs.declared.step.TurnStep.{TurnStep}
use Rattle.turn_sums.specs.declared.step.TurnStep.TheVariants.{Rises, Falls}
use Rattle.context_outcomes.specs.Counting.{added_to, change_at, change_or, written_at}
use Rattle.context_outcomes.specs.Setting.{Setting}
use Rattle.outcome_runs.proofs.Changing.{IsAddedTo, to_added}

some_same : {X : Type 0} {x y : X} → Some x ≡ Some y → x ≡ y
some_same e = cc

none_some : {X : Type 0} {x : X} → None ≡ Some x → ⊥
none_some e = cc

-- some number of a sum isn't 0
pub some_of_total : (number : ℕ → ℕ) (ns : List ℕ) → 1 ≤ total number ns → (n : ℕ) × (1 ≤ number n)
some_of_total number [] most = absurd (omega (arith, most))
some_of_total number (n ∷ ns) most = elim (cases_lt 0 (number n)) [
  | inl here ↦ (n, omega (arith, here))
  | inr zero_here ↦ some_of_total number ns (omega (arith, most, zero_here))
]

-- a node of which something is added or taken adds to the cell
pub record IsAdded (changes : List Change) (cell : ℕ) : Type 0 where
  pub node : ℕ
  pub amount : ℤ
  pub at : slice_get changes node ≡ Some (Add cell amount)

added_at : (changes : List Change) (cell n : ℕ) (o : Option Change) → slice_get changes n ≡ o → 1 ≤ up_in o cell + down_in o cell → IsAdded changes cell
added_at changes cell n None at some = absurd (omega (arith, some))
added_at changes cell n (Some (Other mask)) at some = absurd (omega (arith, some))
added_at changes cell n (Some (Add c k)) at some = by (cell == c) refl some where
  by : (b : Bool) → (cell == c) ≡ b → 1 ≤ (if b then up_of k else 0) + (if b then down_of k else 0) → IsAdded changes cell
  by true same most = record { node = n; amount = k; at = at ∙ ap (λ (d : ℕ). Some (Add d k)) (sym (eqb-true cell c same)) }
  by false other most = absurd (omega (arith, most))

pub counting_adds : (edge : ℕ → ℕ → Bool) (body : ℕ → Bool) (head : ℕ) (changes : List Change) (cell : ℕ) (step : TurnStep)
    → IsStep edge body head (changes_of changes cell) step → IsAdded changes cell
counting_adds edge body head changes cell (Rises by) is =
    let one = is.one in
    let sum = is.is in
    let some : 1 ≤ total (changes_of changes cell).up (head ∷ is.between) = omega (arith, one, sum) in
    let n = some_of_total (changes_of changes cell).up (head ∷ is.between) some in
    let more = n.1 in
    added_at changes cell n.0 (slice_get changes n.0) refl (omega (arith, more))
counting_adds edge body head changes cell (Falls by) is =
    let one = is.one in
    let sum = is.is in
    let some : 1 ≤ total (changes_of changes cell).down (head ∷ is.between) = omega (arith, one, sum) in
    let n = some_of_total (changes_of changes cell).down (head ∷ is.between) some in
    let more = n.1 in
    added_at changes cell n.0 (slice_get changes n.0) refl (omega (arith, more))

-- what stands at a place of a list that is made of another
pub mapped_from : {A B : Type 0} (f : A → B) (xs : List A) (k : ℕ) (y : B) → slice_get (map f xs) k ≡ Some y → (x : A) × (f x ≡ y)
mapped_from f [] k y at = absurd (none_some at)
mapped_from f (a ∷ xs) zero y at = (a, some_same at)
mapped_from f (a ∷ xs) (suc k) y at = mapped_from f xs k y at

-- an addition is to a cell below 48
in_range_of : (image : List ℕ) (pc : ℕ) (i : Instr) → code_instruction image pc ≡ Some i → InRange i
in_range_of image pc i is = by (code_word image pc) is where
  by : (o : Option ℕ) → option_map instruction_of o ≡ Some i → InRange i
  by None e = absurd (none_some e)
  by (Some word) e = subst InRange (some_same e) (all_in_range word)

cell_same : (c d : ℕ) (k l : ℤ) → Add c k ≡ Add d l → c ≡ d
cell_same c d k l e = cc

pub added_low : (S : Setting) (p : Place) (o : Option State) (cell : ℕ) (k : ℤ) → change_at S p o ≡ Add cell k → cell < 48
added_low S p None cell k is = absurd (other_add (written_at S p) is) where
  other_add : (mask : ℕ) → Other mask ≡ Add cell k → ⊥
  other_add mask e = cc
added_low S p (Some s) cell k is = by (added_to s p.depth (code_instruction S.image p.pc) p.next) refl is where
  by : (o : Option Change) → added_to s p.depth (code_instruction S.image p.pc) p.next ≡ o → change_or (written_at S p) o ≡ Add cell k → cell < 48
  by None found e = absurd (other_add (written_at S p) e) where
    other_add : (mask : ℕ) → Other mask ≡ Add cell k → ⊥
    other_add mask e = cc
  by (Some change) found e =
      let a = (to_added s p.depth (code_instruction S.image p.pc) p.next change found).is in
      let range : InRange (Alu a.op a.coded a.rd a.rs1 a.second) = in_range_of S.image p.pc (Alu a.op a.coded a.rd a.rs1 a.second) a.is in
      subst (λ (c : ℕ). c < 48) (cell_same (cell_of p.depth a.rd) cell a.amount k (sym a.adds ∙ e))
      (cells_tell_registers_apart.within p.depth a.rd range.0)
