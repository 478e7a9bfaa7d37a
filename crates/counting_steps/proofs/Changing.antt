-- What a step changes in a cell.
use Rattle.std.proofs.Common.{◌≡◌, ◌≢◌, ℕ, ◌+◌, ◌-◌, ◌*◌, ◌%◌, ◌^◌, ◌<◌, ◌≤◌, ◌⊎◌, inl, inr, ◌&&◌, ◌||◌, Bool, true, false, List, [], ◌∷◌, Option}
use Rattle.std.proofs.Common.{Some, None, Contains, refl, sym, ap, subst, ◌∙◌, arith, if◌then◌else◌}
use Rattle.std.specs.Prelude.{◌==◌, not, nat_lt}
use Rattle.std.proofs.lemmas.Bool.{and_from, both_ways, cases_eq, eq-eqb, lt-ltb, ne_eqb, not_from_false, or_parts, or_right}
use Rattle.abs_state.specs.State.{State, cell_at}
use Rattle.abs_state.specs.declared.flags.Right.{Right}
use Rattle.abs_state.specs.declared.flags.Right.TheVariants.{Cell, Word}
use Rattle.abs_state.specs.declared.key.Place.{Place}
use Rattle.call_effects.proofs.MaskLemmas.{has-with}
use Rattle.call_effects.specs.Mask.{has_cell, with_cell}
use Rattle.cell_places.proofs.PlaceLemmas.{with_content-other, with_content-same, with_content-zero}
use Rattle.cell_places.specs.Place.{content_of, with_content}
use Rattle.sparc_machine.specs.declared.machine.Machine.{Machine}
use Rattle.step_covers.specs.Does.{Does}
use Rattle.step_covers.specs.Follows.{Gives, GivesTo, IsOperandIn, IsResult, wrote}
use Rattle.transfer_rules.specs.Give.{is_written, mask_of, mask_of_write}
use Rattle.transfer_rules.specs.declared.act.Way.{Way}
use Rattle.transfer_rules.specs.declared.step.Source.TheVariants.{Applied}
use Rattle.transfer_rules.specs.declared.step.Step.{Step}
use Rattle.transfer_rules.specs.declared.step.Write.{Write}
use Rattle.value_lattice.proofs.MayLemmas.{may_from_has, only_word}
use Rattle.value_lattice.specs.Order.{place_of}
use Rattle.value_lattice.specs.Value.{Has, MayHave}
use Rattle.value_lattice.specs.declared.value.Value.{Value}
use Rattle.value_lattice.specs.declared.value.Value.TheVariants.{Words}
use Rattle.value_ops.specs.Operation.{result_of}
use Rattle.value_ops.specs.declared.op.Op.{Op}
use Rattle.value_ops.specs.declared.op.Op.TheVariants as op
use Rattle.counting_steps.specs.Changes.{Adds, IsAmount, IsOneWord}

-- a cell that isn't in the mask of a write is left
left_by : (w : Option Write) (mask value c : ℕ) (contents : ℕ → ℕ) → c < 48 → has_cell (mask_of_write w mask) c ≡ false
    → (wrote w value contents c ≡ contents c) × (has_cell mask c ≡ false)
left_by None mask value c contents low free = (refl, free)
left_by (Some w) mask value c contents low free = elim (cases_eq c w.cell) [ inl same ↦ here same | inr other ↦ apart other ] where
  not_in : (b : Bool) → is_written w.cell ≡ b → has_cell (if b then with_cell mask w.cell else mask) c ≡ false → has_cell mask c ≡ false
  not_in true is these = (or_parts (has_cell mask c) (c == w.cell) (sym (has-with mask w.cell c) ∙ these)).0
  not_in false is these = these

  apart : (c ≡ w.cell → ⊥) → (with_content contents w.cell value c ≡ contents c) × (has_cell mask c ≡ false)
  apart other = (with_content-other contents w.cell value c other, not_in (is_written w.cell) refl free)

  here : c ≡ w.cell → (with_content contents w.cell value c ≡ contents c) × (has_cell mask c ≡ false)
  here same =
      elim (cases_eq w.cell 0) [
        | inl none ↦ (with_content-zero contents w.cell value c none, not_in (is_written w.cell) refl free)
        | inr some ↦
            (let below : w.cell < 48 = omega arith in
            let written : is_written w.cell ≡ true =
            and_from (not (w.cell == 0)) (nat_lt w.cell 48) (not_from_false (w.cell == 0) (ne_eqb w.cell 0 some)) (lt-ltb w.cell 48 below) in
            absurd (both_ways (has_cell (with_cell mask w.cell) c)
            (subst (λ (b : Bool). has_cell (if b then with_cell mask w.cell else mask) c ≡ false) written free)
            (has-with mask w.cell c ∙ or_right (has_cell mask c) (c == w.cell) (eq-eqb c w.cell same))))
      ]

-- a step that doesn't write a cell leaves it
pub leaves_cell : (image : List ℕ) (step : Step) (way : Way) (cwp c : ℕ) (m next : Machine) → Does image step way cwp m next → c < 48
    → has_cell (mask_of step) c ≡ false → content_of next cwp c ≡ content_of m cwp c
leaves_cell image step way cwp c m next does low free =
    let f = does.follows.follows in
    let last = left_by step.second (mask_of_write step.first 0) f.second c (wrote step.first f.first (content_of m cwp)) low free in
    let first = left_by step.first 0 f.first c (content_of m cwp) low last.1 in
    f.contents c low ∙ last.0 ∙ first.0

-- an operand of one word
one_word : (s : State) (ra : ℕ) (contents : ℕ → ℕ) (right : Right) (word y : ℕ) → ((r : ℕ) → r < 48 → Has (cell_at s r) (contents r) ra)
    → IsOneWord s right word
    → IsOperandIn contents right y → y ≡ word
one_word s ra contents (Word n) word y has one is = is ∙ sym one
one_word s ra contents (Cell r) word y has one is =
    is.1 ∙ only_word word (contents r) (subst (λ (v : Value). Has v (contents r) ra) one (has r is.0))

-- what is added and taken away
amounts : (o : Op) (carry : Bool) (x y up down : ℕ) → x < 2 ^ 32 → y < 2 ^ 32 → IsAmount o y up down → down ≤ place_of x + up → place_of x + up < 2 ^ 32 + down
    → place_of (result_of o carry x y) + down ≡ place_of x + up
amounts op.Add carry x y up down low right is least most = omega arith
amounts op.Sub carry x y up down low right is least most = omega arith
amounts op.And carry x y up down low right is least most = absurd is
amounts op.Or carry x y up down low right is least most = absurd is
amounts op.Xor carry x y up down low right is least most = absurd is
amounts op.Andn carry x y up down low right is least most = absurd is
amounts op.Orn carry x y up down low right is least most = absurd is
amounts op.Xnor carry x y up down low right is least most = absurd is
amounts op.Sll carry x y up down low right is least most = absurd is
amounts op.Srl carry x y up down low right is least most = absurd is
amounts op.Sra carry x y up down low right is least most = absurd is
amounts op.Addx carry x y up down low right is least most = absurd is
amounts op.Subx carry x y up down low right is least most = absurd is
amounts op.Mul carry x y up down low right is least most = absurd is

-- a step that adds to a cell changes it by as much
pub adds_cell : (image : List ℕ) (p : Place) (step : Step) (way : Way) (before : State) (cwp ra c up down : ℕ) (m next : Machine)
    → Does image step way cwp m next → c < 48
    → ra < 2 ^ 32 → ((r : ℕ) → r < 48 → content_of m cwp r < 2 ^ 32) → ((r : ℕ) → r < 48 → Has (cell_at before r) (content_of m cwp r) ra)
    → Adds p step before c up down → place_of (content_of next cwp c) + down ≡ place_of (content_of m cwp c) + up
adds_cell image p step way before cwp ra c up down m next does low word words has adds =
    let f = does.follows.follows in
    let gives : GivesTo image (content_of m cwp) (Some (record { cell = c; source = Applied adds.op (Cell c) adds.right })) f.first =
    subst (λ (w : Option Write). GivesTo image (content_of m cwp) w f.first) adds.first f.gives_first in
    let wrote_one : content_of next cwp c ≡ with_content (content_of m cwp) c f.first c =
    f.contents c low
    ∙ ap (λ (w : Option Write). wrote w f.second (wrote step.first f.first (content_of m cwp)) c) adds.second
    ∙ ap (λ (w : Option Write). wrote w f.first (content_of m cwp) c) adds.first in
    let new : content_of next cwp c ≡ f.first = wrote_one ∙ with_content-same (content_of m cwp) c f.first adds.some in
    let may = gives.may in
    let old : may.first ≡ content_of m cwp c = may.is_first.1 in
    let right : may.second ≡ adds.word = one_word before ra (content_of m cwp) adds.right adds.word may.second has adds.one may.is_second in
    let fits = adds.fits (content_of m cwp c) (words c low) (may_from_has (cell_at before c) (content_of m cwp c) ra word (has c low)) in
    let small : adds.word < 2 ^ 32 = right_small may.second right may.is_second in
    let value : content_of next cwp c ≡ result_of adds.op may.carry (content_of m cwp c) adds.word =
    new ∙ may.is ∙ ap (λ (n : ℕ). result_of adds.op may.carry n may.second) old ∙ ap (result_of adds.op may.carry (content_of m cwp c)) right in
    ap (λ (n : ℕ). place_of n + down) value ∙ amounts adds.op may.carry (content_of m cwp c) adds.word up down (words c low) small adds.amount fits.0 fits.1
  where
    right_small : (y : ℕ) → y ≡ adds.word → IsOperandIn (content_of m cwp) adds.right y → adds.word < 2 ^ 32
    right_small y same is = subst (λ (n : ℕ). n < 2 ^ 32) same (small adds.right y is) where
      small : (r : Right) (n : ℕ) → IsOperandIn (content_of m cwp) r n → n < 2 ^ 32
      small (Word k) n these = (let e = these in omega arith)
      small (Cell k) n these = subst (λ (j : ℕ). j < 2 ^ 32) (sym these.1) (words k these.0)
