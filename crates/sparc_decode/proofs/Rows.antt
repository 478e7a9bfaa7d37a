-- The tables of opcodes: no selector stands in two rows, and each word stands for one instruction.
use Rattle.std.proofs.Common.{◌≡◌, ℕ, zero, suc, inl, inr, ◌&&◌, Bool, true, false, not, List, [], ◌∷◌, Some, refl, sym, ap, subst, ◌∙◌, eqb, cond}
use Rattle.std.specs.Prelude.{slice_get}
use Rattle.std.proofs.lemmas.Bool.{both_ways, not-true, and_parts, eqb-true, cases_Bool}
use Rattle.sparc_decode.specs.Instr.{instruction_of, StandsFor, Named, Unnamed, EachWordStandsForOne, NoSelectorStandsTwice}
use Rattle.sparc_decode.specs.Opcodes.{branches, calls, operations, memory, table_of, selector_of}
use Rattle.sparc_decode.specs.Row.{Row, has, named_by}
use Rattle.sparc_decode.specs.Word.{field}
use Rattle.sparc_decode.specs.declared.instruction.Instr.{Instr}
use Rattle.sparc_decode.specs.declared.instruction.Instr.TheVariants.{Unknown}

-- no row has the selector
abbrev absent : List Row → ℕ → Bool
absent [] s = true
absent (row ∷ rows) s = not (has row.selectors s) && absent rows s

-- no row has any of the selectors
abbrev all_absent : List Row → List ℕ → Bool
all_absent rows [] = true
all_absent rows (s ∷ rest) = absent rows s && all_absent rows rest

-- no two rows have a selector in common
abbrev are_apart : List Row → Bool
are_apart [] = true
are_apart (row ∷ rows) = all_absent rows row.selectors && are_apart rows

-- a place of a list of rows whose row has the selector
record StandsAt (rows : List Row) (s place : ℕ) (row : Row) : Type 0 where
  pub stands : slice_get rows place ≡ Some row
  pub selects : has row.selectors s ≡ true

absent_nowhere : (rows : List Row) (s place : ℕ) (row : Row) → absent rows s ≡ true → StandsAt rows s place row → ⊥
absent_nowhere [] s place row none at = let e = at.stands in cc
absent_nowhere (first ∷ rows) s zero row none at =
    let same : first ≡ row = (let e = at.stands in cc) in
    let lacks : has first.selectors s ≡ false = not-true _ (and_parts _ _ none).0 in
    both_ways (has first.selectors s) lacks (subst (λ (r : Row). has r.selectors s ≡ true) (sym same) at.selects)
absent_nowhere (first ∷ rows) s (suc place) row none at =
    absent_nowhere rows s place row (and_parts _ _ none).1 (record { stands = at.stands; selects = at.selects })

absent_each : (rows : List Row) (selectors : List ℕ) (s : ℕ) → all_absent rows selectors ≡ true → has selectors s ≡ true → absent rows s ≡ true
absent_each rows [] s none is = cc
absent_each rows (first ∷ rest) s none is = elim (cases_Bool (eqb s first)) [
  | inl same ↦ subst (λ (x : ℕ). absent rows x ≡ true) (sym (eqb-true s first same)) (and_parts _ _ none).0
  | inr other ↦ absent_each rows rest s (and_parts _ _ none).1 (rw other at is)
]

-- where no two rows have a selector in common, only one has this
only_one : (rows : List Row) (s i j : ℕ) (one other : Row) → are_apart rows ≡ true → StandsAt rows s i one → StandsAt rows s j other → i ≡ j
only_one [] s i j one other apart at there = let e = at.stands in cc
only_one (first ∷ rows) s zero zero one other apart at there = refl
only_one (first ∷ rows) s zero (suc j) one other apart at there =
    let same : first ≡ one = (let e = at.stands in cc) in
    let here : has first.selectors s ≡ true = subst (λ (r : Row). has r.selectors s ≡ true) (sym same) at.selects in
    absurd (absent_nowhere rows s j other (absent_each rows first.selectors s (and_parts _ _ apart).0 here)
    (record { stands = there.stands; selects = there.selects }))
only_one (first ∷ rows) s (suc i) zero one other apart at there =
    let same : first ≡ other = (let e = there.stands in cc) in
    let here : has first.selectors s ≡ true = subst (λ (r : Row). has r.selectors s ≡ true) (sym same) there.selects in
    absurd (absent_nowhere rows s i one (absent_each rows first.selectors s (and_parts _ _ apart).0 here) (record { stands = at.stands; selects = at.selects }))
only_one (first ∷ rows) s (suc i) (suc j) one other apart at there =
    ap suc (only_one rows s i j one other (and_parts _ _ apart).1 (record { stands = at.stands; selects = at.selects })
    (record { stands = there.stands; selects = there.selects }))

-- no two rows of a table have a selector in common
tables_apart : (op : ℕ) → are_apart (table_of op) ≡ true
tables_apart op = elim (eqb op 0) as (λ b. are_apart (cond b branches (cond (eqb op 1) calls (cond (eqb op 2) operations memory))) ≡ true) [
  | true ↦ refl
  | false ↦ elim (eqb op 1) as (λ b. are_apart (cond b calls (cond (eqb op 2) operations memory)) ≡ true) [
    | true ↦ refl
    | false ↦ elim (eqb op 2) as (λ b. are_apart (cond b operations memory) ≡ true) [ true ↦ refl | false ↦ refl ]
  ]
]

-- no selector stands in two rows
pub no_selector_twice : NoSelectorStandsTwice
no_selector_twice word first second one other at there =
    only_one (table_of (field word 30 2)) (selector_of (field word 30 2) word) first second one other (tables_apart (field word 30 2))
    (record { stands = at.stands; selects = at.selects }) (record { stands = there.stands; selects = there.selects })

-- the first row that has a selector, and what its word stands for
data Found (rows : List Row) (s word : ℕ) : Type 0 where
  At : (place : ℕ) (row : Row) → StandsAt rows s place row → named_by rows s word ≡ row.instruction word → Found rows s word
  Nowhere : ((place : ℕ) (row : Row) → StandsAt rows s place row → ⊥) → named_by rows s word ≡ Unknown word → Found rows s word

found : (rows : List Row) (s word : ℕ) → Found rows s word
found [] s word = Nowhere (λ place row at. let e = at.stands in cc) refl
found (first ∷ rows) s word = cases (found rows s word) (has first.selectors s) refl where
  later : Found rows s word → has first.selectors s ≡ false → Found (first ∷ rows) s word
  later (At place row at is) lacks = At (suc place) row (record { stands = at.stands; selects = at.selects }) (rw lacks is)
  later (Nowhere none is) lacks = Nowhere not_here (rw lacks is) where
    not_here : (place : ℕ) (row : Row) → StandsAt (first ∷ rows) s place row → ⊥
    not_here zero row at =
        let same : first ≡ row = (let e = at.stands in cc) in
        both_ways (has first.selectors s) lacks (subst (λ (r : Row). has r.selectors s ≡ true) (sym same) at.selects)
    not_here (suc place) row at = none place row (record { stands = at.stands; selects = at.selects })

  cases : Found rows s word → (b : Bool) → has first.selectors s ≡ b → Found (first ∷ rows) s word
  cases rest true here = At zero first (record { stands = refl; selects = here }) (rw here refl)
  cases rest false lacks = later rest lacks

-- the word stands for what the table's function gives
pub stands_for : (word : ℕ) → StandsFor word (instruction_of word)
unfolding instruction_of
stands_for word = by (found (table_of (field word 30 2)) (selector_of (field word 30 2) word) word) where
  by : Found (table_of (field word 30 2)) (selector_of (field word 30 2) word) word → StandsFor word (instruction_of word)
  by (At place row at is) = Named place row (record { stands = at.stands; selects = at.selects }) is
  by (Nowhere none is) = Unnamed (λ place row at. none place row (record { stands = at.stands; selects = at.selects })) is

-- what one word stands for is one instruction
pub one_instruction : (word : ℕ) (i j : Instr) → StandsFor word i → StandsFor word j → i ≡ j
one_instruction word i j (Named place row at is) (Named there other also same) =
    let e : place ≡ there = no_selector_twice word place there row other at also in
    let found_one : slice_get (table_of (field word 30 2)) place ≡ Some row = at.stands in
    let found_other : slice_get (table_of (field word 30 2)) place ≡ Some other = rw e also.stands in
    let rows : row ≡ other = cc in
    is ∙ ap (λ (r : Row). r.instruction word) rows ∙ sym same
one_instruction word i j (Named place row at is) (Unnamed none same) = absurd (none place row at)
one_instruction word i j (Unnamed none is) (Named place row at same) = absurd (none place row at)
one_instruction word i j (Unnamed none is) (Unnamed also same) = is ∙ sym same

-- each word stands for exactly one instruction
pub each_word : EachWordStandsForOne
each_word word = (stands_for word, λ other stands. one_instruction word other (instruction_of word) stands (stands_for word))
