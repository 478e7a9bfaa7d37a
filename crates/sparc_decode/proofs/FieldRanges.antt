-- The fields of the instruction that a word stands for are in range.
use Rattle.std.proofs.Common.{ℕ, ◌^◌, ◌<◌, Bool, true, false, List, [], ◌∷◌, drop, cond, eqb, if◌then◌else◌, nat_lt, arith, pos, ◌-ℤ◌, inl, inr}
use Rattle.std.proofs.lemmas.Bool.{cases_lt, lt-ltb, le-ltb}
use Rattle.sparc_decode.specs.Instr.{instruction_of, AreOperands, IsOperand, InRange, FieldsAreInRange}
use Rattle.sparc_decode.specs.Opcodes.{branches, calls, operations, memory, table_of, selector_of}
use Rattle.sparc_decode.specs.Row.{Row, has, named_by}
use Rattle.sparc_decode.specs.declared.instruction.Second.TheVariants.{Reg, Imm}
use Rattle.sparc_decode.specs.Word.{field, signed_field, second_of, IsSigned}

-- each row names instructions whose fields are in range
abbrev AllInRange : List Row → Type 0
AllInRange [] = Unit {0}
AllInRange (row ∷ rows) = ((word : ℕ) → InRange (row.instruction word)) × AllInRange rows

named_in_range : (rows : List Row) (selector word : ℕ) → AllInRange rows → InRange (named_by rows selector word)
named_in_range [] selector word fit = tt
named_in_range (row ∷ rows) selector word fit =
    elim (has row.selectors selector) as (λ here. InRange (cond here (row.instruction word) (named_by rows selector word))) [
      | true ↦ fit.0 word
      | false ↦ named_in_range rows selector word fit.1
    ]

-- a register's field
register_fits : (word low : ℕ) → field word low 5 < 32
register_fits word low = omega arith

condition_fits : (word : ℕ) → field word 25 4 < 16
condition_fits word = omega arith

imm_fits : (word : ℕ) → field word 0 22 < 2 ^ 22
imm_fits word = omega arith

signed_13 : (n : ℕ) → n < 2 ^ 13 → IsSigned (if nat_lt n (2 ^ 12) then pos n else pos n -ℤ pos (2 ^ 13)) 13
signed_13 n h = elim (cases_lt n 4096) [
  | inl small ↦ rw (lt-ltb n 4096 small) (grind arith)
  | inr large ↦ rw (le-ltb n 4096 large) (grind arith)
]

signed_22 : (n : ℕ) → n < 2 ^ 22 → IsSigned (if nat_lt n (2 ^ 21) then pos n else pos n -ℤ pos (2 ^ 22)) 22
signed_22 n h = elim (cases_lt n (2 ^ 21)) [
  | inl small ↦ rw (lt-ltb n (2 ^ 21) small) (grind arith)
  | inr large ↦ rw (le-ltb n (2 ^ 21) large) (grind arith)
]

second_fits : (word : ℕ) → IsOperand (second_of word)
second_fits word = go (eqb (field word 13 1) 0) where
  go : (b : Bool) → IsOperand (cond b (Reg (field word 0 5)) (Imm (signed_field word 13)))
  go true = register_fits word 0
  go false = signed_13 (field word 0 13) (omega arith)

pair_fits : (word : ℕ) → (field word 14 5 < 32) × IsOperand (second_of word)
pair_fits word = (register_fits word 14, second_fits word)

triple_fits : (word : ℕ) → AreOperands (field word 25 5) (field word 14 5) (second_of word)
triple_fits word = (register_fits word 25, register_fits word 14, second_fits word)

branch_fits : (word : ℕ) → (field word 25 4 < 16) × IsSigned (signed_field word 22) 22
branch_fits word = (condition_fits word, signed_22 (field word 0 22) (omega arith))

ticc_fits : (word : ℕ) → (field word 25 4 < 16) × (field word 14 5 < 32) × IsOperand (second_of word)
ticc_fits word = (condition_fits word, register_fits word 14, second_fits word)

sethi_fits : (word : ℕ) → (field word 25 5 < 32) × (field word 0 22 < 2 ^ 22)
sethi_fits word = (register_fits word 25, imm_fits word)

ready_fits : (word : ℕ) → field word 25 5 < 32
ready_fits word = register_fits word 25

any_fits : (word : ℕ) → Unit {0}
any_fits word = tt

-- one for each row of the table
branches_fit : AllInRange branches
branches_fit = (imm_fits, (branch_fits, (sethi_fits, (branch_fits, (any_fits, tt)))))

-- of the longer tables the last rows first
operations_from_36 : AllInRange (drop 36 operations)
operations_from_36 = (triple_fits, (ticc_fits, (pair_fits, (triple_fits, (triple_fits, (any_fits, tt))))))

operations_from_30 : AllInRange (drop 30 operations)
operations_from_30 = (triple_fits, (triple_fits, (ready_fits, (pair_fits, (any_fits, (any_fits, operations_from_36))))))

operations_from_24 : AllInRange (drop 24 operations)
operations_from_24 = (triple_fits, (triple_fits, (triple_fits, (triple_fits, (triple_fits, (triple_fits, operations_from_30))))))

operations_from_18 : AllInRange (drop 18 operations)
operations_from_18 = (triple_fits, (triple_fits, (triple_fits, (triple_fits, (triple_fits, (triple_fits, operations_from_24))))))

operations_from_12 : AllInRange (drop 12 operations)
operations_from_12 = (triple_fits, (triple_fits, (triple_fits, (triple_fits, (triple_fits, (triple_fits, operations_from_18))))))

operations_from_6 : AllInRange (drop 6 operations)
operations_from_6 = (triple_fits, (triple_fits, (triple_fits, (triple_fits, (triple_fits, (triple_fits, operations_from_12))))))

operations_fit : AllInRange operations
operations_fit = (triple_fits, (triple_fits, (triple_fits, (triple_fits, (triple_fits, (triple_fits, operations_from_6))))))

memory_from_18 : AllInRange (drop 18 memory)
memory_from_18 = (any_fits, (any_fits, (any_fits, tt)))

memory_from_12 : AllInRange (drop 12 memory)
memory_from_12 = (triple_fits, (triple_fits, (triple_fits, (triple_fits, (triple_fits, (triple_fits, memory_from_18))))))

memory_from_6 : AllInRange (drop 6 memory)
memory_from_6 = (triple_fits, (triple_fits, (triple_fits, (triple_fits, (triple_fits, (triple_fits, memory_from_12))))))

memory_fit : AllInRange memory
memory_fit = (triple_fits, (triple_fits, (triple_fits, (triple_fits, (triple_fits, (triple_fits, memory_from_6))))))

calls_fit : AllInRange calls
calls_fit = (λ w. omega arith, tt)

tables_fit : (op : ℕ) → AllInRange (table_of op)
tables_fit op = go (eqb op 0) (eqb op 1) (eqb op 2) where
  go : (a b c : Bool) → AllInRange (cond a branches (cond b calls (cond c operations memory)))
  go true b c = branches_fit
  go false true c = calls_fit
  go false false true = operations_fit
  go false false false = memory_fit

-- the fields of a word's instruction are in range: registers are below 32, conditions below 16, and numbers fit their
-- bits
pub all_in_range : FieldsAreInRange
unfolding instruction_of
all_in_range word = named_in_range (table_of (field word 30 2)) (selector_of (field word 30 2) word) word (tables_fit (field word 30 2))
