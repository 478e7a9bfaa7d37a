-- The ends of a result from the ends of the sources, all by their places: 2 ^ 31 is the place of 0.
use Rattle.std.specs.Prelude.{◌==◌, ℕ, ◌+◌, ◌-◌, ◌*◌, ◌/◌, ◌%◌, ◌^◌, ◌≤◌, min, max, Bool, ◌&&◌, Option, Some, None, nat_lt, nat_le, if◌then◌else◌}
use Rattle.value_ops.specs.declared.op.Op.{Op}
use Rattle.value_ops.specs.declared.rows.Span.{Span}
use Rattle.value_ops.specs.declared.op.Op.TheVariants.{Add, Sub, And, Or, Xor, Andn, Orn, Xnor, Sll, Srl, Sra, Addx, Subx, Mul}

-- a span has a word
abbrev pub IsFilled : Span → Type 0
IsFilled a = a.low ≤ a.high

-- all words
abbrev pub all : Span
all = record { low = 0; high = 4294967295 }

-- the sums of the least and of the greatest, where both fit
abbrev pub sums : Span → Span → Span
sums a b =
    if nat_le (2 ^ 31) (a.low + b.low) && nat_lt (a.high + b.high) (2 ^ 31 + 2 ^ 32)
    then record { low = a.low + b.low - 2 ^ 31; high = a.high + b.high - 2 ^ 31 }
    else all

-- the least less the greatest, and the greatest less the least, where both fit
abbrev pub differences : Span → Span → Span
differences a b =
    if nat_le b.high (a.low + 2 ^ 31) && nat_lt (a.high + 2 ^ 31) (b.low + 2 ^ 32)
    then record { low = a.low + 2 ^ 31 - b.high; high = a.high + 2 ^ 31 - b.low }
    else all

-- from 0 to the least of the greatest, of the sides that aren't negative
abbrev pub conjunctions : Span → Span → Span
conjunctions a b =
    if nat_le (2 ^ 31) a.low
    then (if nat_le (2 ^ 31) b.low then record { low = 2 ^ 31; high = min a.high b.high } else record { low = 2 ^ 31; high = a.high })
    else (if nat_le (2 ^ 31) b.low then record { low = 2 ^ 31; high = b.high } else all)

-- from 0 to the greatest of the left side, where that isn't negative
abbrev pub left_conjunctions : Span → Span
left_conjunctions a = if nat_le (2 ^ 31) a.low then record { low = 2 ^ 31; high = a.high } else all

-- a number times 2 ^ n fits
abbrev pub scales : ℕ → ℕ → Bool
scales n k = if nat_le (2 ^ 31) k then nat_lt ((k - 2 ^ 31) * 2 ^ n) (2 ^ 31) else nat_le ((2 ^ 31 - k) * 2 ^ n) (2 ^ 31)

-- a number times 2 ^ n
abbrev pub scaled : ℕ → ℕ → ℕ
scaled n k = if nat_le (2 ^ 31) k then 2 ^ 31 + (k - 2 ^ 31) * 2 ^ n else 2 ^ 31 - (2 ^ 31 - k) * 2 ^ n

-- both ends times 2 ^ n, where both fit
abbrev pub left_shifts : ℕ → Span → Span
left_shifts n a = if scales n a.low && scales n a.high then record { low = scaled n a.low; high = scaled n a.high } else all

-- Both ends shifted, where they aren't negative. Else from 0 to the greatest that n zeros in front leave, or all
-- where n is 0.
abbrev pub right_shifts : ℕ → Span → Span
right_shifts n a =
    if nat_le (2 ^ 31) a.low
    then record { low = 2 ^ 31 + (a.low - 2 ^ 31) / 2 ^ n; high = 2 ^ 31 + (a.high - 2 ^ 31) / 2 ^ n }
    else (if n == 0 then all else record { low = 2 ^ 31; high = 2 ^ 31 + 2 ^ (32 - n) - 1 })

-- both ends shifted, with their signs
abbrev pub signed_shifts : ℕ → Span → Span
signed_shifts n a =
    record { low = a.low / 2 ^ n + 2 ^ 31 - 2 ^ 31 / 2 ^ n; high = a.high / 2 ^ n + 2 ^ 31 - 2 ^ 31 / 2 ^ n }

-- The product of the numbers at two places, plus 2 ^ 62: so products are ordered as these are, and none is negative.
unfoldable pub product_key : ℕ → ℕ → ℕ
product_key k m = k * m + 2 ^ 63 - 2 ^ 31 * (k + m)

-- the least and the greatest product of an end of one side and an end of the other
abbrev pub least_product : Span → Span → ℕ
least_product a b = min (min (product_key a.low b.low) (product_key a.low b.high)) (min (product_key a.high b.low) (product_key a.high b.high))

abbrev pub greatest_product : Span → Span → ℕ
greatest_product a b = max (max (product_key a.low b.low) (product_key a.low b.high)) (max (product_key a.high b.low) (product_key a.high b.high))

-- from the least to the greatest product of the ends, where all fit
abbrev pub products : Span → Span → Span
products a b =
    if nat_le (2 ^ 62 - 2 ^ 31) (least_product a b) && nat_lt (greatest_product a b) (2 ^ 62 + 2 ^ 31)
    then record { low = least_product a b - (2 ^ 62 - 2 ^ 31); high = greatest_product a b - (2 ^ 62 - 2 ^ 31) }
    else all

-- a shift by the low five bits of one word; all words for more than one
abbrev pub shifts : (ℕ → Span → Span) → Option ℕ → Span → Span
shifts by None a = all
shifts by (Some count) a = by (count % 32) a

-- the results of an operation, from the ends of its sources and the one word of the right side, if it is one
abbrev pub row_of : Op → Option ℕ → Span → Span → Span
row_of Add one a b = sums a b
row_of Sub one a b = differences a b
row_of And one a b = conjunctions a b
row_of Andn one a b = left_conjunctions a
row_of Sll one a b = shifts left_shifts one a
row_of Srl one a b = shifts right_shifts one a
row_of Sra one a b = shifts signed_shifts one a
row_of Or one a b = all
row_of Xor one a b = all
row_of Orn one a b = all
row_of Xnor one a b = all
row_of Addx one a b = all
row_of Subx one a b = all
row_of Mul one a b = products a b
