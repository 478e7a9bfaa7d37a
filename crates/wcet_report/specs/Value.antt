-- How values are written.
use Rattle.std.specs.Prelude.{ℕ, ◌^◌, ◌&&◌, pos, negsuc, Bool, false, List, [], ◌∷◌, ◌++◌, codes, nat_le, nat_lt}
use Rattle.std.specs.Fmt.{signed_decimal}
use Rattle.std.specs.Int.{w32, cast_signed}
use Rattle.std.specs.Ordering.{int_eq}
use Rattle.std.specs.List.{filter}
use Rattle.value_lattice.specs.declared.value.Value.{Value}
use Rattle.value_lattice.specs.declared.value.Value.TheVariants.{Words, Range, Ret}

-- rising words in the order of their numbers read with sign: those with the sign bit first
abbrev pub by_sign : List ℕ → List ℕ
by_sign words = filter (λ w. nat_le (2 ^ 31) w) words ++ filter (λ w. nat_lt w (2 ^ 31)) words

-- words read with sign, the first behind one byte and each other behind a comma
abbrev pub parted : ℕ → List ℕ → List ℕ
parted before [] = []
parted before (w ∷ ws) = before ∷ (signed_decimal (cast_signed w32 w) ++ parted 44 ws)

-- a value: the members of a set in braces, the ends of a range, or the return address
unfoldable pub value_text : Value → List ℕ
value_text (Words words) = parted 123 (by_sign words) ++ codes "}"
value_text (Range lo hi) = signed_decimal lo ++ (codes ".." ++ signed_decimal hi)
value_text Ret = codes "ret"

-- whether a value is the range of all words
abbrev pub is_any : Value → Bool
is_any (Words words) = false
is_any (Range lo hi) = int_eq lo (negsuc 2147483647) && int_eq hi (pos 2147483647)
is_any Ret = false
