-- Numbers in a file, the highest byte of each first, and lists of bytes one behind the other.
use Rattle.std.specs.Prelude.{ℕ, List}
use Rattle.std.specs.List.{flat_map, range_with_len}
use Rattle.byteorder.specs.Endian.{big_bytes}

-- a half-word of two bytes, a word of four
unfoldable pub half_bytes : ℕ → List ℕ
half_bytes half = big_bytes 2 half

unfoldable pub word_bytes : ℕ → List ℕ
word_bytes word = big_bytes 4 word

-- half-words and words, one behind the other
abbrev pub halves_of : List ℕ → List ℕ
halves_of halves = flat_map half_bytes halves

abbrev pub words_of : List ℕ → List ℕ
words_of words = flat_map word_bytes words

-- what a function gives at 0, 1 and so on, below n, one behind the other
abbrev pub each : (ℕ → List ℕ) → ℕ → List ℕ
each bytes n = flat_map bytes (range_with_len 0 n)
