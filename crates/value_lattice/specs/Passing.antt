-- The words that a test passes.
use Rattle.std.specs.Prelude.{ℕ, ◌^◌, Bool, List, length, nat_lt}
use Rattle.std.specs.List.{filter, range_with_len}

-- the words below a number that a test passes, rising
unfoldable pub words_below : ℕ → (ℕ → Bool) → List ℕ
words_below n test = filter test (range_with_len 0 n)

-- whether a test passes some word
unfoldable pub passes_some : (ℕ → Bool) → Bool
passes_some test = nat_lt 0 (length (words_below (2 ^ 32) test))
