-- The words of a line.
use Rattle.std.specs.Prelude.{◌==◌, ℕ, ◌+◌, Bool, not, ◌||◌, List, length, filter, take, drop, position, Option}
use Rattle.std.specs.List.{slice_split, before_first, position_or_len}
use Rattle.std.specs.Option.{option_map}

-- a space or a tab
abbrev pub is_blank : ℕ → Bool
is_blank b = (b == 32) || (b == 9)

-- what stands before the comment, which goes from the first `#` on
abbrev pub uncommented : List ℕ → List ℕ
uncommented line = before_first (λ b. b == 35) line

-- the words of a line without its comment: what stands between blanks, where there is something
abbrev pub words_of : List ℕ → List (List ℕ)
words_of line = filter (λ word. not (length word == 0)) (slice_split is_blank line)

-- a line without the blanks in front
abbrev pub unblanked : List ℕ → List ℕ
unblanked line = drop (position_or_len (λ b. not (is_blank b)) line) line

-- what stands before the first of a byte and what follows it, where it stands in a text
abbrev pub cut_at : ℕ → List ℕ → Option (List ℕ × List ℕ)
cut_at byte text = option_map (λ place. (take place text, drop (place + 1) text)) (position (λ b. b == byte) text)
