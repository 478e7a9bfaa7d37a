-- How the words of a set are held.
use Rattle.std.specs.Prelude.{ℕ, List, [], ◌∷◌}
use Rattle.value_lattice.specs.declared.words.Held.{Held}
use Rattle.value_lattice.specs.declared.words.Held.TheVariants.{One, Many}

-- the words that are held
abbrev pub words_of : Held → List ℕ
words_of (One word) = word ∷ []
words_of (Many words) = words.items
