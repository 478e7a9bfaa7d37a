-- The names of the functions, and the table of strings.
use Rattle.std.specs.Prelude.{ℕ, List, [], ◌∷◌, ◌++◌, codes, decimal, length}
use Rattle.gen_image.specs.Number.{each}

-- the name of function k, ended by a zero byte: f0, f1 and so on
unfoldable pub function_name : ℕ → List ℕ
function_name k = codes "f" ++ decimal k ++ 0 ∷ []

-- a zero byte, which is the empty name, and the names of the first k functions
abbrev pub names_before : ℕ → List ℕ
names_before k = 0 ∷ each function_name k

-- where the name of function k begins in the table of strings; main's begins behind the last one
unfoldable pub name_at : ℕ → ℕ
name_at k = length (names_before k)

-- the table of strings
unfoldable pub strings : ℕ → List ℕ
strings n = names_before n ++ codes "main" ++ 0 ∷ []
