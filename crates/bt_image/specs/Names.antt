-- The names of functions, as they are kept: a place in the strings, and whether the symbol was of type FUNC.
use Rattle.std.specs.Prelude.{◌≡◌, ◌≢◌, ℕ, ◌≤◌, Bool, true, false, not, ◌&&◌, ◌||◌, List, length, Option, Some, None, if◌then◌else◌}
use Rattle.std.specs.BTreeMap.{BTreeMap, get, keys}
use Rattle.std.specs.Ordering.{nat_cmp}
use Rattle.bt_image.specs.Least.{least_of}
use Rattle.bt_image.specs.Symbol.{name_at, is_before, is_typed, is_untyped, name_for, functions_among, with_number}
use Rattle.bt_image.specs.declared.names.Name.{Name}
use Rattle.bt_image.specs.declared.symbol.Symbol.{Symbol}

-- the text of a name
abbrev pub text : List ℕ → Name → List ℕ
text strings name = name_at strings name.at

-- of two names of one function the first is chosen before the second
abbrev pub is_chosen : List ℕ → Name → Name → Bool
is_chosen strings x y =
    if x.typed then (not y.typed || is_before (text strings x) (text strings y)) else (not y.typed && is_before (text strings x) (text strings y))

-- the name of a function once one more symbol of it was seen
abbrev pub better : List ℕ → Option Name → Name → Name
better strings None new = new
better strings (Some old) new = if is_chosen strings new old then new else old

-- a name is the least of type FUNC, else the least of the others
abbrev pub IsBest : List ℕ → Option (List ℕ) → Option (List ℕ) → Option Name → Type 0
IsBest strings typed others None = (typed ≡ None) × (others ≡ None)
IsBest strings typed others (Some name) =
    (name.at ≤ length strings) × (name.typed ≡ true → typed ≡ Some (text strings name))
    × (name.typed ≡ false → (typed ≡ None) × (others ≡ Some (text strings name)))

-- the names of the functions among the first n symbols
pub record AreNames (file strings : List ℕ) (n : ℕ) (names : BTreeMap ℕ Name) : Type 0 where
  pub keys : keys names ≡ functions_among file n
  pub best : (a : ℕ) → IsBest strings (least_of is_before (name_for is_typed file a) n)
      (least_of is_before (name_for is_untyped file a) n) (get nat_cmp names a)

-- a symbol as a name of the function at its value
abbrev pub name_from : Symbol → Name
name_from s = record { at = s.name; typed = is_typed s }

-- the new names have this symbol's name at its value, if it is better than the old one, and else the old names
pub record IsNoted (strings : List ℕ) (old new : BTreeMap ℕ Name) (s : Symbol) : Type 0 where
  pub keys : keys new ≡ with_number s.value (keys old)
  pub at : get nat_cmp new s.value ≡ Some (better strings (get nat_cmp old s.value) (name_from s))
  pub others : (a : ℕ) → a ≢ s.value → get nat_cmp new a ≡ get nat_cmp old a
