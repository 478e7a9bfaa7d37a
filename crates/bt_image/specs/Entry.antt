-- The table in which the entry of a name is looked up: the function symbols, in the order of their names and, of
-- one name, of their addresses.
use Rattle.std.specs.Prelude.{◌≡◌, ℕ, ◌<◌, ◌≤◌, true, false, List, length, Contains, slice_index_or}
use Rattle.std.specs.Cmp.Lexicographic.{slice_cmp}
use Rattle.std.specs.Ordering.{is_lt, nat_cmp, ordering_then}
use Rattle.std.specs.declared.cmp.Ordering.{Ordering}
use Rattle.bt_image.specs.Symbol.{is_function_symbol, name_at, symbol_at}
use Rattle.bt_image.specs.declared.entry.Entry.{Entry}
use Rattle.bt_image.specs.declared.symbol.Symbol.{Symbol}

-- a symbol as an entry of the table
abbrev pub entry_from : Symbol → Entry
entry_from s = record { name = s.name; address = s.value }

-- the name of an entry
abbrev pub text : List ℕ → Entry → List ℕ
text strings e = name_at strings e.name

-- entries are ordered by their names' bytes, and then by their addresses
abbrev pub order : List ℕ → Entry → Entry → Ordering
order strings x y = ordering_then (slice_cmp nat_cmp (text strings x) (text strings y)) (nat_cmp x.address y.address)

-- an entry is that of a function symbol among the first n
pub record IsEntry (file : List ℕ) (n : ℕ) (e : Entry) : Type 0 where
  pub symbol : ℕ
  pub within : symbol < n
  pub function : is_function_symbol file symbol ≡ true
  pub is : entry_from (symbol_at file symbol) ≡ e

-- the entries are those of the function symbols among the first n
pub record AreEntries (file : List ℕ) (n : ℕ) (entries : List Entry) : Type 0 where
  pub each : (e : Entry) → Contains entries e → IsEntry file n e
  pub all : (k : ℕ) → k < n → is_function_symbol file k ≡ true → Contains entries (entry_from (symbol_at file k))

-- no entry is less than one before it
abbrev pub AreInOrder : List ℕ → List Entry → Type 0
AreInOrder strings entries =
    (i j : ℕ) (d : Entry) → i ≤ j → j < length entries → is_lt (order strings (slice_index_or entries j d) (slice_index_or entries i d)) ≡ false
