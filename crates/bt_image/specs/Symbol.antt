-- The symbols of an object file, and the functions that they name (System V ABI, "Object Files", "Symbol Table").
use Rattle.std.specs.Prelude.{◌==◌, ◌≡◌, ℕ, zero, suc, ◌+◌, ◌*◌, ◌/◌, ◌%◌, ◌<◌, ◌≤◌, Bool, true, not, ◌&&◌, ◌||◌, nat_lt}
use Rattle.std.specs.Prelude.{List, [], ◌∷◌, drop, length, bytes_eq, Option, Some, None, if◌then◌else◌}
use Rattle.std.specs.List.{before_first, list_any}
use Rattle.std.specs.Option.{option_or, option_map, unwrap_or}
use Rattle.std.specs.Cmp.Lexicographic.{slice_cmp}
use Rattle.std.specs.Ordering.{nat_cmp, is_lt}
use Rattle.bt_image.specs.Abi.{ST_NAME, ST_VALUE, ST_INFO, ST_SHNDX, STT_FUNC, GLOBAL_NOTYPE, SHN_UNDEF, SYM_SIZE}
use Rattle.bt_image.specs.File.{byte_field, half_field, word_field}
use Rattle.bt_image.specs.Image.{is_code}
use Rattle.bt_image.specs.Least.{least_of}
use Rattle.bt_image.specs.Section.{section_at, section_bytes, symbol_table}
use Rattle.bt_image.specs.declared.section.Section.{Section}
use Rattle.bt_image.specs.declared.symbol.Symbol.{Symbol}

-- the symbol that stands at a place of the file
abbrev pub symbol_from : List ℕ → ℕ → Symbol
symbol_from file at = record {
  name = word_field file (at + ST_NAME);
  value = word_field file (at + ST_VALUE);
  info = byte_field file (at + ST_INFO);
  section = half_field file (at + ST_SHNDX);
}

-- how many symbols a table has, of 16 bytes each
abbrev pub symbols_of : List ℕ → Option ℕ → ℕ
symbols_of file None = 0
symbols_of file (Some table) = (section_at file table).size / SYM_SIZE

-- how many symbols the file has
unfoldable pub symbol_count : List ℕ → ℕ
symbol_count file = symbols_of file (symbol_table file)

-- where the symbol table begins
unfoldable pub symbols_start : List ℕ → ℕ
symbols_start file = unwrap_or (option_map (λ table. (section_at file table).offset) (symbol_table file)) 0

-- symbol k of the file
unfoldable pub symbol_at : List ℕ → ℕ → Symbol
symbol_at file k = symbol_from file (symbols_start file + SYM_SIZE * k)

-- the strings of the symbols' names: the section that the symbol table links to
abbrev pub strings_of : List ℕ → Option ℕ → List ℕ
strings_of file None = []
strings_of file (Some table) = section_bytes file (section_at file (section_at file table).link)

unfoldable pub symbol_strings : List ℕ → List ℕ
symbol_strings file = strings_of file (symbol_table file)

-- the name at a place of the strings: what stands before the next zero byte
abbrev pub name_at : List ℕ → ℕ → List ℕ
name_at strings at = before_first (λ b. b == 0) (drop at strings)

-- a zero byte ends the name at a place of the strings
abbrev pub is_ended : List ℕ → ℕ → Bool
is_ended strings at = list_any (λ b. b == 0) (drop at strings)

-- the symbol is of type FUNC
abbrev pub is_typed : Symbol → Bool
is_typed s = s.info % 16 == STT_FUNC

-- the symbol is of type FUNC, or of no type and global
abbrev pub may_be_function : Symbol → Bool
may_be_function s = is_typed s || (s.info == GLOBAL_NOTYPE)

-- the symbol may be a function, is of some section, and its value is a code address
abbrev pub names_code : List ℕ → Symbol → Bool
names_code file s = may_be_function s && (not (s.section == SHN_UNDEF) && is_code file s.value)

-- the name of symbol k
abbrev pub symbol_name : List ℕ → ℕ → List ℕ
symbol_name file k = name_at (symbol_strings file) (symbol_at file k).name

-- symbol k is a function symbol: it names code, and its name has at least one byte
unfoldable pub is_function_symbol : List ℕ → ℕ → Bool
is_function_symbol file k = names_code file (symbol_at file k) && nat_lt 0 (length (symbol_name file k))

-- a section is the symbol table, or empty where there is none
pub record HasSymbols (file : List ℕ) (table : Section) : Type 0 where
  pub start : symbols_start file ≡ table.offset
  pub count : symbol_count file ≡ table.size / SYM_SIZE
  pub inside : table.offset + table.size ≤ length file

-- a function: an address with at least one function symbol
pub record IsFunction (file : List ℕ) (a : ℕ) : Type 0 where
  pub symbol : ℕ
  pub within : symbol < symbol_count file
  pub function : is_function_symbol file symbol ≡ true
  pub at : (symbol_at file symbol).value ≡ a

-- a list that rises, with one more number
abbrev pub with_number : ℕ → List ℕ → List ℕ
with_number x [] = x ∷ []
with_number x (y ∷ ys) = if nat_lt x y then x ∷ y ∷ ys else (if x == y then y ∷ ys else y ∷ with_number x ys)

-- the addresses of the function symbols among the first n symbols, each once, rising
abbrev pub functions_among : List ℕ → ℕ → List ℕ
functions_among file zero = []
functions_among file (suc n) =
    if is_function_symbol file n then with_number (symbol_at file n).value (functions_among file n) else functions_among file n

-- the functions, rising
unfoldable pub functions : List ℕ → List ℕ
functions file = functions_among file (symbol_count file)

-- one name comes before another, by their bytes
abbrev pub is_before : List ℕ → List ℕ → Bool
is_before x y = is_lt (slice_cmp nat_cmp x y)

-- the name of symbol k where it is a function symbol of this address that passes a test
abbrev pub name_for : (Symbol → Bool) → List ℕ → ℕ → ℕ → Option (List ℕ)
name_for test file a k =
    if is_function_symbol file k && (((symbol_at file k).value == a) && test (symbol_at file k)) then Some (symbol_name file k) else None

-- the symbol isn't of type FUNC
abbrev pub is_untyped : Symbol → Bool
is_untyped s = not (is_typed s)

-- the name of a function: the least by bytes among its symbols of type FUNC, else among the others
unfoldable pub name_of : List ℕ → ℕ → Option (List ℕ)
name_of file a =
    option_or (least_of is_before (name_for is_typed file a) (symbol_count file))
    (least_of is_before (name_for is_untyped file a) (symbol_count file))

-- the address of symbol k where it is a function symbol of this name
abbrev pub entry_for : List ℕ → List ℕ → ℕ → Option ℕ
entry_for file name k =
    if is_function_symbol file k && bytes_eq (symbol_name file k) name then Some (symbol_at file k).value else None

-- the entry of a name: the least address that has a function symbol of that name
unfoldable pub entry_of : List ℕ → List ℕ → Option ℕ
entry_of file name = least_of nat_lt (entry_for file name) (symbol_count file)
