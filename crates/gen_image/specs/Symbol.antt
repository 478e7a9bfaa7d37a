-- The symbol table (System V ABI, "Object Files", "Symbol Table").
use Rattle.std.specs.Prelude.{ℕ, List, [], ◌∷◌, ◌++◌, length}
use Rattle.gen_image.specs.Code.{function_at, function_code, main_code}
use Rattle.gen_image.specs.Name.{name_at}
use Rattle.gen_image.specs.Number.{each, half_bytes, words_of}
use Rattle.gen_image.specs.declared.symbols.Symbol.{Symbol}

-- the bytes of a symbol
unfoldable pub symbol_bytes : Symbol → List ℕ
symbol_bytes symbol =
    words_of (symbol.name ∷ symbol.value ∷ symbol.size ∷ []) ++ symbol.info ∷ symbol.other ∷ half_bytes symbol.section

-- the symbol that stands for none
abbrev pub null_symbol : Symbol
null_symbol = record { name = 0; value = 0; size = 0; info = 0; other = 0; section = 0 }

-- the symbol of a function: it is global and in the first section behind the null section
abbrev pub symbol_of : ℕ → ℕ → ℕ → Symbol
symbol_of name address size = record { name = name; value = address; size = size; info = 0x12; other = 0; section = 1 }

-- the symbol of function k, and that of main, with their sizes
abbrev pub function_symbol : ℕ → Symbol
function_symbol k = symbol_of (name_at k) (function_at k) (length function_code)

abbrev pub main_symbol : ℕ → Symbol
main_symbol n = symbol_of (name_at n) (function_at n) (length (main_code n))

-- the null symbol, the functions in order, main
unfoldable pub symbols : ℕ → List ℕ
symbols n = symbol_bytes null_symbol ++ each (λ k. symbol_bytes (function_symbol k)) n ++ symbol_bytes (main_symbol n)
