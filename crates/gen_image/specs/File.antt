-- The whole file: its header, the code, the symbol table, the strings, zero bytes up to a multiple of 4, and the headers
-- of the four sections (System V ABI, "Object Files").
use Rattle.std.specs.Prelude.{ℕ, List, [], ◌∷◌, ◌++◌, replicate}
use Rattle.gen_image.specs.Code.{text}
use Rattle.gen_image.specs.Layout.{layout_of}
use Rattle.gen_image.specs.Name.{strings}
use Rattle.gen_image.specs.Number.{halves_of, words_of}
use Rattle.gen_image.specs.Section.{section_bytes, null_section, text_section, symbol_section, string_section}
use Rattle.gen_image.specs.Symbol.{symbols}
use Rattle.gen_image.specs.declared.layout.Layout.{Layout}

-- what identifies the file: ELF, 32 bits, the highest byte first, version 1
abbrev pub ident : List ℕ
ident = 0x7f ∷ 0x45 ∷ 0x4c ∷ 0x46 ∷ 1 ∷ 2 ∷ 1 ∷ 0 ∷ 0 ∷ 0 ∷ 0 ∷ 0 ∷ 0 ∷ 0 ∷ 0 ∷ 0 ∷ []

-- the header: an executable for SPARC, which begins where its code begins, without program headers, with four section
-- headers of 40 bytes at a place of the file, of which number 3 has the strings
unfoldable pub header : ℕ → List ℕ
header sections =
    ident ++ halves_of (2 ∷ 2 ∷ []) ++ words_of (1 ∷ 0x02000000 ∷ 0 ∷ sections ∷ 0 ∷ [])
    ++ halves_of (52 ∷ 0 ∷ 0 ∷ 40 ∷ 4 ∷ 3 ∷ [])

-- the headers of the sections: the null section, the code, the symbols, the strings
unfoldable pub sections : Layout → List ℕ
sections at =
    section_bytes null_section ++ section_bytes (text_section 52 at.text_size)
    ++ section_bytes (symbol_section at.symbols_at at.symbols_size)
    ++ section_bytes (string_section at.strings_at at.strings_size)

-- the file with n functions
unfoldable pub file_of : ℕ → List ℕ
file_of n =
    header (layout_of n).sections_at ++ text n ++ symbols n ++ strings n ++ replicate (layout_of n).padding 0
    ++ sections (layout_of n)
