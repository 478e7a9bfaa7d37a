-- The headers of sections (System V ABI, "Object Files", "Sections").
use Rattle.std.specs.Prelude.{ℕ, List, [], ◌∷◌}
use Rattle.gen_image.specs.Number.{words_of}
use Rattle.gen_image.specs.declared.sections.SectionHeader.{SectionHeader}

-- the bytes of a section's header; sections have no names
unfoldable pub section_bytes : SectionHeader → List ℕ
section_bytes header =
    words_of (0 ∷ header.kind ∷ header.flags ∷ header.address ∷ header.offset ∷ header.size ∷ header.link ∷ header.info
    ∷ header.alignment ∷ header.entry_size ∷ [])

-- the section that stands for none
abbrev pub null_section : SectionHeader
null_section = record {
  kind = 0;
  flags = 0;
  address = 0;
  offset = 0;
  size = 0;
  link = 0;
  info = 0;
  alignment = 0;
  entry_size = 0;
}

-- the code: bytes of the program (1), allocated and executable (6), in words
abbrev pub text_section : ℕ → ℕ → SectionHeader
text_section offset size = record {
  kind = 1;
  flags = 6;
  address = 0x02000000;
  offset = offset;
  size = size;
  link = 0;
  info = 0;
  alignment = 4;
  entry_size = 0;
}

-- the symbol table (2): its strings are in section 3, its first global symbol is 1, and a symbol has 16 bytes
abbrev pub symbol_section : ℕ → ℕ → SectionHeader
symbol_section offset size = record {
  kind = 2;
  flags = 0;
  address = 0;
  offset = offset;
  size = size;
  link = 3;
  info = 1;
  alignment = 4;
  entry_size = 16;
}

-- the table of strings (3)
abbrev pub string_section : ℕ → ℕ → SectionHeader
string_section offset size = record {
  kind = 3;
  flags = 0;
  address = 0;
  offset = offset;
  size = size;
  link = 0;
  info = 0;
  alignment = 1;
  entry_size = 0;
}
