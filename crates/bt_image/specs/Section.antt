-- The sections of an object file, and what their types and flags mean (System V ABI, "Object Files", "Sections").
use Rattle.std.specs.Prelude.{◌==◌, ℕ, ◌+◌, ◌*◌, ◌/◌, ◌%◌, ◌^◌, Bool, not, ◌&&◌, ◌||◌, nat_lt, nat_le}
use Rattle.std.specs.Prelude.{List, take, drop, Option}
use Rattle.bt_image.specs.Abi.{SH_TYPE, SH_FLAGS, SH_ADDR, SH_OFFSET, SH_SIZE, SH_LINK, SH_ENTSIZE, SHDR_SIZE}
use Rattle.bt_image.specs.Abi.{SHT_SYMTAB, SHT_NOBITS, SHF_WRITE_BIT, SHF_ALLOC_BIT, SHF_EXECINSTR_BIT, SHF_COMPRESSED_BIT}
use Rattle.bt_image.specs.File.{word_field, section_headers, section_count}
use Rattle.bt_image.specs.Least.{first_passing}
use Rattle.bt_image.specs.declared.section.Access.{Access}
use Rattle.bt_image.specs.declared.section.Access.TheVariants.{Loaded, ReadOnly, Code}
use Rattle.bt_image.specs.declared.section.Section.{Section}

-- the section whose header stands at a place of the file
abbrev pub section_from : List ℕ → ℕ → Section
section_from file at = record {
  kind = word_field file (at + SH_TYPE);
  flags = word_field file (at + SH_FLAGS);
  address = word_field file (at + SH_ADDR);
  offset = word_field file (at + SH_OFFSET);
  size = word_field file (at + SH_SIZE);
  link = word_field file (at + SH_LINK);
  entry_size = word_field file (at + SH_ENTSIZE);
}

-- section n of the file; the headers stand one after the other, of 40 bytes each
unfoldable pub section_at : List ℕ → ℕ → Section
section_at file n = section_from file (section_headers file + SHDR_SIZE * n)

-- the bytes of the file that are a section's
abbrev pub section_bytes : List ℕ → Section → List ℕ
section_bytes file s = take s.size (drop s.offset file)

-- a flag is set
abbrev pub has_flag : Section → ℕ → Bool
has_flag s bit = s.flags / 2 ^ bit % 2 == 1

abbrev pub is_writable : Section → Bool
is_writable s = has_flag s SHF_WRITE_BIT

abbrev pub is_allocated : Section → Bool
is_allocated s = has_flag s SHF_ALLOC_BIT

abbrev pub is_executable : Section → Bool
is_executable s = has_flag s SHF_EXECINSTR_BIT

abbrev pub is_compressed : Section → Bool
is_compressed s = has_flag s SHF_COMPRESSED_BIT

-- the section is in memory from the file: it is allocated, isn't of type NOBITS, and isn't empty
abbrev pub is_loaded : Section → Bool
is_loaded s = is_allocated s && (not (s.kind == SHT_NOBITS) && nat_lt 0 s.size)

-- a loaded section with instructions
abbrev pub is_code_section : Section → Bool
is_code_section s = is_loaded s && is_executable s

-- a loaded section that is code or can't be written
abbrev pub is_read_only_section : Section → Bool
is_read_only_section s = is_loaded s && (is_executable s || not (is_writable s))

-- what a look-up asks of a section
abbrev pub test_of : Access → Section → Bool
test_of Loaded s = is_loaded s
test_of ReadOnly s = is_read_only_section s
test_of Code s = is_code_section s

-- the n bytes from address a on stand in the section
abbrev pub holds : Section → ℕ → ℕ → Bool
holds s a n = nat_le s.address a && nat_le (a + n) (s.address + s.size)

-- two sections share an address
abbrev pub share : Section → Section → Bool
share s t = nat_lt s.address (t.address + t.size) && nat_lt t.address (s.address + s.size)

-- the symbol table: the first section of type SYMTAB
abbrev pub symbol_table : List ℕ → Option ℕ
symbol_table file = first_passing (λ n. (section_at file n).kind == SHT_SYMTAB) (section_count file)
