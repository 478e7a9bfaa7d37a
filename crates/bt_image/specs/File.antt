-- The bytes of an object file: its numbers, the highest byte first, and the fields of its header that are
-- looked at (System V ABI, "Object Files", "ELF Header").
use Rattle.std.specs.Prelude.{ℕ, List, drop, slice_index}
use Rattle.byteorder.specs.Endian.{big_number}
use Rattle.bt_image.specs.Abi.{E_SHENTSIZE, E_SHNUM, E_SHOFF}

-- the byte, the half-word of two bytes and the word of four bytes at a place of the file
abbrev pub byte_field : List ℕ → ℕ → ℕ
byte_field file at = slice_index file at

unfoldable pub half_field : List ℕ → ℕ → ℕ
half_field file at = big_number 2 (drop at file)

unfoldable pub word_field : List ℕ → ℕ → ℕ
word_field file at = big_number 4 (drop at file)

-- where the section headers begin, the size of one, and how many there are
abbrev pub section_headers : List ℕ → ℕ
section_headers file = word_field file E_SHOFF

abbrev pub header_size : List ℕ → ℕ
header_size file = half_field file E_SHENTSIZE

abbrev pub section_count : List ℕ → ℕ
section_count file = half_field file E_SHNUM
