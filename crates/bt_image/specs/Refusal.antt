-- The refusals of a file that is no image, in the order in which they are looked for: each by what it means,
-- with the least number of a section, or the first pair of sections, that it is true of.
use Rattle.std.specs.Prelude.{◌==◌, ◌≡◌, ℕ, ◌+◌, ◌*◌, ◌%◌, ◌^◌, ◌<◌, ◌≤◌, Bool, false, not, ◌&&◌, ◌||◌, nat_lt}
use Rattle.std.specs.Prelude.{List, length, Option, Some, None, Result, Ok, Err, is_some, if◌then◌else◌}
use Rattle.std.specs.Option.{option_or}
use Rattle.bt_image.specs.Abi.{EI_MAG0, EI_CLASS, EI_DATA, E_TYPE, E_MACHINE, EHDR_SIZE, SHDR_SIZE, SYM_SIZE}
use Rattle.bt_image.specs.Abi.{ELFMAG, ELFCLASS32, ELFDATA2MSB, ET_EXEC, EM_SPARC, SHT_STRTAB}
use Rattle.bt_image.specs.File.{byte_field, half_field, word_field, section_headers, header_size, section_count}
use Rattle.bt_image.specs.Least.{first_of, first_passing}
use Rattle.bt_image.specs.Section.{section_at, is_loaded, is_code_section, is_compressed, share, symbol_table}
use Rattle.bt_image.specs.Symbol.{symbol_at, names_code, is_ended, symbol_strings, symbol_count, functions}
use Rattle.bt_image.specs.declared.section.Section.{Section}
use Rattle.bt_image.specs.declared.refusal.Counted.TheVariants.{Sections, Symbols, Functions}
use Rattle.bt_image.specs.declared.refusal.ImageRefusal.{ImageRefusal}
use Rattle.bt_image.specs.declared.refusal.ImageRefusal.TheVariants.{Short, Magic, Class, Order, Kind, Machine, HeaderSize}
use Rattle.bt_image.specs.declared.refusal.ImageRefusal.TheVariants.{SectionOutside, SectionOverlap, Alignment, SymbolTable, Limit, Compressed, Want}

-- the file begins with a header of an executable for SPARC in 32 bits with the highest byte first
unfoldable pub header_refusal : List ℕ → Option ImageRefusal
header_refusal file =
    if nat_lt (length file) EHDR_SIZE then Some (Short EHDR_SIZE (length file))
    else (if not (word_field file EI_MAG0 == ELFMAG) then Some Magic
    else (if not (byte_field file EI_CLASS == ELFCLASS32) then Some (Class (byte_field file EI_CLASS))
    else (if not (byte_field file EI_DATA == ELFDATA2MSB) then Some (Order (byte_field file EI_DATA))
    else (if not (half_field file E_TYPE == ET_EXEC) then Some (Kind (half_field file E_TYPE))
    else (if not (half_field file E_MACHINE == EM_SPARC) then Some (Machine (half_field file E_MACHINE))
    else None)))))

-- where the section headers end
abbrev pub headers_end : List ℕ → ℕ
headers_end file = section_headers file + SHDR_SIZE * section_count file

-- where there are sections, their headers are of 40 bytes, not too many, and within the file
unfoldable pub headers_refusal : List ℕ → Option ImageRefusal
headers_refusal file =
    if section_count file == 0 then None
    else (if not (header_size file == SHDR_SIZE) then Some (HeaderSize (header_size file))
    else (if nat_lt 1024 (section_count file) then Some (Limit Sections (section_count file))
    else (if nat_lt (length file) (headers_end file) then Some (Short (headers_end file) (length file))
    else None)))

-- section n is the symbol table, or the one that the symbol table links to
abbrev pub serves_symbols : List ℕ → Option ℕ → ℕ → Bool
serves_symbols file None n = false
serves_symbols file (Some table) n = (n == table) || (n == (section_at file table).link)

-- the section passes the end of the file, or is loaded and passes the end of memory
abbrev pub is_outside : List ℕ → Section → Bool
is_outside file s = nat_lt (length file) (s.offset + s.size) || (is_loaded s && nat_lt (2 ^ 32) (s.address + s.size))

-- what is wrong with a section n that is looked at
abbrev pub fault_of : List ℕ → ℕ → Section → Option ImageRefusal
fault_of file n s =
    if is_compressed s then Some (Compressed n)
    else (if is_outside file s then Some (SectionOutside n)
    else (if is_code_section s && not (s.address % 4 == 0) then Some (Alignment n)
    else None))

-- what is wrong with section n, which is looked at where it is loaded or serves the symbols
unfoldable pub section_fault : List ℕ → Option ℕ → ℕ → Option ImageRefusal
section_fault file table n =
    if is_loaded (section_at file n) || serves_symbols file table n then fault_of file n (section_at file n) else None

-- each section that is looked at is whole, within the file and memory, and aligned
unfoldable pub sections_refusal : List ℕ → Option ImageRefusal
sections_refusal file = first_of (section_fault file (symbol_table file)) (section_count file)

-- sections a and b, of which a is the first, are loaded and share an address
unfoldable pub overlap : List ℕ → ℕ → ℕ → Option ImageRefusal
overlap file a b =
    if nat_lt a b && (is_loaded (section_at file a) && (is_loaded (section_at file b) && share (section_at file a) (section_at file b)))
    then Some (SectionOverlap a b) else None

-- no two loaded sections share an address
unfoldable pub overlap_refusal : List ℕ → Option ImageRefusal
overlap_refusal file = first_of (λ a. first_of (overlap file a) (section_count file)) (section_count file)

-- symbol k names code, and its name is outside the strings or doesn't end
unfoldable pub is_unnamed : List ℕ → ℕ → Bool
is_unnamed file k = names_code file (symbol_at file k) && not (is_ended (symbol_strings file) (symbol_at file k).name)

-- the table's symbols are of 16 bytes each, and it links to a section of strings
abbrev pub is_table : List ℕ → Section → Bool
is_table file s =
    (s.entry_size == SYM_SIZE)
    && ((s.size % SYM_SIZE == 0) && (nat_lt s.link (section_count file) && ((section_at file s.link).kind == SHT_STRTAB)))

-- what is wrong with a symbol table
abbrev pub table_refusal : List ℕ → Option ℕ → Option ImageRefusal
table_refusal file None = None
table_refusal file (Some table) =
    if is_table file (section_at file table) && not (is_some (first_passing (is_unnamed file) (symbol_count file)))
    then None else Some (SymbolTable table)

-- the symbol table is one, and each symbol that names code has a name that ends within the strings
unfoldable pub symbols_refusal : List ℕ → Option ImageRefusal
symbols_refusal file = table_refusal file (symbol_table file)

-- there are not too many symbols and functions
unfoldable pub limits_refusal : List ℕ → Option ImageRefusal
limits_refusal file =
    if nat_lt 262144 (symbol_count file) then Some (Limit Symbols (symbol_count file))
    else (if nat_lt 16384 (length (functions file)) then Some (Limit Functions (length (functions file)))
    else None)

-- the first refusal for the headers or a section
unfoldable pub checked_refusal : List ℕ → Option ImageRefusal
checked_refusal file = option_or (header_refusal file) (option_or (headers_refusal file) (sections_refusal file))

-- the first refusal of a file, where there is one
unfoldable pub first_refusal : List ℕ → Option ImageRefusal
first_refusal file =
    option_or (checked_refusal file) (option_or (overlap_refusal file) (option_or (symbols_refusal file) (limits_refusal file)))

-- a check answers Ok exactly where there is no refusal, and else that refusal
abbrev pub IsCheck : {T : Type 0} → Option ImageRefusal → Result T ImageRefusal → Type 0
IsCheck refusal (Ok x) = refusal ≡ None
IsCheck refusal (Err e) = refusal ≡ Some e

-- the error is that refusal, or want of memory
abbrev pub IsRefusal : Option ImageRefusal → ImageRefusal → Type 0
IsRefusal refusal Want = Unit {0}
IsRefusal refusal e = refusal ≡ Some e

-- a step answers Ok exactly where there is no refusal, and else that refusal, or that memory is wanting
abbrev pub IsStep : {T : Type 0} → Option ImageRefusal → Result T ImageRefusal → Type 0
IsStep refusal (Ok x) = refusal ≡ None
IsStep refusal (Err e) = IsRefusal refusal e

-- the headers of the sections are within the file, and not too many
pub record HasHeaders (file : List ℕ) : Type 0 where
  pub long : EHDR_SIZE ≤ length file
  pub few : section_count file ≤ 1024
  pub whole : (n : ℕ) → n < section_count file → section_headers file + SHDR_SIZE * n + SHDR_SIZE ≤ length file
