-- The numbers of the generic ABI (System V ABI, "Object Files"), by its names for them. A place is counted in bytes from the
-- start of what it is a field of.
use Rattle.std.specs.Prelude.{ℕ}

-- places in the file's header: the magic number, the class, the order of bytes, the type, the machine, where the section
-- headers begin, the size of one, how many there are
abbrev pub EI_MAG0 : ℕ
EI_MAG0 = 0

abbrev pub EI_CLASS : ℕ
EI_CLASS = 4

abbrev pub EI_DATA : ℕ
EI_DATA = 5

abbrev pub E_TYPE : ℕ
E_TYPE = 16

abbrev pub E_MACHINE : ℕ
E_MACHINE = 18

abbrev pub E_SHOFF : ℕ
E_SHOFF = 32

abbrev pub E_SHENTSIZE : ℕ
E_SHENTSIZE = 46

abbrev pub E_SHNUM : ℕ
E_SHNUM = 48

-- the size of the file's header, of a section's header and of a symbol
abbrev pub EHDR_SIZE : ℕ
EHDR_SIZE = 52

abbrev pub SHDR_SIZE : ℕ
SHDR_SIZE = 40

abbrev pub SYM_SIZE : ℕ
SYM_SIZE = 16

-- the magic number; 32 bits; the highest byte first; an executable; SPARC
abbrev pub ELFMAG : ℕ
ELFMAG = 0x7f454c46

abbrev pub ELFCLASS32 : ℕ
ELFCLASS32 = 1

abbrev pub ELFDATA2MSB : ℕ
ELFDATA2MSB = 2

abbrev pub ET_EXEC : ℕ
ET_EXEC = 2

abbrev pub EM_SPARC : ℕ
EM_SPARC = 2

-- places in a section's header
abbrev pub SH_TYPE : ℕ
SH_TYPE = 4

abbrev pub SH_FLAGS : ℕ
SH_FLAGS = 8

abbrev pub SH_ADDR : ℕ
SH_ADDR = 12

abbrev pub SH_OFFSET : ℕ
SH_OFFSET = 16

abbrev pub SH_SIZE : ℕ
SH_SIZE = 20

abbrev pub SH_LINK : ℕ
SH_LINK = 24

abbrev pub SH_ENTSIZE : ℕ
SH_ENTSIZE = 36

-- types of sections: a symbol table, strings, memory without bytes in the file
abbrev pub SHT_SYMTAB : ℕ
SHT_SYMTAB = 2

abbrev pub SHT_STRTAB : ℕ
SHT_STRTAB = 3

abbrev pub SHT_NOBITS : ℕ
SHT_NOBITS = 8

-- flags of sections, by the number of their bit: writable, allocated, executable, compressed
abbrev pub SHF_WRITE_BIT : ℕ
SHF_WRITE_BIT = 0

abbrev pub SHF_ALLOC_BIT : ℕ
SHF_ALLOC_BIT = 1

abbrev pub SHF_EXECINSTR_BIT : ℕ
SHF_EXECINSTR_BIT = 2

abbrev pub SHF_COMPRESSED_BIT : ℕ
SHF_COMPRESSED_BIT = 11

-- places in a symbol
abbrev pub ST_NAME : ℕ
ST_NAME = 0

abbrev pub ST_VALUE : ℕ
ST_VALUE = 4

abbrev pub ST_INFO : ℕ
ST_INFO = 12

abbrev pub ST_SHNDX : ℕ
ST_SHNDX = 14

-- the type of functions; what is global and of no type; the number of no section
abbrev pub STT_FUNC : ℕ
STT_FUNC = 2

abbrev pub GLOBAL_NOTYPE : ℕ
GLOBAL_NOTYPE = 0x10

abbrev pub SHN_UNDEF : ℕ
SHN_UNDEF = 0
