-- The number and the message of each status.
use Rattle.std.specs.Prelude.{ℕ, List, ◌++◌, codes, decimal}
use Rattle.assert_bind.specs.declared.refusal.BindRefusal.{BindRefusal}
use Rattle.assert_bind.specs.declared.refusal.BindRefusal.TheVariants as bind
use Rattle.assert_lang.specs.declared.refusal.AssertRefusal.{AssertRefusal}
use Rattle.assert_lang.specs.declared.refusal.AssertRefusal.TheVariants as parse
use Rattle.assert_lang.specs.declared.refusal.Expected.{Expected}
use Rattle.assert_lang.specs.declared.refusal.Expected.TheVariants as expected
use Rattle.bt_base.specs.Text.{hex8_of}
use Rattle.bt_image.specs.declared.refusal.Counted.{Counted}
use Rattle.bt_image.specs.declared.refusal.Counted.TheVariants as counted
use Rattle.bt_image.specs.declared.refusal.ImageRefusal.{ImageRefusal}
use Rattle.bt_image.specs.declared.refusal.ImageRefusal.TheVariants as image
use Rattle.cycle_table.specs.Class.{name_of}
use Rattle.cycle_table.specs.declared.refusal.CycleRefusal.{CycleRefusal}
use Rattle.cycle_table.specs.declared.refusal.CycleRefusal.TheVariants as cycles
use Rattle.cycle_table.specs.declared.refusal.Why.{Why}
use Rattle.cycle_table.specs.declared.refusal.Why.TheVariants as why
use Rattle.bt_command.specs.declared.status.AssertFault.{AssertFault}
use Rattle.bt_command.specs.declared.status.AssertFault.TheVariants.{Parse, Bind, Unmatched}
use Rattle.bt_command.specs.declared.status.LimitFault.TheVariants.{TooLong, Nodes, Contexts}
use Rattle.bt_command.specs.declared.status.Status.{Status}
use Rattle.bt_command.specs.declared.status.Status.TheVariants.{Bounded, Unbounded, Usage, Image, Cycles, Assertions, ReadFault, WriteFault, Want, Limit}

-- the exit status of the program
abbrev pub code_of : Status → ℕ
code_of Bounded = 0
code_of Unbounded = 1
code_of Usage = 2
code_of (Image refusal) = 3
code_of (Cycles refusal) = 4
code_of (Assertions fault) = 5
code_of (ReadFault file) = 6
code_of (WriteFault written) = 7
code_of Want = 8
code_of (Limit fault) = 9

-- what there may be too many of
abbrev pub counted_text : Counted → List ℕ
counted_text counted.Sections = codes "Sections"
counted_text counted.Symbols = codes "Symbols"
counted_text counted.Functions = codes "Functions"

-- why a file is no image: the name, then each field's name and value
abbrev pub image_text : ImageRefusal → List ℕ
image_text (image.Short need have) = codes "Short need " ++ (decimal need ++ (codes " have " ++ decimal have))
image_text image.Magic = codes "Magic"
image_text (image.Class got) = codes "Class got " ++ decimal got
image_text (image.Order got) = codes "Order got " ++ decimal got
image_text (image.Kind got) = codes "Kind got " ++ decimal got
image_text (image.Machine got) = codes "Machine got " ++ decimal got
image_text (image.HeaderSize got) = codes "HeaderSize got " ++ decimal got
image_text (image.SectionOutside n) = codes "SectionOutside n " ++ decimal n
image_text (image.SectionOverlap a b) = codes "SectionOverlap a " ++ (decimal a ++ (codes " b " ++ decimal b))
image_text (image.Alignment n) = codes "Alignment n " ++ decimal n
image_text (image.SymbolTable n) = codes "SymbolTable n " ++ decimal n
image_text (image.Limit what count) = codes "Limit what " ++ (counted_text what ++ (codes " count " ++ decimal count))
image_text (image.Compressed n) = codes "Compressed n " ++ decimal n
image_text image.Want = codes "Want"

-- what is wrong with a line
abbrev pub why_text : Why → List ℕ
why_text why.Header = codes "Header"
why_text why.Class = codes "Class"
why_text why.Number = codes "Number"
why_text why.Extra = codes "Extra"

-- why a text is no table of cycles
abbrev pub cycles_text : CycleRefusal → List ℕ
cycles_text (cycles.Line n why) = codes "Line n " ++ (decimal n ++ (codes " why " ++ why_text why))
cycles_text (cycles.Twice class n) = codes "Twice class " ++ (name_of class ++ (codes " n " ++ decimal n))
cycles_text (cycles.Zero class n) = codes "Zero class " ++ (name_of class ++ (codes " n " ++ decimal n))
cycles_text (cycles.Missing class) = codes "Missing class " ++ name_of class
cycles_text cycles.Want = codes "Want"

-- what was expected in a line
abbrev pub expected_text : Expected → List ℕ
expected_text expected.Keyword = codes "Keyword"
expected_text expected.Place = codes "Place"
expected_text expected.Register = codes "Register"
expected_text expected.Range = codes "Range"
expected_text expected.To = codes "To"
expected_text expected.Repeats = codes "Repeats"
expected_text expected.Time = codes "Time"
expected_text expected.Count = codes "Count"
expected_text expected.End = codes "End"

-- why a text is no list of assertions
abbrev pub parse_text : AssertRefusal → List ℕ
parse_text (parse.Line n column what) = codes "Line n " ++ (decimal n ++ (codes " column " ++ (decimal column ++ (codes " expected " ++ expected_text what))))
parse_text (parse.Limit count) = codes "Limit count " ++ decimal count
parse_text parse.Want = codes "Want"

-- an address as eight hexadecimal digits
unfoldable pub address_text : ℕ → List ℕ
address_text address = hex8_of address

-- why assertions can't be bound to an image
abbrev pub bind_text : BindRefusal → List ℕ
bind_text (bind.NoName line) = codes "NoName line " ++ decimal line
bind_text (bind.NotCode line addr) = codes "NotCode line " ++ (decimal line ++ (codes " addr " ++ address_text addr))
bind_text (bind.EmptyRange line) = codes "EmptyRange line " ++ decimal line
bind_text (bind.Conflict line other) = codes "Conflict line " ++ (decimal line ++ (codes " other " ++ decimal other))
bind_text bind.Want = codes "Want"

abbrev pub assertions_text : AssertFault → List ℕ
assertions_text (Parse refusal) = parse_text refusal
assertions_text (Bind refusal) = bind_text refusal
assertions_text (Unmatched line) = codes "Unmatched line " ++ decimal line

-- the message, without an end of line
abbrev pub message_of : Status → List ℕ
message_of Bounded = codes "boundt: 0 Bounded"
message_of Unbounded = codes "boundt: 1 Unbounded"
message_of Usage = codes "boundt: 2 Usage"
message_of (Image refusal) = codes "boundt: 3 " ++ image_text refusal
message_of (Cycles refusal) = codes "boundt: 4 " ++ cycles_text refusal
message_of (Assertions fault) = codes "boundt: 5 " ++ assertions_text fault
message_of (ReadFault file) = codes "boundt: 6 ReadFault file " ++ decimal file
message_of (WriteFault written) = codes "boundt: 7 WriteFault written " ++ decimal written
message_of Want = codes "boundt: 8 Want"
message_of (Limit (TooLong file limit)) = codes "boundt: 9 TooLong file " ++ (decimal file ++ (codes " limit " ++ decimal limit))
message_of (Limit (Nodes count)) = codes "boundt: 9 Nodes count " ++ decimal count
message_of (Limit (Contexts count)) = codes "boundt: 9 Contexts count " ++ decimal count
