-- What an image keeps of a file that passed the checks.
use Rattle.std.specs.Prelude.{◌≡◌, ℕ, ◌<◌, List, length, All, Option, None, IfSome}
use Rattle.std.specs.BTreeMap.{BTreeMap}
use Rattle.bt_image.specs.Entry.{AreEntries, AreInOrder}
use Rattle.bt_image.specs.Extent.{Rise}
use Rattle.bt_image.specs.File.{section_count}
use Rattle.bt_image.specs.Label.{AreExactly, IsLabel, IsTaken}
use Rattle.bt_image.specs.Loaded.{AreLoaded}
use Rattle.bt_image.specs.Names.{AreNames}
use Rattle.bt_image.specs.NextCode.{IsCodeTable}
use Rattle.bt_image.specs.Refusal.{HasHeaders, first_refusal, sections_refusal, symbols_refusal}
use Rattle.bt_image.specs.Section.{symbol_table}
use Rattle.bt_image.specs.Symbol.{functions, symbol_count, symbol_strings}
use Rattle.bt_image.specs.declared.entry.Entry.{Entry}
use Rattle.bt_image.specs.declared.names.Name.{Name}
use Rattle.bt_image.specs.declared.section.Section.{Section}

-- a file whose headers and sections passed the checks, and the number of its symbol table
pub record IsChecked (file : List ℕ) (number : Option ℕ) : Type 0 where
  pub headers : HasHeaders file
  pub sections : sections_refusal file ≡ None
  pub table : number ≡ symbol_table file
  pub within : IfSome number (λ n. n < section_count file)

-- a file that was accepted: it has no refusal, and its bytes are below 256
pub record IsAccepted (file : List ℕ) : Type 0 where
  pub unrefused : first_refusal file ≡ None
  pub bytes : All (λ byte. byte < 256) file

-- a file that passed all checks, and its tables
pub record IsImage (file : List ℕ) (number : Option ℕ) (loaded code : List Section) (addresses : List ℕ) (names : BTreeMap ℕ Name)
    (entries : List Entry) (labels taken : List ℕ) : Type 0 where
  pub accepted : IsAccepted file
  pub checked : IsChecked file number
  pub symbols : symbols_refusal file ≡ None
  pub memory : AreLoaded file (section_count file) loaded
  pub instructions : IsCodeTable loaded (length loaded) code
  pub starts : addresses ≡ functions file
  pub rise : Rise addresses
  pub naming : AreNames file (symbol_strings file) (symbol_count file) names
  pub symbols_of_names : AreEntries file (symbol_count file) entries
  pub order : AreInOrder (symbol_strings file) entries
  pub targets : AreExactly (IsLabel file) labels
  pub pointers : AreExactly (IsTaken file) taken
