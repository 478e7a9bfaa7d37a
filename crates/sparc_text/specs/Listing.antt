-- The listing of an executable: a line for each word of its code.
use Rattle.std.specs.Prelude.{◌≡◌, ℕ, true, List, [], ◌++◌, All, Contains, Option, Some, None, codes}
use Rattle.std.specs.List.{flat_map}
use Rattle.std.specs.List.Sorted.{IsStrictlyIncreasing}
use Rattle.bt_image.specs.Image.{word, is_code}
use Rattle.sparc_decode.specs.Instr.{instruction_of}
use Rattle.sparc_text.specs.Names.{hex8_text}
use Rattle.sparc_text.specs.Text.{text_of}

-- the line of a word at an address, without its end: the address, the word, and the text of its instruction
unfoldable pub line_of : ℕ → ℕ → List ℕ
line_of at word = hex8_text at ++ (codes " " ++ (hex8_text word ++ (codes " " ++ text_of at word (instruction_of word))))

-- the whole line at an address of an image; each word of code is one of the image, and an address without a word
-- has none
abbrev pub line_with : ℕ → Option ℕ → List ℕ
line_with at (Some word) = line_of at word ++ codes "\n"
line_with at None = []

unfoldable pub line_at : List ℕ → ℕ → List ℕ
line_at image at = line_with at (word image at)

-- these are exactly the code addresses of an image, rising
pub record AreCodeAddresses (image addresses : List ℕ) : Type 0 where
  pub rise : IsStrictlyIncreasing addresses
  pub each : All (λ a. is_code image a ≡ true) addresses
  pub all : (a : ℕ) → is_code image a ≡ true → Contains addresses a

-- the text has exactly the lines at the code addresses of an image, in the order of the addresses
pub record IsListing (image text : List ℕ) : Type 0 where
  pub addresses : List ℕ
  pub code : AreCodeAddresses image addresses
  pub lines : text ≡ flat_map (λ a. line_at image a) addresses
