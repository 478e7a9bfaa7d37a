-- Addresses that an image holds in its words: the labels, which stand in words that no run writes, and the
-- functions whose entries stand in words.
use Rattle.std.specs.Prelude.{◌≡◌, ℕ, ◌<◌, ◌≤◌, Bool, true, List, All, Contains, Some}
use Rattle.bt_image.specs.Extent.{Rise}
use Rattle.bt_image.specs.Image.{is_code, loaded_word, word_of}
use Rattle.bt_image.specs.Section.{is_read_only_section}
use Rattle.bt_image.specs.Symbol.{functions}
use Rattle.bt_image.specs.declared.section.Section.{Section}

-- a code address that stands in an aligned word, whose four bytes are in one section that passes a test
pub record IsCodeIn (test : Section → Bool) (image : List ℕ) (a : ℕ) : Type 0 where
  pub code : is_code image a ≡ true
  pub place : ℕ
  pub word : word_of test image place ≡ Some a

-- a label: a code address that stands in an aligned word of a read-only section
abbrev pub IsLabel : List ℕ → ℕ → Type 0
IsLabel image a = IsCodeIn is_read_only_section image a

-- a label from low to below high
pub record IsLabelWithin (image : List ℕ) (low high a : ℕ) : Type 0 where
  pub label : IsLabel image a
  pub above : low ≤ a
  pub below : a < high

-- a function whose entry stands in an aligned word of a loaded section, writable or not
pub record IsTaken (image : List ℕ) (a : ℕ) : Type 0 where
  pub function : Contains (functions image) a
  pub place : ℕ
  pub word : loaded_word image place ≡ Some a

-- numbers that rise, and are exactly those that have a property
pub record AreExactly (P : ℕ → Type 0) (xs : List ℕ) : Type 0 where
  pub rise : Rise xs
  pub each : All P xs
  pub all : (a : ℕ) → P a → Contains xs a
