-- The extents of functions, and the next code address.
use Rattle.std.specs.Prelude.{◌≡◌, ℕ, ◌+◌, ◌-◌, ◌<◌, ◌≤◌, ◌⊎◌, List, length, Contains, slice_index_or, Some}
use Rattle.bt_image.specs.Image.{holder}
use Rattle.bt_image.specs.Section.{is_code_section}
use Rattle.bt_image.specs.Symbol.{functions}
use Rattle.bt_image.specs.declared.section.Section.{Section}

-- a code address lies from low to below high: from the greatest function at or below it in its section, else the
-- section's start, to the next function above it in that section, else the section's end
pub record IsExtent (image : List ℕ) (a low high : ℕ) : Type 0 where
  pub section : Section
  pub code : holder is_code_section image a 4 ≡ Some section
  pub inside : (section.address ≤ low) × (high ≤ section.address + section.size)
  pub around : (low ≤ a) × (a < high)
  pub starts : (low ≡ section.address) ⊎ Contains (functions image) low
  pub ends : (high ≡ section.address + section.size) ⊎ Contains (functions image) high
  pub none : (f : ℕ) → Contains (functions image) f → (f ≤ low) ⊎ (high ≤ f)

-- numbers that rise
abbrev pub Rise : List ℕ → Type 0
Rise xs = (i j : ℕ) → i < j → j < length xs → slice_index_or xs i 0 < slice_index_or xs j 0

-- the last number before a place where it is at least low, else low
pub record IsStart (xs : List ℕ) (place low x : ℕ) : Type 0 where
  pub above : low ≤ x
  pub one : (x ≡ low) ⊎ ((k : ℕ) × (k < place) × (slice_index_or xs k 0 ≡ x))
  pub last : 0 < place → slice_index_or xs (place - 1) 0 ≤ x

-- the number at a place where it is below high, else high
pub record IsEnd (xs : List ℕ) (place high x : ℕ) : Type 0 where
  pub below : x ≤ high
  pub one : (x ≡ high) ⊎ ((place < length xs) × (slice_index_or xs place 0 ≡ x))
  pub next : place < length xs → x ≤ slice_index_or xs place 0
