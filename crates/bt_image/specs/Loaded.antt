-- Tables of the loaded sections, as they lie in memory.
use Rattle.std.specs.Prelude.{◌≡◌, ℕ, ◌+◌, ◌-◌, ◌%◌, ◌^◌, ◌<◌, ◌≤◌, true, false, List, length, All, Contains, slice_index_or, Option, MatchOption}
use Rattle.bt_image.specs.Section.{section_at, is_loaded, is_code_section, holds, share}
use Rattle.bt_image.specs.declared.section.Section.{Section}

-- each section ends before the ones behind it begin
abbrev pub AreApart : List Section → Type 0
AreApart items =
    (i j : ℕ) (d : Section) → i < j → j < length items
    → (slice_index_or items i d).address + (slice_index_or items i d).size ≤ (slice_index_or items j d).address

-- a loaded section among the first n of the file, within the file and memory, and aligned where it is code
pub record IsWhole (file : List ℕ) (n : ℕ) (s : Section) : Type 0 where
  pub number : ℕ
  pub below : number < n
  pub is : section_at file number ≡ s
  pub loaded : is_loaded s ≡ true
  pub inside : s.offset + s.size ≤ length file
  pub fits : s.address + s.size ≤ 2 ^ 32
  pub aligned : is_code_section s ≡ true → s.address % 4 ≡ 0

-- the table has the loaded sections among the first n of the file, in the order of their addresses
pub record AreLoaded (file : List ℕ) (n : ℕ) (items : List Section) : Type 0 where
  pub apart : AreApart items
  pub whole : All (IsWhole file n) items
  pub all : (k : ℕ) → k < n → is_loaded (section_at file k) ≡ true → Contains items (section_at file k)

-- the section of the table in which the n bytes from a on stand, where there is one
abbrev pub IsHolder : List Section → ℕ → ℕ → Option Section → Type 0
IsHolder items a n found = MatchOption found (All (λ s. holds s a n ≡ false) items) (λ s. Contains items s × (holds s a n ≡ true))

-- a section of the table shares an address with this one
abbrev pub SharesWith : List Section → Section → Type 0
SharesWith items s = (t : Section) × Contains items t × (share t s ≡ true)

-- the sections before a place of the table end at or below an address
abbrev pub EndBelow : List Section → ℕ → ℕ → Type 0
EndBelow items place a = (k : ℕ) (d : Section) → k < place → (slice_index_or items k d).address + (slice_index_or items k d).size ≤ a

-- the last section before a place of the table ends above an address
abbrev pub LastEndsAbove : List Section → ℕ → ℕ → Type 0
LastEndsAbove items place a =
    (0 < place) × ((d : Section) → a < (slice_index_or items (place - 1) d).address + (slice_index_or items (place - 1) d).size)

-- the sections from a place of the table on begin at or above an address
abbrev pub BeginAbove : List Section → ℕ → ℕ → Type 0
BeginAbove items place a = (k : ℕ) (d : Section) → place ≤ k → k < length items → a ≤ (slice_index_or items k d).address

-- the section at a place of the table begins below an address
abbrev pub NextBeginsBelow : List Section → ℕ → ℕ → Type 0
NextBeginsBelow items place a = (place < length items) × ((d : Section) → (slice_index_or items place d).address < a)

-- the sections before this place of the table end before this one begins, and those from it on begin behind its end
pub record IsPlaceFor (items : List Section) (s : Section) (place : ℕ) : Type 0 where
  pub within : place ≤ length items
  pub before : EndBelow items place s.address
  pub behind : BeginAbove items place (s.address + s.size)
