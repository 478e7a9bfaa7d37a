-- The code sections with at least one word.
use Rattle.std.specs.Prelude.{◌≡◌, ℕ, ◌+◌, ◌-◌, ◌%◌, ◌^◌, ◌<◌, ◌≤◌, true, List, length, All, Contains, slice_index_or}
use Rattle.bt_image.specs.Loaded.{AreApart}
use Rattle.bt_image.specs.Section.{is_code_section}
use Rattle.bt_image.specs.declared.section.Section.{Section}

-- the table has the code sections with at least one word among the first n of these, in their order
pub record IsCodeTable (loaded : List Section) (n : ℕ) (items : List Section) : Type 0 where
  pub apart : AreApart items
  pub before : (k j : ℕ) (d : Section) → k < length items → n ≤ j → j < length loaded
      → (slice_index_or items k d).address + (slice_index_or items k d).size ≤ (slice_index_or loaded j d).address
  pub each : All (λ s. Contains loaded s × (is_code_section s ≡ true) × (4 ≤ s.size)) items
  pub all : (k : ℕ) (d : Section) → k < n → is_code_section (slice_index_or loaded k d) ≡ true → 4 ≤ (slice_index_or loaded k d).size
      → Contains items (slice_index_or loaded k d)

-- the section begins at a multiple of 4 and has at least one word within memory
abbrev pub HasWord : Section → Type 0
HasWord s = (s.address % 4 ≡ 0) × (4 ≤ s.size) × (s.address + s.size ≤ 2 ^ 32)

-- no whole word of the table stands at an address
abbrev pub HasNone : List Section → ℕ → Type 0
HasNone table y = (k : ℕ) (d : Section) → k < length table → (slice_index_or table k d).address ≤ y
    → y + 4 ≤ (slice_index_or table k d).address + (slice_index_or table k d).size → ⊥

-- the least multiple of 4 at or above a at which a whole word of the table stands
pub record IsNextWord (table : List Section) (a x : ℕ) : Type 0 where
  pub above : a ≤ x
  pub aligned : x % 4 ≡ 0
  pub place : ℕ
  pub within : place < length table
  pub begins : (d : Section) → (slice_index_or table place d).address ≤ x
  pub ends : (d : Section) → x + 4 ≤ (slice_index_or table place d).address + (slice_index_or table place d).size
  pub least : (y : ℕ) → a ≤ y → y < x → y % 4 ≡ 0 → HasNone table y

-- no whole word of the table stands at a multiple of 4 at or above a
abbrev pub HasNoWordFrom : List Section → ℕ → Type 0
HasNoWordFrom table a = (y : ℕ) → a ≤ y → y % 4 ≡ 0 → HasNone table y

-- the last section before a place of the table reaches to an address
abbrev pub LastReaches : List Section → ℕ → ℕ → Type 0
LastReaches table place end =
    (0 < place) × ((d : Section) → end ≤ (slice_index_or table (place - 1) d).address + (slice_index_or table (place - 1) d).size)

-- no section before a place of the table reaches to an address
abbrev pub NoneReaches : List Section → ℕ → ℕ → Type 0
NoneReaches table place end = (k : ℕ) (d : Section) → k < place → (slice_index_or table k d).address + (slice_index_or table k d).size < end
