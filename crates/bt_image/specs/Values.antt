-- How the code addresses that stand in words are gathered: each place of the file is looked at once, though
-- several sections may show it.
use Rattle.std.specs.Prelude.{◌≡◌, ℕ, ◌+◌, ◌*◌, ◌%◌, ◌<◌, ◌≤◌, ◌⊎◌, Bool, true, false, List, take, drop, length, Contains, slice_index_or}
use Rattle.bt_image.specs.Extent.{Rise}
use Rattle.bt_image.specs.File.{word_field}
use Rattle.bt_image.specs.Image.{is_code, place_in}
use Rattle.bt_image.specs.Label.{IsCodeIn}
use Rattle.bt_image.specs.declared.section.Section.{Section}

-- the number in the four bytes at a place of the file
abbrev pub value_at : List ℕ → ℕ → ℕ
value_at file at = word_field (take 4 (drop at file)) 0

-- the code addresses at the marked places of the file stand in the list
abbrev pub AreSeen : List ℕ → List Bool → List ℕ → Type 0
AreSeen file marks found =
    (at : ℕ) → at < length marks → slice_index_or marks at false ≡ true → is_code file (value_at file at) ≡ true → Contains found (value_at file at)

-- one more place was looked at
pub record IsNoted (file : List ℕ) (at : ℕ) (marks : List Bool) (old new : List ℕ) : Type 0 where
  pub long : length marks ≡ length file
  pub seen : AreSeen file marks new
  pub keeps : (a : ℕ) → Contains old a → Contains new a
  pub adds : (a : ℕ) → Contains new a → Contains old a ⊎ ((is_code file a ≡ true) × (value_at file at ≡ a))
  pub here : is_code file (value_at file at) ≡ true → Contains new (value_at file at)

-- a number stands in an aligned word of a section
pub record IsWordOf (file : List ℕ) (s : Section) (a : ℕ) : Type 0 where
  pub place : ℕ
  pub aligned : place % 4 ≡ 0
  pub begins : s.address ≤ place
  pub ends : place + 4 ≤ s.address + s.size
  pub value : value_at file (place_in s place) ≡ a

-- the words of a section below address 4 n were looked at
pub record AreNoted (file : List ℕ) (s : Section) (n : ℕ) (marks : List Bool) (old new : List ℕ) : Type 0 where
  pub long : length marks ≡ length file
  pub seen : AreSeen file marks new
  pub keeps : (a : ℕ) → Contains old a → Contains new a
  pub adds : (a : ℕ) → Contains new a → Contains old a ⊎ ((is_code file a ≡ true) × IsWordOf file s a)
  pub all : (k : ℕ) → s.address ≤ 4 * k → k < n → is_code file (value_at file (place_in s (4 * k))) ≡ true
      → Contains new (value_at file (place_in s (4 * k)))

-- the words of the first n of these sections that pass a test were looked at
pub record AreGathered (test : Section → Bool) (file : List ℕ) (loaded : List Section) (n : ℕ) (marks : List Bool) (found : List ℕ) : Type 0 where
  pub long : length marks ≡ length file
  pub seen : AreSeen file marks found
  pub each : (a : ℕ) → Contains found a → IsCodeIn test file a
  pub all : (i : ℕ) (s : Section) → i < n → slice_index_or loaded i s ≡ s → test s ≡ true → (a : ℕ) → is_code file a ≡ true
      → IsWordOf file s a → Contains found a

-- the list has exactly the code addresses that stand in words
pub record AreValues (test : Section → Bool) (file : List ℕ) (found : List ℕ) : Type 0 where
  pub each : (a : ℕ) → Contains found a → IsCodeIn test file a
  pub all : (a : ℕ) → IsCodeIn test file a → Contains found a

-- numbers that rise, of which those from i on of a list are greater, and that are what the first i share with another
pub record AreShared (xs ys : List ℕ) (i : ℕ) (found : List ℕ) : Type 0 where
  pub rise : Rise found
  pub before : (k j : ℕ) → k < length found → i ≤ j → j < length xs → slice_index_or found k 0 < slice_index_or xs j 0
  pub each : (a : ℕ) → Contains found a → Contains xs a × Contains ys a
  pub all : (j : ℕ) → j < i → Contains ys (slice_index_or xs j 0) → Contains found (slice_index_or xs j 0)
