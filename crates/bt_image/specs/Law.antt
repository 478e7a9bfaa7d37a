-- What stands at the addresses of an image, as laws.
use Rattle.std.specs.Prelude.{◌≡◌, ℕ, ◌+◌, ◌%◌, ◌^◌, ◌<◌, ◌≤◌, Bool, true, List, [], ◌∷◌, length, Some, None, slice_index}
use Rattle.byteorder.specs.Endian.{big_number}
use Rattle.bt_image.specs.Image.{held, is_code, word}
use Rattle.bt_image.specs.Refusal.{first_refusal}
use Rattle.bt_image.specs.Section.{is_read_only_section, test_of}
use Rattle.bt_image.specs.declared.section.Access.{Access}
use Rattle.bt_image.specs.declared.section.Section.{Section}

-- the n bytes from an address on are those that stand at the addresses one by one, in sections that pass a test
pub record AreBytesAt (test : Section → Bool) (image : List ℕ) (a n : ℕ) (bytes : List ℕ) : Type 0 where
  pub long : length bytes ≡ n
  pub each : (k : ℕ) → k < n → held test image (a + k) 1 ≡ Some (slice_index bytes k ∷ [])

-- bytes of two sections don't mix: what stands from an address on stands so byte by byte
abbrev pub BytesDoNotMix : Type 0
BytesDoNotMix =
    (access : Access) (image : List ℕ) (a n : ℕ) (bytes : List ℕ) → first_refusal image ≡ None
    → held (test_of access) image a n ≡ Some bytes → AreBytesAt (test_of access) image a n bytes

-- a word that can be read: its address is aligned, and it is the big-endian number of four read-only bytes
pub record IsOfReadOnlyBytes (image : List ℕ) (a w : ℕ) : Type 0 where
  pub aligned : a % 4 ≡ 0
  pub bytes : List ℕ
  pub stand : AreBytesAt is_read_only_section image a 4 bytes
  pub number : w ≡ big_number 4 bytes

-- each word that can be read is the big-endian number of four read-only bytes
abbrev pub WordsAreReadOnly : Type 0
WordsAreReadOnly =
    (image : List ℕ) (a w : ℕ) → first_refusal image ≡ None → word image a ≡ Some w → IsOfReadOnlyBytes image a w

-- code is read-only: each word of code can be read
abbrev pub CodeIsReadOnly : Type 0
CodeIsReadOnly = (image : List ℕ) (a : ℕ) → is_code image a ≡ true → (w : ℕ) × (word image a ≡ Some w)

-- code is in memory: the four bytes of each word of code end at 2^32 at most
abbrev pub CodeIsInMemory : Type 0
CodeIsInMemory = (image : List ℕ) (a : ℕ) → first_refusal image ≡ None → is_code image a ≡ true → a + 4 ≤ 2 ^ 32
