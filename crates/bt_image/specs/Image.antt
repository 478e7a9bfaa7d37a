-- What an image holds at its addresses, and its functions. An image is seen as the bytes of the file that it was
-- read from; its sections and symbols are read off them.
use Rattle.std.specs.Prelude.{◌==◌, ◌≡◌, ℕ, ◌+◌, ◌-◌, ◌%◌, ◌<◌, ◌≤◌, Bool, true, false, ◌&&◌, List, take, drop, Option, Some, None, is_some, if◌then◌else◌}
use Rattle.std.specs.Option.{option_map}
use Rattle.bt_image.specs.File.{word_field, section_count}
use Rattle.bt_image.specs.Least.{first_of}
use Rattle.bt_image.specs.Section.{section_at, is_loaded, is_code_section, is_read_only_section, holds}
use Rattle.bt_image.specs.declared.section.Section.{Section}

-- the section where it passes a test and the n bytes from a on stand in it
abbrev pub holding : (Section → Bool) → ℕ → ℕ → Section → Option Section
holding test a n s = if test s && holds s a n then Some s else None

-- the section that passes a test and in which the n bytes from a on stand
unfoldable pub holder : (Section → Bool) → List ℕ → ℕ → ℕ → Option Section
holder test file a n = first_of (λ k. holding test a n (section_at file k)) (section_count file)

-- the place in the file of the byte at address a of a section
abbrev pub place_in : Section → ℕ → ℕ
place_in s a = s.offset + (a - s.address)

-- the n bytes from address a on, where they stand in one section that passes a test
unfoldable pub held : (Section → Bool) → List ℕ → ℕ → ℕ → Option (List ℕ)
held test image a n = option_map (λ s. take n (drop (place_in s a) image)) (holder test image a n)

-- the word at a multiple of 4 whose four bytes stand in one section that passes a test
abbrev pub word_of : (Section → Bool) → List ℕ → ℕ → Option ℕ
word_of test image a = if a % 4 == 0 then option_map (λ bytes. word_field bytes 0) (held test image a 4) else None

-- the word at a multiple of 4 whose four bytes stand in one read-only section
abbrev pub word : List ℕ → ℕ → Option ℕ
word image a = word_of is_read_only_section image a

-- the word at a multiple of 4 whose four bytes stand in one loaded section, writable or not
abbrev pub loaded_word : List ℕ → ℕ → Option ℕ
loaded_word image a = word_of is_loaded image a

-- the n bytes from address a on, where they stand in one loaded section, writable or not
abbrev pub bytes : List ℕ → ℕ → ℕ → Option (List ℕ)
bytes image a n = held is_loaded image a n

-- the n bytes from address a on, where they stand in one read-only section
abbrev pub read_only_bytes : List ℕ → ℕ → ℕ → Option (List ℕ)
read_only_bytes image a n = held is_read_only_section image a n

-- the byte at the address stands in a read-only section
abbrev pub is_readonly : List ℕ → ℕ → Bool
is_readonly image a = is_some (held is_read_only_section image a 1)

-- a whole aligned word of a code section stands at the address
abbrev pub is_code : List ℕ → ℕ → Bool
is_code image a = (a % 4 == 0) && is_some (held is_code_section image a 4)

-- the least code address at or above a
pub record IsNextCode (image : List ℕ) (a x : ℕ) : Type 0 where
  pub above : a ≤ x
  pub code : is_code image x ≡ true
  pub least : (y : ℕ) → a ≤ y → y < x → is_code image y ≡ false

-- no code address is at or above a
abbrev pub HasNoCodeFrom : List ℕ → ℕ → Type 0
HasNoCodeFrom image a = (y : ℕ) → a ≤ y → is_code image y ≡ false
