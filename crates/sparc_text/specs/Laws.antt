-- Facts about listings.
use Rattle.std.specs.Prelude.{◌≡◌, ℕ, ◌^◌, ◌<◌, true, List, Some}
use Rattle.bt_image.specs.Image.{word, is_code}
use Rattle.sparc_text.specs.Listing.{line_of, IsListing}

-- a line tells its address and its word
abbrev pub LinesTellWords : Type 0
LinesTellWords =
    (at word other_at other_word : ℕ) → at < 2 ^ 32 → word < 2 ^ 32 → other_at < 2 ^ 32 → other_word < 2 ^ 32
    → line_of at word ≡ line_of other_at other_word → (at ≡ other_at) × (word ≡ other_word)

-- each code address has a word, so that it has a line
abbrev pub CodeHasWords : Type 0
CodeHasWords = (image : List ℕ) (a : ℕ) → is_code image a ≡ true → (w : ℕ) × (word image a ≡ Some w)

-- an image has at most one listing
abbrev pub ListingIsOne : Type 0
ListingIsOne = (image one other : List ℕ) → IsListing image one → IsListing image other → one ≡ other
