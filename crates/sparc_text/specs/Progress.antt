-- How far a listing has come.
use Rattle.std.specs.Prelude.{◌≡◌, ℕ, ◌-◌, ◌^◌, ◌<◌, true, List, All, Contains, Option, Some, None, MatchOption}
use Rattle.std.specs.List.{flat_map}
use Rattle.std.specs.List.Sorted.{IsStrictlyIncreasing}
use Rattle.bt_image.specs.Image.{is_code, IsNextCode, HasNoCodeFrom}
use Rattle.sparc_text.specs.Listing.{line_at}

-- these are exactly the code addresses below one, rising
pub record AreCodeBelow (image : List ℕ) (bound : ℕ) (addresses : List ℕ) : Type 0 where
  pub rise : IsStrictlyIncreasing addresses
  pub each : All (λ a. (a < bound) × (is_code image a ≡ true)) addresses
  pub all : (a : ℕ) → a < bound → is_code image a ≡ true → Contains addresses a

-- the text has the lines below some address, and the next one is the least code address from there on
pub record IsListedUpTo (image text : List ℕ) (next : Option ℕ) : Type 0 where
  pub from : ℕ
  pub addresses : List ℕ
  pub below : AreCodeBelow image from addresses
  pub lines : text ≡ flat_map (λ a. line_at image a) addresses
  pub follows : MatchOption next (HasNoCodeFrom image from) (IsNextCode image from)

-- how many addresses are left from the next one on
abbrev pub remaining : Option ℕ → ℕ
remaining None = 0
remaining (Some at) = 2 ^ 32 - at
