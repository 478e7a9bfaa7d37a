-- What each status of the command `decode` says of a call; its one file is the image.
use Rattle.std.specs.Prelude.{◌≡◌, ℕ, ◌≤◌, ◌⊎◌, List, length, Option, Some, None, nat_lt, if◌then◌else◌}
use Rattle.bt_image.specs.Refusal.{first_refusal}
use Rattle.bt_image.specs.declared.refusal.ImageRefusal.{ImageRefusal}
use Rattle.sparc_text.specs.Listing.{IsListing}
use Rattle.bt_command.specs.Call.{Call, longest_image, RoseFor, RoseForSink, IsTooLong, HasImage, IsNoImage, IsWritten, IsCutShort}
use Rattle.bt_command.specs.declared.status.LimitFault.TheVariants.{TooLong}
use Rattle.bt_command.specs.declared.status.Status.{Status}
use Rattle.bt_command.specs.declared.status.Status.TheVariants.{Bounded, Image, ReadFault, WriteFault, Want, Limit}

-- the text of the command: the listing of the image that the file is
pub record IsListingOf (told : Option (List ℕ)) (text : List ℕ) : Type 0 where
  pub image : List ℕ
  pub has_image : HasImage told image
  pub listing : IsListing image text

-- the table of statuses
abbrev pub DecodeSays : List ℕ → Call → Status → Type 0
DecodeSays image call Bounded = IsWritten call (IsListingOf (call.read.told image))
DecodeSays image call (Image refusal) = IsNoImage (call.read.told image) refusal
DecodeSays image call (ReadFault file) = (file ≡ 1) × RoseFor call.read image
DecodeSays image call (WriteFault written) = IsCutShort call (IsListingOf (call.read.told image)) written
DecodeSays image call Want = Unit {0}
DecodeSays image call (Limit (TooLong file limit)) = (file ≡ 1) × ((limit ≡ longest_image) × IsTooLong (call.read.told image) limit)
DecodeSays image call status = ⊥

-- where the file is accepted and no fault rises, the whole listing is written, but for want of memory
abbrev pub DecodeIsWhole : List ℕ → Call → Status → Type 0
DecodeIsWhole image call status =
    (bytes : List ℕ) → call.read.told image ≡ Some bytes → length bytes ≤ longest_image → first_refusal bytes ≡ None
    → (RoseFor call.read image → ⊥) → (RoseForSink call → ⊥) → (status ≡ Bounded) ⊎ (status ≡ Want)

-- what the listing of a file comes to
abbrev pub listing_checked : Option ImageRefusal → Status
listing_checked (Some refusal) = Image refusal
listing_checked None = Bounded

abbrev pub listing_status : List ℕ → Status
listing_status bytes =
    if nat_lt longest_image (length bytes) then Limit (TooLong 1 longest_image) else listing_checked (first_refusal bytes)

-- where the file is told and no fault rises, a listing comes to what its bytes do, but for want of memory
abbrev pub DecodeIsExact : List ℕ → Call → Status → Type 0
DecodeIsExact image call status =
    (bytes : List ℕ) → call.read.told image ≡ Some bytes → (RoseFor call.read image → ⊥) → (RoseForSink call → ⊥)
    → (status ≡ Want) ⊎ (status ≡ listing_status bytes)
