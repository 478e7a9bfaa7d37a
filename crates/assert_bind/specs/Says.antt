-- What a statement says of the addresses of its places, and why it may say nothing, without an order of work.
use Rattle.std.specs.Prelude.{◌≡◌, ℕ, ℤ, ◌≤ℤ◌, ◌<ℤ◌, false, List, [], ◌∷◌, ◌++◌, None, Some}
use Rattle.assert_lang.specs.declared.assertion.Body.{Body}
use Rattle.assert_lang.specs.declared.assertion.Body.TheVariants as written
use Rattle.assert_lang.specs.declared.spot.Spot.{Spot}
use Rattle.bt_image.specs.Image.{is_code}
use Rattle.assert_bind.specs.Address.{address_of}
use Rattle.assert_bind.specs.Body.{IsCode}
use Rattle.assert_bind.specs.declared.body.BoundBody.{BoundBody}
use Rattle.assert_bind.specs.declared.body.BoundBody.TheVariants as body
use Rattle.assert_bind.specs.declared.refusal.BindRefusal.{BindRefusal}
use Rattle.assert_bind.specs.declared.refusal.BindRefusal.TheVariants.{NoName, NotCode, EmptyRange}

-- an address is that of a place, and one of code
pub record IsAddressOf (image : List ℕ) (spot : Spot) (address : ℕ) : Type 0 where
  pub is : address_of image spot ≡ Some address
  pub code : IsCode image address

-- addresses are those of places, one for each in their order
pub data AreAddressesOf (image : List ℕ) : List Spot → List ℕ → Type 0 where
  NoPlace : AreAddressesOf image [] []
  OneMore : (spot : Spot) (address : ℕ) (spots : List Spot) (addresses : List ℕ) → IsAddressOf image spot address
      → AreAddressesOf image spots addresses → AreAddressesOf image (spot ∷ spots) (address ∷ addresses)

-- what a statement says of the addresses of its places; the ends of a range are in order
pub data Says (image : List ℕ) : Body → BoundBody → Type 0 where
  SaysRoot : (spot : Spot) (entry : ℕ) → IsAddressOf image spot entry → Says image (written.Root spot) (body.Root entry)
  SaysNever : (spot : Spot) (pc : ℕ) → IsAddressOf image spot pc → Says image (written.Never spot) (body.Never pc)
  SaysAt : (spot : Spot) (pc reg : ℕ) (lo hi : ℤ) → IsAddressOf image spot pc → lo ≤ℤ hi → Says image (written.At spot reg lo hi) (body.At pc reg lo hi)
  SaysJump : (spot : Spot) (pc : ℕ) (spots : List Spot) (to : List ℕ) → IsAddressOf image spot pc → AreAddressesOf image spots to
      → Says image (written.Jump spot spots) (body.Jump pc to)
  SaysCallTo : (spot : Spot) (pc : ℕ) (spots : List Spot) (to : List ℕ) → IsAddressOf image spot pc → AreAddressesOf image spots to
      → Says image (written.CallTo spot spots) (body.CallTo pc to)
  SaysLoop : (spot : Spot) (pc count : ℕ) → IsAddressOf image spot pc → Says image (written.Loop spot count) (body.Loop pc count)
  SaysStub : (spot : Spot) (entry time : ℕ) → IsAddressOf image spot entry → Says image (written.Stub spot time) (body.Stub entry time)

-- a place in a line has no address, or one at which no code stands
pub data IsMisplaced (image : List ℕ) (line : ℕ) : Spot → BindRefusal → Type 0 where
  Nameless : (spot : Spot) → address_of image spot ≡ None → IsMisplaced image line spot (NoName line)
  Codeless : (spot : Spot) (address : ℕ) → address_of image spot ≡ Some address → is_code image address ≡ false
      → IsMisplaced image line spot (NotCode line address)

-- the places of a statement, from left to right
abbrev pub places_of : Body → List Spot
places_of (written.Root spot) = spot ∷ []
places_of (written.Never spot) = spot ∷ []
places_of (written.At spot reg lo hi) = spot ∷ []
places_of (written.Jump spot to) = spot ∷ to
places_of (written.CallTo spot to) = spot ∷ to
places_of (written.Loop spot count) = spot ∷ []
places_of (written.Stub spot time) = spot ∷ []

-- the first of some places that has no address of code
pub record IsFirstMisplaced (image : List ℕ) (line : ℕ) (spots : List Spot) (why : BindRefusal) : Type 0 where
  pub earlier : List Spot
  pub spot : Spot
  pub later : List Spot
  pub addresses : List ℕ
  pub are : spots ≡ earlier ++ spot ∷ later
  pub before : AreAddressesOf image earlier addresses
  pub misplaced : IsMisplaced image line spot why

-- a statement in a line says nothing: one of its places has no address of code, and the first of these is named; or
-- all of them have, and its range is empty
pub data SaysNothing (image : List ℕ) (line : ℕ) : Body → BindRefusal → Type 0 where
  Misplaces : (says : Body) (why : BindRefusal) → IsFirstMisplaced image line (places_of says) why → SaysNothing image line says why
  RangesEmpty : (spot : Spot) (pc reg : ℕ) (lo hi : ℤ) → IsAddressOf image spot pc → hi <ℤ lo
      → SaysNothing image line (written.At spot reg lo hi) (EmptyRange line)
