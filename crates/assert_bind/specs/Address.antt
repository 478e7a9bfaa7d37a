-- The addresses of places in an image.
use Rattle.std.specs.Prelude.{ℕ, ◌+◌, ◌%◌, ◌^◌, List, [], ◌∷◌, Option, Some, None, Result, Ok, Err, if◌then◌else◌}
use Rattle.std.specs.Option.{option_map}
use Rattle.assert_lang.specs.declared.spot.Spot.{Spot}
use Rattle.assert_lang.specs.declared.spot.Spot.TheVariants.{Name, Offset, Addr}
use Rattle.bt_image.specs.Image.{is_code}
use Rattle.bt_image.specs.Symbol.{entry_of}
use Rattle.assert_bind.specs.declared.refusal.BindRefusal.{BindRefusal}
use Rattle.assert_bind.specs.declared.refusal.BindRefusal.TheVariants.{NoName, NotCode}

-- so many bytes behind an address, modulo 2^32
abbrev pub behind : ℕ → ℕ → ℕ
behind offset entry = (entry + offset) % 2 ^ 32

-- the address of a place: the entry of its name, that many bytes behind it, or the one that is written
abbrev pub address_of : List ℕ → Spot → Option ℕ
address_of image (Name name) = entry_of image name
address_of image (Offset name offset) = option_map (behind offset) (entry_of image name)
address_of image (Addr address) = Some address

-- an address in a line, which is to be one of code
abbrev pub code_address : List ℕ → ℕ → Option ℕ → Result ℕ BindRefusal
code_address image line None = Err (NoName line)
code_address image line (Some address) = if is_code image address then Ok address else Err (NotCode line address)

-- the address of a place in a line, or why it has none
abbrev pub bound_place : List ℕ → ℕ → Spot → Result ℕ BindRefusal
bound_place image line spot = code_address image line (address_of image spot)

-- an address in front of others, or the first refusal
abbrev pub in_front : Result ℕ BindRefusal → Result (List ℕ) BindRefusal → Result (List ℕ) BindRefusal
in_front (Err refusal) rest = Err refusal
in_front (Ok address) (Err refusal) = Err refusal
in_front (Ok address) (Ok rest) = Ok (address ∷ rest)

-- the addresses of places in a line, or the first refusal among them
abbrev pub bound_places : List ℕ → ℕ → List Spot → Result (List ℕ) BindRefusal
bound_places image line [] = Ok []
bound_places image line (spot ∷ spots) = in_front (bound_place image line spot) (bound_places image line spots)
