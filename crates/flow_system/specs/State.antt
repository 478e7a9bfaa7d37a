-- States of a system, and what is due. A state is a function that gives the fact at each key, if there is one.
use Rattle.std.specs.Prelude.{◌≡◌, ℕ, ◌<◌, Bool, true, List, Option, Some, IsTrue, IsSome, Contains}
use Rattle.flow_system.specs.Rules.{Rules}

module _ {K V : Type 0} where
  -- each fact fits its key
  abbrev pub AllFit : Rules K V → (K → Option V) → Type 0
  AllFit m s = (k : K) (v : V) → s k ≡ Some v → IsTrue (m.fits k v)

  -- the state has the piece's key, with a fact that is at least the piece's
  pub record ContainsPiece (m : Rules K V) (s : K → Option V) (k : K) (v : V) : Type 0 where
    pub fact : V
    pub found : s k ≡ Some fact
    pub above : IsTrue (m.at_most v fact)

  -- the state contains each piece of the list
  abbrev pub ContainsAll : Rules K V → (K → Option V) → List (K × V) → Type 0
  ContainsAll m s pieces = (k : K) (v : V) → Contains pieces (k, v) → ContainsPiece m s k v

  -- the second state contains each piece of the first
  abbrev pub IsBelow : Rules K V → (K → Option V) → (K → Option V) → Type 0
  IsBelow m s t = (k : K) (v : V) → s k ≡ Some v → ContainsPiece m t k v

  -- the list has a piece at this key whose fact is at least this one
  pub record HasPieceAbove (m : Rules K V) (pieces : List (K × V)) (k : K) (v : V) : Type 0 where
    pub fact : V
    pub listed : Contains pieces (k, fact)
    pub above : IsTrue (m.at_most v fact)

  -- for each piece of the first list the second has one of its key that is at least as great
  abbrev pub IsCovered : Rules K V → List (K × V) → List (K × V) → Type 0
  IsCovered m pieces others = (k : K) (v : V) → Contains pieces (k, v) → HasPieceAbove m others k v

  -- the state contains the start pieces, and what each of its keys gives over it
  pub record IsClosed (m : Rules K V) (s : K → Option V) : Type 0 where
    pub fit : AllFit m s
    pub starts : ContainsAll m s m.starts
    pub given : (k : K) → IsSome (s k) → ContainsAll m s (m.gives k s)

  -- every closed state contains the piece
  abbrev pub IsDue : Rules K V → K → V → Type 0
  IsDue m k v = (s : K → Option V) → IsClosed m s → ContainsPiece m s k v

  -- each piece of the list is due
  abbrev pub AllDue : Rules K V → List (K × V) → Type 0
  AllDue m pieces = (k : K) (v : V) → Contains pieces (k, v) → IsDue m k v

  -- each fact of the state is due
  abbrev pub HoldsDue : Rules K V → (K → Option V) → Type 0
  HoldsDue m s = (k : K) (v : V) → s k ≡ Some v → IsDue m k v

  -- the closed state that every closed state contains
  pub record IsDueGraph (m : Rules K V) (s : K → Option V) : Type 0 where
    pub closed : IsClosed m s
    pub least : HoldsDue m s
