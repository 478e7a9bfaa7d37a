-- The pieces that facts have at some keys.
use Rattle.std.specs.Prelude.{List, [], ◌∷◌, Option, Some, None}
use Rattle.std.specs.List.{flat_map}
use Rattle.std.specs.declared.cmp.Ordering.{Ordering}
use Rattle.flow_system.specs.Facts.{fact_at}

module _ {K V : Type 0} where
  -- the piece at a key whose fact this is, if it has one
  abbrev pub piece_of : K → Option V → List (K × V)
  piece_of k None = []
  piece_of k (Some v) = (k, v) ∷ []

  -- the pieces at these keys, in their order
  abbrev pub pieces_at : (K → K → Ordering) → List (K × V) → List K → List (K × V)
  pieces_at cmp facts keys = flat_map (λ k. piece_of k (fact_at cmp facts k)) keys
