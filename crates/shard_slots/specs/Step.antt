-- The kinds of step on a table of parts. Each says what it finds, and the whole table after it.
use Rattle.std.specs.Prelude.{◌≡◌, ◌≢◌, ℕ, ◌+◌, ◌-◌, ◌<◌, ◌≤◌, List, [], ◌∷◌, ◌++◌, map, length, replicate, slice_index, slice_set, Some}
use mathlib.Core.Option.{some, none}
use lib.ListN.{get_elem?}
use Rattle.shard_slots.specs.Hold.{Holds, hold, without}
use Rattle.shard_slots.specs.Table.{Table}
use Rattle.shard_slots.specs.declared.hold.Hold.{Hold}

-- the opening: all parts are home, and the first seat has all the weight
abbrev pub IsOpening : {T : Type 0} → List T → Table T → Type 0
IsOpening parts t = t ≡ record { words = replicate (length parts) 1; homes = map some (map Some parts); views = hold 128 [] ∷ [] }

module _ {T : Type 0} (id : ℕ) where
  -- a seat that weighs at least 2 gives a new one a weight of 1, and nothing else
  pub record IsSplit (t u : Table T) : Type 0 where
    pub seat : Hold
    pub here : get_elem? t.views id ≡ some seat
    pub heavy : 2 ≤ seat.weight
    pub after : u ≡ record { words = t.words; homes = t.homes; views = slice_set t.views id (hold (seat.weight - 1) seat.held) ++ hold 1 [] ∷ [] }

  -- a seat takes the weight of another, which holds nothing and ends
  pub record IsJoin (other : ℕ) (t u : Table T) : Type 0 where
    pub seat : Hold
    pub joined : Hold
    pub here : get_elem? t.views id ≡ some seat
    pub there : get_elem? t.views other ≡ some joined
    pub apart : other ≢ id
    pub bare : joined.held ≡ []
    pub after : u ≡ record {
      words = t.words;
      homes = t.homes;
      views = slice_set (slice_set t.views id (hold (seat.weight + joined.weight) seat.held)) other (hold 0 []);
    }

  -- an exchange that finds a part and leaves its slot empty: the seat then holds the part
  pub record IsTake (n : ℕ) (t u : Table T) : Type 0 where
    pub seat : Hold
    pub here : get_elem? t.views id ≡ some seat
    pub heavy : 1 ≤ seat.weight
    pub part : n < length t.homes
    pub found : slice_index t.words n ≡ 1
    pub after : u ≡ record { words = slice_set t.words n 0; homes = slice_set t.homes n none; views = slice_set t.views id (hold seat.weight (n ∷ seat.held)) }

  -- an exchange that puts a part into the empty slot of one that the seat holds: it then doesn't hold it
  pub record IsPut (n : ℕ) (part : T) (t u : Table T) : Type 0 where
    pub seat : Hold
    pub here : get_elem? t.views id ≡ some seat
    pub held : Holds seat.held n
    pub within : n < length t.homes
    pub after : u ≡ record {
      words = slice_set t.words n 1;
      homes = slice_set t.homes n (some (Some part));
      views = slice_set t.views id (hold seat.weight (without n seat.held));
    }

  -- the closing: the last seat has all the weight and holds nothing
  pub record IsClosing (t : Table T) : Type 0 where
    pub here : get_elem? t.views id ≡ some (hold 128 [])

-- an exchange that finds a slot empty and leaves it so: nothing changes
pub record IsMiss {T : Type 0} (n : ℕ) (t u : Table T) : Type 0 where
  pub part : n < length t.homes
  pub found : slice_index t.words n ≡ 0
  pub after : u ≡ t

-- a load, after which its seat reaches another of the slots that it has taken: nothing changes
abbrev pub IsLoad : {T : Type 0} → Table T → Table T → Type 0
IsLoad t u = u ≡ t
