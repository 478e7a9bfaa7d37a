-- What a step on a table of parts tells its seat: what it was before, the word that was found, and what it is after.
use Rattle.std.specs.Prelude.{◌≡◌, ◌≢◌, ℕ, ◌<◌, ◌∷◌, Option, Some}
use Rattle.atomic_table.specs.Table.{Me, rest}
use Rattle.shard_slots.specs.Hold.{times, hold, without}
use Rattle.shard_slots.specs.Seat.{numbers}
use Rattle.shard_slots.specs.declared.hold.Hold.{Hold}

module _ {T : Type 0} where
  -- the seat holds the part n behind an exchange that found it
  pub record Found (n : ℕ) (before after : Me (Option T) Hold) : Type 0 where
    pub part : T
    pub seat : after ≡ (hold before.0.weight (n ∷ before.0.held), (n, Some part) ∷ before.1)

  -- the seat is as before behind an exchange that found no part, and doesn't have all the weight
  pub record Missed (before after : Me (Option T) Hold) : Type 0 where
    pub seat : after ≡ before
    pub light : before.0.weight < 128

  abbrev pub Took : ℕ → Me (Option T) Hold → ℕ → Me (Option T) Hold → Type 0
  Took n before found after = (found ≡ 1 → Found n before after) × (found ≢ 1 → Missed before after)

  -- the slot of the part n is the one that the seat took last, and the seat has taken the same slots as before
  pub record Reaches (n : ℕ) (before after : Me (Option T) Hold) : Type 0 where
    pub view : after.0 ≡ before.0
    pub value : Option T
    pub last : after.1 ≡ (n, value) ∷ rest after.1
    pub slots : (k : ℕ) → times k (numbers after.1) ≡ times k (numbers before.1)

  -- the seat has given back the slot that it took last, and holds the part n once less
  abbrev pub Put : ℕ → Me (Option T) Hold → Me (Option T) Hold → Type 0
  Put n before after = after ≡ (hold before.0.weight (without n before.0.held), rest before.1)
