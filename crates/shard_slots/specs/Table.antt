-- A table of parts: a word and a slot for each part, and what each seat holds. The word of a part is 1 where the
-- part is in its slot, and 0 where a seat holds it. And the rule that each step keeps.
use Rattle.std.specs.Prelude.{◌≡◌, ℕ, ◌<◌, List, [], length, slice_index, sum_by, ◌⊎◌, Option, Some}
use mathlib.Core.Option.{some, none}
use lib.ListN.{get_elem?}
use Rattle.atomic_table.specs.Table.{State}
use Rattle.shard_slots.specs.Hold.{times}
use Rattle.shard_slots.specs.declared.hold.Hold.{Hold}

-- parts are of a type T; a slot that no seat has taken has a value, and each view is what a seat holds
abbrev pub Table : Type 0 → Type 0
Table T = State (Option T) Hold

-- how often a part is held, by all seats together
abbrev pub holders : ℕ → List Hold → ℕ
holders n seats = sum_by (λ seat. times n seat.held) seats

-- what all seats weigh
abbrev pub weight_of : List Hold → ℕ
weight_of seats = sum_by (λ seat. seat.weight) seats

module _ {T : Type 0} (t : Table T) (n : ℕ) where
  -- a part is home: it is in its slot, and no seat holds it
  pub record IsHome : Type 0 where
    pub word : slice_index t.words n ≡ 1
    pub part : T
    pub slot : get_elem? t.homes n ≡ some (some (Some part))
    pub unheld : holders n t.views ≡ 0

  -- a part is out: its slot is taken, and one seat holds it, once
  pub record IsOut : Type 0 where
    pub word : slice_index t.words n ≡ 0
    pub slot : get_elem? t.homes n ≡ some none
    pub held_once : holders n t.views ≡ 1

-- the rule: each part is home or out with one seat, the seats weigh 128, and one that weighs nothing holds nothing
pub record IsKept {T : Type 0} (t : Table T) : Type 0 where
  pub words : length t.words ≡ length t.homes
  pub parts : (n : ℕ) → n < length t.homes → IsHome t n ⊎ IsOut t n
  pub weights : weight_of t.views ≡ 128
  pub light : (id : ℕ) (seat : Hold) → get_elem? t.views id ≡ some seat → seat.weight ≡ 0 → seat.held ≡ []
