-- What a contract sees of a seat: of which parts it is, which of them it holds, and its weight.
use Rattle.std.specs.Prelude.{◌≡◌, ℕ, ◌≤◌, ◌<◌, List, map}
use base.Stored.{Coded, coded_via, coded×, coded_ℕ, coded_list}
use Rattle.atomic_table.specs.Table.{Me}
use Rattle.shard_slots.specs.Hold.{times, Holds}
use Rattle.shard_slots.specs.Shards.{ShardsId, shards_coded, count_of}
use Rattle.shard_slots.specs.declared.hold.Hold.{Hold}

pub record Seat : Type 0 where
  pub of : ShardsId
  pub held : List ℕ
  pub weight : ℕ

abbrev pub seat_coded : Coded Seat
seat_coded = coded_via (coded× shards_coded (coded× (coded_list coded_ℕ) coded_ℕ)) (λ (s : Seat). (s.of, (s.held, s.weight)))
    (λ x y e i. record { of = (e i).0; held = (e i).1.0; weight = (e i).1.1 })

-- the numbers of slots that were taken, each with its value
abbrev pub numbers : {S : Type 0} → List (ℕ × S) → List ℕ
numbers taken = map (λ x. x.0) taken

-- the slots that a seat has taken are the parts that it holds; these are parts, and it weighs something
pub record IsSeat {S : Type 0} (of : ShardsId) (me : Me S Hold) : Type 0 where
  pub slots : (n : ℕ) → times n (numbers me.1) ≡ times n me.0.held
  pub parts : (n : ℕ) → Holds me.0.held n → n < count_of of
  pub heavy : 1 ≤ me.0.weight

-- a seat stays of its parts and keeps its weight; what it holds is given
abbrev pub HoldsNow : Seat → Seat → List ℕ → Type 0
HoldsNow old new held = new ≡ record { of = old.of; held = held; weight = old.weight }
