-- The bytes so far are a front of what is told, and no count has fallen.
use Rattle.std.proofs.Common.{◌≡◌, ◌≤◌, ◌+◌, ◌-◌, take, length, vec_len}
use Rattle.bt_base.specs.Shelf.{TellsTheSame, NoneFalls, Told}
use Rattle.bt_base.proofs.Asks.{IsReadSoFar}
use Rattle.bt_base.proofs.reading.read_all.Given as goal

abbrev pub invariant-loop-shelf : goal.invariant-loop-shelf
invariant-loop-shelf g l = record {
  same : TellsTheSame (g.F.Shelf.told l.initial.shelf) (g.F.Shelf.told l.shelf);
  counts : NoneFalls (g.F.Shelf.faults l.initial.shelf) (g.F.Shelf.faults l.shelf);
  piece : vec_len l.piece ≡ 65536;
  front : Told (g.F.Shelf.told l.initial.shelf) l.name (λ told. l.bytes.items ≡ take (vec_len l.bytes) told);
  asked : IsReadSoFar l.name l.limit (g.F.Shelf.asked l.initial.shelf) (g.F.Shelf.asked l.shelf) (vec_len l.bytes);
  within : Told (g.F.Shelf.told l.initial.shelf) l.name (λ told. vec_len l.bytes ≤ length told);
}

abbrev pub decreases-loop-shelf : goal.decreases-loop-shelf
decreases-loop-shelf g l = l.limit + 1 - vec_len l.bytes
