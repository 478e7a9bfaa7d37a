-- What a contract sees of parts in slots: which table it is, and never what lies in it, since other threads take
-- and put.
use Rattle.std.specs.Prelude.{ℕ}
use Rattle.std.specs.Coded.{Coded}
use Rattle.atomic_table.specs.Seated.{TableId, table_id_coded}

-- which table of parts it is: the same from its making on
abbrev pub ShardsId : Type 0
ShardsId = TableId

abbrev pub shards_coded : Coded ShardsId
shards_coded = table_id_coded

-- how many parts there are
abbrev pub count_of : ShardsId → ℕ
count_of shards = shards.slots
