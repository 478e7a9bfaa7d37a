-- What a slow shelf shows: its files, and what was asked of it.
use Rattle.std.specs.Prelude.{ℕ, List, Option, map, min}
use Rattle.bt_base.specs.Ask.{Ask}
use Rattle.bt_base.specs.MemoryShelf.{told_of, faults_of, asked_of}
use Rattle.hostile_rows.specs.declared.slow_shelf.SlowShelf.{SlowShelf}

-- an ask that gave at most so many bytes
abbrev pub slowed : ℕ → Ask → Ask
slowed most (name, at, room, given) = (name, at, room, min given most)

-- the bytes under a name
abbrev pub slow_told : SlowShelf → List ℕ → Option (List ℕ)
slow_told shelf = told_of shelf.files

-- how many reads of a name have failed
abbrev pub slow_faults : SlowShelf → List ℕ → ℕ
slow_faults shelf = faults_of shelf.files

-- what was asked so far
abbrev pub slow_asked : SlowShelf → List Ask
slow_asked shelf = map (slowed shelf.most) (asked_of shelf.files)
