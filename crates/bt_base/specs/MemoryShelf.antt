-- What a shelf in memory shows: its files, a count of faults for each and one for all other names, the
-- numbers of the calls that are to fail, the number of the next call, and what was asked.
use Rattle.std.specs.Prelude.{◌==◌, ◌&&◌, ℕ, Bool, ◌+◌, ◌-◌, ◌^◌, List, length, Option, Some, None, Result, Ok, Err, min, if◌then◌else◌}
use Rattle.std.specs.List.{list_any}
use Rattle.bt_base.specs.Ask.{Ask}
use Rattle.bt_base.specs.File.{bytes_at, count_at, is_counted_with, place_of}
use Rattle.bt_base.specs.Shelf.{risen}
use Rattle.bt_base.specs.declared.memory_shelf.MemoryShelf.{MemoryShelf}
use Rattle.bt_base.specs.declared.shelf.NoFetch.{NoFetch}
use Rattle.bt_base.specs.declared.shelf.NoFetch.TheVariants.{Failed}

-- the bytes of the first file of a name
abbrev pub told_of : MemoryShelf → List ℕ → Option (List ℕ)
told_of shelf name = bytes_at shelf.files.items (place_of shelf.files.items name)

-- how many reads of a name have failed
abbrev pub faults_of : MemoryShelf → List ℕ → ℕ
faults_of shelf name = count_at shelf.counts.items shelf.missing (place_of shelf.files.items name)

-- the number of the next call, which stays at its greatest value
abbrev pub calls_of : MemoryShelf → ℕ
calls_of shelf = shelf.calls

-- the numbers of the calls that are to fail
abbrev pub fails_of : MemoryShelf → List ℕ
fails_of shelf = shelf.fail.items

-- what was asked so far
abbrev pub asked_of : MemoryShelf → List Ask
asked_of shelf = shelf.trail.asks

-- what is answered from these bytes: as many as the buffer and the rest of the file allow
abbrev pub answer_from : Option (List ℕ) → ℕ → ℕ → Result ℕ NoFetch
answer_from None at room = Err Failed
answer_from (Some bytes) at room = Ok (min room (length bytes - at))

-- what a fetch answers: a call that is to fail is a fault, and so is a name that isn't there
abbrev pub answer_of : MemoryShelf → List ℕ → ℕ → ℕ → Result ℕ NoFetch
answer_of shelf name at room =
    if room == 0 then Ok 0
    else (if list_any (λ n. n == calls_of shelf) (fails_of shelf) then Err Failed else answer_from (told_of shelf name) at room)

-- the number of the call after one with a buffer of this size
abbrev pub next_call : ℕ → ℕ → ℕ
next_call calls room = if room == 0 then calls else min (calls + 1) (2 ^ 64 - 1)

-- two names are counted together: they mean one file, or neither is there
abbrev pub are_counted_together : MemoryShelf → List ℕ → List ℕ → Bool
are_counted_together shelf other name = is_counted_with (place_of shelf.files.items other) (place_of shelf.files.items name)

-- the count of faults of another name after a fetch of a name that was a fault or not
abbrev pub faults_after : MemoryShelf → List ℕ → Bool → List ℕ → ℕ
faults_after shelf name is_fault other =
    if is_fault && are_counted_together shelf other name then risen (faults_of shelf other) else faults_of shelf other
