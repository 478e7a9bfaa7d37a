-- What a sink in memory shows: the bytes written so far, the room that it was made with, the most that one
-- write takes, the numbers of the writes that are to fail, the number of the next one, and the faults.
use Rattle.std.specs.Prelude.{◌==◌, ℕ, ◌+◌, ◌-◌, ◌^◌, List, length, Result, Ok, Err, min, ◌||◌, if◌then◌else◌}
use Rattle.std.specs.List.{list_any}
use Rattle.bt_base.specs.declared.faults.Failed.{Failed}
use Rattle.bt_base.specs.declared.memory_sink.MemorySink.{MemorySink}

-- the bytes written so far
abbrev pub bytes_of : MemorySink → List ℕ
bytes_of sink = sink.bytes.items

-- how many writes have failed
abbrev pub faults_of : MemorySink → ℕ
faults_of sink = sink.faults

-- how many bytes it takes in all
abbrev pub room_of : MemorySink → ℕ
room_of sink = sink.room

-- how many bytes one write takes at most
abbrev pub most_of : MemorySink → ℕ
most_of sink = sink.most

-- the number of the next write, which stays at its greatest value
abbrev pub calls_of : MemorySink → ℕ
calls_of sink = sink.calls

-- the numbers of the writes that are to fail
abbrev pub fails_of : MemorySink → List ℕ
fails_of sink = sink.fail.items

-- what a write of so many bytes answers: one that is to fail is a fault, and so is one with no room left
abbrev pub answer_of : MemorySink → ℕ → Result ℕ Failed
answer_of sink count =
    let left = room_of sink - length (bytes_of sink) in
    if count == 0 then Ok 0
    else (if list_any (λ n. n == calls_of sink) (fails_of sink) || (left == 0) then Err (record {}) else Ok (min (min count (most_of sink)) left))

-- the number of the write after one of so many bytes
abbrev pub next_call : ℕ → ℕ → ℕ
next_call calls count = if count == 0 then calls else min (calls + 1) (2 ^ 64 - 1)
