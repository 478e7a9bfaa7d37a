-- Files in memory: pairs of a name and its bytes, of which the first of a name is meant.
use Rattle.std.specs.Prelude.{◌==◌, ℕ, Bool, true, false, List, Option, Some, None, slice_get, slice_index, bytes_eq, string_bytes, String, Vec}
use Rattle.std.specs.List.{position_from}
use Rattle.std.specs.Option.{option_map, option_and_then}
use Rattle.std.specs.declared.alloc.Global.{Global}

-- a file: its name and its bytes
abbrev pub File : Type 0
File = String Global × Vec ℕ Global

-- the place of the first file of a name
abbrev pub place_of : List File → List ℕ → Option ℕ
place_of files name = position_from (λ file. bytes_eq (string_bytes file.0) name) 0 files

-- the bytes of the file at a place
abbrev pub bytes_at : List File → Option ℕ → Option (List ℕ)
bytes_at files place = option_and_then (λ p. option_map (λ file. file.1.items) (slice_get files p)) place

-- the count of faults of the file at a place, or that of all names that aren't there
abbrev pub count_at : List ℕ → ℕ → Option ℕ → ℕ
count_at counts missing None = missing
count_at counts missing (Some place) = slice_index counts place

-- two places are counted together: they are one place, or at neither is a file
abbrev pub is_counted_with : Option ℕ → Option ℕ → Bool
is_counted_with None None = true
is_counted_with None (Some p) = false
is_counted_with (Some q) None = false
is_counted_with (Some q) (Some p) = q == p
