-- What a contract sees of a receipt: the index at which its key was published, the key, and of which board it is.
use Rattle.std.specs.Prelude.{ℕ}
use Rattle.std.specs.Coded.{Coded}
use Rattle.boxcar.specs.Table.{Where, where_coded, Shows}
use Rattle.edge_publish.specs.Board.{BoardId}

-- what a receipt shows
abbrev pub Shown : Type 0 → Type 0
Shown K = Where K

abbrev pub shown_coded : {K : Type 0} → Coded K → Coded (Shown K)
shown_coded c = where_coded c

-- the index at which the key was published
abbrev pub index_of : {K : Type 0} → Shown K → ℕ
index_of receipt = receipt.index

-- the key that was published
abbrev pub key_of : {K : Type 0} → Shown K → K
key_of receipt = receipt.value

-- a receipt is of a board
abbrev pub IsOf : {K : Type 0} → BoardId → Shown K → Type 0
IsOf board receipt = Shows board receipt
