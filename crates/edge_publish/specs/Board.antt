-- What a contract sees of a board: which one it is, and never what lies on it, since other threads publish.
use Rattle.boxcar.specs.Table.{Shelves, shelves_coded}
use Rattle.std.specs.Coded.{Coded}

-- which board it is: the same from its making on
abbrev pub BoardId : Type 0
BoardId = Shelves

abbrev pub board_coded : Coded BoardId
board_coded = shelves_coded
