-- What the shelf over the system's files shows: one count of faults, which stands for every name, and what was asked.
use Rattle.std.specs.Prelude.{ℕ, List}
use Rattle.bt_base.specs.Ask.{Ask}
use Rattle.bt_base.specs.declared.file_shelf.FileShelf.{FileShelf}

-- how many reads have failed
abbrev pub faults_of : {R File Dir : Type 0} → FileShelf R File Dir → ℕ
faults_of shelf = shelf.faults

-- what was asked so far
abbrev pub asked_of : {R File Dir : Type 0} → FileShelf R File Dir → List Ask
asked_of shelf = shelf.trail.asks
