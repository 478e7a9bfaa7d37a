use Rattle.bt_image.specs.Loaded.{AreLoaded}
use Rattle.bt_image.proofs.LoadingLemmas.{AreClear}
use Rattle.bt_image.proofs.loading.load.Given as goal

-- the table has the loaded sections so far, and no two of them overlap
abbrev pub invariant-loop-n : goal.invariant-loop-n
invariant-loop-n l = record { table : AreLoaded l.file l.n l.table.items; clear : AreClear l.file l.n }
