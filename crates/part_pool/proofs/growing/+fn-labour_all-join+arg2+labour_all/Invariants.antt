use Prim.Native.Nat.{◌+◌, ◌*◌}
use Rattle.part_pool.proofs.growing.+fn-labour_all-join+arg2+labour_all.Given as goal

abbrev pub decreases-join+arg2 : goal.decreases-join+arg2
decreases-join+arg2 g l = 2 * l.rest + 1

abbrev pub decreases-labour_all : goal.decreases-labour_all
decreases-labour_all g l = 2 * l.count
