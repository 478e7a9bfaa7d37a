use Rattle.part_pool.proofs.growing.grow.Given as goal

abbrev pub ghosts-grow_on_new : goal.ghosts-grow_on_new
ghosts-grow_on_new g a = record { rules = g.S.System.rules a.system.now; limit = 131072 }
