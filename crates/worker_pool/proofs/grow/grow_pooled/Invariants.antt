use Rattle.worker_pool.proofs.grow.grow_pooled.Given as goal

abbrev pub ghosts-work_pooled : goal.ghosts-work_pooled
ghosts-work_pooled g a = record { rules = g.S.System.rules a.system.now; limit = 131072 }
