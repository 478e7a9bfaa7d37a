use Rattle.std.proofs.Common.{◌≡◌, drop, get_or}
use Rattle.path_bound.specs.Capped.{cap}
use Rattle.path_bound.specs.Choosing.{label_at, best_of}
use Rattle.path_bound.proofs.choosing.best.Given as goal

-- the best of the label so far and of what the steps that are left ask is that of all
abbrev pub invariant-loop-step : goal.invariant-loop-step
invariant-loop-step l =
    best_of cap l.head (λ n. get_or l.laps n 0) (label_at l.labels) l.best (drop l.step-index l.steps)
    ≡ best_of cap l.fn.head (λ n. get_or l.laps n 0) (label_at l.labels) l.initial.best l.steps
