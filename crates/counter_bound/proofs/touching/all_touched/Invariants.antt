use Rattle.counter_bound.specs.Body.{AreTouched}
use Rattle.counter_bound.proofs.touching.all_touched.Given as goal

-- the cells that the nodes gone through change
abbrev pub invariant-loop-place : goal.invariant-loop-place
invariant-loop-place l = AreTouched l.body l.changes l.inner l.place l.touched
