use Rattle.std.proofs.Common.{◌≡◌, drop}
use Rattle.bt_command.proofs.bounding.have_bounds.Given as goal
use Rattle.bt_command.specs.Program.{have_bounds}

-- those gone through have bounds
abbrev pub invariant-loop-root : goal.invariant-loop-root
invariant-loop-root l = have_bounds l.list (drop l.root-index l.roots) ≡ have_bounds l.list l.roots
