use Rattle.sparc_machine.proofs.BoundedRuns.{is_one}
use Rattle.sparc_machine.proofs.laws.straight_code_is_one.Goals as goal

pub returns : goal.returns
returns c = is_one
