use Rattle.sparc_machine.proofs.Keeping.{each_step_keeps}
use Rattle.sparc_machine.proofs.laws.each_step_keeps.Goals as goal

pub returns : goal.returns
returns c = each_step_keeps
