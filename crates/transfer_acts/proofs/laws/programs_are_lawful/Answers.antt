use Rattle.transfer_acts.proofs.Depths.{programs_are_lawful}
use Rattle.transfer_acts.proofs.laws.programs_are_lawful.Goals as goal

pub returns : goal.returns
returns c = programs_are_lawful
