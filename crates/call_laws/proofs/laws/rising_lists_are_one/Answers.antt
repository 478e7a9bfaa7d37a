use Rattle.call_laws.proofs.Risings.{rising_lists}
use Rattle.call_laws.proofs.laws.rising_lists_are_one.Goals as goal

pub returns : goal.returns
returns c = rising_lists
