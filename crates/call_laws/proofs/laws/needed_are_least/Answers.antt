use Rattle.call_laws.proofs.Finds.{are_least}
use Rattle.call_laws.proofs.laws.needed_are_least.Goals as goal

pub returns : goal.returns
returns c = are_least
