use Rattle.call_laws.proofs.Finds.{found_needed}
use Rattle.call_laws.proofs.laws.found_are_the_needed.Goals as goal

pub returns : goal.returns
returns c = found_needed
