use Rattle.cycle_table.proofs.Faults.{faults_first}
use Rattle.cycle_table.proofs.laws.faults_are_first.Goals as goal

pub returns : goal.returns
returns c = faults_first
