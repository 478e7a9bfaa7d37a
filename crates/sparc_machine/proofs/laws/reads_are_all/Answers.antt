use Rattle.sparc_machine.proofs.Reading.{depends_on_reads}
use Rattle.sparc_machine.proofs.laws.reads_are_all.Goals as goal

pub returns : goal.returns
returns c = depends_on_reads
