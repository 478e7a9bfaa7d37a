use Rattle.cycle_table.proofs.Faults.{tables_whole}
use Rattle.cycle_table.proofs.laws.tables_are_whole.Goals as goal

pub returns : goal.returns
returns c = tables_whole
