use Rattle.std.proofs.Common.{rules}
use Rattle.transfer_give.proofs.Handing.{registers_fit}
use Rattle.transfer_give.specs.Handed.{handed_on}
use Rattle.transfer_give.proofs.arguments.handed_on.Goals as goal

pub handed_in-requires-clause-registers : goal.handed_in-requires-clause-registers
handed_in-requires-clause-registers c = registers_fit

pub returns : goal.returns
unfolding handed_on
returns c = search rules
