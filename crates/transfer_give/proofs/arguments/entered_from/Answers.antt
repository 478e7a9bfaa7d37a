use Rattle.std.proofs.Common.{rules}
use Rattle.transfer_give.proofs.Handing.{registers_fit}
use Rattle.transfer_give.specs.Handed.{entered_from}
use Rattle.transfer_give.proofs.arguments.entered_from.Goals as goal

pub enter_with-requires-clause-registers : goal.enter_with-requires-clause-registers
enter_with-requires-clause-registers c = registers_fit

pub returns : goal.returns
unfolding entered_from
returns c = search rules
