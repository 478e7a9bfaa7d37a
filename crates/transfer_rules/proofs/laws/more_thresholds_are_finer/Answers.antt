use Rattle.transfer_rules.proofs.System.{more_thresholds_are_finer}
use Rattle.transfer_rules.proofs.laws.more_thresholds_are_finer.Goals as goal

pub returns : goal.returns
returns c = more_thresholds_are_finer
