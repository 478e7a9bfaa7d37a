use Rattle.transfer_rules.proofs.Giving.{calls_enter_delays}
use Rattle.transfer_rules.proofs.laws.calls_enter_delays.Goals as goal

pub returns : goal.returns
returns c = calls_enter_delays
