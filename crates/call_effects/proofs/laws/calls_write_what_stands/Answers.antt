use Rattle.call_effects.proofs.CallLemmas.{calls_write_what_stands}
use Rattle.call_effects.proofs.laws.calls_write_what_stands.Goals as goal

pub returns : goal.returns
returns c = calls_write_what_stands
