use Rattle.plain_laws.proofs.OneBound.{open_calls_are_against}
use Rattle.plain_laws.proofs.laws.open_calls_are_against.Goals as goal

pub returns : goal.returns
returns c = open_calls_are_against
