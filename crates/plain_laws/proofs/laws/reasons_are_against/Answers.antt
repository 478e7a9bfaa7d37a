use Rattle.plain_laws.proofs.OneBound.{reasons_are_against}
use Rattle.plain_laws.proofs.laws.reasons_are_against.Goals as goal

pub returns : goal.returns
returns c = reasons_are_against
