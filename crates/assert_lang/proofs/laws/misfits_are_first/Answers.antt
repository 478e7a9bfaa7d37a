use Rattle.assert_lang.proofs.Misfits.{misfits_first}
use Rattle.assert_lang.proofs.laws.misfits_are_first.Goals as goal

pub returns : goal.returns
returns c = misfits_first
