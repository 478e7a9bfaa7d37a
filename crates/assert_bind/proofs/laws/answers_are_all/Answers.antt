use Rattle.assert_bind.proofs.SightLemmas.{answers_all}
use Rattle.assert_bind.proofs.laws.answers_are_all.Goals as goal

pub returns : goal.returns
returns c = answers_all
