use Rattle.assert_bind.proofs.StubLemmas.{stubs_those}
use Rattle.assert_bind.proofs.laws.stubs_are_those.Goals as goal

pub returns : goal.returns
returns c = stubs_those
