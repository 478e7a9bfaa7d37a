use Rattle.assert_lang.proofs.Grammars.{statements_written}
use Rattle.assert_lang.proofs.laws.statements_are_written.Goals as goal

pub returns : goal.returns
returns c = statements_written
