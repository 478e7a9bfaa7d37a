use Rattle.assert_lang.proofs.Columns.{columns_right}
use Rattle.assert_lang.proofs.laws.columns_are_right.Goals as goal

pub returns : goal.returns
returns c = columns_right
