use Rattle.assert_lang.proofs.Partings.{lines_parted}
use Rattle.assert_lang.proofs.laws.lines_are_parted.Goals as goal

pub returns : goal.returns
returns c = lines_parted
