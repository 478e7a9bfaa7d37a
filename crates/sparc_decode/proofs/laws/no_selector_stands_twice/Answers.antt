use Rattle.sparc_decode.proofs.Rows.{no_selector_twice}
use Rattle.sparc_decode.proofs.laws.no_selector_stands_twice.Goals as goal

pub returns : goal.returns
returns c = no_selector_twice
