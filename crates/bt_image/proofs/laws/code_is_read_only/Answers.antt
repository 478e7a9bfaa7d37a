use Rattle.bt_image.proofs.StandingLemmas.{code_reads}
use Rattle.bt_image.proofs.laws.code_is_read_only.Goals as goal

pub returns : goal.returns
returns c = code_reads
