use Rattle.bt_image.proofs.StandingLemmas.{bytes_stand}
use Rattle.bt_image.proofs.laws.bytes_do_not_mix.Goals as goal

pub returns : goal.returns
returns c = bytes_stand
