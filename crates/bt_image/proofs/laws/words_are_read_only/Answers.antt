use Rattle.bt_image.proofs.StandingLemmas.{word_stands}
use Rattle.bt_image.proofs.laws.words_are_read_only.Goals as goal

pub returns : goal.returns
returns c = word_stands
