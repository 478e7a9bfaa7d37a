use Rattle.bt_words.proofs.Asked.{faultless_words_ask}
use Rattle.bt_words.proofs.laws.faultless_words_ask.Goals as goal

pub returns : goal.returns
returns c = faultless_words_ask
