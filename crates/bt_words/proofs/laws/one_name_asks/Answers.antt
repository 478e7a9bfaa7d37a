use Rattle.bt_words.proofs.Calls.{listed_asked}
use Rattle.bt_words.proofs.laws.one_name_asks.Goals as goal

pub returns : goal.returns
returns c = λ i x. listed_asked i x
