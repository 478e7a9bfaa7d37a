use Rattle.bt_words.proofs.Firsts.{commands_come_first}
use Rattle.bt_words.proofs.laws.commands_come_first.Goals as goal

pub returns : goal.returns
returns d = λ first rest e. commands_come_first first rest e
