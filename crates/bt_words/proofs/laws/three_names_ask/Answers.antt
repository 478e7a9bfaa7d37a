use Rattle.bt_words.proofs.Calls.{bound_three_asked, graph_three_asked}
use Rattle.bt_words.proofs.laws.three_names_ask.Goals as goal

pub returns : goal.returns
returns d = λ i c a x y z. (bound_three_asked i c a x y z, graph_three_asked i c a x y z)
