use Rattle.bt_words.proofs.Calls.{bound_five_asked, graph_five_asked}
use Rattle.bt_words.proofs.laws.workers_are_asked.Goals as goal

pub returns : goal.returns
returns d = λ i c a n x y z within. (bound_five_asked i c a x y z n within, graph_five_asked i c a x y z n within)
