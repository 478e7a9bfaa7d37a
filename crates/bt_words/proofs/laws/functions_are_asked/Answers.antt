use Rattle.bt_words.proofs.Calls.{functions_asked, functions_and_workers_asked}
use Rattle.bt_words.proofs.laws.functions_are_asked.Goals as goal

pub returns : goal.returns
returns d = λ f n few within. (functions_asked f few, functions_and_workers_asked f few n within)
