use Rattle.graph_view.proofs.Numbered.{none_at}
use Rattle.graph_view.proofs.numbers.number_of.Goals as goal

pub returns-in-Err-clause-found : goal.returns-in-Err-clause-found
returns-in-Err-clause-found c = λ has. absurd (none_at c.args.nodes.now c.requires.rise c.args.place.now _ c.in-Err.ensures.position has)
