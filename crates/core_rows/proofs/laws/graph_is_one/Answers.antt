use Rattle.core_rows.proofs.laws.graph_is_one.Goals as goal

pub returns : goal.returns
returns c = λ s t one other. c.due_graph_is_one.ensures s t one other
