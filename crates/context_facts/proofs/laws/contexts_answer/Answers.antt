use Rattle.context_facts.proofs.Answering.{contexts_answer}
use Rattle.context_facts.proofs.laws.contexts_answer.Goals as goal

pub returns : goal.returns
returns c = contexts_answer
