use Rattle.context_facts.proofs.Answering.{contexts_enter}
use Rattle.context_facts.proofs.laws.contexts_enter.Goals as goal

pub returns : goal.returns
returns c = contexts_enter
