use Rattle.call_effects.proofs.SummaryLemmas.{summaries_are_ordered}
use Rattle.call_effects.proofs.laws.summaries_are_ordered.Goals as goal

pub returns : goal.returns
returns c = summaries_are_ordered
