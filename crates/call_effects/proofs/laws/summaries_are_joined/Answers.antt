use Rattle.call_effects.proofs.SummaryLemmas.{summaries_are_joined}
use Rattle.call_effects.proofs.laws.summaries_are_joined.Goals as goal

pub returns : goal.returns
returns c = summaries_are_joined
