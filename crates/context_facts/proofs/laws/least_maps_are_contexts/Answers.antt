use Rattle.context_facts.proofs.Least.{least_maps_are_contexts}
use Rattle.context_facts.proofs.laws.least_maps_are_contexts.Goals as goal

pub returns : goal.returns
returns c = least_maps_are_contexts
