use Rattle.context_bounds.proofs.Costs.{lists_are_costs}
use Rattle.context_bounds.proofs.laws.lists_are_costs.Goals as goal

pub returns : goal.returns
returns c = lists_are_costs
