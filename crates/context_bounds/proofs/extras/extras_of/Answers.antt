use Rattle.context_bounds.specs.Extras.{cost_between}
use Rattle.context_bounds.proofs.ExtraCosts.{all_extras_are}
use Rattle.context_bounds.proofs.extras.extras_of.Goals as goal

pub returns : goal.returns
returns c =
    all_extras_are (cost_between c.args.image.now c.args.cycles.now c.args.nodes.now) c.args.graph.now c.all_extras.ensures.graph c.all_extras.result
    c.all_extras.ensures.items
