use Rattle.value_refine.proofs.ComparisonLemmas.{asked}
use Rattle.value_refine.proofs.comparison.comparison_of.Goals as goal

pub returns : goal.returns
returns c = asked c.args.condition c.args.truth c.relation_of.result c.requires.condition c.relation_of.ensures
