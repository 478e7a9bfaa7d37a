use Rattle.std.proofs.Common.{◌≡◌, arith}
use Rattle.value_refine.proofs.ComparisonLemmas.{sign_is_less}
use Rattle.value_refine.proofs.comparison.relation_of.Goals as goal

pub returns-in_default : goal.returns-in_default
returns-in_default c = let six : c.args.condition ≡ 6 = omega arith in sign_is_less c.args.condition six
