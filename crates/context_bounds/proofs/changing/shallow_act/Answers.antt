use Rattle.std.proofs.Common.{sym, subst}
use Rattle.transfer_acts.proofs.Depths.{place_shallow}
use Rattle.transfer_acts.specs.Program.{IsShallowAct}
use Rattle.context_bounds.proofs.changing.shallow_act.Goals as goal

pub returns-clause-shallow : goal.returns-clause-shallow
returns-clause-shallow c =
    subst IsShallowAct (sym c.act_at.ensures) (place_shallow c.image.result.now c.binding.result.now c.eight.result c.args.p c.requires)
