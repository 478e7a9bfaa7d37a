use Rattle.transfer_fns.specs.Laws.{finer_over, numbers_are}
use Rattle.transfer_fns.proofs.laws.using_is_finer.Goals as goal

pub returns : goal.returns
returns c = λ more.
    finer_over c.args.system.now.thresholds c.args.t.now c.args.system.now.image c.args.system.now.binding c.args.system.now.eight
    c.args.system.now.numbers (numbers_are c.args.t.now c.are_thresholds.ensures) more
