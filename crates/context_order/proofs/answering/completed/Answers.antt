use Rattle.context_bounds.specs.Setting.{setting_of}
use Rattle.context_order.proofs.Filling.{full_answers}
use Rattle.context_order.proofs.answering.completed.Goals as goal

pub returns : goal.returns
returns c =
    full_answers (setting_of c.args.system.now c.args.cycles.now c.args.whole.now) c.args.found.now c.in_ok-table.table.items c.in_ok-answers.answers.items
    c.in_ok-answers.ensures c.in_ok-table.ensures.filled
