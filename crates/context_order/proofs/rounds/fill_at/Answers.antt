use Rattle.std.proofs.Common.{◌≡◌, Option, Some, length, subst, arith}
use Rattle.context_answers.specs.declared.answer.Answer.{Answer}
use Rattle.context_bounds.specs.Setting.{setting_of}
use Rattle.context_order.proofs.Filling.{filled_set, more_filled, none_there}
use Rattle.context_order.proofs.rounds.fill_at.Goals as goal
use Rattle.context_order.specs.Filled.{IsFound, Table}

pub returns-in-Some-clause-filled : goal.returns-in-Some-clause-filled
returns-in-Some-clause-filled c =
    more_filled (setting_of c.args.system.now c.args.cycles.now c.args.whole.now) c.args.found.now c.args.table.now.items c.requires.filled c.args.number
    c.in-Some.answer
    (none_there c.args.table.now.items c.args.number c.index.result.now
    (let count : length c.args.table.now.items ≡ length c.args.found.now = c.requires.filled.count in omega (arith, count, c.requires.within)) c.index.ensures
    (c.if-is_some.ensures {u = tt}))
    (subst (λ (t : Table). IsFound (setting_of c.args.system.now c.args.cycles.now c.args.whole.now) c.args.found.now t c.args.number (Some c.in-Some.answer))
    c.deref.ensures.value
    (subst
    (λ (e : Option Answer). IsFound (setting_of c.args.system.now c.args.cycles.now c.args.whole.now) c.args.found.now c.deref.result.now c.args.number e)
    c.in-Some.is c.in_ok-answer_at.ensures))

pub returns-in-Some-clause-more : goal.returns-in-Some-clause-more
returns-in-Some-clause-more c = λ yes.
    filled_set c.args.table.now.items c.args.number c.in-Some.answer
    (none_there c.args.table.now.items c.args.number c.index.result.now
    (let count : length c.args.table.now.items ≡ length c.args.found.now = c.requires.filled.count in omega (arith, count, c.requires.within)) c.index.ensures
    (c.if-is_some.ensures {u = tt}))
