use Rattle.std.proofs.Common.{◌<◌, length, arith}
use Rattle.context_bounds.proofs.OwnRows.{pushed_at}
use Rattle.context_bounds.proofs.owning.push_at.Goals as goal

pub returns-clause-pushed : goal.returns-clause-pushed
returns-clause-pushed c =
    pushed_at c.args.rows.now.items c.args.row c.index_mut-keys.result.now c.push.new.self c.args.key
    (let low : c.args.row < length c.args.rows.now.items = omega (arith, c.requires, c.args.rows.now.ok.0) in low)
    c.index_mut-keys.ensures.value c.in_ok-push.ensures.items
