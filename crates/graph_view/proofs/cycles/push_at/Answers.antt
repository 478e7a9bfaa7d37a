use Rattle.std.proofs.Common.{◌<◌, [], ◌∷◌, length, arith}
use Rattle.graph_view.proofs.Rounds.{pushed_at}
use Rattle.graph_view.proofs.cycles.push_at.Goals as goal

pub returns-clause-pushed : goal.returns-clause-pushed
returns-clause-pushed c =
    pushed_at c.args.rows.now.items c.args.row c.index_mut-numbers.result.now c.push.new.self
    (let l : c.args.row < length c.args.rows.now.items = omega (arith, c.requires, c.args.rows.now.ok.0) in l) c.index_mut-numbers.ensures.value
    (c.args.number ∷ []) c.in_ok-push.ensures.items
