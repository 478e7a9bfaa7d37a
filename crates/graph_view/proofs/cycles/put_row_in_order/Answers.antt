use Rattle.std.proofs.Common.{◌<◌, length, arith}
use Rattle.graph_view.proofs.Rounds.{risen_at}
use Rattle.graph_view.proofs.cycles.put_row_in_order.Goals as goal

pub returns-clause-risen : goal.returns-clause-risen
returns-clause-risen c =
    risen_at c.args.rows.now.items c.args.row c.index_mut-numbers.result.now c.put_in_order.new.numbers
    (let l : c.args.row < length c.args.rows.now.items = omega (arith, c.requires, c.args.rows.now.ok.0) in l) c.index_mut-numbers.ensures.value
    c.put_in_order.ensures.rising c.put_in_order.ensures.keeps c.put_in_order.ensures.adds_none
