use Rattle.std.proofs.Common.{◌<◌, length, arith}
use Rattle.bt_base.specs.Graph.{rows_of}
use Rattle.bt_base.proofs.Rows.{row_at, row_rises, edges_after, graph_after, same_after}
use Rattle.bt_base.proofs.graph.add_edge.Goals as goal

pub put_rising-requires : goal.put_rising-requires
put_rising-requires c =
    let rows = c.args.rows.now.items in
    row_rises (rows_of rows) c.args.from c.index_mut-row.result.now.items
    (row_at rows c.args.from c.index_mut-row.result.now (let l : c.args.from < length c.args.rows.now.items = omega (arith, c.args.rows.now.ok.0) in l)
    c.index_mut-row.ensures.value) c.requires.graph

pub returns-clause-edges : goal.returns-clause-edges
returns-clause-edges c =
    edges_after c.args.rows.now.items c.args.from c.args.to c.index_mut-row.result.now c.put_rising.new.row
    (let l : c.args.from < length c.args.rows.now.items = omega (arith, c.args.rows.now.ok.0) in l) c.index_mut-row.ensures.value
    c.put_rising.result c.put_rising.ensures.numbers

pub returns-clause-graph : goal.returns-clause-graph
returns-clause-graph c =
    graph_after c.args.rows.now.items c.args.from c.args.to c.index_mut-row.result.now c.put_rising.new.row
    (let l : c.args.from < length c.args.rows.now.items = omega (arith, c.args.rows.now.ok.0) in l) c.index_mut-row.ensures.value
    (let l : c.args.to < length c.args.rows.now.items = omega (arith, c.args.rows.now.ok.0) in l) c.requires.graph c.put_rising.ensures.rising
    c.put_rising.ensures.within

pub returns-clause-err : goal.returns-clause-err
returns-clause-err c =
    same_after c.args.rows.now.items c.args.from c.args.to c.index_mut-row.result.now c.put_rising.new.row
    (let l : c.args.from < length c.args.rows.now.items = omega (arith, c.args.rows.now.ok.0) in l) c.index_mut-row.ensures.value
    c.put_rising.result c.put_rising.ensures.err
