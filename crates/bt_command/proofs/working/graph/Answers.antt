use Rattle.std.proofs.Common.{refl, rules}
use Rattle.bt_command.specs.Call.{call_of}
use Rattle.bt_command.proofs.Says.{refuses_problem, refused_graph, unshown_graph}
use Rattle.bt_command.proofs.Shown.{graph_shown, graph_held}
use Rattle.bt_command.proofs.working.graph.Goals as goal

pub returns-in-Err-clause-says : goal.returns-in-Err-clause-says
returns-in-Err-clause-says g c = refused_graph _ _ c.in-Err.status (c.in-Err.ensures.refused c.in-Err.status refl)

pub returns-in-Err-clause-shows : goal.returns-in-Err-clause-shows
returns-in-Err-clause-shows g c = unshown_graph _ (call_of g.F.Shelf.told g.F.Shelf.faults g.F.Shelf.asked g.K.Sink.told g.K.Sink.faults c.args.shelf.now c.problem_from.new.shelf c.args.out.now c.args.out.now)
    c.in-Err.status (c.in-Err.ensures.refused c.in-Err.status refl)

pub returns-in-Err-graph_by-clause-says : goal.returns-in-Err-graph_by-clause-says
returns-in-Err-graph_by-clause-says g c =
    refused_graph _ _ c.in-Err-graph_by.status
    (refuses_problem _ _ c.in-Ok.problem c.in-Err-graph_by.status c.in-Ok.ensures.accepted
    (λ image costs those is. c.in-Err-graph_by.ensures.refused image costs those c.in-Err-graph_by.status is refl))

pub returns-in-Err-graph_by-clause-shows : goal.returns-in-Err-graph_by-clause-shows
returns-in-Err-graph_by-clause-shows g c =
    unshown_graph _ (call_of g.F.Shelf.told g.F.Shelf.faults g.F.Shelf.asked g.K.Sink.told g.K.Sink.faults c.args.shelf.now c.problem_from.new.shelf c.args.out.now c.args.out.now)
    c.in-Err-graph_by.status
    (refuses_problem _ _ c.in-Ok.problem c.in-Err-graph_by.status c.in-Ok.ensures.accepted
    (λ image costs those is. c.in-Err-graph_by.ensures.refused image costs those c.in-Err-graph_by.status is refl))

pub returns-in-Ok-write_all-clause-says : goal.returns-in-Ok-write_all-clause-says
returns-in-Ok-write_all-clause-says g c = record {
  text = c.in-Ok-graph_by.text.items;
  is = graph_shown _ _ c.in-Ok.problem c.in-Ok.ensures.accepted c.in-Ok-graph_by.text.items c.in-Ok-graph_by.ensures.graph;
  written = search rules;
}

pub returns-in-Ok-write_all-clause-shows : goal.returns-in-Ok-write_all-clause-shows
returns-in-Ok-write_all-clause-shows g c =
    graph_held _ _ c.in-Ok.problem c.in-Ok-graph_by.text.items c.in-Ok.ensures.accepted c.in-Ok-graph_by.ensures.graph (search rules)

pub returns-clause-says : goal.returns-clause-says
returns-clause-says g c = record {
  text = c.in-Ok-graph_by.text.items;
  is = graph_shown _ _ c.in-Ok.problem c.in-Ok.ensures.accepted c.in-Ok-graph_by.text.items c.in-Ok-graph_by.ensures.graph;
  less = search rules;
  written = search rules;
  rose = search rules;
}
