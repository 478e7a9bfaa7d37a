use Rattle.std.proofs.Common.{Contains}
use Rattle.std.proofs.lemmas.Result.{on_ok_weaker}
use Rattle.graph_view.proofs.CallGraphs.{call_none, call_one, contains_at}
use Rattle.graph_view.proofs.Numbered.{not_found}
use Rattle.graph_view.proofs.call_graph.add_call.Goals as goal

pub returns-in_default : goal.returns-in_default
returns-in_default c =
    call_none c.args.subs.now c.args.calling.now c.args.graph.now
    (λ n m leads. not_found c.place_of.result (Contains c.args.subs.now c.args.calling.now.from.sub) c.in_default.not-Some c.place_of.ensures.found
    (contains_at c.args.subs.now c.args.calling.now.from.sub n leads.from))

pub returns-in_default-place_of : goal.returns-in_default-place_of
returns-in_default-place_of c =
    call_none c.args.subs.now c.args.calling.now c.args.graph.now
    (λ n m leads. not_found c.place_of-2.result (Contains c.args.subs.now c.args.calling.now.callee) c.in_default-place_of.not-Some c.place_of-2.ensures.found
    (contains_at c.args.subs.now c.args.calling.now.callee m leads.to))

pub returns : goal.returns
returns c =
    on_ok_weaker c.add.result
    (call_one c.args.subs.now c.args.calling.now c.args.graph.now c.add.new.self c.in-Some.from c.in-Some-place_of.to c.requires.rising
    c.in-Some.ensures.number c.in-Some-place_of.ensures.number c.add.ensures.count)
    c.add.ensures.edges
