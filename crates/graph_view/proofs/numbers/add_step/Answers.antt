use Rattle.std.proofs.Common.{Contains}
use Rattle.std.proofs.lemmas.Result.{on_ok_weaker}
use Rattle.graph_view.proofs.Numbered.{adds_none, adds_one, no_from, no_to, not_found}
use Rattle.graph_view.proofs.numbers.add_step.Goals as goal

pub returns-in_default : goal.returns-in_default
returns-in_default c =
    adds_none c.args.nodes.now c.args.step.now c.args.graph.now (no_from c.args.nodes.now c.args.step.now (not_found c.number_of.result (Contains c.args.nodes.now c.args.step.now.from) c.in_default.not-Some c.number_of.ensures.found))

pub returns-in_default-number_of : goal.returns-in_default-number_of
returns-in_default-number_of c =
    adds_none c.args.nodes.now c.args.step.now c.args.graph.now (no_to c.args.nodes.now c.args.step.now (not_found c.number_of-2.result (Contains c.args.nodes.now c.args.step.now.to) c.in_default-number_of.not-Some c.number_of-2.ensures.found))

pub returns : goal.returns
returns c =
    on_ok_weaker c.add.result
    (adds_one c.args.nodes.now c.args.step.now c.args.graph.now c.add.new.self c.in-Some.from c.in-Some-number_of.to c.requires.rise
    c.in-Some.ensures.number c.in-Some-number_of.ensures.number c.add.ensures.count)
    c.add.ensures.edges
