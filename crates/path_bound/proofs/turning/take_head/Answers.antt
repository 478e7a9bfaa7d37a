use Rattle.std.proofs.Common.{ℕ, List, length, get_or, sym, subst, ◌∙◌, arith}
use Rattle.bt_base.specs.Graph.{is_edge}
use Rattle.loop_nest.proofs.Places.{on_ok}
use Rattle.path_bound.specs.Places.{loops_in}
use Rattle.path_bound.specs.Turning.{IsTaken}
use Rattle.path_bound.proofs.Placed.{below_some}
use Rattle.path_bound.proofs.Taken.{no_head, head_taken}
use Rattle.path_bound.proofs.turning.take_head.Goals as goal

pub returns-in-None-clause-turns : goal.returns-in-None-clause-turns
returns-in-None-clause-turns c = λ k l here was.
    no_head c.args.graph.now c.args.loops.now c.args.bounds.now c.args.costs.now c.args.order.now c.requires.ground k l c.args.at here
    c.args.laps.now c.args.turns.now was
    (sym (c.requires.places c.args.at) ∙ c.in-None.is)

pub returns-in-Some-clause-turns : goal.returns-in-Some-clause-turns
returns-in-Some-clause-turns c = on_ok c.take_turn.result c.take_turn.ensures.taken (λ taken k l here was.
    let e = sym (c.requires.places c.args.at) ∙ c.in-Some.is in
    let b = below_some c.args.loops.now (length c.args.loops.now) c.args.at c.in-Some.place e in
    head_taken c.args.graph.now c.args.loops.now c.args.bounds.now c.args.costs.now c.args.order.now c.requires.ground k l c.args.at here
    c.args.laps.now c.args.turns.now was c.in-Some.place e
    c.args.steps.now c.requires.steps c.take_turn.new.laps c.take_turn.new.turns (omega (arith, c.requires.at, c.requires.sizes.lapped))
    (omega (arith, b.1, c.requires.turns))
    (λ one at. subst (λ (n : List ℕ). IsTaken (is_edge c.args.graph.now) (loops_in c.args.loops.now) one
    (get_or c.args.bounds.now c.in-Some.place 0) c.in-Some.place n c.args.steps.now
    c.args.laps.now c.take_turn.new.laps c.args.turns.now c.take_turn.new.turns) c.deref.ensures.value (taken one at)))
