use Rattle.std.proofs.Common.{◌≡◌, Option, Some}
use Rattle.std.specs.Prelude.{IfSome, slice_get}
use Rattle.std.proofs.lemmas.Result.{IfOk-weaker}
use Rattle.abs_state.specs.declared.head_bound.HeadBound.{HeadBound}
use Rattle.bt_base.specs.Graph.{is_edge}
use Rattle.context_heads.proofs.Outcomes.{counter_of_some}
use Rattle.context_heads.proofs.heads.counter_at.Goals as goal
use Rattle.context_heads.specs.Passes.{CountsOne}
use Rattle.counter_bound.specs.Counts.{IsBoundOrNone}
use Rattle.loop_nest.specs.declared.natural_loop.Loop.{Loop}
use Rattle.path_bound.specs.Places.{loops_in}

pub returns-in-Some-clause-passes : goal.returns-in-Some-clause-passes
returns-in-Some-clause-passes c =
    IfOk-weaker c.head_bound.result
    (λ (counter : Option HeadBound). (one : Loop) → slice_get c.args.nest.now c.args.number ≡ Some one
    → IsBoundOrNone (is_edge c.args.graph.now) (loops_in c.args.nest.now) one.head c.args.changes.now c.in-Some.s counter)
    (λ (counter : Option HeadBound). IfSome counter CountsOne)
    (λ counter is. counter_of_some c.args.graph.now c.args.nest.now c.args.number c.args.changes.now c.in-Some.s counter c.requires.number is)
    c.head_bound.ensures
