use Rattle.std.proofs.Common.{◌≡◌, Some}
use Rattle.std.specs.Prelude.{slice_get}
use Rattle.abs_state.specs.Key.{compare}
use Rattle.callee_context.proofs.Calling.{has_given}
use Rattle.callee_context.proofs.Entered.{entering_entered}
use Rattle.callee_context.proofs.Growing.{if_ok}
use Rattle.callee_context.specs.Program.{setting_in}
use Rattle.context_inside.specs.Within.{inside_of}
use Rattle.context_order.specs.Opened.{IsLinked}
use Rattle.context_outcomes.specs.Outcomes.{called}
use Rattle.flow_system.specs.Facts.{fact_at}
use Rattle.callee_context.proofs.leading.number_at.Goals as goal

pub given_at-given-requires : goal.given_at-given-requires
given_at-given-requires c =
    let inside = c.requires.caller.inside in
    has_given (setting_in c.args.program.now) c.args.sub inside.args (fact_at compare c.args.within.now.facts) inside.is.facts c.args.place c.args.target
    c.requires.enters.followed.call.there

pub context_of-requires-clause-entered : goal.context_of-requires-clause-entered
context_of-requires-clause-entered c =
    let inside = c.requires.caller.inside in
    entering_entered (setting_in c.args.program.now) c.args.sub c.requires.caller.context
    (inside_of c.requires.caller.context inside.arguments inside.is) c.args.place c.args.target c.requires.enters

pub number_of-requires-clause-needed : goal.number_of-requires-clause-needed
number_of-requires-clause-needed c =
    let inside = c.requires.caller.inside in
    called c.requires.caller.needed (inside_of c.requires.caller.context inside.arguments inside.is) c.requires.enters
    (record { given = c.given_at-given.result.now; there = c.given_at-given.ensures; chosen = c.in_ok-context.ensures {u = tt} })

pub returns-clause-linked : goal.returns-clause-linked
returns-clause-linked c =
    if_ok c.number_of.result (λ number. slice_get c.number_of.new.found number ≡ Some (c.args.target, c.in_ok-context.context))
    (IsLinked (setting_in c.args.program.now) c.number_of.new.found c.args.sub (fact_at compare c.args.within.now.facts) c.args.place)
    (λ number at. record {
      target = c.args.target;
      enters = c.requires.enters;
      context = c.in_ok-context.context;
      leads = record { given = c.given_at-given.result.now; there = c.given_at-given.ensures; chosen = c.in_ok-context.ensures {u = tt} };
      at = at;
    }) c.number_of.ensures.at
