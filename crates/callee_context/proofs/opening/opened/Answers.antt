use Rattle.callee_context.proofs.Entered.{needed_are_ready, needed_entered}
use Rattle.callee_context.proofs.Growing.{if_ok}
use Rattle.callee_context.specs.Program.{IsKnown, setting_in}
use Rattle.callee_context.specs.declared.program.Program.{Program}
use Rattle.context_inside.specs.Laws.{AreDue}
use Rattle.context_inside.specs.Within.{IsWithin}
use Rattle.context_order.specs.Opened.{IsOpenedIn}
use Rattle.context_bounds.specs.Setting.{setting_of}
use Rattle.std.proofs.Common.{ℕ, List}
use Rattle.callee_context.proofs.opening.opened.Goals as goal

due_in : (program : Program) → IsKnown program → AreDue (setting_in program)
due_in program known = record { thresholds = known.thresholds; due = known.due }

pub keys_of-requires-clause-entered : goal.keys_of-requires-clause-entered
keys_of-requires-clause-entered c = needed_entered (setting_in c.args.program.now) c.args.sub c.args.context.now c.requires.needed

pub within_of-requires-clause-count : goal.within_of-requires-clause-count
within_of-requires-clause-count c =
    (needed_are_ready (setting_in c.args.program.now) c.args.sub c.args.context.now (due_in c.args.program.now c.requires.known) c.requires.needed
    c.in_ok-args.args (c.in_ok-args.ensures {u = tt})).count

pub within_of-requires-clause-below : goal.within_of-requires-clause-below
within_of-requires-clause-below c =
    (needed_are_ready (setting_in c.args.program.now) c.args.sub c.args.context.now (due_in c.args.program.now c.requires.known) c.requires.needed
    c.in_ok-args.args (c.in_ok-args.ensures {u = tt})).entered

pub returns : goal.returns
returns c =
    if_ok c.within_of.result
    (λ within. (costs : List ℕ) → IsWithin (setting_of c.args.program.now.system.now costs c.args.program.now.facts.now) c.args.sub c.in_ok-args.args within)
    (IsOpenedIn (setting_in c.args.program.now) c.args.sub c.args.context.now)
    (λ within is. record {
      args = c.in_ok-args.args;
      arguments = c.in_ok-args.ensures {u = tt};
      is = is c.args.program.now.cycles.now;
    }) c.within_of.ensures
