use Rattle.std.proofs.Common.{sym, subst}
use Rattle.callee_context.proofs.Entered.{needed_entered}
use Rattle.callee_context.specs.Program.{setting_in}
use Rattle.context_outcomes.specs.Arguments.{AreArgumentsOf}
use Rattle.std.specs.Prelude.{IfOk}
use Rattle.wcet_report.specs.declared.context.Context.{Context}
use Rattle.callee_context.proofs.opening.arguments_of.Goals as goal

pub arguments_of-requires : goal.arguments_of-requires
arguments_of-requires c = record {
  setting = setting_in c.args.program.now;
  are = c.requires.known.plain;
  entered = needed_entered (setting_in c.args.program.now) c.args.sub c.args.context.now c.requires.needed;
}

pub returns-in-Plain : goal.returns-in-Plain
returns-in-Plain c =
    subst (λ (x : Context). IfOk c.arguments_of.result (AreArgumentsOf (setting_in c.args.program.now) c.args.sub x)) (sym c.in-Plain.is)
    (c.arguments_of.ensures (setting_in c.args.program.now) c.requires.known.plain
    (needed_entered (setting_in c.args.program.now) c.args.sub c.args.context.now c.requires.needed))
