use Rattle.std.proofs.Common.{List, subst}
use Rattle.callee_context.specs.Program.{setting_in}
use Rattle.context_outcomes.specs.Outcomes.{IsChosen, root}
use Rattle.value_lattice.specs.declared.value.Value.{Value}
use Rattle.callee_context.proofs.leading.put_root.Goals as goal

pub number_of-requires-clause-needed : goal.number_of-requires-clause-needed
number_of-requires-clause-needed c =
    root c.requires.root
    (subst (λ (args : List Value). IsChosen (setting_in c.args.program.now) c.args.root args c.in_ok-context.context) c.requires.any
    (c.in_ok-context.ensures {u = tt}))
