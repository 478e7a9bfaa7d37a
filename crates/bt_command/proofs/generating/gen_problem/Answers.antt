use Rattle.std.proofs.Common.{◌≡◌, ◌⊎◌, Err, refl, subst}
use Rattle.bt_command.proofs.Generates.{error_is, image_refused, made_problem, root_refused}
use Rattle.bt_command.specs.Generated.{generated}
use Rattle.bt_command.specs.declared.status.Status.{Status}
use Rattle.bt_command.specs.declared.status.Status.TheVariants.{Want}
use Rattle.bt_command.proofs.generating.gen_problem.Goals as goal

pub returns-in-Err-clause-refused : goal.returns-in-Err-clause-refused
returns-in-Err-clause-refused c =
    λ status is.
    subst (λ (s : Status). (s ≡ Want) ⊎ (generated c.args.functions ≡ Err s)) (error_is c.image_status.result status _ refl is)
    (image_refused c.args.functions c.in-Err.refusal c.image_status.result c.in-Err.ensures.refused c.image_status.ensures.want c.image_status.ensures.other)

pub returns-in-Err-bound_main-clause-refused : goal.returns-in-Err-bound_main-clause-refused
returns-in-Err-bound_main-clause-refused c =
    λ status is.
    subst (λ (s : Status). (s ≡ Want) ⊎ (generated c.args.functions ≡ Err s)) (error_is c.root_status.result status _ refl is)
    (root_refused c.args.functions c.in-Ok.image c.in-Err-bound_main.refusal c.root_status.result c.in-Ok.ensures.image c.in-Ok.ensures.refused
    c.in-Err-bound_main.ensures.value c.root_status.ensures.want c.root_status.ensures.other)

pub returns-in-Ok-make-clause-problem : goal.returns-in-Ok-make-clause-problem
returns-in-Ok-make-clause-problem c =
    made_problem c.args.functions c.in-Ok.image c.ones.result c.in-Ok-bound_main.binding c.in-Ok-make.problem c.in-Ok.ensures.image c.ones.ensures
    c.in-Ok.ensures.refused c.in-Ok-bound_main.ensures.value c.in-Ok-make.ensures
