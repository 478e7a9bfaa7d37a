use Rattle.std.proofs.Common.{refl, subst}
use Rattle.bt_command.proofs.Generates.{error_is, refused_made, refused_program}
use Rattle.bt_command.specs.Generated.{RefusesGen}
use Rattle.bt_command.proofs.generating.text_by.Goals as goal

pub returns-in-Err-clause-refused : goal.returns-in-Err-clause-refused
returns-in-Err-clause-refused g c =
    λ status is.
    subst (RefusesGen c.args.functions) (error_is c.in-Err.status status _ refl is)
    (refused_made c.args.functions c.in-Err.status (c.in-Err.ensures.refused c.in-Err.status refl))

pub returns-in-Err-analysed_by-clause-refused : goal.returns-in-Err-analysed_by-clause-refused
returns-in-Err-analysed_by-clause-refused g c =
    λ status is.
    let made = c.in-Ok.ensures.problem in
    subst (RefusesGen c.args.functions) (error_is c.in-Err-analysed_by.status status _ refl is)
    (refused_program c.args.functions c.in-Ok.problem c.in-Err-analysed_by.status made
    (c.in-Err-analysed_by.ensures.refused _ _ made.those c.in-Err-analysed_by.status made.problem refl))

pub returns-in-Ok-gen_line-clause-text : goal.returns-in-Ok-gen_line-clause-text
returns-in-Ok-gen_line-clause-text g c =
    let made = c.in-Ok.ensures.problem in
    record {
      those = made.those;
      stated = made.stated;
      facts = c.in-Ok-analysed_by.analysis.closed;
      graph = c.in-Ok-analysed_by.ensures.graph _ _ made.those made.problem;
      outcomes = c.in-Ok-analysed_by.analysis.outcomes;
      are = c.in-Ok-analysed_by.ensures.outcomes _ _ made.those made.problem;
      hold = c.in-Ok-analysed_by.ensures.runs _ _ made.those made.problem;
      is = c.in-Ok-gen_line.ensures;
    }
