use Rattle.value_refine.proofs.RefineFunctions.{refine_is, refine_one, within_is, within_one}
use Rattle.value_refine.proofs.laws.refine_is_one.Goals as goal

pub returns : goal.returns
returns c = record { refine_is = refine_is; refine_one = refine_one; within_is = within_is; within_one = within_one }
