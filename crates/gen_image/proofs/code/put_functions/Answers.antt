use Rattle.gen_image.specs.Code.{function_code}
use Rattle.gen_image.proofs.Eaches.{grown}
use Rattle.gen_image.proofs.code.put_functions.Goals as goal

pub loop-k-preserved : goal.loop-k-preserved
loop-k-preserved c = grown (λ k. function_code) _ _ _ _ c.loop-k.invariant c.in_ok-put_function.ensures
