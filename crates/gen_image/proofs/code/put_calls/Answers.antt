use Rattle.gen_image.specs.Code.{call_code}
use Rattle.gen_image.proofs.Eaches.{grown}
use Rattle.gen_image.proofs.code.put_calls.Goals as goal

pub loop-k-preserved : goal.loop-k-preserved
loop-k-preserved c = grown (call_code c.args.n) _ _ _ _ c.loop-k.invariant c.in_ok-put_call.ensures
