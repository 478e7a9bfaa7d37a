use Rattle.std.proofs.Common.{[], ◌∷◌}
use Rattle.gen_image.specs.Name.{function_name}
use Rattle.gen_image.proofs.Eaches.{grown}
use Rattle.gen_image.proofs.names.names_before.Goals as goal

pub loop-k-preserved : goal.loop-k-preserved
loop-k-preserved c = grown function_name (0 ∷ []) _ _ _ c.loop-k.invariant c.in_ok-put_name.ensures
