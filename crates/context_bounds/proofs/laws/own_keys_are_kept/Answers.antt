use Rattle.context_bounds.proofs.Kept.{own_keys_are_kept}
use Rattle.context_bounds.proofs.laws.own_keys_are_kept.Goals as goal

pub returns : goal.returns
returns c = own_keys_are_kept
