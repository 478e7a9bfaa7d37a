use Rattle.std.proofs.Common.{subst}
use Rattle.bt_image.specs.Checked.{IsAccepted}
use Rattle.bt_image.proofs.image.Image.accepted.Goals as goal

pub returns : goal.returns
returns c = subst IsAccepted c.self.view_is c.self.invariant.accepted
