use Rattle.std.proofs.Common.{◌≡◌, ◌∙◌, Ok, Err, sym}
use Rattle.bt_command.proofs.Ones.{ones_read}
use Rattle.bt_command.specs.Generated.{ones}
use Rattle.bt_command.proofs.generating.ones.Goals as goal

pub unreachable-requires : goal.unreachable-requires
unreachable-requires c =
    let e : Err c.in-Err.field-0 ≡ Ok ones = sym c.in-Err.is ∙ (c.read.ensures ∙ ones_read) in
    cc

pub returns : goal.returns
returns c =
    let e : Ok c.in-Ok.cycles ≡ Ok ones = sym c.in-Ok.is ∙ (c.read.ensures ∙ ones_read) in
    cc
