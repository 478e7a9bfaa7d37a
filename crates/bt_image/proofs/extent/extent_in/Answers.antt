use Rattle.std.proofs.Common.{subst}
use Rattle.bt_image.specs.Extent.{IsEnd}
use Rattle.bt_image.proofs.ExtentLemmas.{extent_from}
use Rattle.bt_image.proofs.extent.extent_in.Goals as goal

pub returns : goal.returns
returns c =
    let xs = c.args.addresses.now in
    let place = c.at_most-place.result in
    extent_from c.args.file.now c.args.a place c.start_from.result c.end_from.result c.code_section-s.result xs
    c.code_section-s.ensures.section c.code_section-s.ensures.low c.code_section-s.ensures.high c.requires.addresses
    c.at_most-place.ensures.within c.at_most-place.ensures.below c.at_most-place.ensures.above c.requires.rise
    c.start_from.ensures (subst (λ h. IsEnd xs place h c.end_from.result) c.end.ensures c.end_from.ensures)
