use Rattle.std.proofs.Common.{◌<◌, sym, arith}
use Rattle.bt_image.specs.File.{section_count}
use Rattle.bt_image.specs.Refusal.{overlap}
use Rattle.bt_image.proofs.LeastLemmas.{first_of-here}
use Rattle.bt_image.proofs.sections.overlap_with.Goals as goal

pub returns-in-Some : goal.returns-in-Some
returns-in-Some c =
    let file = c.args.file.now in
    let lt : c.loop-b.b < section_count file = omega arith in
    sym (first_of-here (overlap file c.args.a) c.loop-b.b (section_count file) c.in-Some.refusal lt c.loop-b.invariant (sym c.in-Some.ensures))
