use Rattle.std.proofs.Common.{◌<◌, sym, arith}
use Rattle.bt_image.specs.File.{section_count}
use Rattle.bt_image.specs.Least.{first_of}
use Rattle.bt_image.specs.Refusal.{overlap, overlap_refusal}
use Rattle.bt_image.proofs.LeastLemmas.{first_of-here}
use Rattle.bt_image.proofs.sections.first_overlap.Goals as goal

pub returns-in-Some : goal.returns-in-Some
unfolding overlap_refusal
returns-in-Some c =
    let file = c.args.file.now in
    let lt : c.loop-a.a < section_count file = omega arith in
    sym (first_of-here (λ a. first_of (overlap file a) (section_count file)) c.loop-a.a
    (section_count file) c.in-Some.refusal lt c.loop-a.invariant (sym c.in-Some.ensures))
