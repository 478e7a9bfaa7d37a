use Rattle.std.proofs.Common.{◌<◌, sym, ap, ◌∙◌, arith}
use Rattle.bt_image.specs.File.{section_count}
use Rattle.bt_image.specs.Refusal.{section_fault, sections_refusal}
use Rattle.bt_image.specs.Least.{first_of}
use Rattle.bt_image.proofs.LeastLemmas.{first_of-here}
use Rattle.bt_image.proofs.sections.check_sections.Goals as goal

pub returns-in-Some : goal.returns-in-Some
unfolding sections_refusal
returns-in-Some c =
    let file = c.args.file.now in
    let lt : c.loop-n.n < section_count file = omega arith in
    ap (λ t. first_of (section_fault file t) (section_count file)) (sym c.requires.table)
    ∙ first_of-here (section_fault file c.args.table) c.loop-n.n (section_count file) c.in-Some.refusal lt c.loop-n.invariant (sym c.in-Some.ensures)
