use Rattle.std.proofs.Common.{◌<◌, sym, ap, ◌∙◌, eq-eqb, arith}
use Rattle.std.specs.Prelude.{◌==◌}
use Rattle.bt_image.specs.File.{section_count}
use Rattle.bt_image.specs.Section.{section_at}
use Rattle.bt_image.specs.declared.section.Section.{Section}
use Rattle.bt_image.proofs.LeastLemmas.{first_passing-here}
use Rattle.bt_image.proofs.headers.symbol_table.Goals as goal

pub returns-then-section-eq-SHT_SYMTAB-clause-value : goal.returns-then-section-eq-SHT_SYMTAB-clause-value
returns-then-section-eq-SHT_SYMTAB-clause-value c =
    let file = c.args.file.now in
    let kind = sym (ap (λ (s : Section). s.kind) c.section.ensures) ∙ c.if-section-eq-SHT_SYMTAB.true in
    let lt : c.loop-n.n < section_count file = omega arith in
    sym (first_passing-here (λ n. (section_at file n).kind == 2) c.loop-n.n (section_count file) lt c.loop-n.invariant (eq-eqb _ 2 kind))
