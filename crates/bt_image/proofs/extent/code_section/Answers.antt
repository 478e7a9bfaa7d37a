use Rattle.std.proofs.Common.{IsSome, refl, sym, ◌∙◌, subst}
use Rattle.bt_image.proofs.ExtentLemmas.{code_holder}
use Rattle.bt_image.proofs.extent.code_section.Goals as goal

pub unwrap-requires : goal.unwrap-requires
unwrap-requires c =
    let p = code_holder c.args.file.now c.args.a c.args.loaded.now c.holder.result c.requires.loaded c.holder.ensures c.requires.code in
    subst IsSome (sym p.1) refl

pub returns-clause-section : goal.returns-clause-section
returns-clause-section c =
    let p = code_holder c.args.file.now c.args.a c.args.loaded.now c.holder.result c.requires.loaded c.holder.ensures c.requires.code in
    p.2 ∙ sym p.1 ∙ c.unwrap.ensures
