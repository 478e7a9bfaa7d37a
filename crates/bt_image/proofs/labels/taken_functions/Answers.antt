use Rattle.std.proofs.Common.{List, ℕ, arith, subst, sym}
use Rattle.bt_image.specs.Label.{AreExactly, IsCodeIn}
use Rattle.bt_image.specs.Section.{test_of}
use Rattle.bt_image.specs.declared.section.Access.TheVariants.{Loaded}
use Rattle.bt_image.proofs.LabelLemmas.{exactly_taken}
use Rattle.bt_image.proofs.labels.taken_functions.Goals as goal

pub returns : goal.returns
returns c =
    let file = c.args.file.now in
    exactly_taken file c.args.addresses.now c.deref.result.now c.in_ok-taken.taken.items _ c.requires.addresses
    (subst (λ (xs : List ℕ). AreExactly (IsCodeIn (test_of Loaded) file) xs) (sym c.deref.ensures.value) c.in_ok-values.ensures)
    (omega arith) c.in_ok-taken.ensures
