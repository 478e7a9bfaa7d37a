use Rattle.std.proofs.Common.{refl, sym, ◌∙◌, ap, subst, Vec, Global, get_or}
use Rattle.bt_image.specs.NextCode.{IsCodeTable}
use Rattle.bt_image.specs.declared.section.Section.{Section}
use Rattle.bt_image.proofs.LoadingLemmas.{no_section}
use Rattle.bt_image.proofs.NextLemmas.{code_added, code_skipped, word_yes, word_no}
use Rattle.bt_image.proofs.next_code.code_table.Goals as goal
use Rattle.bt_image.proofs.next_code.code_table.Goals.{then-has_word+in_ok-push, else-has_word}

pub loop-i-preserved : goal.loop-i-preserved
loop-i-preserved c =
    let loaded = c.args.loaded.now in
    let s = get_or loaded c.loop-i.i no_section in
    elim c.if-has_word.branch [
      | then-has_word+in_ok-push w ↦
          (let p = word_yes s c.has_word.result c.has_word.ensures w.if-has_word.true in
          code_added loaded c.loop-i.table.items c.if-has_word.table.items c.loop-i.i s no_section c.requires c.loop-i-test.true refl p.0 p.1
          (ap (λ (v : Vec Section Global). v.items) w.table-is ∙ w.in_ok-push.ensures.items) c.loop-i.invariant)
      | else-has_word w ↦
          (let q = ap (λ (v : Vec Section Global). v.items) w.table-is in
          subst (IsCodeTable loaded _) (sym q)
          (code_skipped loaded c.loop-i.table.items c.loop-i.i s no_section c.loop-i-test.true refl
          (word_no s c.has_word.result c.has_word.ensures w.if-has_word.false) c.loop-i.invariant))
    ]
