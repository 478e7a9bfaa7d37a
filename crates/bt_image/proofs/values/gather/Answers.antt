use Rattle.std.proofs.Common.{◌+◌, sym, ◌∙◌, ap, subst, arith, get_or, List, ℕ, Bool, Vec, Global}
use Rattle.std.proofs.lemmas.List.{get_or_default}
use Rattle.bt_image.specs.Section.{test_of}
use Rattle.bt_image.specs.Values.{AreGathered}
use Rattle.bt_image.proofs.LoadingLemmas.{no_section}
use Rattle.bt_image.proofs.ValueLemmas.{more_gathered, skip_gathered, all_gathered}
use Rattle.bt_image.proofs.values.gather.Goals as goal
use Rattle.bt_image.proofs.values.gather.Goals.{then-admits+in_ok-note_section, else-admits}

pub loop-i-preserved : goal.loop-i-preserved
loop-i-preserved c =
    let test = test_of c.args.access in
    let file = c.args.file.now in
    let loaded = c.args.loaded.now in
    let i = c.loop-i.i in
    let s = get_or loaded i no_section in
    let at = get_or_default loaded i s no_section c.loop-i-test.true in
    elim c.if-admits.branch [
      | then-admits+in_ok-note_section w ↦
          (let marks = ap (λ (v : Vec Bool Global). v.items) w.seen-is in
          let values = ap (λ (v : Vec ℕ Global). v.items) w.found-is in
          let more = more_gathered c.args.access file loaded i s c.loop-i.seen.items w.note_section.new.seen.items
          c.loop-i.found.items w.note_section.new.found.items
          c.requires c.loop-i-test.true at (sym c.admits.ensures ∙ w.if-admits.true) c.loop-i.invariant w.in_ok-note_section.ensures in
          subst (λ (ms : List Bool). AreGathered test file loaded (i + 1) ms c.if-admits.found.items) (sym marks)
          (subst (λ (xs : List ℕ). AreGathered test file loaded (i + 1) w.note_section.new.seen.items xs) (sym values) more))
      | else-admits w ↦
          (let marks = ap (λ (v : Vec Bool Global). v.items) w.seen-is in
          let values = ap (λ (v : Vec ℕ Global). v.items) w.found-is in
          let more = skip_gathered test file loaded i s c.loop-i.seen.items c.loop-i.found.items c.loop-i-test.true at
          (sym c.admits.ensures ∙ w.if-admits.false) c.loop-i.invariant in
          subst (λ (ms : List Bool). AreGathered test file loaded (i + 1) ms c.if-admits.found.items) (sym marks)
          (subst (λ (xs : List ℕ). AreGathered test file loaded (i + 1) c.loop-i.seen.items xs) (sym values) more))
    ]

pub returns : goal.returns
returns c = all_gathered c.args.access c.args.file.now c.args.loaded.now c.loop-i.i c.loop-i.seen.items c.loop-i.found.items
    c.requires (omega arith) c.loop-i.invariant
