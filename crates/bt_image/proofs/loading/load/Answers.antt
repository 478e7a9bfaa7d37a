use Rattle.std.proofs.Common.{arith, ◌<◌, ◌≡◌, sym, ap, ◌∙◌, subst}
use Rattle.std.proofs.Common.{Vec, Global}
use Rattle.bt_image.specs.File.{section_count}
use Rattle.bt_image.specs.declared.section.Section.{Section}
use Rattle.bt_image.proofs.LoadingLemmas.{AreClear, step_added, step_skipped, step_refused, overlap-none}
use Rattle.bt_image.proofs.loading.load.Goals as goal
use Rattle.bt_image.proofs.loading.load.Goals.{then-is_loaded+in-Some+in_ok-insert-in-Some, else-is_loaded}

pub overlapping-requires-clause-found : goal.overlapping-requires-clause-found
overlapping-requires-clause-found c =
    let file = c.args.file.now in
    let lt : c.loop-n.n < section_count file = omega arith in
    step_refused file c.loop-n.n c.loop-n.table.items c.deref.result.now c.section-s.result lt
    (sym c.is_loaded.ensures ∙ c.if-is_loaded.true) c.section-s.ensures
    c.deref.ensures.value c.in-None.ensures c.loop-n.invariant.table

pub loop-n-preserved : goal.loop-n-preserved
loop-n-preserved c =
    let file = c.args.file.now in
    let lt : c.loop-n.n < section_count file = omega arith in
    elim c.if-is_loaded.branch [
      | then-is_loaded+in-Some+in_ok-insert-in-Some w ↦
          (let p = step_added file c.loop-n.n w.in-Some.place c.loop-n.table.items w.deref.result.now c.if-is_loaded.table.items
          c.section-s.result c.requires.sound lt
          (sym c.is_loaded.ensures ∙ w.if-is_loaded.true) c.section-s.ensures w.deref.ensures.value w.in-Some.ensures
          (ap (λ (v : Vec Section Global). v.items) w.table-is ∙ w.in_ok-insert-in-Some.ensures.items) c.loop-n.invariant.table c.loop-n.invariant.clear in
          record { table = p.0; clear = p.1 })
      | else-is_loaded w ↦
          (let p = step_skipped file c.loop-n.n c.loop-n.table.items c.if-is_loaded.table.items c.section-s.result
          (sym c.is_loaded.ensures ∙ w.if-is_loaded.false) c.section-s.ensures
          (ap (λ (v : Vec Section Global). v.items) w.table-is) c.loop-n.invariant.table c.loop-n.invariant.clear in
          record { table = p.0; clear = p.1 })
    ]

pub returns-clause-step : goal.returns-clause-step
returns-clause-step c =
    let file = c.args.file.now in
    let e : c.loop-n.n ≡ section_count file = omega arith in
    overlap-none file (subst (AreClear file) e c.loop-n.invariant.clear)
