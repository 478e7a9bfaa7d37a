use Rattle.std.proofs.Common.{sym, ◌∙◌, ap, subst, Vec, Global}
use Rattle.std.proofs.lemmas.Bool.{false≢true}
use Rattle.bt_image.specs.Values.{AreShared}
use Rattle.bt_image.proofs.RisingLemmas.{shared_added, shared_skipped}
use Rattle.bt_image.proofs.rising.shared.Goals as goal
use Rattle.bt_image.proofs.rising.shared.Goals.{then-has+in_ok-push, else-has}

pub loop-i-preserved : goal.loop-i-preserved
loop-i-preserved c =
    let xs = c.args.numbers.now in
    let ys = c.args.others.now in
    elim c.if-has.branch [
      | then-has+in_ok-push w ↦
          shared_added xs ys c.loop-i.found.items c.if-has.found.items c.loop-i.i c.requires.numbers c.loop-i-test.true (c.has.ensures.0 w.if-has.true)
          (ap (λ (v : Vec _ Global). v.items) w.found-is ∙ w.in_ok-push.ensures.items) c.loop-i.invariant
      | else-has w ↦
          (let q = ap (λ (v : Vec _ Global). v.items) w.found-is in
          subst (AreShared xs ys _) (sym q)
          (shared_skipped xs ys c.loop-i.found.items c.loop-i.i (λ has. false≢true (sym w.if-has.false ∙ c.has.ensures.1 has)) c.loop-i.invariant))
    ]
