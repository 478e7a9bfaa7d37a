use Rattle.std.proofs.Common.{◌≡◌, ℕ, arith, subst, Decides, Contains}
use Rattle.value_lattice.specs.Order.{word_at}
use Rattle.jump_resolve.proofs.TargetLemmas.{lacks, one_more}
use Rattle.jump_resolve.proofs.resolving.has_between.Goals as goal

pub loop-q-preserved : goal.loop-q-preserved
loop-q-preserved c =
    one_more c.args.list.now c.args.low c.loop-q.q c.has-found.result c.if-not-found.false
    (subst (λ (w : ℕ). Decides c.has-found.result (Contains c.args.list.now w)) c.word_at_place.ensures c.has-found.ensures)
    c.loop-q.invariant

pub returns-then-not-found : goal.returns-then-not-found
returns-then-not-found c =
    let h = c.if-not-found in
    let s = c.quarter_above-first.ensures.above in
    let a = c.loop-q.auto.q in
    lacks c.args.list.now c.args.low c.args.high c.loop-q.q c.has-found.result c.if-not-found.true
    (subst (λ (w : ℕ). Decides c.has-found.result (Contains c.args.list.now w)) c.word_at_place.ensures c.has-found.ensures)
    (omega arith)
    (omega arith)
