use Rattle.std.proofs.Common.{Contains, IsSome, subst, sym, refl, arith, ◌∙◌}
use Rattle.std.proofs.lemmas.List.{take_all}
use Rattle.flow_system.specs.Facts.{fact_at}
use Rattle.flow_core.proofs.WritingLemmas.{moving_same, moving_onward, there_more, taken_back, key_listed}
use Rattle.flow_core.proofs.writing.move_all_fresh.Goals as goal

pub loop-k-init : goal.loop-k-init
loop-k-init g c = record {
  moving = moving_same g.K.Ord.cmp c.args.facts.now c.args.risen.now c.requires.rise;
  whole = λ q. refl;
  there = λ q listed. absurd (omega (arith, listed.1));
}

pub loop-k-preserved : goal.loop-k-preserved
loop-k-preserved g c =
    let cmp = g.K.Ord.cmp in
    let inv = c.loop-k.invariant in
    let step = c.in-Ok.ensures in
    record {
      moving = moving_onward cmp c.args.facts.now c.args.risen.now c.loop-k.facts c.loop-k.risen c.move_fresh.new.facts
          c.move_fresh.new.risen inv.moving step.moves;
      whole = λ q. step.whole q ∙ inv.whole q;
      there = there_more cmp c.args.keys.now c.loop-k.k-index c.k-item.result c.loop-k.facts c.loop-k.risen c.move_fresh.new.facts c.move_fresh.new.risen
          c.loop-k-test.true c.k-item.is inv.there step.moves step.there;
    }

pub take_back-requires-clause-rise : goal.take_back-requires-clause-rise
take_back-requires-clause-rise g c = c.in-Err.ensures.moves.rise

pub returns-in-Err-clause-unchanged : goal.returns-in-Err-clause-unchanged
returns-in-Err-clause-unchanged g c =
    let cmp = g.K.Ord.cmp in
    taken_back cmp c.requires.order c.args.facts.now c.args.risen.now c.move_fresh.new.facts c.move_fresh.new.risen c.take_back.new.facts c.args.keys.now
    c.requires.rise c.take_back.ensures.rise c.requires.listed
    (moving_onward cmp c.args.facts.now c.args.risen.now c.loop-k.facts c.loop-k.risen c.move_fresh.new.facts c.move_fresh.new.risen c.loop-k.invariant.moving
    c.in-Err.ensures.moves) c.take_back.ensures.back

pub returns-clause-still : goal.returns-clause-still
returns-clause-still g c = λ q s.
    subst (λ list. Contains list q) (sym c.requires.listed)
    (key_listed g.K.Ord.cmp c.requires.order c.args.risen.now q (subst (λ o. IsSome o) (c.loop-k.invariant.moving.left q s).1 s))

pub returns-clause-there : goal.returns-clause-there
returns-clause-there g c = λ q s.
    let listed = subst (λ list. Contains list q) (sym c.requires.listed)
    (key_listed g.K.Ord.cmp c.requires.order c.args.risen.now q (subst (λ o. IsSome o) (c.loop-k.invariant.moving.left q s).1 s)) in
    c.loop-k.invariant.there q (subst (λ list. Contains list q) (sym (take_all c.loop-k.k-index c.args.keys.now c.loop-k-test.false)) listed) s

pub returns-clause-rise : goal.returns-clause-rise
returns-clause-rise g c = c.loop-k.invariant.moving.rise
