use Rattle.std.proofs.Common.{◌≡◌, ◌+◌, ◌<◌, ◌++◌, ◌∷◌, [], ℕ, Some, List, length, sym, ap, subst, ◌∙◌, arith}
use Rattle.path_bound.specs.Choosing.{label_at, next_of}
use Rattle.path_bound.specs.Ranked.{rank_in}
use Rattle.path_bound.proofs.Passed.{IsOnWay, way_begun, way_on, way_done}
use Rattle.path_bound.proofs.following.follow.Goals as goal

pub loop-step-init : goal.loop-step-init
loop-step-init c = record {
  way = way_begun c.args.labels.now c.args.from c.push.new.self.items
      ((c.in_ok-push.ensures {u = tt}).items ∙ ap (λ (x : List ℕ). x ++ c.args.from ∷ []) c.new-walk.ensures.items);
  within = c.requires.from;
  low = omega (arith, c.requires.placed);
}

pub loop-step-preserved : goal.loop-step-preserved
loop-step-preserved c =
    let e : next_of (label_at c.args.labels.now c.loop-step.node) ≡ Some c.in-Some.next = sym c.in-Some.ensures in
    let l : rank_in c.args.order.now c.in-Some.next < rank_in c.args.order.now c.loop-step.node = c.requires.falls c.loop-step.node c.in-Some.next e in
    let k : rank_in c.args.order.now c.loop-step.node + c.loop-step._step < length c.args.order.now = c.loop-step.invariant.low in
    record {
      way = subst (λ (x : List ℕ). IsOnWay c.args.labels.now c.args.from x c.in-Some.next) (sym ((c.in_ok-push-in-Some.ensures {u = tt}).items))
          (way_on c.args.labels.now c.args.from c.loop-step.node c.in-Some.next c.loop-step.walk.items c.loop-step.invariant.way e);
      within = c.requires.within c.loop-step.node c.in-Some.next e;
      low = omega (arith, l, k);
    }

pub returns-in-None : goal.returns-in-None
returns-in-None c = way_done c.args.labels.now c.args.from c.loop-step.node c.loop-step.walk.items c.loop-step.invariant.way (sym c.in-None.ensures)

pub returns : goal.returns
returns c = let k : rank_in c.args.order.now c.loop-step.node + c.loop-step._step < length c.args.order.now =
    c.loop-step.invariant.low in absurd (omega (arith, k, c.loop-step-test.false))
