use Rattle.std.proofs.Common.{◌+◌, ℕ, List, add-zero, take, get_or, sym, ap}
use Rattle.std.proofs.lemmas.List.{take_all}
use Rattle.path_bound.specs.Capped.{cap}
use Rattle.path_bound.specs.Places.{extra_at, extra_of}
use Rattle.path_bound.proofs.Stepped.{steps_same, one_extra}
use Rattle.path_bound.proofs.stepping.add_extras.Goals as goal

pub loop-from-preserved : goal.loop-from-preserved
loop-from-preserved c = record {
  rows = c.add_extra.ensures.rows;
  added = λ f are. steps_same c.args.graph.now
      (λ n m. cap (f n m + extra_of (take c.loop-from.from-index c.args.extra.now) n m + extra_at
      (get_or c.args.extra.now c.loop-from.from-index (0, 0, 0)) n m))
      (λ n m. cap (f n m + extra_of (take (c.loop-from.from-index + 1) c.args.extra.now) n m)) c.add_extra.new.rows
      (λ n m. one_extra (f n m) c.args.extra.now c.loop-from.from-index n m (0, 0, 0) c.loop-from-test.true)
      (c.add_extra.ensures.added (λ n m. f n m + extra_of (take c.loop-from.from-index c.args.extra.now) n m) (c.loop-from.invariant.added f are));
}

pub returns : goal.returns
returns c = λ f are. steps_same c.args.graph.now (λ n m. cap (f n m + extra_of (take c.loop-from.from-index c.args.extra.now) n m))
    (λ n m. cap (f n m + extra_of c.args.extra.now n m)) c.loop-from.rows
    (λ n m. ap (λ (x : List (ℕ × ℕ × ℕ)). cap (f n m + extra_of x n m)) (take_all c.loop-from.from-index c.args.extra.now c.loop-from-test.false))
    (c.loop-from.invariant.added f are)

pub loop-from-init : goal.loop-from-init
loop-from-init c = record {
  rows = c.requires;
  added = λ f are. steps_same c.args.graph.now (λ n m. cap (f n m)) (λ n m. cap (f n m + 0)) c.args.rows.now
      (λ n m. ap (λ (x : ℕ). cap x) (sym (add-zero (f n m)))) are;
}
