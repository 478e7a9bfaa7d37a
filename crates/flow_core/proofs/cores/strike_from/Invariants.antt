use Rattle.std.proofs.Common.{◌≡◌, ℕ, ◌<◌, false, get_or, is_eq}
use Rattle.flow_core.proofs.cores.strike_from.Given as goal

abbrev pub invariant-loop-place : goal.invariant-loop-place
invariant-loop-place g l = record {
  same : l.out.items ≡ l.fn.out.items;
  before : (j : ℕ) (d : _) → j < l.place → is_eq (g.K.Ord.cmp l.k (get_or l.out.items j d)) ≡ false;
}
