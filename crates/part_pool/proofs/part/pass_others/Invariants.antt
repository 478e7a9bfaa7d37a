use Rattle.std.proofs.Common.{◌≡◌}
use Rattle.flow_core.specs.Core.{IsPart}
use Rattle.part_pool.specs.Part.{PassesOthers}
use Rattle.part_pool.proofs.part.pass_others.Given as goal

abbrev pub invariant-loop-turn : goal.invariant-loop-turn
invariant-loop-turn g l = record {
  part : IsPart g.S.Key.Ord.cmp (g.S.System.rules l.system) l.core;
  passed : PassesOthers g.S.Key.Ord.cmp (g.S.System.rules l.system) (λ k. g.S.Parted.part_of l.system k ≡ l.number) l.fn.core l.core;
}
