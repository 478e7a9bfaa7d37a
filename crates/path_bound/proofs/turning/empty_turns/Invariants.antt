use Rattle.std.proofs.Common.{◌≡◌, map, take}
use Rattle.path_bound.proofs.turning.empty_turns.Given as goal

-- the loops gone through have a turn each
abbrev pub invariant-loop-one : goal.invariant-loop-one
invariant-loop-one l = map (λ one. one.head) l.turns.items ≡ map (λ one. one.head) (take l.one-index l.loops)
