use Rattle.std.proofs.Common.{◌≡◌, ◌==◌, ◌&&◌, not, false, take}
use Rattle.std.specs.List.{list_any}
use Rattle.path_bound.specs.Blamed.{is_marked}
use Rattle.path_bound.proofs.blaming.is_innermost.Given as goal

-- no other node gone through is marked
abbrev pub invariant-loop-node : goal.invariant-loop-node
invariant-loop-node l = list_any (λ n. not (n == l.one.head) && is_marked l.large n) (take l.node-index l.one.body.items) ≡ false
