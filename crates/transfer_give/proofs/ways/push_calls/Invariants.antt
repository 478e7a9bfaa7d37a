use Rattle.std.proofs.Common.{◌≡◌, ◌++◌, drop}
use Rattle.std.specs.List.{flat_map}
use Rattle.transfer_rules.specs.Give.{called_to}
use Rattle.transfer_give.proofs.ways.push_calls.Given as goal

abbrev pub invariant-loop-t : goal.invariant-loop-t
invariant-loop-t l =
    l.pieces.items ++ flat_map (called_to l.p l.s) (drop l.t-index l.targets) ≡ l.initial.pieces.items ++ flat_map (called_to l.p l.s) l.targets
