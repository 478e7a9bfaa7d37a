use Rattle.std.proofs.Common.{◌≡◌, ◌++◌, drop, map}
use Rattle.abs_state.specs.State.{entry_state}
use Rattle.abs_state.specs.declared.key.Key.TheVariants.{Node}
use Rattle.transfer_rules.specs.Give.{entry_of}
use Rattle.transfer_rules.specs.declared.fact.Fact.TheVariants.{State}
use Rattle.transfer_give.proofs.starting.push_roots.Given as goal

abbrev pub invariant-loop-root : goal.invariant-loop-root
invariant-loop-root l =
    l.pieces.items ++ map (λ root. (Node (entry_of root), State entry_state)) (drop l.root-index l.roots)
    ≡ l.initial.pieces.items ++ map (λ root. (Node (entry_of root), State entry_state)) l.roots
