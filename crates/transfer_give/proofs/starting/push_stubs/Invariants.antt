use Rattle.std.proofs.Common.{◌≡◌, ◌++◌, drop, map}
use Rattle.abs_state.specs.declared.key.Key.TheVariants.{Summary}
use Rattle.call_effects.specs.Summary.{effects_of_stub}
use Rattle.transfer_rules.specs.declared.fact.Fact.TheVariants.{Sum}
use Rattle.transfer_give.proofs.starting.push_stubs.Given as goal

abbrev pub invariant-loop-stub : goal.invariant-loop-stub
invariant-loop-stub l =
    l.pieces.items ++ map (λ stub. (Summary stub, Sum effects_of_stub)) (drop l.stub-index l.stubs)
    ≡ l.initial.pieces.items ++ map (λ stub. (Summary stub, Sum effects_of_stub)) l.stubs
