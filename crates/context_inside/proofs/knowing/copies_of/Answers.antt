use Rattle.std.proofs.Common.{List, take, subst, sym}
use Rattle.abs_state.specs.Key.{compare}
use Rattle.context_bounds.proofs.Shapes.{keys_order}
use Rattle.context_inside.proofs.Copied.{copied_more}
use Rattle.context_inside.proofs.knowing.copies_of.Goals as goal
use Rattle.flow_core.proofs.StagingLemmas.{copy_none}
use Rattle.flow_core.specs.Staged.{IsCopy}
use Rattle.transfer_rules.specs.Fact.{Piece}

pub loop-key-init : goal.loop-key-init
loop-key-init c =
    subst (λ (copies : List Piece). IsCopy compare c.args.facts.now (take 0 c.args.keys.now) copies) (sym c.empty-copies.ensures.none)
    (copy_none compare keys_order c.args.facts.now c.args.keys.now)

pub loop-key-preserved : goal.loop-key-preserved
loop-key-preserved c =
    copied_more c.args.facts.now c.args.keys.now c.loop-key.key-index _ c.loop-key.copies c.copy_fact.new.copies c.loop-key-test.true c.loop-key.invariant
    c.in_ok-copy_fact.ensures
