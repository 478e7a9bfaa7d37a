use Rattle.std.proofs.Common.{List, [], take, subst, sym}
use Rattle.std.proofs.lemmas.List.{take_more}
use Rattle.abs_state.specs.declared.key.Key.{Key as AnyKey}
use Rattle.context_bounds.specs.Copies.{AreCopies}
use Rattle.context_bounds.proofs.Copied.{copied_nothing}
use Rattle.context_bounds.proofs.fixing.summaries_of.Goals as goal
use Rattle.transfer_rules.specs.Fact.{Piece}

pub loop-key-init : goal.loop-key-init
loop-key-init c = subst (λ (fixed : List Piece). AreCopies c.args.whole.now fixed []) (sym c.empty-fixed.ensures.none) (copied_nothing c.args.whole.now)

pub loop-key-preserved : goal.loop-key-preserved
loop-key-preserved c =
    subst (λ (keys : List AnyKey). AreCopies c.args.whole.now c.copy_called.new.fixed keys)
    (sym (take_more c.args.keys.now c.loop-key.key-index _ c.loop-key-test.true))
    (c.in_ok-copy_called.ensures (take c.loop-key.key-index c.args.keys.now) c.loop-key.invariant)
