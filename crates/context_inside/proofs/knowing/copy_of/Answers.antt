use Rattle.std.proofs.Common.{List, subst, ◌∙◌}
use Rattle.abs_state.specs.Key.{compare}
use Rattle.abs_state.specs.declared.key.Key.{Key}
use Rattle.context_inside.proofs.Copied.{copied_whole, if_ok}
use Rattle.context_inside.proofs.knowing.copy_of.Goals as goal
use Rattle.flow_core.specs.Staged.{IsCopy}

pub returns : goal.returns
returns c =
    if_ok c.copies_of.result c.copies_of.ensures
    (λ copies is.
    copied_whole c.args.facts.now copies
    (subst (λ (keys : List Key). IsCopy compare c.args.facts.now keys copies) (c.deref.ensures.value ∙ c.in_ok-keys.ensures.keys) is))
