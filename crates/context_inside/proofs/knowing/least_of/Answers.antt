use Rattle.std.proofs.Common.{subst, sym}
use Rattle.abs_state.specs.Key.{compare}
use Rattle.abs_state.specs.declared.key.Key.{Key}
use Rattle.context_inside.proofs.Copied.{if_ok, least_copied, same_rules}
use Rattle.context_inside.proofs.knowing.least_of.Goals as goal
use Rattle.flow_system.specs.Rules.{Rules}
use Rattle.local_facts.specs.Restricted.{IsRestriction}
use Rattle.transfer_rules.specs.declared.fact.Fact.{Fact}

pub least_facts-requires : goal.least_facts-requires
least_facts-requires c =
    let same =
    same_rules c.using-using.result.thresholds c.args.thresholds c.using-using.result.system.now c.args.system.now
    c.using-using.ensures.thresholds c.using-using.ensures.system in
    subst (λ (r : Rules Key Fact). IsRestriction compare r c.args.starts.items c.args.keep.items c.args.fixed) (sym same) c.requires

pub returns-in-Ok : goal.returns-in-Ok
returns-in-Ok c =
    let same =
    same_rules c.using-using.result.thresholds c.args.thresholds c.using-using.result.system.now c.args.system.now
    c.using-using.ensures.thresholds c.using-using.ensures.system in
    if_ok c.copy_of.result c.copy_of.ensures
    (λ copies copied.
    least_copied _ _ c.args.starts.items c.args.keep.items c.args.fixed c.in-Ok.closed c.facts.result.now copies same c.facts.ensures copied
    c.in-Ok.ensures.least)
