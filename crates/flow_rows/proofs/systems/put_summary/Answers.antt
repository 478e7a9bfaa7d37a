use Rattle.abs_state.specs.declared.key.Key.TheVariants.{Summary}
use Rattle.transfer_fns.specs.Setting.{rules_over}
use Rattle.transfer_rules.specs.declared.fact.Fact.TheVariants as fact
use Rattle.flow_rows.proofs.Facts.{effects_fit, written_fit}
use Rattle.flow_rows.proofs.systems.put_summary.Goals as goal

pub returns : goal.returns
returns c =
    let s = c.args.system.now in
    written_fit (rules_over s.thresholds s.image s.binding s.eight) c.args.facts.now c.put.new.self (Summary c.args.sub) (fact.Sum c.args.summary) c.requires
    (effects_fit s.thresholds c.args.sub c.args.summary c.has.ensures.mask) c.in_ok-put.ensures.written
