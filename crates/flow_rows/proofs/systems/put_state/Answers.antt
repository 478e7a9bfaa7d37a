use Rattle.abs_state.specs.declared.key.Key.TheVariants.{Node}
use Rattle.transfer_fns.specs.Setting.{rules_over}
use Rattle.transfer_rules.specs.declared.fact.Fact.TheVariants as fact
use Rattle.flow_rows.proofs.Facts.{state_fits, written_fit}
use Rattle.flow_rows.proofs.systems.put_state.Goals as goal

pub returns : goal.returns
returns c =
    let s = c.args.system.now in
    written_fit (rules_over s.thresholds s.image s.binding s.eight) c.args.facts.now c.put.new.self (Node c.args.p) (fact.State c.args.state) c.requires.fit
    (state_fits s.thresholds c.args.p c.args.state c.requires.depth c.requires.over) c.in_ok-put.ensures.written
