use Rattle.transfer_values.proofs.CodeLemmas.{source_is_value}
use Rattle.transfer_values.proofs.stepping.outcome_of.Goals as goal

pub returns-in-Some-2-clause-value : goal.returns-in-Some-2-clause-value
returns-in-Some-2-clause-value c =
    source_is_value c.args.t.now c.args.image.now c.args.before.now c.in-Some.w.source c.in_ok-source_value-in-Some.field-0 c.in-Some-2.value
    c.are_thresholds.ensures c.requires c.in_ok-source_value-in-Some.ensures c.in-Some-2.is
