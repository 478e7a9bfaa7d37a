use Rattle.std.proofs.Common.{◌≡◌, true, Some, ap, ◌∙◌}
use Rattle.std.proofs.lemmas.Result.{IfOk-weaker}
use Rattle.transfer_rules.specs.Lawful.{is_over_or_none}
use Rattle.transfer_values.specs.Test.{tested}
use Rattle.transfer_values.proofs.TestLemmas.{always_is, when_is, tested_over}
use Rattle.transfer_values.proofs.testing.tested.Goals as goal

pub returns-in_ok-copy-in-Always-clause-value : goal.returns-in_ok-copy-in-Always-clause-value
returns-in_ok-copy-in-Always-clause-value c = ap Some c.in_ok-copy-in-Always.ensures ∙ always_is c.args.t.now c.args.test c.args.state.now c.in-Always.is

pub returns-in-When-clause-value : goal.returns-in-When-clause-value
returns-in-When-clause-value c =
    IfOk-weaker c.refined.result _ (λ r. r ≡ tested c.args.t.now c.args.test c.args.state.now)
    (λ r is. is ∙ when_is c.args.t.now c.args.test c.in-When.condition c.in-When.truth c.args.state.now c.in-When.is) c.refined.ensures

pub returns-in-When-clause-over : goal.returns-in-When-clause-over
returns-in-When-clause-over c =
    IfOk-weaker c.refined.result _ (λ r. is_over_or_none c.args.t.now r ≡ true)
    (λ r is. ap (is_over_or_none c.args.t.now) (is ∙ when_is c.args.t.now c.args.test c.in-When.condition c.in-When.truth c.args.state.now c.in-When.is)
    ∙ tested_over c.args.t.now c.args.test c.args.state.now c.are_thresholds.ensures c.requires) c.refined.ensures
