use Rattle.std.proofs.Common.{ap, ◌∙◌}
use Rattle.transfer_rules.specs.Lawful.{is_over_or_none}
use Rattle.transfer_values.proofs.CodeLemmas.{stops_first, stops_second, goes_on}
use Rattle.transfer_values.proofs.StepLemmas.{stepped_over}
use Rattle.transfer_values.proofs.stepping.stepped.Goals as goal

pub returns-then-not-write-clause-value : goal.returns-then-not-write-clause-value
returns-then-not-write-clause-value c =
    stops_first c.args.t.now c.args.image.now c.args.step c.args.state c.in_ok-first.first c.write.result c.write.new.state c.in_ok-first.ensures.outcome
    c.write.ensures c.if-not-write.true

pub returns-then-not-write-2-clause-value : goal.returns-then-not-write-2-clause-value
returns-then-not-write-2-clause-value c =
    stops_second c.args.t.now c.args.image.now c.args.step c.args.state c.in_ok-first.first c.write.result c.write.new.state c.in_ok-first.ensures.outcome
    c.write.ensures c.in_ok-second.second c.write-2.result c.write-2.new.state c.if-not-write.false c.in_ok-second.ensures.outcome c.write-2.ensures
    c.if-not-write-2.true

pub returns-clause-value : goal.returns-clause-value
returns-clause-value c =
    goes_on c.args.t.now c.args.image.now c.args.step c.args.state c.in_ok-first.first c.write.result c.write.new.state c.in_ok-first.ensures.outcome
    c.write.ensures c.in_ok-second.second c.write-2.result c.write-2.new.state c.if-not-write.false c.in_ok-second.ensures.outcome c.write-2.ensures
    c.flag.new.state c.if-not-write-2.false c.flag.ensures

pub returns-clause-over : goal.returns-clause-over
returns-clause-over c =
    ap (is_over_or_none c.args.t.now) (goes_on c.args.t.now c.args.image.now c.args.step c.args.state c.in_ok-first.first c.write.result c.write.new.state
    c.in_ok-first.ensures.outcome c.write.ensures c.in_ok-second.second c.write-2.result c.write-2.new.state c.if-not-write.false c.in_ok-second.ensures.outcome
    c.write-2.ensures c.flag.new.state c.if-not-write-2.false c.flag.ensures)
    ∙ stepped_over c.args.t.now c.args.image.now c.args.step c.args.state c.are_thresholds.ensures c.requires
