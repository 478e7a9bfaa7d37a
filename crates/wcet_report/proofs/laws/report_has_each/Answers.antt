use Rattle.wcet_report.proofs.Within.{report_has_each}
use Rattle.wcet_report.proofs.laws.report_has_each.Goals as goal

pub returns : goal.returns
returns c = report_has_each
