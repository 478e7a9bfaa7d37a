use Rattle.wcet_report.proofs.Within.{report_has_reasons}
use Rattle.wcet_report.proofs.laws.report_has_reasons.Goals as goal

pub returns : goal.returns
returns c = report_has_reasons
