use Rattle.wcet_report.proofs.Within.{report_has_roots}
use Rattle.wcet_report.proofs.laws.report_has_roots.Goals as goal

pub returns : goal.returns
returns c = report_has_roots
