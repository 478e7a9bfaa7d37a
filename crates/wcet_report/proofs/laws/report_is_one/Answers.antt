use Rattle.wcet_report.proofs.ReportOnce.{report_is_one}
use Rattle.wcet_report.proofs.laws.report_is_one.Goals as goal

pub returns : goal.returns
returns c = report_is_one
