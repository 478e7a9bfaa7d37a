use Rattle.wcet_report.proofs.Tellings.{report_tells}
use Rattle.wcet_report.proofs.laws.report_tells.Goals as goal

pub returns : goal.returns
returns c = report_tells
