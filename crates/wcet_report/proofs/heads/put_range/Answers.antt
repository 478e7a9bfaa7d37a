use Rattle.std.proofs.Common.{rules, append_assoc, append-nil}
use Rattle.wcet_report.proofs.heads.put_range.Goals as goal

pub returns : goal.returns
returns c = search (rules, append_assoc, append-nil)
