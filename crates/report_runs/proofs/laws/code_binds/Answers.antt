use Rattle.report_runs.proofs.Targets.{code_binds}
use Rattle.report_runs.proofs.laws.code_binds.Goals as goal

pub returns : goal.returns
returns c = code_binds
