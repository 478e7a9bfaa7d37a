use Rattle.counted_runs.proofs.Assertions.{asserted_counts}
use Rattle.counted_runs.proofs.laws.asserted_counts_are_kept.Goals as goal

pub returns : goal.returns
returns c = asserted_counts
