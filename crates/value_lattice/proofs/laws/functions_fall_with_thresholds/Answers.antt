use Rattle.value_lattice.proofs.FunctionLemmas.{least_of_falls, cover_falls, span_falls, join_falls}
use Rattle.value_lattice.proofs.laws.functions_fall_with_thresholds.Goals as goal

pub returns : goal.returns
returns c = record { least = least_of_falls; cover = cover_falls; span = span_falls; join = join_falls }
