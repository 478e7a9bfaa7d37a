use Rattle.value_lattice.proofs.RankLemmas.{height_or_back, heights_rise, lists_are_same, heights_bound}
use Rattle.value_lattice.proofs.laws.heights_of_lists_rise.Goals as goal

pub returns : goal.returns
returns c = record { one = height_or_back; rise = heights_rise; same = lists_are_same; bound = heights_bound }
