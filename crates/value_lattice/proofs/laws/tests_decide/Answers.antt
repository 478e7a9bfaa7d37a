use Rattle.value_lattice.proofs.TestLemmas.{value_decides, over_decides, at_most_decides, may_have_decides}
use Rattle.value_lattice.proofs.laws.tests_decide.Goals as goal

pub returns : goal.returns
returns c = record { value = value_decides; over = over_decides; order = at_most_decides; words = may_have_decides }
