use Rattle.value_lattice.proofs.EndsLemmas.{AreEndsOfFirst}
use Rattle.value_lattice.proofs.ends.ends_of.Given as goal

abbrev pub invariant-loop-word : goal.invariant-loop-word
invariant-loop-word l = AreEndsOfFirst l.words l.word-index l.low l.high
