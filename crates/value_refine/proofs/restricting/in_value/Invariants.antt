use Rattle.value_lattice.specs.Value.{MayHave}
use Rattle.value_refine.proofs.RefineLemmas.{IsChosen}
use Rattle.value_refine.proofs.restricting.in_value.Given as goal

abbrev pub invariant-loop-word : goal.invariant-loop-word
invariant-loop-word l = IsChosen (MayHave l.v) l.words l.kept.items l.word-index
