use Rattle.value_refine.specs.Region.{IsInRegion}
use Rattle.value_refine.proofs.RefineLemmas.{IsChosen}
use Rattle.value_refine.proofs.restricting.in_region.Given as goal

abbrev pub invariant-loop-word : goal.invariant-loop-word
invariant-loop-word l = IsChosen (IsInRegion l.region) l.words l.kept.items l.word-index
