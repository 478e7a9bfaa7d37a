use Rattle.std.proofs.Common.{List, All, sym, ◌∙◌, subst}
use Rattle.assert_bind.specs.Index.{CountsWithin}
use Rattle.assert_bind.specs.declared.body.LoopLine.{LoopLine}
use Rattle.assert_bind.proofs.BindingLemmas.{loops_within}
use Rattle.assert_bind.proofs.binding.Binding.loops.Goals as goal

pub returns-clause-within : goal.returns-clause-within
returns-clause-within c =
    subst (λ (l : List LoopLine). All CountsWithin l) (sym {A = List LoopLine} (c.deref.ensures.value ∙ c.self.invariant.looped))
    (loops_within c.self.inside.list.items c.self.invariant.sound.within)
