use Rattle.std.proofs.Common.{◌≡◌, ℕ, ◌%◌, List, sym, subst, Decides, Contains}
use Rattle.value_lattice.specs.Set.{IsSet}
use Rattle.value_lattice.specs.declared.value.Value.{Value}
use Rattle.jump_resolve.proofs.TargetLemmas.{whole_words, whole_any}
use Rattle.jump_resolve.specs.Target.{is_whole}
use Rattle.jump_resolve.proofs.resolving.is_whole.Goals as goal

pub returns-in-Words : goal.returns-in-Words
returns-in-Words c =
    let set : IsSet c.in-Words.words = c.members.ensures.set in
    let decides = subst (λ (ws : List ℕ). Decides c.has_each.result ((w : ℕ) → Contains ws w → w % 4 ≡ 0 → Contains c.args.list.now w))
    c.members.ensures.words c.has_each.ensures in
    subst (λ (v : Value). c.has_each.result ≡ is_whole v c.args.list.now) (sym c.in-Words.is)
    (whole_words c.in-Words.words c.args.list.now c.has_each.result set.fits decides)

pub returns-in-Ret : goal.returns-in-Ret
returns-in-Ret c =
    subst (λ (v : Value). c.has_between.result ≡ is_whole v c.args.list.now) (sym c.in-Ret.is)
    (whole_any c.args.list.now c.has_between.result c.has_between.ensures)
