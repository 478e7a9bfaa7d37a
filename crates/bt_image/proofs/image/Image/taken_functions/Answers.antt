use Rattle.std.proofs.Common.{List, ℕ, Contains, sym, subst}
use Rattle.bt_image.specs.Label.{IsTaken}
use Rattle.bt_image.proofs.image.Image.taken_functions.Goals as goal

pub returns-clause-all : goal.returns-clause-all
returns-clause-all c = λ a is.
    subst (λ (xs : List ℕ). Contains xs a) (sym c.deref.ensures.value)
    (c.self.invariant.pointers.all a (subst (λ (file : List ℕ). IsTaken file a) (sym c.self.view_is) is))
