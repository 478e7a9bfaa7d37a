use Rattle.std.proofs.Common.{◌==◌, ◌&&◌, ◌||◌, ℕ, Bool, not, sym, ap, ◌∙◌}
use Rattle.call_effects.specs.Mask.{has_cell}
use Rattle.call_effects.proofs.MaskLemmas.{has-with, has-union}
use Rattle.counter_bound.specs.Body.{adds_outside, spoils}
use Rattle.counter_bound.specs.declared.change.Change.{Change}
use Rattle.counter_bound.proofs.touching.touch.Goals as goal

pub returns-then-inner-clause-spoilt : goal.returns-then-inner-clause-spoilt
returns-then-inner-clause-spoilt c = λ k.
    ap (λ (m : ℕ). has_cell m k) c.with.ensures.cells
    ∙ (has-with c.args.touched.spoilt c.in-Add.cell k
    ∙ ap (λ (b : Bool). has_cell c.args.touched.spoilt k || b)
    (sym (ap (λ (x : Change). spoils x c.args.inner k) c.in-Add.is ∙ ap (λ (b : Bool). b && (k == c.in-Add.cell)) c.if-inner.true)))

pub returns-else-inner-clause-adds : goal.returns-else-inner-clause-adds
returns-else-inner-clause-adds c = λ k.
    ap (λ (m : ℕ). has_cell m k) c.with-else-inner.ensures.cells
    ∙ (has-with c.args.touched.adds c.in-Add.cell k
    ∙ ap (λ (b : Bool). has_cell c.args.touched.adds k || b)
    (sym (ap (λ (x : Change). adds_outside x c.args.inner k) c.in-Add.is ∙ ap (λ (b : Bool). not b && (k == c.in-Add.cell)) c.if-inner.false)))

pub returns-in-Other-clause-spoilt : goal.returns-in-Other-clause-spoilt
returns-in-Other-clause-spoilt c = λ k.
    ap (λ (m : ℕ). has_cell m k) c.join.ensures.cells
    ∙ (has-union c.args.touched.spoilt c.in-Other.mask k
    ∙ ap (λ (b : Bool). has_cell c.args.touched.spoilt k || b) (sym (ap (λ (x : Change). spoils x c.args.inner k) c.in-Other.is)))
