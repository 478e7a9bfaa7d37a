use Rattle.std.proofs.Common.{ℕ, ℤ, ◌+ℤ◌, w64, ap, ◌∙◌}
use Rattle.std.proofs.lemmas.Int.{to_z-of_z}
use Rattle.value_lattice.specs.Order.{number_at}
use Rattle.context_outcomes.specs.Counting.{fits}
use Rattle.context_bounds.proofs.Changes.{high_decides, low_decides}
use Rattle.context_bounds.proofs.changing.ends_fit.Goals as goal

pub returns-then-stays : goal.returns-then-stays
returns-then-stays c =
    high_decides c.args.value.now c.args.k c.stays.result
    (c.stays.ensures
    ∙ (ap (λ (k : ℤ). fits (number_at c.ends-low.result.0 +ℤ k)) (to_z-of_z w64 c.args.k c.ranges.k)
    ∙ ap (λ (n : ℕ). fits (number_at n +ℤ c.args.k)) c.ends-low.ensures.low)) c.stays-then-stays.result c.if-stays.true
    (c.stays-then-stays.ensures
    ∙ (ap (λ (k : ℤ). fits (number_at c.ends-low.result.1 +ℤ k)) (to_z-of_z w64 c.args.k c.ranges.k)
    ∙ ap (λ (n : ℕ). fits (number_at n +ℤ c.args.k)) c.ends-low.ensures.high))

pub returns-else-stays : goal.returns-else-stays
returns-else-stays c =
    low_decides c.args.value.now c.args.k c.stays.result
    (c.stays.ensures
    ∙ (ap (λ (k : ℤ). fits (number_at c.ends-low.result.0 +ℤ k)) (to_z-of_z w64 c.args.k c.ranges.k)
    ∙ ap (λ (n : ℕ). fits (number_at n +ℤ c.args.k)) c.ends-low.ensures.low)) c.if-stays.false
