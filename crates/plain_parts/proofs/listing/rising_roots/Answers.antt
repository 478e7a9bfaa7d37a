use Rattle.std.proofs.Common.{◌≡◌, ℕ, List, Contains, subst, sym}
use Rattle.assert_bind.specs.Binding.{roots}
use Rattle.plain_parts.proofs.listing.rising_roots.Goals as goal

pub returns-clause-roots : goal.returns-clause-roots
returns-clause-roots c =
    let same : c.in_ok-list.list.items ≡ roots c.args.binding.now = c.in_ok-list.ensures in
    λ sub. (
      λ has. subst (λ (list : List ℕ). Contains list sub) same (c.put_in_order.ensures.adds_none sub has),
      λ has. c.put_in_order.ensures.keeps sub (subst (λ (list : List ℕ). Contains list sub) (sym same) has),
    )
