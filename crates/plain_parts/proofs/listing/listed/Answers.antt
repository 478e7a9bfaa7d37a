use Rattle.std.proofs.Common.{◌≡◌, ◌++◌, ℕ, List, Contains, ap, subst, sym, ◌∙◌}
use Rattle.std.specs.List.{flat_map}
use Rattle.assert_bind.specs.Binding.{roots}
use Rattle.plain_parts.proofs.listing.listed.Goals as goal
use Rattle.plain_parts.specs.Listed.{called_in, looked_into}

pub returns : goal.returns
returns c =
    let first : c.in_ok-roots.roots.items ≡ roots c.args.binding.now = c.in_ok-roots.ensures in
    let same : c.in_ok-subs.subs.items ≡ looked_into c.args.binding.now c.args.keys.now =
    c.in_ok-subs.ensures ∙ ap (λ (list : List ℕ). list ++ flat_map (called_in c.args.binding.now) c.args.keys.now) first in
    record {
      rising = c.put_in_order.ensures.rising;
      are = λ sub. (
        λ has. subst (λ (list : List ℕ). Contains list sub) same (c.put_in_order.ensures.adds_none sub has),
        λ has. c.put_in_order.ensures.keeps sub (subst (λ (list : List ℕ). Contains list sub) (sym same) has),
      );
    }
