use Rattle.std.proofs.Common.{◌≡◌, ℕ, ◌<◌, ◌^◌, List, sym, subst, Contains}
use Rattle.std.proofs.lemmas.List.Elements.{All-from_get_or}
use Rattle.jump_resolve.proofs.TargetLemmas.{made_list}
use Rattle.jump_resolve.proofs.resolving.target_list.Goals as goal

pub returns-clause-list : goal.returns-clause-list
returns-clause-list c =
    let p = c.put_in_order.ensures in
    made_list c.args.image.now c.args.v.now c.args.candidates.now c.put_in_order.new.numbers.items
    (All-from_get_or (λ (a : ℕ). a < 2 ^ 32) c.args.candidates.now 0 (λ i h. (c.type_inv.candidates i).fits))
    p.rising
    (λ a there. p.keeps a (subst (λ (xs : List ℕ). Contains xs a) (sym c.in_ok-list.ensures) there))
    (λ a there. subst (λ (xs : List ℕ). Contains xs a) c.in_ok-list.ensures (p.adds_none a there))
