use Rattle.std.proofs.Common.{◌≡◌, map, subst, sym}
use Rattle.std.specs.Prelude.{Contains}
use Rattle.graph_view.proofs.subs.subs_of.Goals as goal
use Rattle.graph_view.specs.Subs.{place_sub}

pub returns : goal.returns
returns c =
    let owners : c.in_ok-subs.subs.items ≡ map place_sub c.args.places.now = c.in_ok-subs.ensures in
    record {
      rising = c.put_in_order.ensures.rising;
      has = λ sub has. subst (λ list. Contains list sub) owners (c.put_in_order.ensures.adds_none sub has);
      all = λ sub has. c.put_in_order.ensures.keeps sub (subst (λ list. Contains list sub) (sym owners) has);
    }
