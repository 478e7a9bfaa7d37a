use Rattle.std.proofs.Common.{◌≡◌, ◌+◌, ◌++◌, [], ◌∷◌, List, length, ap, ◌∙◌, arith}
use Rattle.std.proofs.lemmas.List.{length-append}
use Rattle.graph_view.proofs.Keyed.{details_more}
use Rattle.graph_view.proofs.details.details_of_all.Goals as goal
use Rattle.graph_view.specs.Details.{shown}
use Rattle.graph_view.specs.declared.details.Details.{Details}

pub loop-sub-preserved : goal.loop-sub-preserved
loop-sub-preserved c =
    let items : c.push.new.self.items ≡ c.loop-sub.all.items ++ c.in_ok-details.details ∷ [] = c.in_ok-push.ensures.items in
    let count : length c.loop-sub.all.items ≡ c.loop-sub.sub-index = omega (arith, c.loop-sub.invariant.count, c.loop-sub.all.ok.0) in
    let size : length c.push.new.self.items ≡ length c.loop-sub.all.items + 1 =
    ap (λ (l : List Details). length l) items ∙ length-append c.loop-sub.all.items (c.in_ok-details.details ∷ []) in
    record {
      count = omega (arith, size, count, c.push.new.self.ok.0);
      each = details_more (shown c.args.lists.now) c.args.subs.now c.loop-sub.all.items c.push.new.self.items c.in_ok-details.details c.loop-sub.sub-index count
          c.loop-sub.invariant.each c.in_ok-details.ensures items;
    }
