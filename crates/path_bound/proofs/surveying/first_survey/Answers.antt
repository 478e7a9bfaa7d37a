use Rattle.std.proofs.Common.{ℕ, Option, None, List, length, sym, ap, subst, ◌∙◌}
use Rattle.std.proofs.lemmas.List.{length-replicate}
use Rattle.bt_base.specs.Graph.{has, is_edge}
use Rattle.path_bound.specs.declared.choosing.Label.{Label}
use Rattle.path_bound.specs.Places.{loops_in}
use Rattle.path_bound.specs.Ranked.{IsOrder}
use Rattle.path_bound.specs.Turned.{task_of}
use Rattle.path_bound.proofs.Begun.{no_labels_yet, turned_none}
use Rattle.path_bound.proofs.Stepped.{steps_within}
use Rattle.path_bound.proofs.surveying.first_survey.Goals as goal

pub returns : goal.returns
returns c =
    let steps = c.in_ok-steps.ensures {u = tt} in
    record {
      nodes = c.in_ok-all.all.items;
      are_nodes = c.in_ok-all.ensures {u = tt};
      sorted = subst (λ (l : List ℕ). IsOrder (is_edge c.args.graph.now) (loops_in c.args.loops.now) (has l) c.in_ok-order.order.items)
          c.deref-2.ensures.value (c.in_ok-order.ensures {u = tt}).order;
      placed = (c.in_ok-places.ensures {u = tt}).places;
      size = (c.in_ok-places.ensures {u = tt}).count ∙ c.count.ensures.count;
      rows = steps;
      sizes = record {
        costs = sym c.args.costs.now.node.ok.0 ∙ c.requires.costs;
        rows = steps.count;
        lapped = ap (λ (l : List ℕ). length l) (c.in_ok-laps.ensures {u = tt}) ∙ (length-replicate c.count-3.result 0 ∙ c.count-3.ensures.count);
        marked = ap (λ (l : List (Option Label)). length l) (c.in_ok-labels.ensures {u = tt})
            ∙ (length-replicate c.count-4.result None ∙ c.count-4.ensures.count);
        within = steps_within c.args.graph.now _ c.in_ok-steps.steps.items c.count.ensures.graph.within steps;
      };
      ready = (c.in_ok-order.ensures {u = tt}).ready;
      none = no_labels_yet c.count-4.result c.in_ok-labels.labels.items (c.in_ok-labels.ensures {u = tt});
      turned = turned_none (task_of c.args.graph.now c.args.loops.now c.args.bounds.now c.args.costs.now) c.args.loops.now c.in_ok-order.order.items
          c.count-3.result c.in_ok-laps.laps.items c.in_ok-turns.turns.items
          (c.in_ok-laps.ensures {u = tt}) (c.in_ok-turns.ensures {u = tt});
    }
