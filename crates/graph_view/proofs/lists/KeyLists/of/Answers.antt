use Rattle.graph_view.proofs.Owners.{by_owner_from}
use Rattle.graph_view.proofs.lists.KeyLists.of.Goals as goal

pub returns-clause-owned : goal.returns-clause-owned
returns-clause-owned c =
    by_owner_from c.args.keys.now _ c.requires (record {
      places = c.in_ok-places.ensures;
      steps = c.in_ok-steps.ensures;
      callings = c.in_ok-callings.ensures;
      opens = c.in_ok-opens.ensures;
    })
