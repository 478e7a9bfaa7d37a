use Rattle.callee_context.proofs.Growing.{among}
use Rattle.callee_context.proofs.collecting.open_one.Goals as goal

pub links_of-requires-clause-caller : goal.links_of-requires-clause-caller
links_of-requires-clause-caller c = record {
  context = c.get-one.result.now.1;
  needed = c.requires.found.needed c.get-one.result.now (among c.args.found.now c.args.number c.get-one.result.now c.get-one.ensures);
  inside = c.in_ok-within.ensures {u = tt};
}
