use Rattle.abs_state.specs.Key.{compare}
use Rattle.callee_context.specs.Program.{setting_in}
use Rattle.callee_context.specs.Worklist.{GrowsTo}
use Rattle.context_order.specs.Opened.{AreLinks}
use Rattle.flow_system.specs.Facts.{fact_at}
use Rattle.callee_context.proofs.leading.links_of.Given as goal

abbrev pub invariant-loop-place : goal.invariant-loop-place
invariant-loop-place l = record {
  grows : GrowsTo (setting_in l.fn.program) l.fn.found l.found;
  links : AreLinks (setting_in l.fn.program) l.found l.fn.sub (fact_at compare l.fn.within.facts) l.fn.within.nodes.items l.place-index l.links.items;
}
