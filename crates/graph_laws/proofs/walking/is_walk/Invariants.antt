-- The whole list is a walk exactly where what is left is one from the last node.
use Rattle.std.proofs.Common.{◌<◌, ◌↔◌, length, drop}
use Rattle.bt_base.specs.Graph.{is_edge}
use Rattle.graph_laws.specs.Walk.{IsWalk}
use Rattle.graph_laws.proofs.walking.is_walk.Given as goal

abbrev pub invariant-loop-next : goal.invariant-loop-next
invariant-loop-next l = record {
  node : l.last < length l.graph;
  rest : IsWalk (is_edge l.graph) l.fn.first l.rest ↔ IsWalk (is_edge l.graph) l.last (drop l.next-index l.rest);
}
