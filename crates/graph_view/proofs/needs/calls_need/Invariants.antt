use Rattle.std.proofs.Common.{◌≡◌, drop}
use Rattle.graph_view.proofs.needs.calls_need.Given as goal
use Rattle.graph_view.specs.Need.{call_need, entry_of, with_most}

-- the greatest so far, and what is still to be gone through
abbrev pub invariant-loop-calling : goal.invariant-loop-calling
invariant-loop-calling l =
    with_most l.most (call_need (entry_of l.subs l.table) (drop l.calling-index l.callings)) ≡ call_need (entry_of l.subs l.table) l.callings
