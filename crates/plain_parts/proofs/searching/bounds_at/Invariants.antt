use Rattle.std.proofs.Common.{◌≡◌, ◌++◌, Some, drop, map}
use Rattle.abs_state.specs.declared.key.Place.{Place}
use Rattle.plain_parts.proofs.searching.bounds_at.Given as goal
use Rattle.plain_parts.specs.Searched.{bound_at}

-- the bounds so far, and those still to be found
abbrev pub invariant-loop-place : goal.invariant-loop-place
invariant-loop-place l =
    l.bounds.items ++ map (λ (p : Place). Some (bound_at l.subs l.table p.next)) (drop l.place-index l.nodes)
    ≡ map (λ (p : Place). Some (bound_at l.subs l.table p.next)) l.nodes
