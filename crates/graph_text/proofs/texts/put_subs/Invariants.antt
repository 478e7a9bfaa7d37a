use Rattle.std.proofs.Common.{◌≡◌, ◌++◌, drop}
use Rattle.std.specs.List.{flat_map}
use Rattle.graph_text.proofs.texts.put_subs.Given as goal
use Rattle.graph_text.specs.Text.{whole_text}

-- what is appended so far, and what is still to be appended
abbrev pub invariant-loop-sub : goal.invariant-loop-sub
invariant-loop-sub l =
    l.text.items ++ flat_map (whole_text l.image l.returning l.lists) (drop l.sub-index l.subs)
    ≡ l.initial.text.items ++ flat_map (whole_text l.image l.returning l.lists) l.subs
