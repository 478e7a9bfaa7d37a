-- The part of the graph that a key belongs to, where workers grow it.
use Rattle.std.specs.Prelude.{ℕ, ◌<◌, ◌/◌, ◌%◌}
use Rattle.std.proofs.Common.{arith}
use Rattle.std.proofs.lemmas.Nat.{mod_below}
use Rattle.abs_state.specs.declared.key.Key.{Key}
use Rattle.abs_state.specs.declared.key.Key.TheVariants as key

-- the entry address of the subprogram that a key speaks of: its own, or that of the program point where it begins
abbrev pub sub_of : Key → ℕ
sub_of (key.Node p) = p.sub
sub_of (key.Edge p q) = p.sub
sub_of (key.Call p callee) = p.sub
sub_of (key.Summary sub) = sub
sub_of (key.Gap sub pc why) = sub

-- the keys of one subprogram are in one part, and the subprogram at the next address is in the next part, round the 64
abbrev pub part_of : Key → ℕ
part_of k = sub_of k / 4 % 64

pub parts_are_few : (k : Key) → part_of k < 64
parts_are_few k = mod_below (sub_of k / 4) 64 (omega arith)
