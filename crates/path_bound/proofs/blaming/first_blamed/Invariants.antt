use Rattle.std.proofs.Common.{◌≡◌, drop}
use Rattle.path_bound.specs.Blamed.{is_marked, first_of}
use Rattle.path_bound.proofs.blaming.first_blamed.Given as goal

-- the first of the loops that are left is the first of all
abbrev pub invariant-loop-one : goal.invariant-loop-one
invariant-loop-one l = first_of (is_marked l.large) (drop l.one-index l.loops) l.entry ≡ first_of (is_marked l.large) l.loops l.entry
