use Rattle.std.proofs.Common.{◌≡◌, ℕ, None, length, get_or}
use Rattle.path_bound.specs.Places.{place_below}
use Rattle.path_bound.proofs.placing.places_of.Given as goal

-- the loops gone through have their places
abbrev pub invariant-loop-place : goal.invariant-loop-place
invariant-loop-place l = record {
  size : length l.places.items ≡ l.count;
  places : (h : ℕ) → get_or l.places.items h None ≡ place_below l.loops l.place h;
}
