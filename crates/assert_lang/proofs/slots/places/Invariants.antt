use Rattle.std.proofs.Common.{◌≡◌, length}
use Rattle.assert_lang.proofs.PlaceLists.{behind, left}
use Rattle.assert_lang.proofs.slots.places.Given as goal

-- the places so far stand in front of those that are left
abbrev pub invariant-loop-spots : goal.invariant-loop-spots
invariant-loop-spots l = left l.fn.words ≡ behind l.spots.items (left l.words)

abbrev pub decreases-loop-spots : goal.decreases-loop-spots
decreases-loop-spots l = length l.words.tokens
