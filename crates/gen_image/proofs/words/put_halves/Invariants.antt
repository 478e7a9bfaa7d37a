use Rattle.std.proofs.Common.{◌≡◌, ◌++◌, drop}
use Rattle.gen_image.specs.Number.{halves_of}
use Rattle.gen_image.proofs.words.put_halves.Given as goal

-- what is appended so far, and what is still to be appended
abbrev pub invariant-loop-half : goal.invariant-loop-half
invariant-loop-half l = l.out.items ++ halves_of (drop l.half-index l.halves) ≡ l.initial.out.items ++ halves_of l.halves
