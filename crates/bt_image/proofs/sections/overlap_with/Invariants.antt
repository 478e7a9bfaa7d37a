use Rattle.std.proofs.Common.{◌≡◌, None}
use Rattle.bt_image.specs.Least.{first_of}
use Rattle.bt_image.specs.Refusal.{overlap}
use Rattle.bt_image.proofs.sections.overlap_with.Given as goal

-- no section so far shares an address with section a
abbrev pub invariant-loop-b : goal.invariant-loop-b
invariant-loop-b l = first_of (overlap l.file l.a) l.b ≡ None
