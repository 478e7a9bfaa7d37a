use Rattle.std.proofs.Common.{◌≡◌, None}
use Rattle.bt_image.specs.File.{section_count}
use Rattle.bt_image.specs.Least.{first_of}
use Rattle.bt_image.specs.Refusal.{overlap}
use Rattle.bt_image.proofs.sections.first_overlap.Given as goal

-- no section so far shares an address with one behind it
abbrev pub invariant-loop-a : goal.invariant-loop-a
invariant-loop-a l = first_of (λ a. first_of (overlap l.file a) (section_count l.file)) l.a ≡ None
