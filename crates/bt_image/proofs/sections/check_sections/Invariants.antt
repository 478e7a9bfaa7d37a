use Rattle.std.proofs.Common.{◌≡◌, None}
use Rattle.bt_image.specs.Least.{first_of}
use Rattle.bt_image.specs.Refusal.{section_fault}
use Rattle.bt_image.proofs.sections.check_sections.Given as goal

-- nothing is wrong with the sections so far
abbrev pub invariant-loop-n : goal.invariant-loop-n
invariant-loop-n l = first_of (section_fault l.file l.table) l.n ≡ None
