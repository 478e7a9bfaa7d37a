use Rattle.std.proofs.Common.{◌≡◌, None}
use Rattle.bt_image.specs.Least.{first_passing}
use Rattle.bt_image.specs.Section.{section_at}
use Rattle.std.specs.Prelude.{◌==◌}
use Rattle.bt_image.proofs.headers.symbol_table.Given as goal

-- no section so far is a symbol table
abbrev pub invariant-loop-n : goal.invariant-loop-n
invariant-loop-n l = first_passing (λ n. (section_at l.file n).kind == 2) l.n ≡ None
