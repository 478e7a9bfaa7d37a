use Rattle.std.proofs.Common.{◌≡◌, None}
use Rattle.bt_image.specs.Least.{first_passing}
use Rattle.bt_image.specs.Refusal.{is_unnamed}
use Rattle.bt_image.proofs.symbols.unnamed.Given as goal

-- each symbol so far that names code has a name that ends
abbrev pub invariant-loop-k : goal.invariant-loop-k
invariant-loop-k l = first_passing (is_unnamed l.file) l.k ≡ None
