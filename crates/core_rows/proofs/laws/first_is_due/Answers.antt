use Rattle.std.proofs.Common.{arith, refl}
use Rattle.core_rows.proofs.laws.first_is_due.Goals as goal

pub returns : goal.returns
returns c = c.due_keys.ensures 0 0 (λ s closed. closed.starts 0 0 (0, omega arith, refl))
