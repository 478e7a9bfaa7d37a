use Rattle.std.proofs.Common.{◌≡◌, take, vec_len, length}
use Rattle.context_bounds.specs.Own.{own_rows, rows_of}
use Rattle.context_bounds.proofs.owning.own_rows.Given as goal

abbrev pub invariant-loop-key : goal.invariant-loop-key
invariant-loop-key l = (vec_len l.rows ≡ length l.fn.subs) × (rows_of l.rows.items ≡ own_rows l.fn.subs (take l.key-index l.keys))
