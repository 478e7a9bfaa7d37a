use Rattle.std.proofs.Common.{◌≡◌, length, vec_len, arith}
use Rattle.context_bounds.proofs.Loops.{rows_begin}
use Rattle.context_bounds.proofs.owning.own_rows.Goals as goal

pub loop-key-init : goal.loop-key-init
loop-key-init c =
    let begin = rows_begin c.args.subs.now c.in_ok-rows.rows.items c.in_ok-rows.ensures in
    ((let same : vec_len c.in_ok-rows.rows ≡ length c.args.subs.now = omega (arith, begin.0, c.in_ok-rows.rows.ok.0) in same), begin.1)
