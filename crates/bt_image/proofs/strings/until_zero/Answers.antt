use Rattle.std.proofs.Common.{sym, not, arith}
use Rattle.std.specs.Prelude.{◌==◌}
use Rattle.std.proofs.lemmas.Bool.Decides.{nat_tests}
use Rattle.std.proofs.lemmas.List.Sums.{prefix_len_is}
use Rattle.bt_image.proofs.strings.until_zero.Goals as goal

pub returns-then-bytes-i-eq0-clause-value : goal.returns-then-bytes-i-eq0-clause-value
returns-then-bytes-i-eq0-clause-value c =
    sym (prefix_len_is (λ b. not (b == 0)) c.args.bytes.now c.loop-i.i 0 (omega arith)
    (λ k lt. let h = c.loop-i.invariant k lt in grind (arith, nat_tests)) (λ lt. let h = c.if-bytes-i-eq0.true in grind (arith, nat_tests)))

pub returns-clause-value : goal.returns-clause-value
returns-clause-value c =
    sym (prefix_len_is (λ b. not (b == 0)) c.args.bytes.now _ 0 (omega arith)
    (λ k lt. let h = c.loop-i.invariant k (omega arith) in grind (arith, nat_tests)) (λ lt. absurd (omega arith)))
