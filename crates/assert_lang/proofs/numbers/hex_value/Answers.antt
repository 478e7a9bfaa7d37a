use Rattle.std.proofs.Common.{◌<◌, arith}
use Rattle.assert_lang.proofs.HexDigits.{small_power, eight}
use Rattle.assert_lang.proofs.numbers.hex_value.Goals as goal

pub overflow_mul-value : goal.overflow_mul-value
overflow_mul-value c =
    let few : c.loop-digit.digit-index < 8 = (let most = eight c.args.digits.now c.requires in omega (arith, most, c.loop-digit-test.true)) in
    omega (arith, small_power c.loop-digit.digit-index few, c.loop-digit.invariant.small)

pub overflow_add-value : goal.overflow_add-value
overflow_add-value c =
    let few : c.loop-digit.digit-index < 8 = (let most = eight c.args.digits.now c.requires in omega (arith, most, c.loop-digit-test.true)) in
    omega (arith, small_power c.loop-digit.digit-index few, c.loop-digit.invariant.small, c.digit_value.ensures.within)
