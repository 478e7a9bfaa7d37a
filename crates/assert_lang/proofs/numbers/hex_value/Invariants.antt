use Rattle.std.proofs.Common.{◌≡◌, ◌<◌, ◌^◌, take}
use Rattle.assert_lang.specs.Number.{hex_value}
use Rattle.assert_lang.proofs.numbers.hex_value.Given as goal

-- the value of the digits so far, which is less than the power of their count
abbrev pub invariant-loop-digit : goal.invariant-loop-digit
invariant-loop-digit l = record {
  value : l.value ≡ hex_value (take l.digit-index l.digits);
  small : l.value < 16 ^ l.digit-index;
}
