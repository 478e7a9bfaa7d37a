use Rattle.std.proofs.Common.{◌<◌, ◌^◌, false, true, arith}
use Rattle.run_instances.proofs.numbers.lesser_is_taken.Goals as goal

pub returns : goal.returns
returns c =
    let least : 2147483648 < 2 ^ 32 = omega arith in
    let one : 1 < 2 ^ 32 = omega arith in
    let zero : 0 < 2 ^ 32 = omega arith in
    record {
      least = c.differences_are_meant.ensures 2147483648 1 false least one;
      first = c.differences_are_meant.ensures 0 1 false zero one;
      borrowed = c.differences_are_meant.ensures 0 0 true zero zero;
    }
