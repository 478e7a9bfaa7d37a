use Rattle.std.proofs.Common.{◌<◌, ◌^◌, false, true, arith}
use Rattle.run_instances.proofs.numbers.one_is_added.Goals as goal

pub returns : goal.returns
returns c =
    let last : 4294967295 < 2 ^ 32 = omega arith in
    let greatest : 2147483647 < 2 ^ 32 = omega arith in
    let one : 1 < 2 ^ 32 = omega arith in
    let zero : 0 < 2 ^ 32 = omega arith in
    record {
      greatest = c.sums_are_meant.ensures 2147483647 1 false greatest one;
      last = c.sums_are_meant.ensures 4294967295 1 false last one;
      carried = c.sums_are_meant.ensures 4294967295 0 true last zero;
    }
