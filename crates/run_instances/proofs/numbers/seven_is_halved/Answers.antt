use Rattle.std.proofs.Common.{◌<◌, ◌^◌, arith, refl}
use Rattle.run_instances.proofs.numbers.seven_is_halved.Goals as goal

pub returns : goal.returns
returns c =
    let within : 4294967289 < 2 ^ 32 = omega arith in
    record { shifted = refl; quotient = c.shifts_divide.ensures 4294967289 1 within }
