use Rattle.std.proofs.Common.{◌≡◌, length, decimal, ap, arith}
use Rattle.gen_image.proofs.Sizes.{digits_are_few}
use Rattle.gen_image.proofs.names.name_len.Goals as goal

pub returns-clause-short : goal.returns-clause-short
returns-clause-short c =
    let few = digits_are_few c.args.k c.requires in
    let text : length c.format.result.now ≡ length (decimal c.args.k) = ap length c.format.ensures.text in
    omega arith
