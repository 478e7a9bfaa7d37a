use Rattle.std.proofs.Common.{◌≡◌, length, ap, arith}
use Rattle.transfer_values.proofs.CodeLemmas.{words-length}
use Rattle.transfer_values.proofs.sources.covered.Goals as goal

pub cover-requires : goal.cover-requires
cover-requires c =
    let e = rw c.in-Some.is at c.in_ok-words.ensures in
    let l : length c.in-Some.words.items ≡ length c.args.addresses.now = words-length c.args.image.now c.args.addresses.now c.in-Some.words.items e in
    let s : length c.as_slice.result.now ≡ length c.in-Some.words.items = ap length c.as_slice.ensures.value in
    let some = c.requires in
    omega arith
