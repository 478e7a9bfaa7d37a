use Rattle.std.proofs.Common.{arith}
use Rattle.bt_image.proofs.LoadingLemmas.{above_from_next, no_section}
use Rattle.bt_image.proofs.loading.begin_above.Goals as goal

pub returns : goal.returns
returns c = above_from_next c.args.loaded.now c.args.place c.args.a no_section c.requires.apart (omega arith) (omega arith)
