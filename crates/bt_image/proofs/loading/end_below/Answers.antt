use Rattle.std.proofs.Common.{arith}
use Rattle.bt_image.proofs.LoadingLemmas.{below_from_last, no_section}
use Rattle.bt_image.proofs.loading.end_below.Goals as goal

pub returns : goal.returns
returns c = below_from_last c.args.loaded.now c.args.place c.args.a no_section c.requires.apart c.requires.within (omega arith) (omega arith)
