use Rattle.std.proofs.Common.{◌+◌, arith}
use Rattle.bt_image.proofs.LoadingLemmas.{no_section}
use Rattle.bt_image.proofs.NextLemmas.{none_reaches, last_reaches}
use Rattle.bt_image.proofs.next_code.stands_before.Goals as goal

pub returns-then-from-end : goal.returns-then-from-end
returns-then-from-end c = none_reaches c.args.table.now c.args.place (c.args.x + 4) no_section c.requires.apart c.requires.within (omega arith) (omega arith)

pub returns : goal.returns
returns c = last_reaches c.args.table.now c.args.place (c.args.x + 4) no_section c.requires.within (omega arith) (omega arith)
