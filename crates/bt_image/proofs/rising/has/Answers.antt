use Rattle.bt_image.proofs.RisingLemmas.{search_decides}
use Rattle.bt_image.proofs.rising.has.Goals as goal

pub returns : goal.returns
returns c = rw c.is_ok.ensures.value (search_decides c.args.numbers.now c.args.a c.binary_search.result c.requires c.binary_search.ensures.position)
