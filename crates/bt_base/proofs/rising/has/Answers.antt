use Rattle.bt_base.proofs.RisingLists.{search_decides}
use Rattle.bt_base.proofs.rising.has.Goals as goal

pub returns : goal.returns
returns c = rw c.is_ok.ensures.value (search_decides c.args.numbers.now c.args.number c.binary_search.result c.requires c.binary_search.ensures.position)
