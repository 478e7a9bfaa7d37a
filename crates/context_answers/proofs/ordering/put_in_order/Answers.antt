use Rattle.context_answers.proofs.Orders.{put_once}
use Rattle.context_answers.proofs.ordering.put_in_order.Goals as goal

pub returns : goal.returns
returns c = put_once _ _ _ c.sort_unstable.ensures.permutation c.sort_unstable.ensures.sorted c.dedup.ensures.filtered
