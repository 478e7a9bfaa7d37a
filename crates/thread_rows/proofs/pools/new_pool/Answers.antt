use Rattle.core_rows.specs.Ring.{ring_lawful}
use Rattle.thread_rows.proofs.pools.new_pool.Goals as goal

pub new-requires-2-clause-lawful : goal.new-requires-2-clause-lawful
new-requires-2-clause-lawful c = ring_lawful 9999 5000
