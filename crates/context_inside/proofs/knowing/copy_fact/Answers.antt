use Rattle.std.specs.Ordering.{is_eq}
use Rattle.abs_state.specs.Key.{compare}
use Rattle.context_inside.proofs.Copied.{none_copied}
use Rattle.context_inside.proofs.knowing.copy_fact.Goals as goal
use Rattle.flow_system.specs.Facts.{fact_at}

pub returns-in-None : goal.returns-in-None
returns-in-None c = λ q.
    none_copied (is_eq (compare c.args.key q)) (fact_at compare c.args.facts.now c.args.key) (fact_at compare c.args.copies.now q) c.in-None.ensures.fact
