use Rattle.std.proofs.Common.{nat_le}
use Rattle.core_rows.proofs.Instances.{keys_handed_on}
use Rattle.core_rows.proofs.laws.keys_are_within.Goals as goal

pub returns : goal.returns
returns c = λ s graph. c.due_passes.ensures.graph s (λ k v. nat_le k c.args.system.now.last) graph
    (keys_handed_on c.args.system.now.last c.args.system.now.second s c.requires)
