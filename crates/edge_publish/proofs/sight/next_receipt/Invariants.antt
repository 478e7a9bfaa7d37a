use Rattle.std.specs.Option.{option_map}
use Rattle.edge_publish.specs.Look.{PassesNone}
use Rattle.edge_publish.proofs.sight.next_receipt.Given as goal

-- the receipt's pair hasn't been passed by
abbrev pub invariant-loop-index : goal.invariant-loop-index
invariant-loop-index g l = PassesNone (option_map (λ r. r.now) l.own) l.from l.index
