use Rattle.std.proofs.Common.{sym, subst}
use Rattle.std.specs.BTreeMap.{keys}
use Rattle.std.proofs.lemmas.Map.Keys.{below_from_sorted}
use Rattle.bt_image.specs.Extent.{Rise}
use Rattle.bt_image.proofs.functions.addresses.Goals as goal

pub returns-clause-rise : goal.returns-clause-rise
returns-clause-rise c =
    subst Rise (sym c.in_ok-addresses.ensures) (λ i j lt jlt. below_from_sorted (keys c.args.names.now) i j 0 c.requires lt jlt)
