use Rattle.std.proofs.Common.{◌≡◌, All}
use Rattle.assert_bind.specs.Address.{bound_places}
use Rattle.assert_bind.specs.Body.{IsCode}
use Rattle.assert_bind.proofs.AddressLemmas.{left_of}
use Rattle.assert_bind.proofs.placing.bound_places.Given as goal

-- the addresses so far, and what the places that are left give behind them
abbrev pub invariant-loop-spot : goal.invariant-loop-spot
invariant-loop-spot l = record {
  same : bound_places l.fn.image l.fn.line l.fn.spots ≡ left_of l.fn.image l.fn.line l.fn.spots l.addresses.items l.spot-index;
  code : All (IsCode l.fn.image) l.addresses.items;
}
