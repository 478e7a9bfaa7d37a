use Rattle.value_lattice.proofs.ValueLemmas.{same_value}
use Rattle.value_lattice.proofs.laws.order_is_one.Goals as goal

pub returns : goal.returns
returns c = record {
  reflexive = λ a. record { words = λ w ra word address has. has };
  transitive = λ a b c up on. record { words = λ w ra word address has. on.words w ra word address (up.words w ra word address has) };
  antisymmetric = same_value;
}
