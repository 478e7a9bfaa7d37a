-- The order of keys.
use Rattle.std.specs.Prelude.{◌≡◌}
use Rattle.std.specs.declared.cmp.Ordering.{Ordering}
use Rattle.std.specs.declared.cmp.Ordering.TheVariants.{Equal}
use Rattle.std.specs.Cmp.{IsTotalOrder}
use Rattle.abs_state.specs.declared.key.Key.{Key}
use Rattle.abs_state.specs.contracts.key.KeyOrd.TheImpl as key_ord

-- how two keys compare
abbrev pub compare : Key → Key → Ordering
compare = (key_ord.ghosts).cmp

-- keys have one order, which tells all of them apart
pub record KeysAreOrdered : Type 0 where
  pub total : IsTotalOrder compare
  pub exact : (j k : Key) → compare j k ≡ Equal → j ≡ k
