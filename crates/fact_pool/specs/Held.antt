-- What the type of a core under a lock keeps.
use Rattle.std.specs.Prelude.{◌≡◌, ℕ}
use Rattle.std.specs.declared.cmp.Ordering.{Ordering}
use Rattle.flow_system.specs.Laws.{IsLawful}
use Rattle.flow_system.specs.Rules.{Rules}
use Rattle.flow_core.specs.Core.{CoreState, IsGood}

-- the named rules are lawful, and the core's state is good for them and has the named limit
pub record IsHeld {K V : Type 0} (cmp : K → K → Ordering) (m : Rules K V) (most : ℕ) (s : CoreState K V) : Type 0 where
  pub lawful : IsLawful cmp m
  pub good : IsGood cmp m s
  pub limit : s.limit ≡ most
