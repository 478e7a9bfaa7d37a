-- Why a core didn't grow.
use Rattle.std.specs.Prelude.{◌≡◌, ℕ, ◌+◌, List, ⊤}
use Rattle.std.specs.declared.cmp.Ordering.{Ordering}
use Rattle.flow_system.specs.Rules.{Rules}
use Rattle.flow_core.specs.Core.{PassesLimit, IsOver}
use Rattle.flow_core.specs.declared.refusals.GrowRefusal.{GrowRefusal}
use Rattle.flow_core.specs.declared.refusals.GrowRefusal.TheVariants.{Nodes, Want}

module _ {K V : Type 0} (cmp : K → K → Ordering) (m : Rules K V) where
  -- Nodes comes only where the facts with the pieces would pass the limit, and names one more than it
  abbrev pub IsPassing : List (K × V) → List (K × V) → ℕ → GrowRefusal → Type 0
  IsPassing facts pieces limit (Nodes count) = (count ≡ limit + 1) × PassesLimit cmp m facts pieces limit
  IsPassing facts pieces limit Want = ⊤

  -- Nodes comes only where each closed state would pass the limit, and names one more than it
  abbrev pub IsTooBig : ℕ → GrowRefusal → Type 0
  IsTooBig limit (Nodes count) = (count ≡ limit + 1) × IsOver cmp m limit
  IsTooBig limit Want = ⊤
