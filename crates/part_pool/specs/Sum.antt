-- The sum of parts.
use Rattle.std.specs.Prelude.{List, Option, Contains}
use Rattle.std.specs.declared.cmp.Ordering.{Ordering}
use Rattle.flow_system.specs.Facts.{fact_at}
use Rattle.flow_system.specs.Rules.{Rules}
use Rattle.flow_system.specs.State.{AllFit, ContainsAll, IsBelow}
use Rattle.flow_core.specs.Core.{CoreState, IsKey, IsPending}
use Rattle.part_pool.specs.Part.{PartState}

module _ {K V : Type 0} (cmp : K → K → Ordering) (m : Rules K V) where
  -- the state contains the facts of each part
  abbrev pub ContainsParts : List (PartState K V) → (K → Option V) → Type 0
  ContainsParts parts s = (part : PartState K V) → Contains parts part → IsBelow m (fact_at cmp part.core.facts) s

  -- the least state that contains the start pieces and the facts of each part
  pub record IsSum (parts : List (PartState K V)) (s : K → Option V) : Type 0 where
    pub fit : AllFit m s
    pub starts : ContainsAll m s m.starts
    pub each : ContainsParts parts s
    pub least : (t : K → Option V) → AllFit m t → ContainsAll m t m.starts → ContainsParts parts t → IsBelow m s t

  -- the new facts are the least that contain the old ones and those of a part
  pub record AddsPart (part old new : List (K × V)) : Type 0 where
    pub fit : AllFit m (fact_at cmp new)
    pub below : IsBelow m (fact_at cmp old) (fact_at cmp new)
    pub added : IsBelow m (fact_at cmp part) (fact_at cmp new)
    pub least : (t : K → Option V) → AllFit m t → IsBelow m (fact_at cmp old) t → IsBelow m (fact_at cmp part) t → IsBelow m (fact_at cmp new) t

module _ {K V : Type 0} (cmp : K → K → Ordering) where
  -- each key of the facts is pending
  abbrev pub AllPending : CoreState K V → Type 0
  AllPending s = (k : K) → IsKey cmp s k → IsPending cmp s k
