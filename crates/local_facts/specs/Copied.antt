-- Copies of what a key reads of a state with fixed facts beside it.
use Rattle.std.specs.Prelude.{◌≡◌, List, Option, Some, None, if◌then◌else◌}
use Rattle.std.specs.Ordering.{is_eq}
use Rattle.std.specs.declared.cmp.Ordering.{Ordering}
use Rattle.flow_system.specs.Facts.{fact_at}
use Rattle.local_facts.specs.Restricted.{is_listed, beside}

-- a fact that was found, or else the one that was there
abbrev pub found_or : {V : Type 0} → Option V → Option V → Option V
found_or None old = old
found_or (Some v) old = Some v

module _ {K V : Type 0} (cmp : K → K → Ordering) (keep : List K) (fixed facts : List (K × V)) where
  -- the fact at the key, if there is one, is copied
  abbrev pub CopiesBeside : K → List (K × V) → List (K × V) → Type 0
  CopiesBeside k old new = (q : K) → fact_at cmp new q ≡
      (if is_eq (cmp k q) then found_or (beside cmp keep fixed (fact_at cmp facts) k) (fact_at cmp old q) else fact_at cmp old q)

  -- exactly the facts at these keys
  abbrev pub IsCopyBeside : List K → List (K × V) → Type 0
  IsCopyBeside keys copies = (q : K) → fact_at cmp copies q ≡ (if is_listed cmp keys q then beside cmp keep fixed (fact_at cmp facts) q else None)
