-- The program points, steps and calls of each subprogram.
use Rattle.std.specs.Prelude.{ℕ, List, map, Option, Some, None, Vec}
use Rattle.std.specs.List.{filter}
use Rattle.std.specs.declared.alloc.Global.{Global}
use Rattle.abs_state.specs.declared.key.Key.{Key}
use Rattle.abs_state.specs.declared.key.Key.TheVariants as key
use Rattle.context_facts.specs.Context.{is_local}

-- the subprogram whose program point, step or call a key is
abbrev pub owner_of : Key → Option ℕ
owner_of (key.Node p) = Some p.sub
owner_of (key.Edge p q) = Some p.sub
owner_of (key.Call p t) = Some p.sub
owner_of (key.Summary q) = None
owner_of (key.Gap q pc kind) = None

-- those keys of a list that are a subprogram's
abbrev pub own_keys : List Key → ℕ → List Key
own_keys keys sub = filter (is_local sub) keys

-- a row for each subprogram
abbrev pub own_rows : List ℕ → List Key → List (List Key)
own_rows subs keys = map (own_keys keys) subs

-- rows as lists
abbrev pub rows_of : List (Vec Key Global) → List (List Key)
rows_of rows = map (λ row. row.items) rows
