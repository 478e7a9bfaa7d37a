-- Contexts of activations, each with its graph, the bounds of its loops and what its nodes and edges cost.
use Rattle.std.specs.Prelude.{◌≡◌, ℕ, ◌+◌, ◌-◌, ◌/◌, ◌≤◌, ◌⊎◌, Bool, true, false, Option, Some, None, is_some, unwrap_or}
use Rattle.graph_laws.specs.Walk.{Costs}
use Rattle.graph_laws.specs.Loops.{Loops, CostAtMost}
use Rattle.graph_laws.specs.Counter.{Changes, TurnsRise, TurnsFall}

-- how an activation stands: nothing is said of it, its time from its start to its end is asserted, or it has a context
pub data Standing : Type 0 where
  Free : Standing
  Stub : (time : ℕ) → Standing
  In : (context : ℕ) → Standing

-- A cell that counts the passes of a head: what the nodes add to it and take from it, between which numbers it is at the
-- head, and by how much each turn changes it at least.
pub record Counter : Type 0 where
  pub cell : ℕ
  pub changes : Changes
  pub lo : ℕ
  pub hi : ℕ
  pub step : ℕ

-- A graph with its entry, the loops whose heads have a bound, how often each is passed at most, and the counter that
-- shows it (where there is none the bound is asserted); what is owed at the entry, what nodes and edges cost without
-- the calls, what a call at a node leads to, and how many cycles an activation spends at most, if that is known.
pub record Context : Type 0 where
  pub entry : ℕ
  pub edge : ℕ → ℕ → Bool
  pub loops : Loops
  pub bound : ℕ → ℕ
  pub counter : ℕ → Option Counter
  pub start : ℕ
  pub own : Costs
  pub leads : ℕ → Option Standing
  pub most : Option ℕ

-- the contexts, by their numbers
abbrev pub Family : Type 0
Family = ℕ → Context

-- what a call costs; where nothing is known, 0
abbrev pub call_cost : Family → Option Standing → ℕ
call_cost family None = 0
call_cost family (Some Free) = 0
call_cost family (Some (Stub time)) = time
call_cost family (Some (In c)) = unwrap_or (family c).most 0

-- what the nodes of a context cost with the calls at them, and what its edges cost
abbrev pub costs_in : Family → Context → Costs
costs_in family context = record { node = λ n. context.own.node n + call_cost family (context.leads n); edge = context.own.edge }

-- whether there is no call, or one whose cycles are bounded
abbrev pub is_bounded : Family → Option Standing → Bool
is_bounded family None = true
is_bounded family (Some Free) = false
is_bounded family (Some (Stub time)) = true
is_bounded family (Some (In c)) = is_some (family c).most

-- each turn of a loop changes the cell of a counter by at least its step, always up or always down, so that the bound
-- of the head holds
pub record IsCounter (edge : ℕ → ℕ → Bool) (body : ℕ → Bool) (head bound : ℕ) (counter : Counter) : Type 0 where
  pub step : 1 ≤ counter.step
  pub turns : TurnsRise edge body head counter.changes counter.step ⊎ TurnsFall edge body head counter.changes counter.step
  pub passes : (counter.hi - counter.lo) / counter.step + 1 ≤ bound

-- what is owed at the entry and what any walk that keeps the head bounds costs are at most a number of cycles, and each
-- call is bounded
pub record IsBound (family : Family) (context : Context) (most : ℕ) : Type 0 where
  pub start : context.start ≤ most
  pub walks : CostAtMost context.edge context.entry context.loops context.bound (costs_in family context) (most - context.start)
  pub calls : (n : ℕ) → is_bounded family (context.leads n) ≡ true

-- the counters of all contexts bound their heads, and their numbers of cycles are bounds
pub record IsSound (family : Family) : Type 0 where
  pub counters : (c h : ℕ) (counter : Counter) → (family c).loops.has h ≡ true → (family c).counter h ≡ Some counter
      → IsCounter (family c).edge ((family c).loops.body h) h ((family c).bound h) counter
  pub bounds : (c most : ℕ) → (family c).most ≡ Some most → IsBound family (family c) most
