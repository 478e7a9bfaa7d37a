-- What the walks through a context cost.
use Rattle.std.specs.Prelude.{ℕ, ◌+◌, List, Option, Some, None, is_some, slice_get, unwrap_or, if◌then◌else◌}
use Rattle.abs_state.specs.declared.key.Key.TheVariants as key
use Rattle.abs_state.specs.declared.key.Next.{Next}
use Rattle.abs_state.specs.declared.key.Next.TheVariants.{At, Into, Back}
use Rattle.abs_state.specs.declared.key.Place.{Place}
use Rattle.assert_bind.specs.Binding.{stub}
use Rattle.assert_bind.specs.declared.body.BoundAssertion.{BoundAssertion}
use Rattle.bt_base.specs.Graph.{is_edge}
use Rattle.context_runs.specs.Contexts.{edge_cost}
use Rattle.graph_laws.specs.Walk.{Costs}
use Rattle.sparc_machine.specs.Straight.{all_registers, code_instruction}
use Rattle.sparc_runs.specs.Cost.{own_cost, pair_cost}
use Rattle.transfer_rules.specs.Give.{Facts}
use Rattle.context_outcomes.specs.Inside.{Shape}
use Rattle.context_outcomes.specs.Setting.{Setting}

-- the bounds of the contexts to which the calls at program points lead, where there are some
abbrev pub Callees : Type 0
Callees = Place → Option ℕ

-- what a call costs beside its instructions: the time of a stub, or the bound of the context to which it leads
abbrev pub call_time : Option ℕ → Option ℕ → ℕ
call_time (Some time) bound = time
call_time None bound = unwrap_or bound 0

-- what is called at a program point costs this, where the facts have the call
abbrev pub called_cost : List BoundAssertion → Facts → Option ℕ → Place → Next → ℕ
called_cost binding facts bound p (At n) = 0
called_cost binding facts bound p (Into t) = if is_some (facts (key.Call p t)) then call_time (stub binding t) bound else 0
called_cost binding facts bound p Back = 0

-- what a program point costs: its instruction, and what it calls
abbrev pub place_cost : Setting → Facts → Option ℕ → Place → ℕ
place_cost S facts bound p = own_cost S.costs (code_instruction S.image p.pc) + called_cost S.binding facts bound p p.next

abbrev pub cost_if : Option Place → (Place → ℕ) → ℕ
cost_if None cost = 0
cost_if (Some p) cost = cost p

-- what a step costs from one of two program points to the other: what it annuls, and that the one's instruction loads what
-- the other's reads
abbrev pub step_cost : List ℕ → List ℕ → Option Place → Option Place → ℕ
step_cost image costs None q = 0
step_cost image costs (Some p) None = 0
step_cost image costs (Some p) (Some q) = edge_cost image costs p q

-- what nodes and edges of a graph of facts cost
abbrev pub costs_of : {facts : Facts} {sub : ℕ} → Setting → Shape facts sub → Callees → Costs
costs_of {facts} S shape callees = record {
  node = λ n. cost_if (slice_get shape.nodes n) (λ p. place_cost S facts (callees p) p);
  edge = λ n m. if is_edge shape.graph n m then step_cost S.image S.costs (slice_get shape.nodes n) (slice_get shape.nodes m) else 0;
}

-- what each walk costs at its start: its first instruction may read what the caller's last one loaded
abbrev pub start_cost : Setting → ℕ → ℕ
start_cost S sub = pair_cost S.costs all_registers (code_instruction S.image sub)
