-- A context from within, as code has it.
use Rattle.std.specs.Prelude.{◌≡◌, ℕ, ◌<◌, ◌^◌, true, List, All, is_some, length}
use Rattle.std.specs.List.Sorted.{IsStrictlySortedBy}
use Rattle.abs_state.specs.Key.{compare}
use Rattle.abs_state.specs.declared.key.Key.{Key}
use Rattle.bt_base.specs.Graph.{is_edge}
use Rattle.context_bounds.specs.Laws.{IsAllLocal, stands}
use Rattle.context_bounds.specs.States.{HasStateOver}
use Rattle.context_facts.specs.Context.{IsContext}
use Rattle.context_outcomes.specs.Arguments.{AreArgumentsOf, thresholds_with}
use Rattle.context_outcomes.specs.Inside.{AreFacts, Inside, Shape}
use Rattle.context_outcomes.specs.Setting.{Setting, facts_in, program_of}
use Rattle.flow_system.specs.Facts.{fact_at}
use Rattle.graph_laws.specs.Nest.{IsReached}
use Rattle.graph_view.specs.Numbers.{place_cmp}
use Rattle.transfer_rules.specs.Give.{Facts}
use Rattle.transfer_values.specs.Family.{family}
use Rattle.value_lattice.specs.declared.value.Value.{Value}
use Rattle.wcet_report.specs.declared.context.Context.{Context}
use Rattle.context_inside.specs.declared.within.Within.{Within}

-- facts lead on within the subprogram, stand at keys that the whole program has, and are at most what it has there
abbrev pub IsContextIn : Setting → ℕ → List Value → Facts → Type 0
IsContextIn S sub args facts =
    IsContext (thresholds_with S args) (family (thresholds_with S args) S.image S.binding) (program_of S) (facts_in S) sub args facts

-- The facts and the graph are those of the context of a subprogram that is entered with these arguments: its program points are
-- few, rise and are all reached, its states are over its thresholds, and the whole program has all of its keys.
pub record IsWithin (S : Setting) (sub : ℕ) (args : List Value) (w : Within) : Type 0 where
  pub facts : AreFacts S sub args (fact_at compare w.facts)
  pub shape : Shape (fact_at compare w.facts) sub
  pub nodes : shape.nodes ≡ w.nodes.items
  pub graph : shape.graph ≡ w.graph
  pub entry : shape.entry ≡ w.entry
  pub thresholds : w.thresholds ≡ thresholds_with S args
  pub reached : (n : ℕ) → n < length w.graph → IsReached (is_edge w.graph) w.entry n
  pub rise : IsStrictlySortedBy place_cmp w.nodes.items
  pub small : length w.nodes.items < 2 ^ 32
  pub depths : All (λ p. p.depth < 2) w.nodes.items
  pub over : All (HasStateOver w.thresholds (fact_at compare w.facts)) w.nodes.items
  pub local : IsAllLocal w.facts sub
  pub among : (k : Key) → is_some (fact_at compare w.facts k) ≡ true → is_some (facts_in S k) ≡ true
  pub stand : (k : Key) → is_some (fact_at compare w.facts k) ≡ true → stands (fact_at compare w.facts) k ≡ true
  pub context : IsContextIn S sub args (fact_at compare w.facts)

-- so they are a context from within, where these are its arguments
abbrev pub inside_of : {S : Setting} {sub : ℕ} {args : List Value} {w : Within} → (context : Context) → AreArgumentsOf S sub context args
    → IsWithin S sub args w → Inside S sub context
inside_of {S} {sub} {args} {w} context arguments is = record {
  args = args;
  arguments = arguments;
  facts = fact_at compare w.facts;
  are = is.facts;
  shape = is.shape;
}
