-- A program with what is known of it.
use Rattle.std.specs.Prelude.{◌≡◌}
use Rattle.std.specs.Map.{keys_of}
use Rattle.abs_state.specs.Key.{compare}
use Rattle.callee_context.specs.declared.program.Program.{Program}
use Rattle.context_bounds.specs.Own.{own_rows, rows_of}
use Rattle.context_bounds.specs.Setting.{setting_of}
use Rattle.context_outcomes.specs.Setting.{Setting}
use Rattle.flow_system.specs.Facts.{fact_at}
use Rattle.flow_system.specs.State.{IsDueGraph}
use Rattle.graph_view.specs.View.{AreViewed, by_kind}
use Rattle.plain_bounds.specs.Table.{ArePlainBounds}
use Rattle.transfer_fns.specs.Setting.{rules_over}
use Rattle.value_lattice.specs.Thresholds.{IsThresholds}

-- what its contexts are judged by
abbrev pub setting_in : Program → Setting
setting_in program = setting_of program.system.now program.cycles.now program.facts.now

-- The facts are those of all its runs, the view is of their keys, and the table has which subprograms are plain, with the keys
-- of each.
pub record IsKnown (program : Program) : Type 0 where
  pub thresholds : IsThresholds program.system.now.thresholds
  pub due : IsDueGraph
      (rules_over program.system.now.thresholds program.system.now.image program.system.now.binding program.system.now.eight)
      (fact_at compare program.facts.now)
  pub viewed : AreViewed (keys_of program.facts.now)
  pub view : program.view.now ≡ by_kind (keys_of program.facts.now)
  pub plain : ArePlainBounds (setting_in program) program.plain.now
  pub rows : rows_of program.rows.now ≡ own_rows program.plain.now.subs.items (keys_of program.facts.now)
