use Rattle.std.proofs.Common.{List, All, subst, sym, ◌∙◌}
use Rattle.std.proofs.lemmas.List.Elements.{All-push}
use Rattle.abs_state.specs.Key.{compare}
use Rattle.abs_state.specs.declared.key.Place.{Place}
use Rattle.context_bounds.specs.Low.{IsLow}
use Rattle.context_bounds.specs.Setting.{setting_of}
use Rattle.context_bounds.specs.States.{left_at}
use Rattle.context_bounds.proofs.Loops.{change_on, map_done}
use Rattle.context_bounds.proofs.states.changes_of.Goals as goal
use Rattle.context_outcomes.specs.Counting.{change_at}
use Rattle.counter_bound.specs.declared.change.Change.{Change}
use Rattle.flow_system.specs.Facts.{fact_at}

pub loop-p-preserved : goal.loop-p-preserved
loop-p-preserved c = (
  subst (λ (list : List Change). All IsLow list) (sym c.in_ok-push.ensures.items)
      (All-push IsLow c.loop-p.list.items c.change_at.result c.loop-p.invariant.0 c.change_at.ensures.low),
  λ costs.
      change_on (setting_of c.args.system.now costs c.args.whole.now) c.args.t.now c.args.system.now.binding c.binding.result.now
      (fact_at compare c.args.facts.now)
      c.args.nodes.now c.loop-p.p-index c.loop-p.list.items c.push.new.self.items c.change_at.result c.in_ok-state.state _ c.loop-p-test.true c.binding.ensures
      c.in_ok-state.ensures (c.change_at.ensures.value costs) c.in_ok-push.ensures.items
      ∙ c.loop-p.invariant.1 costs,
)

pub returns-clause-value : goal.returns-clause-value
returns-clause-value c = λ costs.
    map_done (λ (p : Place). change_at (setting_of c.args.system.now costs c.args.whole.now) p
    (left_at c.args.t.now c.args.system.now.binding (fact_at compare c.args.facts.now) p))
    c.loop-p.list.items c.args.nodes.now c.loop-p.p-index c.loop-p-test.false (c.loop-p.invariant.1 costs)
