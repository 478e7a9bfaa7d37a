use Rattle.flow_core.proofs.EventLemmas.{run_keeps, idle_is_due}
use Rattle.flow_core.proofs.theorems.every_run_is_good.Goals as goal

pub returns-clause-good : goal.returns-clause-good
returns-clause-good g c = λ events first last good run.
    (run_keeps g.S.Key.Ord.cmp (g.S.System.rules c.args._system.now) (g.met.S.System.lawful c.args._system.now) events first last good run).0

pub returns-clause-grows : goal.returns-clause-grows
returns-clause-grows g c = λ events first last good run.
    (run_keeps g.S.Key.Ord.cmp (g.S.System.rules c.args._system.now) (g.met.S.System.lawful c.args._system.now) events first last good run).1

pub returns-clause-due : goal.returns-clause-due
returns-clause-due g c = λ events first last good run idle.
    idle_is_due g.S.Key.Ord.cmp (g.S.System.rules c.args._system.now) (g.met.S.System.lawful c.args._system.now) last
    (run_keeps g.S.Key.Ord.cmp (g.S.System.rules c.args._system.now) (g.met.S.System.lawful c.args._system.now) events first last good run).0 idle
