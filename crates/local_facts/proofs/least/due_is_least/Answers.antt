use Rattle.local_facts.proofs.Closing.{least_from_due, due_from_least}
use Rattle.local_facts.proofs.least.due_is_least.Goals as goal

pub returns-clause-least : goal.returns-clause-least
returns-clause-least g c = λ starts keep fixed s sound due. least_from_due g.S.Key.Ord.cmp (g.S.System.rules c.args._system.now)
    (g.met.S.System.lawful c.args._system.now) starts keep fixed sound s due

pub returns-clause-due : goal.returns-clause-due
returns-clause-due g c = λ starts keep fixed s sound least. due_from_least g.S.Key.Ord.cmp (g.S.System.rules c.args._system.now)
    (g.met.S.System.lawful c.args._system.now) starts keep fixed sound s least
