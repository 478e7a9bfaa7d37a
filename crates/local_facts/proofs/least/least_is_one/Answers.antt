use Rattle.local_facts.proofs.Closing.{least_same}
use Rattle.local_facts.proofs.least.least_is_one.Goals as goal

pub returns : goal.returns
returns g c = λ starts keep fixed s t first second k. least_same g.S.Key.Ord.cmp (g.S.System.rules c.args._system.now)
    (g.met.S.System.lawful c.args._system.now) starts keep fixed s t first second k
