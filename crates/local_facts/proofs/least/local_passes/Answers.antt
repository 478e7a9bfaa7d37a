use Rattle.local_facts.proofs.Passing.{least_passes}
use Rattle.local_facts.proofs.least.local_passes.Goals as goal

pub returns : goal.returns
returns g c = λ starts keep fixed s test sound least on k v found. least_passes g.S.Key.Ord.cmp (g.S.System.rules c.args._system.now)
    (g.met.S.System.lawful c.args._system.now) starts keep fixed sound s test least on k v found
