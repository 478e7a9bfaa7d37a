use Rattle.flow_system.proofs.Inductions.{graph_same}
use Rattle.flow_system.proofs.laws.due_graph_is_one.Goals as goal

pub returns : goal.returns
returns g c = λ s t first second k. graph_same g.S.Key.Ord.cmp (g.S.System.rules c.args._system.now) (g.met.S.System.lawful c.args._system.now) s t first
    second k
