use Rattle.flow_system.proofs.Inductions.{graph_same}
use Rattle.flow_core.proofs.EntryLemmas.{same_entries}
use Rattle.flow_core.proofs.theorems.due_facts_are_one.Goals as goal

pub returns : goal.returns
returns g c = λ facts others rise rise' first second. same_entries g.S.Key.Ord.cmp (g.met.S.System.lawful c.args._system.now).keys facts others rise rise'
    (λ q. graph_same g.S.Key.Ord.cmp (g.S.System.rules c.args._system.now) (g.met.S.System.lawful c.args._system.now) _ _ first second q)
