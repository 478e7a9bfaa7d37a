use Rattle.flow_system.proofs.Inductions.{due_has_key}
use Rattle.flow_system.proofs.laws.due_keys.Goals as goal

pub returns : goal.returns
returns g c = λ k v due. due_has_key (g.S.System.rules c.args._system.now) k v due
