use Rattle.flow_system.proofs.Inductions.{due_has_key}
use Rattle.part_pool.proofs.telling.tell_piece.Goals as goal

pub publish-requires : goal.publish-requires
publish-requires g c = due_has_key g.N.Name.rules c.args.k c.args.v.now c.requires.due
