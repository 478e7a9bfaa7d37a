use Rattle.sparc_machine.proofs.Keeping.{leaves_cycles}
use Rattle.sparc_machine.proofs.effects.perform.Goals as goal

pub returns-in-Ok-clause-cycles : goal.returns-in-Ok-clause-cycles
returns-in-Ok-clause-cycles c = leaves_cycles c.args.image.now c.args.free.now c.args.m.now _ c.args.instruction _ c.requires.window c.in-Ok.ensures.ok
