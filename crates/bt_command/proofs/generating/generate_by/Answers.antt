use Rattle.std.proofs.Common.{refl, rules}
use Rattle.bt_command.proofs.Generates.{refused_gen, unwritten}
use Rattle.bt_command.proofs.generating.generate_by.Goals as goal

pub returns-in-Err-clause-says : goal.returns-in-Err-clause-says
returns-in-Err-clause-says g c = λ read. refused_gen c.args.functions _ c.in-Err.status (c.in-Err.ensures.refused c.in-Err.status refl)

pub returns-in-Err-clause-writes : goal.returns-in-Err-clause-writes
returns-in-Err-clause-writes g c = λ read. unwritten _ c.in-Err.status refl refl

pub returns-in-Ok-write_all-clause-says : goal.returns-in-Ok-write_all-clause-says
returns-in-Ok-write_all-clause-says g c =
    λ read. record { text = c.in-Ok.text.items; is = c.in-Ok.ensures.text; written = search rules }

pub returns-clause-says : goal.returns-clause-says
returns-clause-says g c =
    λ read. record { text = c.in-Ok.text.items; is = c.in-Ok.ensures.text; less = search rules; written = search rules; rose = search rules }
