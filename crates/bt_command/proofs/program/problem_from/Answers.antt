use Rattle.std.proofs.Common.{Err, ap, sym, ◌∙◌}
use Rattle.bt_command.proofs.Asks.{read_cycles, read_assertions}
use Rattle.bt_command.proofs.Says.{refused_as}
use Rattle.bt_command.specs.Call.{reading_of}
use Rattle.bt_command.proofs.program.problem_from.Goals as goal

pub returns-in-Err-Fault-cycles_from-clause-asks : goal.returns-in-Err-Fault-cycles_from-clause-asks
returns-in-Err-Fault-cycles_from-clause-asks g c =
    read_cycles _ _ _ _ c.in-Ok.ensures.asked c.in-Ok.ensures.accepted c.in-Err-Fault-cycles_from.ensures.asked

pub returns-in-Err-TooLong-cycles_from-clause-asks : goal.returns-in-Err-TooLong-cycles_from-clause-asks
returns-in-Err-TooLong-cycles_from-clause-asks g c =
    read_cycles _ _ _ _ c.in-Ok.ensures.asked c.in-Ok.ensures.accepted c.in-Err-TooLong-cycles_from.ensures.asked

pub returns-in-Err-Refused-cycles_from-clause-asks : goal.returns-in-Err-Refused-cycles_from-clause-asks
returns-in-Err-Refused-cycles_from-clause-asks g c =
    read_cycles _ _ _ _ c.in-Ok.ensures.asked c.in-Ok.ensures.accepted c.in-Err-Refused-cycles_from.ensures.asked

pub returns-in-Err-Want-cycles_from-clause-asks : goal.returns-in-Err-Want-cycles_from-clause-asks
returns-in-Err-Want-cycles_from-clause-asks g c =
    read_cycles _ _ _ _ c.in-Ok.ensures.asked c.in-Ok.ensures.accepted c.in-Err-Want-cycles_from.ensures.asked

pub returns-in-Err-Fault-assertions_from-clause-asks : goal.returns-in-Err-Fault-assertions_from-clause-asks
returns-in-Err-Fault-assertions_from-clause-asks g c =
    read_assertions _ _ _ _ _ _ _ c.in-Ok.ensures.asked c.in-Ok.ensures.accepted c.in-Ok-cycles_from.ensures.asked
    c.in-Ok-cycles_from.ensures.accepted (c.in-Ok.ensures.same c.args.cycles.now) c.in-Err-Fault-assertions_from.ensures.asked

pub returns-in-Err-TooLong-assertions_from-clause-asks : goal.returns-in-Err-TooLong-assertions_from-clause-asks
returns-in-Err-TooLong-assertions_from-clause-asks g c =
    read_assertions _ _ _ _ _ _ _ c.in-Ok.ensures.asked c.in-Ok.ensures.accepted c.in-Ok-cycles_from.ensures.asked
    c.in-Ok-cycles_from.ensures.accepted (c.in-Ok.ensures.same c.args.cycles.now) c.in-Err-TooLong-assertions_from.ensures.asked

pub returns-in-Err-Refused-assertions_from-clause-asks : goal.returns-in-Err-Refused-assertions_from-clause-asks
returns-in-Err-Refused-assertions_from-clause-asks g c =
    read_assertions _ _ _ _ _ _ _ c.in-Ok.ensures.asked c.in-Ok.ensures.accepted c.in-Ok-cycles_from.ensures.asked
    c.in-Ok-cycles_from.ensures.accepted (c.in-Ok.ensures.same c.args.cycles.now) c.in-Err-Refused-assertions_from.ensures.asked

pub returns-in-Err-Want-assertions_from-clause-asks : goal.returns-in-Err-Want-assertions_from-clause-asks
returns-in-Err-Want-assertions_from-clause-asks g c =
    read_assertions _ _ _ _ _ _ _ c.in-Ok.ensures.asked c.in-Ok.ensures.accepted c.in-Ok-cycles_from.ensures.asked
    c.in-Ok-cycles_from.ensures.accepted (c.in-Ok.ensures.same c.args.cycles.now) c.in-Err-Want-assertions_from.ensures.asked

pub returns-in-Ok-make-clause-asks : goal.returns-in-Ok-make-clause-asks
returns-in-Ok-make-clause-asks g c =
    read_assertions _ _ _ _ _ _ _ c.in-Ok.ensures.asked c.in-Ok.ensures.accepted c.in-Ok-cycles_from.ensures.asked
    c.in-Ok-cycles_from.ensures.accepted (c.in-Ok.ensures.same c.args.cycles.now) c.in-Ok-assertions_from.ensures.asked

pub returns-in-Err-clause-asks : goal.returns-in-Err-clause-asks
returns-in-Err-clause-asks g c =
    read_assertions _ _ _ _ _ _ _ c.in-Ok.ensures.asked c.in-Ok.ensures.accepted c.in-Ok-cycles_from.ensures.asked
    c.in-Ok-cycles_from.ensures.accepted (c.in-Ok.ensures.same c.args.cycles.now) c.in-Ok-assertions_from.ensures.asked

pub returns-in-Err-Refused-assertions_from-clause-refused : goal.returns-in-Err-Refused-assertions_from-clause-refused
returns-in-Err-Refused-assertions_from-clause-refused g c =
    let e = c.in-Err-Refused-assertions_from in
    λ status is.
    refused_as (record { image = c.args.image.now; cycles = c.args.cycles.now; assertions = c.args.assertions.now })
    (reading_of g.F.Shelf.told g.F.Shelf.faults g.F.Shelf.asked c.args.shelf.now c.assertions_from.new.shelf) _ _ _ _ e.fault _ status c.in-Ok.ensures.accepted c.in-Ok-cycles_from.ensures.accepted
    (c.in-Ok.ensures.same c.args.cycles.now) (e.ensures.refused e.fault (ap Err e.field-0-is))
    (c.in-Ok-cycles_from.ensures.same c.args.assertions.now ∙ c.in-Ok.ensures.same c.args.assertions.now) (sym e.fault-is) is
