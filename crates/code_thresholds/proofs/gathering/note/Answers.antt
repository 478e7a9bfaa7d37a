use Rattle.std.proofs.Common.{sym}
use Rattle.std.proofs.lemmas.Result.{on_ok_weaker}
use Rattle.code_thresholds.proofs.Gathered.{each_some, noted_none, noted_some}
use Rattle.code_thresholds.proofs.gathering.note.Goals as goal

pub returns-in-None-clause-noted : goal.returns-in-None-clause-noted
returns-in-None-clause-noted c =
    noted_none c.args.image.now c.args.list.now.items c.args.x (sym c.in-None.ensures.value) c.requires.noted

pub returns-in-Some-clause-each : goal.returns-in-Some-clause-each
returns-in-Some-clause-each c =
    on_ok_weaker c.push_numbers.result
    (λ same. each_some c.args.image.now c.args.list.now.items c.push_numbers.new.list.items c.args.x c.in-Some.i
    (sym c.in-Some.ensures.value) c.requires.each same)
    c.push_numbers.ensures

pub returns-in-Some-clause-noted : goal.returns-in-Some-clause-noted
returns-in-Some-clause-noted c =
    on_ok_weaker c.push_numbers.result
    (λ same. noted_some c.args.image.now c.args.list.now.items c.push_numbers.new.list.items c.args.x c.in-Some.i
    (sym c.in-Some.ensures.value) c.requires.noted same)
    c.push_numbers.ensures
