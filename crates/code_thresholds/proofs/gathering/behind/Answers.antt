use Rattle.code_thresholds.proofs.Gathered.{greater_than, has_behind, noted_behind}
use Rattle.code_thresholds.proofs.gathering.behind.Goals as goal

pub returns-clause-noted : goal.returns-clause-noted
returns-clause-noted c =
    noted_behind c.args.image.now c.args.list.now c.args.x c.after.result c.next_code.result c.requires.code c.after.ensures.near c.requires.noted
    c.next_code.ensures

pub returns-clause-greater : goal.returns-clause-greater
returns-clause-greater c =
    greater_than c.args.image.now c.args.x c.after.result c.next_code.result
    (c.after.ensures.greater (has_behind c.args.image.now c.args.x c.requires.code c.ranges.x.fits)) c.next_code.ensures
