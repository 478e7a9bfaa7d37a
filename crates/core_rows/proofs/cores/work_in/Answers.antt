use Rattle.core_rows.specs.Ring.{ring, ring_lawful}
use Rattle.core_rows.proofs.cores.work_in.Goals as goal

pub merge_one-requires-in-3-clause-good : goal.merge_one-requires-in-3-clause-good
merge_one-requires-in-3-clause-good c =
    let s = c.args.system.now in
    c.give_back.ensures.good (ring s.last s.second) (ring_lawful s.last s.second) c.in_ok-second.ensures.good

pub merge_one-requires-in_default-2-clause-good : goal.merge_one-requires-in_default-2-clause-good
merge_one-requires-in_default-2-clause-good c =
    let s = c.args.system.now in
    c.give_back-in_default.ensures.good (ring s.last s.second) (ring_lawful s.last s.second) c.in_ok-third-in_default.ensures.good

pub returns-in-4 : goal.returns-in-4
returns-in-4 c =
    let s = c.args.system.now in
    c.give_back-in-4-2.ensures.good (ring s.last s.second) (ring_lawful s.last s.second)
    (c.give_back-in-4.ensures.good (ring s.last s.second) (ring_lawful s.last s.second) c.in_ok-second.ensures.good)
