use Rattle.std.proofs.Common.{rules, ap}
use Rattle.flow_system.specs.Facts.{fact_at}
use Rattle.local_facts.specs.Restricted.{restricted}
use Rattle.local_facts.proofs.Closing.{least_from_due_of, within_of, passing_is_too_big, too_big_of}
use Rattle.local_facts.proofs.Passing.{want_alone}
use Rattle.local_facts.proofs.least.least_facts.Goals as goal

pub returns-in_err-core-clause-nodes : goal.returns-in_err-core-clause-nodes
returns-in_err-core-clause-nodes g c =
    let h = passing_is_too_big g.S.Key.Ord.cmp
    (restricted g.S.Key.Ord.cmp (g.S.System.rules c.new-local.result.system.now) c.new-local.result.starts.items c.new-local.result.keep.items
    c.new-local.result.fixed)
    (restricted g.S.Key.Ord.cmp (g.S.System.rules c.args.system.now) c.args.starts.items c.args.keep.items c.args.fixed) c.args.limit
    c.new-local.ensures c.in_err-core.field-0.0 c.in_err-core.ensures.nodes in
    search rules

pub returns-clause-least : goal.returns-clause-least
returns-clause-least g c =
    least_from_due_of g.S.Key.Ord.cmp (g.S.System.rules c.args.system.now)
    (g.met.S.System.lawful c.args.system.now) c.args.starts.items c.args.keep.items c.args.fixed c.requires
    (restricted g.S.Key.Ord.cmp (g.S.System.rules c.new-local.result.system.now) c.new-local.result.starts.items c.new-local.result.keep.items
    c.new-local.result.fixed)
    (fact_at g.S.Key.Ord.cmp c.drive.new.core.facts) (fact_at g.S.Key.Ord.cmp c.in-Ok.closed) c.new-local.ensures c.in_ok-drive.ensures.due
    (ap (fact_at g.S.Key.Ord.cmp) c.in-Ok.ensures.closed.1)

pub returns-clause-within : goal.returns-clause-within
returns-clause-within g c =
    within_of g.S.Key.Ord.cmp (g.S.System.rules c.args.system.now)
    (g.met.S.System.lawful c.args.system.now) c.args.starts.items c.args.keep.items c.args.fixed c.requires
    (restricted g.S.Key.Ord.cmp (g.S.System.rules c.new-local.result.system.now) c.new-local.result.starts.items c.new-local.result.keep.items
    c.new-local.result.fixed)
    c.drive.new.core.facts c.in-Ok.closed c.in_ok-core.core.limit c.args.limit c.new-local.ensures c.in_ok-drive.ensures.within
    c.in-Ok.ensures.closed.1 c.in_ok-core.ensures.limit

pub returns-in_err-core-clause-room : goal.returns-in_err-core-clause-room
returns-in_err-core-clause-room g c = λ room.
    let h = passing_is_too_big g.S.Key.Ord.cmp
    (restricted g.S.Key.Ord.cmp (g.S.System.rules c.new-local.result.system.now) c.new-local.result.starts.items c.new-local.result.keep.items
    c.new-local.result.fixed)
    (restricted g.S.Key.Ord.cmp (g.S.System.rules c.args.system.now) c.args.starts.items c.args.keep.items c.args.fixed) c.args.limit
    c.new-local.ensures c.in_err-core.field-0.0 c.in_err-core.ensures.nodes in
    let want = want_alone g.S.Key.Ord.cmp (g.S.System.rules c.args.system.now)
    (g.met.S.System.lawful c.args.system.now) c.args.starts.items c.args.keep.items c.args.fixed c.requires c.args.limit room
    c.in_err-core.field-0.0 h in
    search rules

pub returns-in_err-drive-clause-room : goal.returns-in_err-drive-clause-room
returns-in_err-drive-clause-room g c = λ room.
    let h = too_big_of g.S.Key.Ord.cmp (restricted g.S.Key.Ord.cmp
    (g.S.System.rules c.new-local.result.system.now) c.new-local.result.starts.items c.new-local.result.keep.items c.new-local.result.fixed)
    (restricted g.S.Key.Ord.cmp (g.S.System.rules c.args.system.now) c.args.starts.items c.args.keep.items c.args.fixed) c.in_ok-core.core.limit
    c.args.limit c.new-local.ensures c.in_ok-core.ensures.limit c.in_err-drive.field-0.0 c.in_err-drive.ensures.nodes in
    let want = want_alone g.S.Key.Ord.cmp (g.S.System.rules c.args.system.now)
    (g.met.S.System.lawful c.args.system.now) c.args.starts.items c.args.keep.items c.args.fixed c.requires c.args.limit room
    c.in_err-drive.field-0.0 h in
    search rules
