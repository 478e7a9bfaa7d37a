use Rattle.std.proofs.Common.{◌≡◌, Some, sym}
use Rattle.abs_state.specs.Key.{compare}
use Rattle.abs_state.specs.declared.key.Key.TheVariants as key
use Rattle.flow_system.specs.Facts.{fact_at}
use Rattle.plain_parts.proofs.JoinedFacts.{given_of}
use Rattle.plain_parts.proofs.joining.join_key.Goals as goal

pub join_given-requires-clause-given : goal.join_given-requires-clause-given
join_given-requires-clause-given c =
    let h = c.in-Some.ensures {u = tt} in
    let found : Some c.in-Some.given.now ≡ fact_at compare c.args.facts.now (key.Call c.in-Call.from c.in-Call.callee) = h.fact in
    given_of c.args.t.now c.in-Call.from c.in-Call.callee c.in-Some.given.now
    (c.requires.fit (key.Call c.in-Call.from c.in-Call.callee) c.in-Some.given.now (sym found))
