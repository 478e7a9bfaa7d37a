use Rattle.std.proofs.Common.{subst}
use Rattle.sparc_text.specs.Progress.{IsListedUpTo}
use Rattle.sparc_text.proofs.Listed.{listed_push}
use Rattle.sparc_text.proofs.lines.listing.Goals as goal

pub loop-next-preserved : goal.loop-next-preserved
loop-next-preserved c =
    let listed = subst (IsListedUpTo c.args.image.now c.loop-next.text.items) c.in-Some.is c.loop-next.invariant in
    listed_push c.args.image.now _ _ c.in-Some.at _ listed c.in_ok-put_line_at.ensures c.code_above-next.ensures
