use Rattle.std.proofs.Common.{◌∙◌, refl}
use Rattle.std.proofs.lemmas.Result.{IfOk-at_ok}
use Rattle.flow_core.proofs.QueueLemmas.{ok_unless_absent, insert_at_key}
use Rattle.flow_core.proofs.queue.write_mark.Goals as goal

pub unwrap-requires : goal.unwrap-requires
unwrap-requires g c = ok_unless_absent _ _ c.requires c.insert-written.ensures.absent

pub returns : goal.returns
returns g c =
    IfOk-at_ok _ c.unwrap.ensures c.insert-written.ensures.entries
    ∙ insert_at_key g.K.Ord.cmp g.met.K.Ord.total c.args.marks.now.entries c.args.k c.args.mark c.insert-written.ensures.was_ordered c.requires
