use Rattle.std.proofs.Common.{subst, sym, Contains, ◌∙◌}
use Rattle.flow_core.proofs.ReadersLemmas.{on_err_always}
use Rattle.flow_core.proofs.StagingLemmas.{listed_at}
use Rattle.flow_core.proofs.WritingLemmas.{readers_same, readers_onward, readers_unchanged, reader_added, lists_more}
use Rattle.flow_core.proofs.writing.list_reader.Goals as goal

pub returns-in_err-add-clause-keeps : goal.returns-in_err-add-clause-keeps
returns-in_err-add-clause-keeps g c =
    let cmp = g.S.Key.Ord.cmp in
    let reads = (g.S.System.rules c.args.system.now).reads in
    readers_onward cmp reads c.args.readers.now c.loop-r.readers c.add.new.self c.loop-r.invariant.keeps
    (readers_unchanged cmp reads c.loop-r.readers c.add.new.self c.in_err-add.ensures.same)

pub loop-r-preserved : goal.loop-r-preserved
loop-r-preserved g c =
    let cmp = g.S.Key.Ord.cmp in
    let keys = (g.met.S.System.lawful c.args.system.now).keys in
    let reads = (g.S.System.rules c.args.system.now).reads in
    let r = c.r-item.result in
    let items = c.deref-r-items.result.now in
    let listed : Contains (reads c.args.k) r = subst (λ list. Contains list r) (c.deref-r-items.ensures.value ∙ c.in_ok-reads.ensures)
    (listed_at items c.loop-r.r-index r c.loop-r-test.true c.r-item.is) in
    let added = reader_added cmp keys reads c.loop-r.readers c.add.new.self r c.args.k listed c.in_ok-add.ensures.added in
    record {
      keeps = readers_onward cmp reads c.args.readers.now c.loop-r.readers c.add.new.self c.loop-r.invariant.keeps added.0;
      lists = lists_more cmp items c.loop-r.r-index r c.args.k c.loop-r.readers c.add.new.self c.loop-r-test.true c.r-item.is
          c.loop-r.invariant.lists added.0.stays added.1;
    }
