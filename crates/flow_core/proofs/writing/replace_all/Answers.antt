use Rattle.std.proofs.Common.{subst, sym, ◌∙◌}
use Rattle.flow_core.proofs.WritingLemmas.{gone_more, all_written, none_left}
use Rattle.flow_core.proofs.writing.replace_all.Goals as goal

pub loop-k-preserved : goal.loop-k-preserved
loop-k-preserved g c =
    let inv = c.loop-k.invariant in
    let step = c.replace.ensures in
    record {
      rise = step.rise;
      whole = λ q. step.whole q ∙ inv.whole q;
      there = step.there;
      less = λ q s. inv.less q (step.less q s);
      gone = gone_more g.K.Ord.cmp c.args.keys.now c.loop-k.k-index c.k-item.result c.loop-k.risen c.replace.new.risen c.loop-k-test.true
          c.k-item.is inv.gone step.less step.gone;
    }
