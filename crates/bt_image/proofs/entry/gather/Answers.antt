use Rattle.std.proofs.Common.{◌+◌, sym, ◌∙◌, ap, subst, Vec, Global}
use Rattle.bt_image.specs.Entry.{AreEntries, entry_from}
use Rattle.bt_image.specs.declared.entry.Entry.{Entry}
use Rattle.bt_image.specs.declared.symbol.Symbol.{Symbol}
use Rattle.bt_image.proofs.EntryLemmas.{one_entered, none_more}
use Rattle.bt_image.proofs.entry.gather.Goals as goal
use Rattle.bt_image.proofs.entry.gather.Goals.{in-None, in-Some+in_ok-push-in-Some}

pub loop-k-preserved : goal.loop-k-preserved
loop-k-preserved c =
    let file = c.args.file.now in
    elim c.match-function_symbol.branch [
      | in-None w ↦
          (let q = ap (λ (v : Vec Entry Global). v.items) w.entries-is in
          subst (AreEntries file (c.loop-k.k + 1)) (sym q) (none_more file c.loop-k.entries.items c.loop-k.k w.in-None.ensures.none c.loop-k.invariant))
      | in-Some+in_ok-push-in-Some w ↦
          one_entered file c.loop-k.entries.items c.match-function_symbol.entries.items c.loop-k.k (entry_from w.in-Some.s) w.in-Some.ensures.some.0
          (ap (λ (s : Symbol). entry_from s) (sym w.in-Some.ensures.some.1))
          (ap (λ (v : Vec Entry Global). v.items) w.entries-is ∙ w.in_ok-push-in-Some.ensures.items) c.loop-k.invariant
    ]
