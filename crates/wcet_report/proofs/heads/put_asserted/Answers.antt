use Rattle.std.proofs.Common.{[], ◌∷◌, codes, decimal}
use Rattle.wcet_report.proofs.Joins.{joined}
use Rattle.wcet_report.proofs.heads.put_asserted.Goals as goal

pub returns : goal.returns
returns c =
    joined c.args.text.now.items c.put_passes.new.text.items c.put_word.new.text.items
    (codes "at" ∷ codes "most" ∷ decimal c.args.count ∷ codes "by" ∷ []) (codes "assertion" ∷ [])
    c.in_ok-put_passes.ensures c.in_ok-put_word.ensures
