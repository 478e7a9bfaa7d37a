use Rattle.std.proofs.Common.{[], refl, subst}
use Rattle.flow_system.specs.Facts.{KeysRise}
use Rattle.flow_core.specs.Core.{CoreState}
use Rattle.flow_core.proofs.CoreLemmas.{empty_kept}
use Rattle.flow_core.proofs.PartLemmas.{empty_part}
use Rattle.flow_core.proofs.cores.Core.empty.Goals as goal

pub returns-clause-part : goal.returns-clause-part
returns-clause-part g c =
    let cmp = g.S.Key.Ord.cmp in
    let m = g.S.System.rules c.args._system.now in
    let law = g.met.S.System.lawful c.args._system.now in
    let s : CoreState g.row.S-Key.Denot g.row.S-Val.Denot =
    record {
      facts = c.empty.result;
      marks = c.empty-2.result;
      out = c.new.result.items;
      readers = c.empty-3.result;
      count = 0;
      limit = c.args.limit;
    } in
    empty_part cmp m law s c.empty.ensures.none c.empty-2.ensures.none
    (empty_kept cmp m law c.args.limit s c.empty.ensures.none c.empty-2.ensures.none c.empty-3.ensures refl refl
    (subst (λ es. KeysRise cmp es) c.empty.ensures.none c.empty.ensures.rise) (subst (λ es. KeysRise cmp es) c.empty-2.ensures.none c.empty-2.ensures.rise))
