use Rattle.std.proofs.Common.{◌<◌, ◌≡◌, length, subst, sym, ap, ◌∙◌, arith}
use Rattle.flow_core.specs.Core.{strike}
use Rattle.flow_core.proofs.CoreLemmas.{struck_at, struck_none, before_more, not_equal_is_eq}
use Rattle.flow_core.proofs.cores.strike_from.Goals as goal

pub returns-in-Equal : goal.returns-in-Equal
returns-in-Equal g c =
    let inv = c.loop-place.invariant in
    let items = c.loop-place.out.items in
    let within : c.loop-place.place < length items = omega (arith, c.loop-place-test.true, c.len-place-end.ensures, c.args.out.now.ok.0, ap length inv.same) in
    subst (λ list. c.remove.new.self.items ≡ strike g.K.Ord.cmp list c.args.k) inv.same
    (c.remove.ensures.items ∙ struck_at g.K.Ord.cmp items c.args.k c.loop-place.place within inv.before c.index.result.now c.index.ensures c.in-Equal.ensures)

pub loop-place-preserved : goal.loop-place-preserved
loop-place-preserved g c =
    let inv = c.loop-place.invariant in
    let items = c.loop-place.out.items in
    let within : c.loop-place.place < length items = omega (arith, c.loop-place-test.true, c.len-place-end.ensures, c.args.out.now.ok.0, ap length inv.same) in
    record {
      same = inv.same;
      before = before_more g.K.Ord.cmp items c.args.k c.loop-place.place c.index.result.now within c.index.ensures
          (not_equal_is_eq c.cmp.result _ c.cmp.ensures c.in_default.not-Equal) inv.before;
    }

pub returns : goal.returns
returns g c =
    let inv = c.loop-place.invariant in
    let items = c.loop-place.out.items in
    subst (λ list. items ≡ strike g.K.Ord.cmp list c.args.k) inv.same
    (struck_none g.K.Ord.cmp items c.args.k c.loop-place.place (omega
    (arith, c.loop-place-test.false, c.len-place-end.ensures, c.args.out.now.ok.0, ap length inv.same)) inv.before)
