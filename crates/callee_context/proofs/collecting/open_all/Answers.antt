use Rattle.std.proofs.Common.{◌≡◌, ◌<◌, ℕ, List, Some, get_or, length, subst, sym, arith}
use Rattle.std.specs.Prelude.{slice_get}
use Rattle.std.proofs.lemmas.Option.{slice_get-get_or}
use Rattle.callee_context.proofs.Growing.{grows_on}
use Rattle.callee_context.proofs.Linking.{opened_next}
use Rattle.callee_context.specs.Program.{setting_in}
use Rattle.context_list.specs.Numbered.{One}
use Rattle.context_order.specs.Opened.{AreOpened}
use Rattle.context_order.specs.declared.opened.Opened.{Opened}
use Rattle.wcet_report.specs.declared.context.Context.TheVariants.{Plain}
use Rattle.callee_context.proofs.collecting.open_all.Goals as goal

pub loop-alloc-preserved : goal.loop-alloc-preserved
loop-alloc-preserved c =
    let h = c.in_ok-one.ensures {u = tt} in
    let before = c.loop-alloc.invariant in
    let number : c.len-number.result ≡ length c.loop-alloc.all.items = omega (arith, c.len-number.ensures, c.loop-alloc.all.ok.0) in
    let less : length c.loop-alloc.all.items < length c.loop-alloc.found =
    omega (arith, c.loop-alloc-test.true, c.len.ensures, c.len-in-loop-alloc.ensures, c.loop-alloc.all.ok.0) in
    let one : One = get_or c.loop-alloc.found (length c.loop-alloc.all.items) (0, Plain) in
    let at : slice_get c.loop-alloc.found (length c.loop-alloc.all.items) ≡ Some one =
    slice_get-get_or c.loop-alloc.found (length c.loop-alloc.all.items) (0, Plain) less in
    let here : slice_get c.loop-alloc.found c.len-number.result ≡ Some one =
    subst (λ (n : ℕ). slice_get c.loop-alloc.found n ≡ Some one) (sym number) at in
    record {
      grows = grows_on (setting_in c.args.program.now) c.args.found.now c.loop-alloc.found c.open_one.new.found before.grows h.grows;
      opened =
          subst (λ (list : List Opened). AreOpened (setting_in c.args.program.now) c.open_one.new.found list) (sym (c.in_ok-push_opened.ensures {u = tt}))
          (opened_next (setting_in c.args.program.now) c.loop-alloc.found c.open_one.new.found h.grows c.loop-alloc.all.items before.opened one c.in_ok-one.one
          at (h.opened one here));
    }
