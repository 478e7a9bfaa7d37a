use Rattle.std.proofs.Common.{◌≡◌, ◌∙◌, ℕ, List, ap, sym, subst}
use Rattle.assert_bind.specs.Binding.{loops}
use Rattle.assert_bind.specs.declared.body.BoundAssertion.{BoundAssertion}
use Rattle.assert_bind.specs.declared.body.LoopLine.{LoopLine}
use Rattle.context_bounds.specs.Setting.{setting_of}
use Rattle.graph_view.specs.View.{ByKind, IsViewed}
use Rattle.loop_lines.proofs.Views.{first_unmatched, rooted, view_rises}
use Rattle.loop_lines.proofs.unmatched_line.unmatched.Goals as goal
use Rattle.loop_lines.specs.Lines.{IsFirstMissingOrNone}
use Rattle.loop_lines.specs.Matched.{AreAddresses, IsRooted}

pub matched_addresses-requires : goal.matched_addresses-requires
matched_addresses-requires c =
    subst (λ (v : ByKind). (sub : ℕ) → IsViewed v sub → IsRooted v sub) (sym c.requires.view)
    (λ sub viewed.
    rooted c.args.system.now.thresholds c.args.system.now.image c.args.system.now.binding c.args.system.now.eight c.args._whole.now c.args.system.now.numbers
    c.requires.due c.requires.keys sub (view_rises c.args._whole.now sub c.requires.keys) viewed)

pub returns : goal.returns
returns c = λ costs.
    let are : AreAddresses c.args.view.now c.in_ok-addresses.addresses.items = (c.in_ok-addresses.ensures {u = tt}).are in
    let lines : c.loops.result.now ≡ loops c.args.system.now.binding =
    c.loops.ensures.value ∙ ap (λ (l : List BoundAssertion). loops l) c.binding.ensures in
    let first : IsFirstMissingOrNone (loops c.args.system.now.binding) c.in_ok-addresses.addresses.items c.first_missing.result =
    subst (λ (l : List LoopLine). IsFirstMissingOrNone l c.in_ok-addresses.addresses.items c.first_missing.result) lines
    (subst (λ (l : List ℕ). IsFirstMissingOrNone c.loops.result.now l c.first_missing.result) c.deref.ensures.value c.first_missing.ensures) in
    first_unmatched (setting_of c.args.system.now costs c.args._whole.now) c.requires.keys c.in_ok-addresses.addresses.items
    (subst (λ (v : ByKind). AreAddresses v c.in_ok-addresses.addresses.items) c.requires.view are) c.first_missing.result first
