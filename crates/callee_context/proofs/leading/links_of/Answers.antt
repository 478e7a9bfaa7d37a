use Rattle.std.proofs.Common.{◌≡◌, ◌+◌, ℕ, List, Option, Some, get_or, subst, sym}
use Rattle.std.specs.Prelude.{slice_get}
use Rattle.std.proofs.lemmas.Option.{slice_get-get_or}
use Rattle.abs_state.specs.Key.{compare}
use Rattle.abs_state.specs.declared.key.Next.TheVariants.{At}
use Rattle.abs_state.specs.declared.key.Place.{Place}
use Rattle.callee_context.proofs.Growing.{grows_on}
use Rattle.callee_context.proofs.Linking.{links_next}
use Rattle.callee_context.specs.Program.{setting_in}
use Rattle.context_order.specs.Opened.{AreLinks}
use Rattle.flow_system.specs.Facts.{fact_at}
use Rattle.callee_context.proofs.leading.links_of.Goals as goal

pub loop-place-preserved : goal.loop-place-preserved
loop-place-preserved c =
    let h = c.in_ok-link.ensures {u = tt} in
    let before = c.loop-place.invariant in
    let at : slice_get c.args.within.now.nodes.items c.loop-place.place-index
    ≡ Some (get_or c.as_slice-nodes.result.now c.loop-place.place-index (record { sub = 0; pc = 0; next = At 0; depth = 0 })) =
    subst
    (λ (nodes : List Place). slice_get nodes c.loop-place.place-index
    ≡ Some (get_or c.as_slice-nodes.result.now c.loop-place.place-index (record { sub = 0; pc = 0; next = At 0; depth = 0 })))
    c.as_slice-nodes.ensures.value
    (slice_get-get_or c.as_slice-nodes.result.now c.loop-place.place-index (record { sub = 0; pc = 0; next = At 0; depth = 0 }) c.loop-place-test.true) in
    record {
      grows = grows_on (setting_in c.args.program.now) c.args.found.now c.loop-place.found c.link_at.new.found before.grows h.grows;
      links =
          subst
          (λ (list : List (Option ℕ)). AreLinks (setting_in c.args.program.now) c.link_at.new.found c.args.sub (fact_at compare c.args.within.now.facts)
          c.args.within.now.nodes.items (c.loop-place.place-index + 1) list)
          (sym (c.in_ok-push_link.ensures {u = tt}))
          (links_next (setting_in c.args.program.now) c.loop-place.found c.link_at.new.found h.grows c.args.sub (fact_at compare c.args.within.now.facts)
          c.args.within.now.nodes.items c.loop-place.place-index c.loop-place.links.items before.links
          (get_or c.as_slice-nodes.result.now c.loop-place.place-index (record { sub = 0; pc = 0; next = At 0; depth = 0 })) c.in_ok-link.link at h.link);
    }
