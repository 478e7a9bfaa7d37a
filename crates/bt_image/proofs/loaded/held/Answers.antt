use Rattle.std.proofs.Common.{ℕ, List, ap, sym, ◌∙◌}
use Rattle.bt_image.proofs.LoadedLemmas.{held_is, held_passing, held_failing, whole_member, holds_means}
use Rattle.std.specs.Prelude.{Some, None}
use Rattle.bt_image.proofs.loaded.held.Goals as goal

pub returns-in-None-clause-value : goal.returns-in-None-clause-value
returns-in-None-clause-value c =
    sym (held_is c.args.access c.args.file.now c.args.a c.args.n c.args.loaded.now None c.requires.some c.requires.table c.in-None.ensures)

pub returns-then-not-admits-clause-value : goal.returns-then-not-admits-clause-value
returns-then-not-admits-clause-value c =
    let h = c.in-Some.ensures in
    let e = c.admits.ensures in
    let f = c.if-not-admits.true in
    sym (held_failing c.args.access c.args.file.now c.args.a c.args.n c.args.loaded.now c.in-Some.s c.requires.some c.requires.table h (sym e ∙ f))

pub bytes_of-requires : goal.bytes_of-requires
bytes_of-requires c =
    let h = c.in-Some.ensures in
    let w = whole_member c.args.file.now _ c.args.loaded.now c.in-Some.s c.requires.table h.0 in
    let m = holds_means c.in-Some.s c.args.a c.args.n h.1 in
    record { inside = w.inside; begins = m.0; ends = m.1 }

pub returns-else-not-admits-clause-value : goal.returns-else-not-admits-clause-value
returns-else-not-admits-clause-value c =
    let h = c.in-Some.ensures in
    let e = c.admits.ensures in
    let f = c.if-not-admits.false in
    ap (λ (x : List ℕ). Some x) c.bytes_of.ensures.value
    ∙ sym (held_passing c.args.access c.args.file.now c.args.a c.args.n c.args.loaded.now c.in-Some.s c.requires.some c.requires.table h (sym e ∙ f))
