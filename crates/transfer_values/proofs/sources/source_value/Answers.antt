use Rattle.std.proofs.Common.{rules, ◌≡◌, ◌∷◌, [], ◌∙◌, Option, ap, subst, ℤ}
use Rattle.std.proofs.lemmas.Int.{to_z-of_z}
use mir.Val.{SFits, to_z, of_z}
use mir.Syntax.{w32}
use Rattle.transfer_values.specs.Source.{ranged}
use Rattle.std.specs.Prelude.{IfOk}
use Rattle.value_lattice.specs.declared.value.Value.{Value}
use Rattle.value_lattice.specs.declared.value.Value.TheVariants.{Words}
use Rattle.transfer_values.proofs.CodeLemmas.{source_anything, source_exactly, source_ranged, source_applied, source_loaded}
use Rattle.transfer_values.proofs.sources.source_value.Goals as goal

pub returns-in-Anything : goal.returns-in-Anything
returns-in-Anything c =
    source_anything c.args.t.now c.args.image.now c.args.state.now c.args.source c.top.result c.in-Anything.is c.top.ensures.range

pub returns-in_ok-word-in-Exactly : goal.returns-in_ok-word-in-Exactly
returns-in_ok-word-in-Exactly c =
    let e : c.in_ok-word-in-Exactly.field-0 ≡ Words (c.in-Exactly.w ∷ []) = cc c.in_ok-word-in-Exactly.ensures.value in
    source_exactly c.args.t.now c.args.image.now c.args.state.now c.args.source c.in_ok-word-in-Exactly.field-0 c.in-Exactly.w c.in-Exactly.is e
    (c.in_ok-word-in-Exactly.ensures.over c.args.t.now)

pub returns-in_ok-ranged-in-Ranged : goal.returns-in_ok-ranged-in-Ranged
returns-in_ok-ranged-in-Ranged c =
    let low : SFits w32 c.in-Ranged.lo = search rules in
    let high : SFits w32 c.in-Ranged.hi = search rules in
    source_ranged c.args.t.now c.args.image.now c.args.state.now c.args.source c.in_ok-ranged-in-Ranged.field-0 c.in-Ranged.lo c.in-Ranged.hi c.in-Ranged.is
    (c.in_ok-ranged-in-Ranged.ensures ∙ ap (λ (x : ℤ). ranged c.args.t.now x (to_z w32 (of_z w32 c.in-Ranged.hi))) (to_z-of_z w32 c.in-Ranged.lo low)
    ∙ ap (ranged c.args.t.now c.in-Ranged.lo) (to_z-of_z w32 c.in-Ranged.hi high))

pub returns-in_ok-applied-in-Applied : goal.returns-in_ok-applied-in-Applied
returns-in_ok-applied-in-Applied c =
    source_applied c.args.t.now c.args.image.now c.args.state.now c.args.source c.in_ok-applied-in-Applied.field-0 c.in-Applied.op c.in-Applied.left
    c.in-Applied.right
    c.in-Applied.is c.in_ok-applied-in-Applied.ensures.value

pub returns-in_ok-address-in-Loaded : goal.returns-in_ok-address-in-Loaded
returns-in_ok-address-in-Loaded c =
    subst (λ (o : Option Value). IfOk c.loaded.result (λ r. r ≡ o))
    (source_loaded c.args.t.now c.args.image.now c.args.state.now c.args.source c.in_ok-address-in-Loaded.address c.in-Loaded.left c.in-Loaded.right
    c.in-Loaded.is c.in_ok-address-in-Loaded.ensures.value) c.loaded.ensures
