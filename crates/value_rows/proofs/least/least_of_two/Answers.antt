use Rattle.std.proofs.Common.{◌≡◌, ℕ, ◌∷◌, [], eqb, List, Some, refl, sym, ap, ◌∙◌, arith}
use Rattle.std.specs.Set.{is_member}
use Rattle.value_lattice.specs.Least.{least_of, cover}
use Rattle.value_lattice.specs.declared.value.Value.{Value}
use Rattle.value_rows.proofs.LeastOf.{least_is_cover}
use Rattle.value_rows.proofs.least.least_of_two.Goals as goal

pub returns : goal.returns
returns c =
    let t = c.args.t.now in
    let two : List ℕ = 3 ∷ 7 ∷ [] in
    let test = is_member eqb two in
    let is : least_of t test ≡ Some (cover t two) =
    least_is_cover t two 3 (least_of t test) refl (c.least_values_exist.ensures t test c.are_thresholds.ensures) (omega arith) refl in
    is ∙ ap (λ (v : Value). Some v) (sym c.in_ok-cover.ensures.value)
