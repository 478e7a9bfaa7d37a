use Rattle.std.proofs.Common.{◌≡◌, true, [], ◌∷◌, refl}
use Rattle.value_lattice.specs.Test.{AreOrdered, is_over, is_at_most}
use Rattle.value_rows.proofs.laws.pairs_rise.Goals as goal

pub returns : goal.returns
returns c =
    let t = c.args.t.now in
    let a = c.args.a.now in
    let b = c.args.b.now in
    let is = c.requires in
    let left : is_over t a ≡ true = (c.tests_decide.ensures.over t a).1 is.left in
    let right : is_over t b ≡ true = (c.tests_decide.ensures.over t b).1 is.right in
    let ordered : AreOrdered a b = record { left = is.left.value; right = is.right.value; up = is.up } in
    let up : is_at_most a b ≡ true = (c.tests_decide.ensures.order a b).1 ordered in
    c.heights_of_lists_rise.ensures.rise t (a ∷ a ∷ []) (b ∷ b ∷ []) (rw left refl) (rw right refl) (rw up refl)
