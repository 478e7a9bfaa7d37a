-- What covers a list is the least value with all words that the test of its words passes.
use Rattle.std.proofs.Common.{◌≡◌, ℕ, ◌^◌, ◌<◌, true, eqb, List, Option, Some, None, refl}
use Rattle.std.specs.Set.{is_member}
use Rattle.value_lattice.specs.Least.{least_of, cover}
use Rattle.value_lattice.specs.Value.{IsLeastOrNone}
use Rattle.value_lattice.specs.declared.value.Value.{Value}

pub least_is_cover : (t list : List ℕ) (w : ℕ) (r : Option Value) → least_of t (is_member eqb list) ≡ r
    → IsLeastOrNone t (λ v. is_member eqb list v ≡ true) r → w < 2 ^ 32 → is_member eqb list w ≡ true → r ≡ Some (cover t list)
unfolding cover
least_is_cover t list w None same none word is = absurd (none w word is)
least_is_cover t list w (Some v) same least word is = rw same refl
