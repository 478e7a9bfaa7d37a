-- The list of the results of each pair of words.
use Rattle.std.proofs.Common.{◌≡◌, ℕ, zero, suc, ◌<◌, false, List, [], ◌∷◌, length, get_or, refl, sym, subst, ◌∙◌, ⊎_elim, arith, map, Contains}
use Rattle.std.proofs.lemmas.List.{length-map, get_or-map}
use Rattle.std.proofs.lemmas.List.Elements.{Contains-append_left, Contains-append_right, Contains-append_cases, Contains-get_or}
use Rattle.value_lattice.specs.Value.{IsLeast}
use Rattle.value_lattice.specs.declared.value.Value.{Value}
use Rattle.value_lattice.proofs.SetLemmas.{Contains-map}
use Rattle.value_lattice.proofs.ValueLemmas.{least_of_same}
use Rattle.value_ops.specs.Operation.{IsPointwise, result_of, results}
use Rattle.value_ops.specs.declared.op.Op.{Op}

-- a mapped list has only what the list gives
from_map : (f : ℕ → ℕ) (ys : List ℕ) (w : ℕ) → Contains (map f ys) w → (y : ℕ) × Contains ys y × (w ≡ f y)
from_map f ys w has =
    let within : has.0 < length ys = omega (arith, has.1, length-map ys f) in
    (get_or ys has.0 0, Contains-get_or ys has.0 0 within, sym has.2 ∙ get_or-map f ys has.0 0 w within)

from_first : (op : Op) (x : ℕ) (xs ys : List ℕ) (w : ℕ) → Contains (map (result_of op false x) ys) w → IsPointwise op (x ∷ xs) ys w
from_first op x xs ys w has =
    let pair = from_map (result_of op false x) ys w has in
    record { first = x; second = pair.0; left = (0, omega arith, refl); right = pair.1; is = pair.2 }

from_rest : (op : Op) (x : ℕ) (xs ys : List ℕ) (w : ℕ) → IsPointwise op xs ys w → IsPointwise op (x ∷ xs) ys w
from_rest op x xs ys w pair = record {
  first = pair.first;
  second = pair.second;
  left = (suc pair.left.0, omega (arith, pair.left.1), pair.left.2);
  right =
      pair.right;
  is = pair.is;
}

pub results_are_pairs : (op : Op) (xs ys : List ℕ) (w : ℕ) → Contains (results op xs ys) w → IsPointwise op xs ys w
results_are_pairs op [] ys w has = absurd (omega (arith, has.1))
results_are_pairs op (x ∷ xs) ys w has =
    ⊎_elim (λ here. from_first op x xs ys w here) (λ there. from_rest op x xs ys w (results_are_pairs op xs ys w there))
    (Contains-append_cases (map (result_of op false x) ys) (results op xs ys) w has)

has_pair : (op : Op) (xs ys : List ℕ) (k x y : ℕ) → k < length xs → get_or xs k x ≡ x → Contains ys y → Contains (results op xs ys) (result_of op false x y)
has_pair op [] ys k x y within at has = absurd (omega arith)
has_pair op (w ∷ xs) ys zero x y within at has =
    Contains-append_left (map (result_of op false w) ys) (results op xs ys) (result_of op false x y)
    (subst (λ (v : ℕ). Contains (map (result_of op false v) ys) (result_of op false x y)) (sym at) (Contains-map (result_of op false x) ys y has))
has_pair op (w ∷ xs) ys (suc k) x y within at has =
    Contains-append_right (map (result_of op false w) ys) (results op xs ys) (result_of op false x y) (has_pair op xs ys k x y (omega arith) at has)

-- the result of a pair is among the listed ones
pub pairs_are_results : (op : Op) (xs ys : List ℕ) (w : ℕ) → IsPointwise op xs ys w → Contains (results op xs ys) w
pairs_are_results op xs ys w pair = subst (Contains (results op xs ys)) (sym pair.is)
    (has_pair op xs ys pair.left.0 pair.first pair.second pair.left.1 pair.left.2 pair.right)

-- what covers the listed results is the least value with the result of each pair
pub pointwise_is_least : (t : List ℕ) (op : Op) (xs ys : List ℕ) (v : Value) → IsLeast t (Contains (results op xs ys)) v → IsLeast t (IsPointwise op xs ys) v
pointwise_is_least t op xs ys v least = least_of_same t (Contains (results op xs ys)) (IsPointwise op xs ys) v
    (λ w word has. results_are_pairs op xs ys w has) (λ w word pair. pairs_are_results op xs ys w pair) least

-- two lists with a word have a result
pub some_result : (op : Op) (xs ys : List ℕ) → 0 < length xs → 0 < length ys → 0 < length (results op xs ys)
some_result op xs ys some_x some_y =
    let has = pairs_are_results op xs ys (result_of op false (get_or xs 0 0) (get_or ys 0 0))
    (record { first = get_or xs 0 0; second = get_or ys 0 0; left = Contains-get_or xs 0 0 some_x; right = Contains-get_or ys 0 0 some_y; is = refl }) in
    omega (arith, has.1)
