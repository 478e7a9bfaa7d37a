-- Lists in order that have the same items are one, where the order tells these items apart.
use Rattle.std.proofs.Common.{◌≡◌, ℕ, ◌+◌, ◌<◌, Bool, true, false, List, [], ◌∷◌, length, get_or, suc, refl, ap, sym, ◌∙◌, subst, arith, cond, inl, inr}
use Rattle.std.specs.Cmp.{IsTotalOrder, tied_itself, Equal-is}
use Rattle.std.specs.List.{sum_by}
use Rattle.std.specs.List.Sorted.{IsPermutation, IsSorted}
use Rattle.std.specs.Ordering.{is_eq, is_lt, ordering_reverse}
use Rattle.std.specs.Prelude.{All, Contains}
use Rattle.std.specs.declared.cmp.Ordering.{Ordering}
use Rattle.std.specs.declared.cmp.Ordering.TheVariants.{Less, Equal, Greater}
use Rattle.std.proofs.lemmas.Bool.{cases_lt, false≢true}
use Rattle.std.proofs.lemmas.List.{get_or_default}
use Rattle.std.proofs.lemmas.List.Elements.{All-head, All-tail, All-contains_itself}
use Rattle.std.proofs.lemmas.List.Sorted.{ranks_by, sorted_far, All-permutation, sum_by-IsPermutation}
use Rattle.std.proofs.lemmas.List.Sums.{sum_by-cons}
use Rattle.wcet_report.specs.Report.{AreApart}

-- 1 where an item ties with another
abbrev tally : {X : Type 0} → (X → X → Ordering) → X → X → ℕ
tally R x v = cond (is_eq (R x v)) 1 0

-- nothing in a list comes before an item
abbrev Least : {X : Type 0} → (X → X → Ordering) → X → List X → Type 0
Least R x [] = Unit {0}
Least R x (y ∷ ys) = (is_lt (R y x) ≡ false) × Least R x ys

-- each item comes before none of those in front of it
abbrev Rises : {X : Type 0} → (X → X → Ordering) → List X → Type 0
Rises R [] = Unit {0}
Rises R (x ∷ xs) = Least R x xs × Rises R xs

-- each item is of a kind
abbrev pub Each : {X : Type 0} → (X → Type 0) → List X → Type 0
Each P [] = Unit {0}
Each P (x ∷ xs) = P x × Each P xs

-- what holds of all holds of each
pub each_of_all : {X : Type 0} (P : X → Type 0) (xs : List X) → All P xs → Each P xs
each_of_all P [] all = tt
each_of_all P (x ∷ xs) all = (All-head P x xs all, each_of_all P xs (All-tail P x xs all))

least_at : {X : Type 0} (R : X → X → Ordering) (x : X) (xs : List X) → ((k : ℕ) (d : X) → k < length xs → is_lt (R (get_or xs k d) x) ≡ false)
    → Least R x xs
least_at R x [] at = tt
least_at R x (y ∷ ys) at = (at 0 y (omega arith), least_at R x ys (λ k d less. at (suc k) d (omega (arith, less))))

sorted_rest : {X : Type 0} (R : X → X → Ordering) (x : X) (xs : List X) → IsSorted R (x ∷ xs) → IsSorted R xs
sorted_rest R x xs sorted = λ k d low less.
    let next : suc k + 1 ≡ suc (k + 1) = omega arith in rw next at (sorted (suc k) d (omega arith) (omega (arith, less)))

rises_from : {X : Type 0} (R : X → X → Ordering) → IsTotalOrder R → (xs : List X) → IsSorted R xs → Rises R xs
rises_from R o [] sorted = tt
rises_from {X} R o (x ∷ xs) sorted = (
  least_at R x xs (λ k d less. sorted_far (λ (a b : X). is_lt (R a b)) (ranks_by o (λ (a : X). a)) (x ∷ xs) sorted 0 (suc k) d (omega arith)
      (omega (arith, less))),
  rises_from R o xs (sorted_rest R x xs sorted),
)

meets_by : {X : Type 0} (R : X → X → Ordering) → IsTotalOrder R → (y z v : X) (b : Bool) (count : ℕ) → is_eq (R y v) ≡ b → is_lt (R v z) ≡ false
    → (0 < count → is_lt (R y z) ≡ false) → 0 < cond b 1 0 + count → is_lt (R y z) ≡ false
meets_by R o y z v true count tie least rest some = ap is_lt (o.congr y v z ((Equal-is (R y v)).0 tie)) ∙ least
meets_by R o y z v false count tie least rest some = rest (omega (arith, some))

-- what ties with an item of a list comes before nothing that no item of the list comes before
meets : {X : Type 0} (R : X → X → Ordering) → IsTotalOrder R → (y z : X) (xs : List X) → Least R z xs → 0 < sum_by (tally R y) xs
    → is_lt (R y z) ≡ false
meets R o y z [] least some = absurd (omega (arith, some))
meets R o y z (v ∷ vs) least some =
    meets_by R o y z v (is_eq (R y v)) (sum_by (tally R y) vs) refl least.0 (meets R o y z vs least.1)
    (subst (λ n. 0 < n) (sum_by-cons (tally R y) v vs) some)

tie_of : (r s : Ordering) → r ≡ ordering_reverse s → is_lt r ≡ false → is_lt s ≡ false → r ≡ Equal
tie_of Less s turned one other = absurd (false≢true (sym one))
tie_of Equal s turned one other = refl
tie_of Greater Less turned one other = absurd (false≢true (sym other))
tie_of Greater Equal turned one other = cc
tie_of Greater Greater turned one other = cc

own_tally : {X : Type 0} (R : X → X → Ordering) → IsTotalOrder R → (x : X) (xs : List X)
    → sum_by (tally R x) (x ∷ xs) ≡ 1 + sum_by (tally R x) xs
own_tally R o x xs = sum_by-cons (tally R x) x xs ∙ ap (λ r. cond (is_eq r) 1 0 + sum_by (tally R x) xs) (tied_itself o x)

least_too : {X : Type 0} (R : X → X → Ordering) → IsTotalOrder R → (z : X) (zs : List X) → Least R z zs → Least R z (z ∷ zs)
least_too R o z zs least = (ap is_lt (tied_itself o z), least)

-- lists in order with as many of each kind of item are one
counted_once : {X : Type 0} (R : X → X → Ordering) → IsTotalOrder R → (P : X → Type 0) → ((a b : X) → P a → P b → R a b ≡ Equal → a ≡ b)
    → (ys zs : List X) → Each P ys → Each P zs → Rises R ys → Rises R zs
    → ((x : X) → sum_by (tally R x) ys ≡ sum_by (tally R x) zs) → ys ≡ zs
counted_once R o P exact [] [] of_ys of_zs up also counts = refl
counted_once R o P exact [] (z ∷ zs) of_ys of_zs up also counts =
    let wrong : 0 ≡ 1 + sum_by (tally R z) zs = counts z ∙ own_tally R o z zs in absurd (omega (arith, wrong))
counted_once R o P exact (y ∷ ys) [] of_ys of_zs up also counts =
    let wrong : 0 ≡ 1 + sum_by (tally R y) ys = sym (counts y) ∙ own_tally R o y ys in absurd (omega (arith, wrong))
counted_once {X} R o P exact (y ∷ ys) (z ∷ zs) of_ys of_zs up also counts =
    let some_z : 0 < sum_by (tally R y) (z ∷ zs) =
    subst (λ n. 0 < n) (counts y) (subst (λ n. 0 < n) (sym (own_tally R o y ys)) (omega arith)) in
    let some_y : 0 < sum_by (tally R z) (y ∷ ys) =
    subst (λ n. 0 < n) (sym (counts z)) (subst (λ n. 0 < n) (sym (own_tally R o z zs)) (omega arith)) in
    let down : is_lt (R y z) ≡ false = meets R o y z (z ∷ zs) (least_too R o z zs also.0) some_z in
    let back : is_lt (R z y) ≡ false = meets R o z y (y ∷ ys) (least_too R o y ys up.0) some_y in
    let same : y ≡ z = exact y z of_ys.0 of_zs.0 (tie_of (R y z) (R z y) (o.antisymm y z) down back) in
    let rest : (x : X) → sum_by (tally R x) ys ≡ sum_by (tally R x) zs = λ x.
    let whole : tally R x y + sum_by (tally R x) ys ≡ tally R x z + sum_by (tally R x) zs =
    sym (sum_by-cons (tally R x) y ys) ∙ counts x ∙ sum_by-cons (tally R x) z zs in
    let one : tally R x y ≡ tally R x z = ap (tally R x) same in
    omega (arith, whole, one) in
    let tails : ys ≡ zs = counted_once R o P exact ys zs of_ys.1 of_zs.1 up.1 also.1 rest in
    cc (same, tails)

-- what a list becomes in order is one, where the order tells its items apart
pub sorted_once : {X : Type 0} (R : X → X → Ordering) → IsTotalOrder R → (xs ys zs : List X)
    → ((a b : X) → Contains xs a → Contains xs b → R a b ≡ Equal → a ≡ b) → IsPermutation xs ys → IsPermutation xs zs
    → IsSorted R ys → IsSorted R zs → ys ≡ zs
sorted_once R o xs ys zs exact to_ys to_zs sorted also =
    counted_once R o (Contains xs) exact ys zs
    (each_of_all (Contains xs) ys (All-permutation (Contains xs) xs ys to_ys (All-contains_itself xs)))
    (each_of_all (Contains xs) zs (All-permutation (Contains xs) xs zs to_zs (All-contains_itself xs)))
    (rises_from R o ys sorted) (rises_from R o zs also)
    (λ x. sum_by-IsPermutation (tally R x) xs ys to_ys ∙ sym (sum_by-IsPermutation (tally R x) xs zs to_zs))

-- items of a list whose items are apart are one where they are alike
pub alike_once : {X : Type 0} (alike : X → X → Type 0) (list : List X) → AreApart alike list → ((a b : X) → alike a b → alike b a)
    → (a b : X) → Contains list a → Contains list b → alike a b → a ≡ b
alike_once alike list apart turn a b (j, j_less, a_is) (k, k_less, b_is) like =
    let at_k : get_or list k a ≡ b = get_or_default list k a b k_less ∙ b_is in
    let at_j : get_or list j b ≡ a = get_or_default list j b a j_less ∙ a_is in
    elim (cases_lt j k) [
      | inl before ↦
          absurd (apart j k a before k_less (subst (λ u. alike u (get_or list k a)) (sym a_is) (subst (λ v. alike a v) (sym at_k) like)))
      | inr others ↦ elim (cases_lt k j) [
        | inl after ↦
            absurd (apart k j b after j_less (subst (λ u. alike u (get_or list j b)) (sym b_is) (subst (λ v. alike b v) (sym at_j) (turn a b like))))
        | inr here ↦
            let at : j ≡ k = omega (arith, others, here) in
            sym a_is ∙ ap (λ n. get_or list n a) at ∙ at_k
      ]
    ]
