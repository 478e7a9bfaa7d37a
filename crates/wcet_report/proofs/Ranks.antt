-- The ranks of outcomes put them into the order of a report.
use Rattle.std.proofs.Common.{◌≡◌, ℕ, ◌+◌, ◌<◌, List, [], ◌∷◌, ◌++◌, length, map, take, get_or, ap, sym, ◌∙◌, subst, arith, inl, inr, refl}
use Rattle.std.specs.Prelude.{All, false, slice_index_or}
use Rattle.std.proofs.lemmas.Grind.{common_steps}
use Rattle.std.proofs.lemmas.Bool.{cases_lt}
use Rattle.std.proofs.lemmas.List.{get_or_append_left, get_or_default, length-map, map_more, same_lists}
use Rattle.std.proofs.lemmas.List.Sorted.{IsPermutation-map, All-permutation}
use Rattle.std.proofs.Math.ListN.{get_or-map}
use Rattle.std.specs.List.Sorted.{IsPermutation, IsSorted}
use Rattle.std.specs.Cmp.Lexicographic.{slice_cmp}
use Rattle.std.specs.Ordering.{is_lt, nat_cmp, ordering_then}
use Rattle.std.specs.declared.cmp.Ordering.{Ordering}
use Rattle.std.specs.declared.cmp.Ordering.TheVariants.{Less, Equal, Greater}
use Rattle.std.proofs.lemmas.List.Concat.{flat_map-append}
use Rattle.std.specs.List.{AllZip}
use Rattle.wcet_report.specs.Order.{outcome_cmp}
use Rattle.wcet_report.specs.Progress.{PutsLines, PutsEach}
use Rattle.wcet_report.specs.Ranking.{IsRankOf, AreRanks, OrdersBy, picked, rank_cmp}
use Rattle.wcet_report.specs.Report.{AreLines}
use Rattle.wcet_report.specs.declared.outcome.Outcome.{Outcome}
use Rattle.wcet_report.specs.declared.sorting.Rank.{Rank}

-- one more outcome has its rank
pub ranks_more : (list : List Outcome) (i : ℕ) (ranks : List Rank) (rank : Rank) → AreRanks list i ranks
    → ((d : Outcome) → IsRankOf (slice_index_or list i d) i rank) → AreRanks list (i + 1) (ranks ++ rank ∷ [])
ranks_more list i ranks rank some one = record {
  long = grind (arith, common_steps, some.long);
  each = λ k d e less. elim (cases_lt k i) [
    | inl before ↦ subst (λ r. IsRankOf (slice_index_or list k d) k r)
        (sym (get_or_append_left ranks (rank ∷ []) e k (omega (arith, before, some.long)))) (some.each k d e before)
    | inr after ↦
        let at : k ≡ i = omega (arith, less, after) in
        let last : get_or (ranks ++ rank ∷ []) k e ≡ rank = grind (arith, common_steps, at, some.long) in
        subst (λ r. IsRankOf (slice_index_or list k d) k r) (sym last) (subst (λ n. IsRankOf (slice_index_or list n d) n rank) (sym at) (one d))
  ];
}

-- one more context has its lines
zip_push : (image : List ℕ) (list : List Outcome) (parts : List (List ℕ)) (outcome : Outcome) (part : List ℕ)
    → AllZip (AreLines image) list parts → AreLines image outcome part
    → AllZip (AreLines image) (list ++ outcome ∷ []) (parts ++ part ∷ [])
zip_push image [] [] outcome part all one = (one, tt)
zip_push image [] (p ∷ ps) outcome part all one = absurd all
zip_push image (o ∷ os) [] outcome part all one = absurd all
zip_push image (o ∷ os) (p ∷ ps) outcome part all one = (all.0, zip_push image os ps outcome part all.1 one)

pub puts_more : (image : List ℕ) (list : List Outcome) (outcome : Outcome) (a b c : List ℕ) → PutsEach image list a b
    → PutsLines image outcome b c → PutsEach image (list ++ outcome ∷ []) a c
puts_more image list outcome a b c some one = record {
  parts = some.parts ++ one.part ∷ [];
  each = zip_push image list some.parts outcome one.part some.each one.lines;
  is = grind (arith, common_steps, flat_map-append, some.is, one.is);
}

-- the rank at an index is that of the outcome there, whatever stands in for one past the end
pub rank_at : (list : List Outcome) (index : ℕ) (outcome : Outcome) (rank : Rank) → index < length list
    → outcome ≡ get_or list index outcome → IsRankOf outcome index rank → (d : Outcome) → IsRankOf (slice_index_or list index d) index rank
rank_at list index outcome rank less is ranked d =
    subst (λ o. IsRankOf o index rank) (is ∙ get_or_default list index outcome d less) ranked

picked_is : (list : List Outcome) (order : List Rank) (i : ℕ) (rank : Rank) (outcome d : Outcome) → rank ≡ get_or order i rank
    → rank.index < length list → outcome ≡ get_or list rank.index outcome → picked list d (get_or order i rank) ≡ outcome
picked_is list order i rank outcome d at less is =
    ap (picked list d) (sym at) ∙ get_or_default list rank.index d outcome less ∙ sym is

-- the lines of the outcome at one rank more are appended
pub puts_rank : (image : List ℕ) (list : List Outcome) (order : List Rank) (i : ℕ) (rank : Rank) (outcome : Outcome) (a b c : List ℕ)
    → i < length order → rank ≡ get_or order i rank → rank.index < length list → outcome ≡ get_or list rank.index outcome
    → ((d : Outcome) → PutsEach image (map (picked list d) (take i order)) a b) → PutsLines image outcome b c
    → (d : Outcome) → PutsEach image (map (picked list d) (take (i + 1) order)) a c
puts_rank image list order i rank outcome a b c less at index_less is so_far lines d =
    rw (map_more (picked list d) order i rank less)
    (puts_more image (map (picked list d) (take i order)) (picked list d (get_or order i rank)) a b c (so_far d)
    (subst (λ o. PutsLines image o b c) (sym (picked_is list order i rank outcome d at index_less is)) lines))

-- the index of a rank is one of the list
ranked_below : (list : List Outcome) (ranks : List Rank) → AreRanks list (length list) ranks → All (λ rank. rank.index < length list) ranks
ranked_below [] ranks ranked = λ k e less. absurd (omega (arith, less, ranked.long))
ranked_below (x ∷ xs) ranks ranked = λ k e less.
    let within : k < length (x ∷ xs) = omega (arith, less, ranked.long) in
    let is : (get_or ranks k e).index ≡ k = (ranked.each k x e within).index in omega (arith, is, within)

-- the outcomes that stand at the ranks are those of the list
picked_all : (list : List Outcome) (ranks : List Rank) (d : Outcome) → AreRanks list (length list) ranks → map (picked list d) ranks ≡ list
picked_all list [] d ranked = same_lists (map (picked list d) []) list ranked.long (λ k o less. absurd (omega (arith, less)))
picked_all list (r ∷ rs) d ranked = same_lists (map (picked list d) (r ∷ rs)) list (length-map (r ∷ rs) (picked list d) ∙ ranked.long) (λ k o less.
    let short : k < length (r ∷ rs) = subst (λ n. k < n) (length-map (r ∷ rs) (picked list d)) less in
    let within : k < length list = subst (λ n. k < n) ranked.long short in
    get_or_default (map (picked list d) (r ∷ rs)) k o (picked list d r) less
    ∙ get_or-map (picked list d) (r ∷ rs) k r
    ∙ ap (λ n. get_or list n d) (ranked.each k d r within).index
    ∙ get_or_default list k d o within)

-- a rank is that of the outcome which stands there
abbrev Stands : List Outcome → Outcome → Rank → Type 0
Stands list d rank = IsRankOf (picked list d rank) rank.index rank

ranks_stand : (list : List Outcome) (ranks : List Rank) (d : Outcome) → AreRanks list (length list) ranks → All (Stands list d) ranks
ranks_stand list ranks d ranked = λ k e less.
    let within : k < length list = subst (λ n. k < n) ranked.long less in
    let one : IsRankOf (slice_index_or list k d) k (get_or ranks k e) = ranked.each k d e within in
    subst (λ n. IsRankOf (slice_index_or list n d) n (get_or ranks k e)) (sym one.index) one

-- what comes after by more than the first three parts
first_three : (x y z w : Ordering) → is_lt (ordering_then x (ordering_then y (ordering_then z w))) ≡ false
    → is_lt (ordering_then x (ordering_then y z)) ≡ false
first_three Less y z w after = after
first_three Greater y z w after = refl
first_three Equal Less z w after = after
first_three Equal Greater z w after = refl
first_three Equal Equal Less w after = after
first_three Equal Equal Greater w after = refl
first_three Equal Equal Equal w after = refl

-- outcomes compare as the ranks do of which they are
outcomes_compare : (a b : Rank) (o p : Outcome) → IsRankOf o a.index a → IsRankOf p b.index b → is_lt (rank_cmp a b) ≡ false
    → is_lt (outcome_cmp o p) ≡ false
outcomes_compare a b o p at_a at_b after =
    let three : is_lt (ordering_then (nat_cmp a.sub b.sub)
    (ordering_then (nat_cmp a.known b.known) (slice_cmp nat_cmp a.text.items b.text.items))) ≡ false =
    first_three (nat_cmp a.sub b.sub) (nat_cmp a.known b.known) (slice_cmp nat_cmp a.text.items b.text.items) (nat_cmp a.index b.index) after in
    sym (λ i. is_lt (ordering_then (nat_cmp (at_a.sub i) (at_b.sub i))
    (ordering_then (nat_cmp (at_a.known i) (at_b.known i)) (slice_cmp nat_cmp (at_a.text i) (at_b.text i))))) ∙ three

-- the outcomes at sorted ranks are in the order of a report
picked_rise : (list : List Outcome) (d : Outcome) (ranks : List Rank) → All (Stands list d) ranks → IsSorted rank_cmp ranks
    → IsSorted outcome_cmp (map (picked list d) ranks)
picked_rise list d [] stand rise = λ k e low less. absurd (omega (arith, less))
picked_rise list d (r ∷ rs) stand rise = λ k e low less.
    let next : k + 1 < length (r ∷ rs) = subst (λ n. k + 1 < n) (length-map (r ∷ rs) (picked list d)) less in
    let here : k < length (r ∷ rs) = omega (arith, next) in
    let now : k < length (map (picked list d) (r ∷ rs)) = omega (arith, less) in
    let two : get_or (map (picked list d) (r ∷ rs)) (k + 1) e ≡ picked list d (get_or (r ∷ rs) (k + 1) r) =
    get_or_default (map (picked list d) (r ∷ rs)) (k + 1) e (picked list d r) less ∙ get_or-map (picked list d) (r ∷ rs) (k + 1) r in
    let one : get_or (map (picked list d) (r ∷ rs)) k e ≡ picked list d (get_or (r ∷ rs) k r) =
    get_or_default (map (picked list d) (r ∷ rs)) k e (picked list d r) now ∙ get_or-map (picked list d) (r ∷ rs) k r in
    (λ i. is_lt (outcome_cmp (two i) (one i)))
    ∙ outcomes_compare (get_or (r ∷ rs) (k + 1) r) (get_or (r ∷ rs) k r) _ _ (stand (k + 1) r next) (stand k r here) (rise k r low next)

-- sorted ranks put the outcomes of their list into the order of a report
pub orders_from : (list : List Outcome) (ranks sorted : List Rank) → AreRanks list (length list) ranks → IsPermutation ranks sorted
    → IsSorted rank_cmp sorted → OrdersBy list sorted
orders_from list ranks sorted ranked permuted rise = record {
  below = All-permutation (λ rank. rank.index < length list) ranks sorted permuted (ranked_below list ranks ranked);
  ordered = λ d. record {
    same = subst (λ items. IsPermutation items (map (picked list d) sorted)) (picked_all list ranks d ranked)
        (IsPermutation-map (picked list d) ranks sorted permuted);
    rise = picked_rise list d sorted (All-permutation (Stands list d) ranks sorted permuted (ranks_stand list ranks d ranked)) rise;
  };
}
