-- What is appended piece by piece is what is appended at once.
use Rattle.std.proofs.Common.{◌≡◌, ℕ, ◌+◌, ◌<◌, ◌≤◌, ◌⊎◌, inl, inr, List, [], ◌∷◌, ◌++◌, length, drop, get_or, min, suc, refl, ap, sym, ◌∙◌, subst}
use Rattle.std.proofs.Common.{arith, append_assoc, append-nil, length-append, drop-cons, codes}
use Rattle.std.proofs.lemmas.Bool.{cases_lt}
use Rattle.std.proofs.lemmas.List.{drop_all}
use Rattle.std.proofs.lemmas.List.Concat.{flat_map-append}
use Rattle.std.specs.List.Sorted.{IsPermutation, IsSortedByKey}
use Rattle.value_lattice.specs.declared.value.Value.{Value}
use Rattle.wcet_report.specs.Context.{argument_names, argument_words, known, known_or_any}
use Rattle.wcet_report.specs.Line.{spaced}
use Rattle.wcet_report.specs.Order.{place_cmp, AreByHead}
use Rattle.wcet_report.specs.declared.loops.LoopOutcome.{LoopOutcome}

-- words behind words
pub spaced-append : (xs ys : List (List ℕ)) → spaced (xs ++ ys) ≡ spaced xs ++ spaced ys
spaced-append xs ys = flat_map-append (λ word. 32 ∷ word) xs ys

-- words appended in two steps
pub joined : (text first last : List ℕ) (xs ys : List (List ℕ)) → first ≡ text ++ spaced xs → last ≡ first ++ spaced ys
    → last ≡ text ++ spaced (xs ++ ys)
joined text first last xs ys one other =
    other ∙ ap (λ t. t ++ spaced ys) one ∙ append_assoc text (spaced xs) (spaced ys) ∙ ap (λ t. text ++ t) (sym (spaced-append xs ys))

-- the rest of a list from a place on
next : {X : Type 0} (xs : List X) (k : ℕ) (d : X) → k < length xs → drop k xs ≡ get_or xs k d ∷ drop (k + 1) xs
next xs k d less =
    let one : suc k ≡ k + 1 = omega arith in drop-cons xs k d less ∙ ap (λ n. get_or xs k d ∷ drop n xs) one

known_at : (names : List (List ℕ)) (values : List Value) (k : ℕ) (v : Value) → k < length names → k < length values → v ≡ get_or values k v
    → known (drop k names) (drop k values) ≡ argument_words (get_or names k []) v ++ known (drop (k + 1) names) (drop (k + 1) values)
known_at names values k v in_names in_values is =
    let name : drop k names ≡ get_or names k [] ∷ drop (k + 1) names = next names k [] in_names in
    let value : drop k values ≡ v ∷ drop (k + 1) values = next values k v in_values ∙ ap (λ u. u ∷ drop (k + 1) values) (sym is) in
    ap (λ ns. known ns (drop k values)) name ∙ ap (λ vs. known (get_or names k [] ∷ drop (k + 1) names) vs) value

-- one argument more is appended
pub known_more : (all before after : List ℕ) (values : List Value) (k : ℕ) (v : Value) → k < 13 → k < length values → v ≡ get_or values k v
    → before ++ spaced (known (drop k argument_names) (drop k values)) ≡ all
    → after ≡ before ++ spaced (argument_words (get_or argument_names k []) v)
    → after ++ spaced (known (drop (k + 1) argument_names) (drop (k + 1) values)) ≡ all
known_more all before after values k v in_names in_values is so_far put =
    let rest : List (List ℕ) = known (drop (k + 1) argument_names) (drop (k + 1) values) in
    let one : List (List ℕ) = argument_words (get_or argument_names k []) v in
    ap (λ t. t ++ spaced rest) put ∙ append_assoc before (spaced one) (spaced rest)
    ∙ ap (λ t. before ++ t) (sym (spaced-append one rest))
    ∙ ap (λ words. before ++ spaced words) (sym (known_at argument_names values k v in_names in_values is))
    ∙ so_far

no_values : (names : List (List ℕ)) → known names [] ≡ []
no_values [] = refl
no_values (n ∷ ns) = refl

-- past the last name or the last value nothing is known
pub known_ends : (names : List (List ℕ)) (values : List Value) (k : ℕ) → length names ≤ k ⊎ (length values ≤ k)
    → known (drop k names) (drop k values) ≡ []
known_ends names values k (inl ends) = ap (λ ns. known ns (drop k values)) (drop_all k names ends)
known_ends names values k (inr ends) = ap (λ vs. known (drop k names) vs) (drop_all k values ends) ∙ no_values (drop k names)

cases_ends : (values : List Value) (k n : ℕ) → n ≡ min (length values) 13 → n ≤ k → length argument_names ≤ k ⊎ (length values ≤ k)
cases_ends values k n is past = elim (cases_lt (length values) 13) [
  | inl fewer ↦ inr (omega (arith, is, past, fewer))
  | inr many ↦ inl (omega (arith, is, past, many))
]

-- once all are gone through all is appended
pub known_done : (all now : List ℕ) (values : List Value) (k n : ℕ) → n ≡ min (length values) 13 → n ≤ k
    → now ++ spaced (known (drop k argument_names) (drop k values)) ≡ all → now ≡ all
known_done all now values k n is past so_far =
    sym (append-nil now) ∙ ap (λ words. now ++ spaced words) (sym (known_ends argument_names values k (cases_ends values k n is past))) ∙ so_far

-- where no argument is written there are no words, and one stands in for them
pub any_put : (text : List ℕ) (words : List (List ℕ)) → length (text ++ spaced words) ≡ length text
    → (text ++ spaced words) ++ spaced (codes "any" ∷ []) ≡ text ++ spaced (known_or_any words)
any_put text [] same = ap (λ t. t ++ spaced (codes "any" ∷ [])) (append-nil text)
any_put text (w ∷ ws) same = absurd (omega (arith, same, length-append text (spaced (w ∷ ws))))

-- where some are written they stand for themselves
pub some_put : (text : List ℕ) (words : List (List ℕ)) → (length (text ++ spaced words) ≡ length text → ⊥)
    → text ++ spaced words ≡ text ++ spaced (known_or_any words)
some_put text [] other = absurd (other (ap length (append-nil text)))
some_put text (w ∷ ws) other = refl

-- a list of loops that was sorted is by rising head
pub by_head_from : (loops list sorted : List LoopOutcome) → list ≡ loops → IsPermutation list sorted
    → IsSortedByKey (λ each. each.head) place_cmp sorted → AreByHead loops sorted
by_head_from loops list sorted same permuted rise =
    record { same = subst (λ items. IsPermutation items sorted) same permuted; rise = rise }
