-- The index of a list, with one more assertion.
use Rattle.std.proofs.Common.{◌≡◌, ℕ, zero, suc, ◌+◌, ◌<◌, Bool, true, false, cond, List, [], ◌∷◌, ◌++◌, length, Option}
use Rattle.std.proofs.Common.{Some, None, refl, sym, ◌∙◌, ap, subst, arith, length-append}
use Rattle.std.specs.BTreeMap.{BTreeMap, get, is_at, Updates}
use Rattle.std.specs.List.{slice_get}
use Rattle.std.specs.Option.{option_or}
use Rattle.std.proofs.lemmas.List.Folds.{find-append}
use Rattle.assert_bind.specs.Binding.{about, speaks_of}
use Rattle.assert_bind.specs.Index.{IsIndex, IsPlace, subject_cmp}
use Rattle.assert_bind.specs.Subject.{is_same, subject_of}
use Rattle.assert_bind.specs.declared.body.BoundAssertion.{BoundAssertion}
use Rattle.assert_bind.specs.declared.subject.Subject.{Subject}
use Rattle.assert_bind.proofs.SubjectLemmas.{same_by_order, same_itself, same_exact}

or_none : {X : Type 0} (o : Option X) → option_or o None ≡ o
or_none None = refl
or_none (Some x) = refl

get_front : {X : Type 0} (xs ys : List X) (k : ℕ) → k < length xs → slice_get (xs ++ ys) k ≡ slice_get xs k
get_front [] ys k less = absurd (omega arith)
get_front (x ∷ xs) ys zero less = refl
get_front (x ∷ xs) ys (suc k) less = get_front xs ys k (omega arith)

get_last : {X : Type 0} (xs : List X) (x : X) → slice_get (xs ++ x ∷ []) (length xs) ≡ Some x
get_last [] x = refl
get_last (y ∷ ys) x = get_last ys x

-- the assertion about a subject where there is one more
about_more : (list : List BoundAssertion) (x : BoundAssertion) (q : Subject)
    → about (list ++ x ∷ []) q ≡ option_or (about list q) (cond (is_same (subject_of x.body) q) (Some x) None)
about_more list x q = find-append (speaks_of q) list (x ∷ [])

about_new : (list : List BoundAssertion) (x : BoundAssertion) → about list (subject_of x.body) ≡ None → about (list ++ x ∷ []) (subject_of x.body) ≡ Some x
about_new list x none = about_more list x (subject_of x.body)
    ∙ ap (λ o. option_or o (cond (is_same (subject_of x.body) (subject_of x.body)) (Some x) None)) none
    ∙ ap (λ b. cond b (Some x) None) (same_itself (subject_of x.body))

about_other : (list : List BoundAssertion) (x : BoundAssertion) (q : Subject) → is_same (subject_of x.body) q ≡ false → about (list ++ x ∷ []) q ≡ about list q
about_other list x q other = about_more list x q ∙ ap (λ b. option_or (about list q) (cond b (Some x) None)) other ∙ or_none (about list q)

place_new : (list : List BoundAssertion) (x : BoundAssertion) (q : Subject) → subject_of x.body ≡ q
    → about list (subject_of x.body) ≡ None → IsPlace (list ++ x ∷ []) q (Some (length list))
place_new list x q is none =
    let longer : length (list ++ x ∷ []) ≡ length list + 1 = length-append list (x ∷ []) in
    let less : length list < length (list ++ x ∷ []) = omega arith in
    (less, subst (λ (s : Subject). about (list ++ x ∷ []) s ≡ slice_get (list ++ x ∷ []) (length list)) is (about_new list x none ∙ sym (get_last list x)))

place_kept : (list : List BoundAssertion) (x : BoundAssertion) (q : Subject) (o : Option ℕ) → is_same (subject_of x.body) q ≡ false
    → IsPlace list q o → IsPlace (list ++ x ∷ []) q o
place_kept list x q None other place = about_other list x q other ∙ place
place_kept list x q (Some k) other place =
    let longer : length (list ++ x ∷ []) ≡ length list + 1 = length-append list (x ∷ []) in
    let less : k < length (list ++ x ∷ []) = omega (arith, place.0) in
    (less, about_other list x q other ∙ place.1 ∙ sym (get_front list (x ∷ []) k place.0))

-- the index of a list with one more assertion, about a subject of which no earlier one speaks
pub index_more : (list : List BoundAssertion) (x : BoundAssertion) (old new : BTreeMap Subject ℕ) → IsIndex list old → about list (subject_of x.body) ≡ None
    → Updates subject_cmp old new (subject_of x.body) (Some (length list)) → IsIndex (list ++ x ∷ []) new
index_more list x old new index none updates = λ q. by q (is_at (subject_cmp (subject_of x.body)) q) refl
  where
    by : (q : Subject) (b : Bool) → is_at (subject_cmp (subject_of x.body)) q ≡ b → IsPlace (list ++ x ∷ []) q (get subject_cmp new q)
    by q true e =
        subst (IsPlace (list ++ x ∷ []) q) (sym (updates.0 q ∙ ap (λ b. cond b (Some (length list)) (get subject_cmp old q)) e))
        (place_new list x q (same_exact (subject_of x.body) q (sym (same_by_order (subject_of x.body) q) ∙ e)) none)
    by q false e =
        subst (IsPlace (list ++ x ∷ []) q) (sym (updates.0 q ∙ ap (λ b. cond b (Some (length list)) (get subject_cmp old q)) e))
        (place_kept list x q (get subject_cmp old q) (sym (same_by_order (subject_of x.body) q) ∙ e) (index q))
