-- The assertion of a list about a subject.
use Rattle.std.proofs.Common.{◌≡◌, ℕ, zero, suc, ◌+◌, ◌<◌, Bool, true, false, cond, List, [], ◌∷◌, ◌++◌, length, get_or}
use Rattle.std.proofs.Common.{Some, None, All, refl, sym, ◌∙◌, ap, subst, arith, length-append}
use Rattle.std.specs.List.{AllPairs}
use Rattle.std.proofs.Math.ListN.{get_or-append}
use Rattle.std.proofs.Math.Seq.{get_or-append_seam}
use Rattle.std.proofs.lemmas.List.Elements.{All-tail, All-head}
use Rattle.assert_bind.specs.Binding.{about}
use Rattle.assert_bind.specs.Index.{AreApart}
use Rattle.assert_bind.specs.Subject.{is_same, subject_of}
use Rattle.assert_bind.specs.declared.body.BoundAssertion.{BoundAssertion}
use Rattle.assert_bind.specs.declared.subject.Subject.{Subject}
use Rattle.assert_bind.proofs.SubjectLemmas.{same_itself}

-- the assertion speaks of another subject
abbrev pub IsElsewhere : Subject → BoundAssertion → Type 0
IsElsewhere s x = is_same (subject_of x.body) s ≡ false

-- where each assertion speaks of another subject, none speaks of this one
pub about_none : (list : List BoundAssertion) (s : Subject) → All (IsElsewhere s) list → about list s ≡ None
about_none [] s each = refl
about_none (x ∷ xs) s each =
    ap (λ (b : Bool). cond b (Some x) (about xs s)) (All-head (IsElsewhere s) x xs each) ∙ about_none xs s (All-tail (IsElsewhere s) x xs each)

-- the one that is found speaks of the subject, and is one of the list
pub record IsAbout (list : List BoundAssertion) (s : Subject) (x : BoundAssertion) : Type 0 where
  pub place : ℕ
  pub within : place < length list
  pub there : get_or list place x ≡ x
  pub same : is_same (subject_of x.body) s ≡ true

found_at : (y : BoundAssertion) (xs : List BoundAssertion) (s : Subject) (x : BoundAssertion) (same : Bool)
    → is_same (subject_of y.body) s ≡ same → (about xs s ≡ Some x → IsAbout xs s x)
    → cond same (Some y) (about xs s) ≡ Some x → IsAbout (y ∷ xs) s x
found_at y xs s x true is each e =
    let equal : y ≡ x = cc in
    record { place = 0; within = omega arith; there = equal; same = ap (λ (z : BoundAssertion). is_same (subject_of z.body) s) (sym equal) ∙ is }
found_at y xs s x false is each e = let a = each e in record { place = suc a.place; within = omega (arith, a.within); there = a.there; same = a.same }

-- what is found about a subject is of the list and about it
pub found : (list : List BoundAssertion) (s : Subject) (x : BoundAssertion) → about list s ≡ Some x → IsAbout list s x
found [] s x e = cc
found (y ∷ xs) s x e = found_at y xs s x (is_same (subject_of y.body) s) refl (λ later. found xs s x later) e

-- those after the first speak of different things too
pub apart_tail : (x : BoundAssertion) (xs : List BoundAssertion) → AllPairs AreApart (x ∷ xs) → AllPairs AreApart xs
apart_tail x xs apart = λ i j d less within. apart (suc i) (suc j) d (omega (arith, less)) (omega (arith, within))

-- of each assertion of a list it is the one that is found
pub finds_itself : (list : List BoundAssertion) (k : ℕ) (d : BoundAssertion) → AllPairs AreApart list → k < length list
    → about list (subject_of (get_or list k d).body) ≡ Some (get_or list k d)
finds_itself [] k d apart within = absurd (omega (arith, within))
finds_itself (x ∷ xs) zero d apart within = ap (λ (b : Bool). cond b (Some x) (about xs (subject_of x.body))) (same_itself (subject_of x.body))
finds_itself (x ∷ xs) (suc k) d apart within =
    let less : k < length xs = omega (arith, within) in
    ap (λ (b : Bool). cond b (Some x) (about xs (subject_of (get_or xs k d).body))) (apart 0 (suc k) d (omega arith) within)
    ∙ finds_itself xs k d (apart_tail x xs apart) less

-- no assertion before another one of such a list speaks of the same
pub none_before : (earlier : List BoundAssertion) (x : BoundAssertion) (later : List BoundAssertion)
    → AllPairs AreApart (earlier ++ x ∷ later) → about earlier (subject_of x.body) ≡ None
none_before earlier x later apart = about_none earlier (subject_of x.body) (λ i d less. at i d less)
  where
    at : (i : ℕ) (d : BoundAssertion) → i < length earlier → IsElsewhere (subject_of x.body) (get_or earlier i d)
    at i d less =
        let longer : length (earlier ++ x ∷ later) ≡ length earlier + length (x ∷ later) = length-append earlier (x ∷ later) in
        let within : length earlier < length (earlier ++ x ∷ later) = omega arith in
        let first : get_or (earlier ++ x ∷ later) i d ≡ get_or earlier i d = get_or-append earlier (x ∷ later) d i less in
        let second : get_or (earlier ++ x ∷ later) (length earlier) d ≡ x = get_or-append_seam earlier x later d in
        subst (λ (y : BoundAssertion). is_same (subject_of y.body) (subject_of x.body) ≡ false) first
        (subst (λ (y : BoundAssertion). is_same (subject_of (get_or (earlier ++ x ∷ later) i d).body) (subject_of y.body) ≡ false)
        second (apart i (length earlier) d less within))
