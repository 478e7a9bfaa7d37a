-- The order of subjects, and when two of them are the same.
use Rattle.std.proofs.Common.{◌≡◌, ℕ, Bool, true, false, ◌&&◌, refl, ◌∙◌, ap, arith, eq-eqb, ⊎_elim}
use Rattle.std.specs.Prelude.{◌==◌, nat_lt}
use Rattle.std.specs.Ordering.{is_eq, nat_cmp, ordering_then}
use Rattle.std.proofs.lemmas.Bool.{cases_lt, cases_eq, eqb-true, false≢true}
use Rattle.std.proofs.lemmas.Bool.Decides.{nat_tests}
use Rattle.assert_bind.specs.Index.{subject_cmp}
use Rattle.assert_bind.specs.Subject.{is_same}
use Rattle.assert_bind.specs.declared.subject.Subject.{Subject}
use Rattle.assert_bind.specs.declared.subject.Subject.TheVariants.{Entry, Reach, Word, Targets, Loop}

-- a subject is the same as itself
pub same_itself : (x : Subject) → is_same x x ≡ true
same_itself (Entry a) = eq-eqb a a refl
same_itself (Reach a) = eq-eqb a a refl
same_itself (Word a r) = let e = eq-eqb a a refl in let f = eq-eqb r r refl in rw (e, f) refl
same_itself (Targets a) = eq-eqb a a refl
same_itself (Loop a) = eq-eqb a a refl

-- what the order of numbers doesn't tell apart
equal : (a b : ℕ) → is_eq (nat_cmp a b) ≡ (a == b)
equal a b =
    ⊎_elim
    (λ lt. let t : nat_lt a b ≡ true = grind (arith, nat_tests) in let e : (a == b) ≡ false = grind (arith, nat_tests) in rw (t, e) refl)
    (λ ge. let t : nat_lt a b ≡ false = grind (arith, nat_tests) in
    ⊎_elim
    (λ eq. let e : (a == b) ≡ true = eq-eqb a b eq in rw (t, e) refl)
    (λ ne. let e : (a == b) ≡ false = grind (arith, nat_tests) in rw (t, e) refl)
    (cases_eq a b))
    (cases_lt a b)

both : (a b r s : ℕ) → is_eq (ordering_then (nat_cmp a b) (nat_cmp r s)) ≡ ((a == b) && (r == s))
both a b r s =
    ⊎_elim
    (λ lt. let t : nat_lt a b ≡ true = grind (arith, nat_tests) in let e : (a == b) ≡ false = grind (arith, nat_tests) in rw (t, e) refl)
    (λ ge. let t : nat_lt a b ≡ false = grind (arith, nat_tests) in
    ⊎_elim
    (λ eq. let e : (a == b) ≡ true = eq-eqb a b eq in rw (t, e) (equal r s))
    (λ ne. let e : (a == b) ≡ false = grind (arith, nat_tests) in rw (t, e) refl)
    (cases_eq a b))
    (cases_lt a b)

-- what the order of subjects doesn't tell apart is the same
pub same_by_order : (x y : Subject) → is_eq (subject_cmp x y) ≡ is_same x y
same_by_order (Entry a) (Entry b) = equal a b
same_by_order (Entry a) (Reach b) = refl
same_by_order (Entry a) (Word b s) = refl
same_by_order (Entry a) (Targets b) = refl
same_by_order (Entry a) (Loop b) = refl
same_by_order (Reach a) (Entry b) = refl
same_by_order (Reach a) (Reach b) = equal a b
same_by_order (Reach a) (Word b s) = refl
same_by_order (Reach a) (Targets b) = refl
same_by_order (Reach a) (Loop b) = refl
same_by_order (Word a r) (Entry b) = refl
same_by_order (Word a r) (Reach b) = refl
same_by_order (Word a r) (Word b s) = both a b r s
same_by_order (Word a r) (Targets b) = refl
same_by_order (Word a r) (Loop b) = refl
same_by_order (Targets a) (Entry b) = refl
same_by_order (Targets a) (Reach b) = refl
same_by_order (Targets a) (Word b s) = refl
same_by_order (Targets a) (Targets b) = equal a b
same_by_order (Targets a) (Loop b) = refl
same_by_order (Loop a) (Entry b) = refl
same_by_order (Loop a) (Reach b) = refl
same_by_order (Loop a) (Word b s) = refl
same_by_order (Loop a) (Targets b) = refl
same_by_order (Loop a) (Loop b) = equal a b

-- both tests hold where both together do
pub and_both : (a b : Bool) → (a && b) ≡ true → (a ≡ true) × (b ≡ true)
and_both true b e = (refl, e)
and_both false b e = absurd (false≢true e)

-- subjects that are the same are equal
pub same_exact : (x y : Subject) → is_same x y ≡ true → x ≡ y
same_exact (Entry a) (Entry b) same = ap (λ (x : ℕ). Entry x) (eqb-true a b same)
same_exact (Entry a) (Reach b) same = absurd (false≢true same)
same_exact (Entry a) (Word b s) same = absurd (false≢true same)
same_exact (Entry a) (Targets b) same = absurd (false≢true same)
same_exact (Entry a) (Loop b) same = absurd (false≢true same)
same_exact (Reach a) (Entry b) same = absurd (false≢true same)
same_exact (Reach a) (Reach b) same = ap (λ (x : ℕ). Reach x) (eqb-true a b same)
same_exact (Reach a) (Word b s) same = absurd (false≢true same)
same_exact (Reach a) (Targets b) same = absurd (false≢true same)
same_exact (Reach a) (Loop b) same = absurd (false≢true same)
same_exact (Word a r) (Entry b) same = absurd (false≢true same)
same_exact (Word a r) (Reach b) same = absurd (false≢true same)
same_exact (Word a r) (Word b s) same = let p = and_both (a == b) (r == s) same in ap (λ (x : ℕ). Word x r) (eqb-true a b p.0)
    ∙ ap (λ (x : ℕ). Word b x) (eqb-true r s p.1)
same_exact (Word a r) (Targets b) same = absurd (false≢true same)
same_exact (Word a r) (Loop b) same = absurd (false≢true same)
same_exact (Targets a) (Entry b) same = absurd (false≢true same)
same_exact (Targets a) (Reach b) same = absurd (false≢true same)
same_exact (Targets a) (Word b s) same = absurd (false≢true same)
same_exact (Targets a) (Targets b) same = ap (λ (x : ℕ). Targets x) (eqb-true a b same)
same_exact (Targets a) (Loop b) same = absurd (false≢true same)
same_exact (Loop a) (Entry b) same = absurd (false≢true same)
same_exact (Loop a) (Reach b) same = absurd (false≢true same)
same_exact (Loop a) (Word b s) same = absurd (false≢true same)
same_exact (Loop a) (Targets b) same = absurd (false≢true same)
same_exact (Loop a) (Loop b) same = ap (λ (x : ℕ). Loop x) (eqb-true a b same)
