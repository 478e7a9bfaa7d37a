-- A number more at the end of a list.
use Rattle.std.proofs.Common.{◌≡◌, ◌+◌, ◌<◌, ◌≤◌, inl, inr, ℕ, zero, suc, List, [], ◌∷◌, ◌++◌, length, get_or, refl, sym, ap, ◌∙◌, arith}
use Rattle.std.proofs.lemmas.Bool.{cases_lt}
use Rattle.std.proofs.lemmas.List.{length-append}

at_end : (xs : List ℕ) (v : ℕ) → get_or (xs ++ v ∷ []) (length xs) 0 ≡ v
at_end [] v = refl
at_end (x ∷ xs) v = at_end xs v

at_front : (xs : List ℕ) (v i : ℕ) → i < length xs → get_or (xs ++ v ∷ []) i 0 ≡ get_or xs i 0
at_front [] v i l = absurd (omega (arith, l))
at_front (x ∷ xs) v zero l = refl
at_front (x ∷ xs) v (suc i) l = at_front xs v i (omega (arith, l))

past_end : (xs : List ℕ) (v i : ℕ) → length xs < i → get_or (xs ++ v ∷ []) i 0 ≡ 0
past_end [] v zero l = absurd (omega (arith, l))
past_end [] v (suc i) l = refl
past_end (x ∷ xs) v zero l = absurd (omega (arith, l))
past_end (x ∷ xs) v (suc i) l = past_end xs v i (omega (arith, l))

pub pushed_count : (xs ys : List ℕ) (v n : ℕ) → ys ≡ xs ++ v ∷ [] → length xs ≡ n → length ys ≡ n + 1
pushed_count xs ys v n e l =
    let a : length ys ≡ length (xs ++ v ∷ []) = ap length e in
    let b : length (xs ++ v ∷ []) ≡ length xs + length (v ∷ []) = length-append xs (v ∷ []) in omega (arith, a, b, l)

pub pushed_at : (xs ys : List ℕ) (v n : ℕ) (want : ℕ → ℕ) → ys ≡ xs ++ v ∷ [] → length xs ≡ n → ((i : ℕ) → i < length xs → get_or xs i 0 ≡ want i) → v ≡ want n
    → (i : ℕ) → i < length ys → get_or ys i 0 ≡ want i
pushed_at xs ys v n want e l are here i w = elim (cases_lt i (length xs)) [
  | inl a ↦ ap (λ (z : List ℕ). get_or z i 0) e ∙ (at_front xs v i a ∙ are i a)
  | inr a ↦
      let c : length ys ≡ n + 1 = pushed_count xs ys v n e l in
      let q : i ≡ length xs = omega (arith, a, w, c, l) in
      ap (λ (z : List ℕ). get_or z i 0) e ∙ (ap (λ (j : ℕ). get_or (xs ++ v ∷ []) j 0) q ∙ (at_end xs v ∙ (here ∙ ap want (sym l ∙ sym q))))
]

pub pushed_most : (xs ys : List ℕ) (v most : ℕ) → ys ≡ xs ++ v ∷ [] → ((i : ℕ) → get_or xs i 0 ≤ most) → v ≤ most → (i : ℕ) → get_or ys i 0 ≤ most
pushed_most xs ys v most e are here i = elim (cases_lt i (length xs)) [
  | inl a ↦ let q : get_or ys i 0 ≡ get_or xs i 0 = ap (λ (z : List ℕ). get_or z i 0) e ∙ at_front xs v i a in let b : get_or xs i 0 ≤ most = are i in omega (arith, q, b)
  | inr a ↦ elim (cases_lt (length xs) i) [
    | inl b ↦ let q : get_or ys i 0 ≡ 0 = ap (λ (z : List ℕ). get_or z i 0) e ∙ past_end xs v i b in omega (arith, q)
    | inr b ↦
        let s : i ≡ length xs = omega (arith, a, b) in
        let q : get_or ys i 0 ≡ v = ap (λ (z : List ℕ). get_or z i 0) e ∙ (ap (λ (j : ℕ). get_or (xs ++ v ∷ []) j 0) s ∙ at_end xs v) in omega (arith, q, here)
  ]
]
