-- A text is cut at its first byte of a kind in one way.
use Rattle.std.proofs.Common.{◌≡◌, ℕ, Bool, true, List, [], ◌∷◌, ◌++◌, refl, ap, sym, subst}
use Rattle.std.specs.Prelude.{◌&&◌, not}
use Rattle.std.proofs.lemmas.Bool.{and_parts, and_from, both_ways, not-true}

-- whether no byte of a text is of a kind
abbrev pub lacks : (ℕ → Bool) → List ℕ → Bool
lacks stops [] = true
lacks stops (b ∷ bs) = not (stops b) && lacks stops bs

-- a text without a byte of a kind
pub record Lacks (stops : ℕ → Bool) (text : List ℕ) : Type 0 where
  pub is : lacks stops text ≡ true

-- the first byte, or 0 where there is none
unfoldable pub first_byte : List ℕ → ℕ
first_byte [] = 0
first_byte (b ∷ bs) = b

-- the bytes behind the first
unfoldable pub bytes_behind : List ℕ → List ℕ
bytes_behind [] = []
bytes_behind (b ∷ bs) = bs

-- a byte of the kind isn't the first of a text without one
not_first : (stops : ℕ → Bool) (x : ℕ) (xs : List ℕ) → Lacks stops (x ∷ xs) → stops x ≡ true → ⊥
not_first stops x xs free at = both_ways (stops x) (not-true (stops x) (and_parts (not (stops x)) (lacks stops xs) free.is).0) at

rest_lacks : (stops : ℕ → Bool) (x : ℕ) (xs : List ℕ) → Lacks stops (x ∷ xs) → Lacks stops xs
rest_lacks stops x xs free = record { is = (and_parts (not (stops x)) (lacks stops xs) free.is).1 }

-- two texts without a byte of a kind, each before one of that kind, are one where the wholes are
pub cut_once : (stops : ℕ → Bool) (xs ys rest more : List ℕ) (b c : ℕ) → Lacks stops xs → Lacks stops ys → stops b ≡ true
    → stops c ≡ true → xs ++ b ∷ rest ≡ ys ++ c ∷ more → (xs ≡ ys) × (b ∷ rest ≡ c ∷ more)
unfolding first_byte bytes_behind
cut_once stops [] [] rest more b c free also at_b at_c same = (refl, same)
cut_once stops [] (y ∷ ys) rest more b c free also at_b at_c same =
    absurd (not_first stops y ys also (subst (λ v. stops v ≡ true) (ap first_byte same) at_b))
cut_once stops (x ∷ xs) [] rest more b c free also at_b at_c same =
    absurd (not_first stops x xs free (subst (λ v. stops v ≡ true) (sym (ap first_byte same)) at_c))
cut_once stops (x ∷ xs) (y ∷ ys) rest more b c free also at_b at_c same =
    let head : x ≡ y = ap first_byte same in
    let tail : (xs ≡ ys) × (b ∷ rest ≡ c ∷ more) =
    cut_once stops xs ys rest more b c (rest_lacks stops x xs free) (rest_lacks stops y ys also) at_b at_c (ap bytes_behind same) in
    (cc (head, tail.0), tail.1)

-- what is joined of two lacks what both lack
pub lacks-append : (stops : ℕ → Bool) (xs ys : List ℕ) → Lacks stops xs → Lacks stops ys → Lacks stops (xs ++ ys)
lacks-append stops [] ys free also = also
lacks-append stops (x ∷ xs) ys free also =
    let parts : (not (stops x) ≡ true) × (lacks stops xs ≡ true) = and_parts (not (stops x)) (lacks stops xs) free.is in
    record {
      is = and_from (not (stops x)) (lacks stops (xs ++ ys)) parts.0
          (lacks-append stops xs ys (record { is = parts.1 }) also).is;
    }
