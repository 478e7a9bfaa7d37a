-- What a function gives at the numbers below some number, one behind the other.
use Rattle.std.proofs.Common.{◌≡◌, ℕ, zero, suc, ◌+◌, ◌*◌, ◌≤◌, ◌<◌, List, [], ◌∷◌, ◌++◌, length, take, replicate, refl, sym, ap, ◌∙◌, arith, add-zero, zero-add, add-one, length-append}
use Rattle.std.proofs.Math.Nat.{mul-suc}
use Rattle.std.proofs.lemmas.List.{flat_map_more}
use Rattle.std.specs.List.{flat_map, range_with_len}
use Rattle.gen_image.specs.Number.{each}

-- one number more
range_more : (a n : ℕ) → range_with_len a (suc n) ≡ range_with_len a n ++ (a + n) ∷ []
range_more a zero = ap (λ (x : ℕ). x ∷ []) (sym (add-zero a))
range_more a (suc n) =
    let e : a + 1 + n ≡ a + suc n = omega arith in
    ap (λ (xs : List ℕ). a ∷ xs) (range_more (a + 1) n ∙ ap (λ (x : ℕ). range_with_len (a + 1) n ++ x ∷ []) e)

-- one piece more, behind what stands before them
pub each_suc : (f : ℕ → List ℕ) (start : List ℕ) (n : ℕ) → (start ++ each f n) ++ f n ≡ start ++ each f (suc n)
each_suc f start n =
    flat_map_more f start (range_with_len 0 n) n
    ∙ ap (λ (xs : List ℕ). start ++ flat_map f xs) (ap (λ (x : ℕ). range_with_len 0 n ++ x ∷ []) (sym (zero-add n)) ∙ sym (range_more 0 n))

-- what was appended to the pieces so far is one piece more
pub grown : (f : ℕ → List ℕ) (start now next : List ℕ) (n : ℕ) → now ≡ start ++ each f n → next ≡ now ++ f n
    → next ≡ start ++ each f (n + 1)
grown f start now next n is more =
    more ∙ ap (λ (xs : List ℕ). xs ++ f n) is ∙ each_suc f start n ∙ ap (λ (m : ℕ). start ++ each f m) (sym (add-one n))

-- the length of one piece more
pub length-each_suc : (f : ℕ → List ℕ) (n : ℕ) → length (each f (suc n)) ≡ length (each f n) + length (f n)
length-each_suc f n = ap length (sym (each_suc f [] n)) ∙ length-append (each f n) (f n)

-- pieces of one length
pub length-each : (f : ℕ → List ℕ) (c n : ℕ) → ((k : ℕ) → length (f k) ≡ c) → length (each f n) ≡ c * n
length-each f c zero same = omega arith
length-each f c (suc n) same =
    let more = length-each_suc f n in
    let before = length-each f c n same in
    let piece = same n in
    rw (mul-suc c n) (omega arith)

-- pieces up to some length
pub length-each-le : (f : ℕ → List ℕ) (c n : ℕ) → ((k : ℕ) → k < n → length (f k) ≤ c) → length (each f n) ≤ c * n
length-each-le f c zero short = omega arith
length-each-le f c (suc n) short =
    let more = length-each_suc f n in
    let before = length-each-le f c n (λ k below. short k (omega arith)) in
    let piece = short n (omega arith) in
    rw (mul-suc c n) (omega arith)

-- some of three zeros
pub zeros : (n : ℕ) → n ≤ 3 → take {A = ℕ} n (0 ∷ 0 ∷ 0 ∷ []) ≡ replicate {A = ℕ} n 0
zeros zero few = refl
zeros (suc zero) few = refl
zeros (suc (suc zero)) few = refl
zeros (suc (suc (suc zero))) few = refl
zeros (suc (suc (suc (suc n)))) few = absurd (omega arith)
