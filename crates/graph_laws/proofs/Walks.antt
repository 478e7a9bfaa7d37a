-- Walks, the bodies that they are inside, and how often they pass a node.
use Rattle.std.proofs.Common.{◌≡◌, ◌==◌, ℕ, ◌+◌, Bool, true, false, List, [], ◌∷◌, ◌++◌, refl, ap, arith, cond}
use Rattle.std.proofs.lemmas.Bool.{eq-eqb}
use Rattle.graph_laws.specs.Walk.{IsWalk, AreInside, passes, end_of}

-- the head passes itself
pub passes_here : (h n : ℕ) (rest : List ℕ) → n ≡ h → passes h (n ∷ rest) ≡ 1 + passes h rest
passes_here h n rest e = ap (λ (b : Bool). cond b 1 0 + passes h rest) (eq-eqb n h e)

-- another node passes no head
pub passes_other : (h n : ℕ) (rest : List ℕ) → (n == h) ≡ false → passes h (n ∷ rest) ≡ passes h rest
passes_other h n rest e =
    let f : passes h (n ∷ rest) ≡ 0 + passes h rest = ap (λ (b : Bool). cond b 1 0 + passes h rest) e in omega (arith, f)

-- passes of two lists add up
pub passes-append : (h : ℕ) (xs ys : List ℕ) → passes h (xs ++ ys) ≡ passes h xs + passes h ys
passes-append h [] ys = omega arith
passes-append h (x ∷ xs) ys = let e : passes h (xs ++ ys) ≡ passes h xs + passes h ys = passes-append h xs ys in omega (arith, e)

-- two lists inside a body are one
pub inside-append : (body : ℕ → Bool) (xs ys : List ℕ) → AreInside body xs → AreInside body ys → AreInside body (xs ++ ys)
inside-append body [] ys a b = b
inside-append body (x ∷ xs) ys a b = (a.0, inside-append body xs ys a.1 b)

pub inside_front : (body : ℕ → Bool) (xs ys : List ℕ) → AreInside body (xs ++ ys) → AreInside body xs
inside_front body [] ys a = tt
inside_front body (x ∷ xs) ys a = (a.0, inside_front body xs ys a.1)

pub inside_back : (body : ℕ → Bool) (xs ys : List ℕ) → AreInside body (xs ++ ys) → AreInside body ys
inside_back body [] ys a = a
inside_back body (x ∷ xs) ys a = inside_back body xs ys a.1

-- walks one after the other
pub walk-append : (edge : ℕ → ℕ → Bool) (n : ℕ) (xs : List ℕ) (ys : List ℕ) → IsWalk edge n xs → IsWalk edge (end_of n xs) ys → IsWalk edge n (xs ++ ys)
walk-append edge n [] ys a b = b
walk-append edge n (x ∷ xs) ys a b = (a.0, walk-append edge x xs ys a.1 b)

-- the front of a walk is one
pub walk_front : (edge : ℕ → ℕ → Bool) (n : ℕ) (xs : List ℕ) (ys : List ℕ) → IsWalk edge n (xs ++ ys) → IsWalk edge n xs
walk_front edge n [] ys a = tt
walk_front edge n (x ∷ xs) ys a = (a.0, walk_front edge x xs ys a.1)

-- the rest of a walk is one from where the front ends
pub walk_back : (edge : ℕ → ℕ → Bool) (n : ℕ) (xs : List ℕ) (ys : List ℕ) → IsWalk edge n (xs ++ ys) → IsWalk edge (end_of n xs) ys
walk_back edge n [] ys a = a
walk_back edge n (x ∷ xs) ys a = walk_back edge x xs ys a.1

-- two walks end where the second does
pub end-append : (n m : ℕ) (xs ys : List ℕ) → end_of n (xs ++ (m ∷ ys)) ≡ end_of m ys
end-append n m [] ys = refl
end-append n m (x ∷ xs) ys = end-append x m xs ys

-- a walk inside a body ends there
pub end_inside : (body : ℕ → Bool) (n : ℕ) (xs : List ℕ) → body n ≡ true → AreInside body xs → body (end_of n xs) ≡ true
end_inside body n [] b i = b
end_inside body n (x ∷ xs) b i = end_inside body x xs i.0 i.1

-- a walk of one graph is one of another that has its edges
pub walk_of_more : (edge more : ℕ → ℕ → Bool) → ((n m : ℕ) → edge n m ≡ true → more n m ≡ true) → (n : ℕ) (rest : List ℕ) → IsWalk edge n rest
    → IsWalk more n rest
walk_of_more edge more h n [] w = tt
walk_of_more edge more h n (m ∷ rest) w = (h n m w.0, walk_of_more edge more h m rest w.1)
