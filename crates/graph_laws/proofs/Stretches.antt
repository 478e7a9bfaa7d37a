-- How often a head is passed before a walk leaves a body.
use Rattle.std.proofs.Common.{◌≡◌, ◌==◌, ◌&&◌, ℕ, suc, ◌+◌, ◌≤◌, ◌⊎◌, inl, inr, Bool, true, false, List, [], ◌∷◌, ◌++◌, refl, sym, ap, subst, ◌∙◌, arith, cond}
use Rattle.std.proofs.lemmas.Bool.{eq-eqb}
use Rattle.std.proofs.lemmas.Bool.Decides.{eqb_tells}
use Rattle.graph_laws.specs.Walk.{AreInside, passes}
use Rattle.graph_laws.specs.Loops.{Loops, KeepsBounds}
use Rattle.graph_laws.proofs.Walks.{passes_other}

-- a truth value is true or false
pub tells : (b : Bool) → (b ≡ true) ⊎ (b ≡ false)
tells true = inl refl
tells false = inr refl

-- both tests hold where both together do
pub both : (a b : Bool) → (a && b) ≡ true → (a ≡ true) × (b ≡ true)
both true b h = (refl, h)
both false b h = cc

-- how often a head is passed before its body is left
abbrev pub first : (ℕ → Bool) → ℕ → List ℕ → ℕ
first body h [] = 0
first body h (n ∷ rest) = cond (body n) (cond (n == h) 1 0 + first body h rest) 0

pub first_in : (body : ℕ → Bool) (h n : ℕ) (rest : List ℕ) → body n ≡ true → first body h (n ∷ rest) ≡ cond (n == h) 1 0 + first body h rest
first_in body h n rest e = ap (λ (b : Bool). cond b (cond (n == h) 1 0 + first body h rest) 0) e

-- a node outside ends the stretch
pub first_out : (body : ℕ → Bool) (h n : ℕ) (rest : List ℕ) → body n ≡ false → first body h (n ∷ rest) ≡ 0
first_out body h n rest e = ap (λ (b : Bool). cond b (cond (n == h) 1 0 + first body h rest) 0) e

-- the head adds a pass
pub first_here : (body : ℕ → Bool) (h n : ℕ) (rest : List ℕ) → body n ≡ true → n ≡ h → first body h (n ∷ rest) ≡ suc (first body h rest)
first_here body h n rest b e =
    let f : first body h (n ∷ rest) ≡ cond (n == h) 1 0 + first body h rest = first_in body h n rest b in
    let g : ◌≡◌ {A = ℕ} (cond (n == h) 1 0) 1 = ap (λ (t : Bool). cond t 1 0) (eq-eqb n h e) in omega (arith, f, g)

-- another node of the body adds no pass
pub first_other : (body : ℕ → Bool) (h n : ℕ) (rest : List ℕ) → body n ≡ true → (n == h) ≡ false → first body h (n ∷ rest) ≡ first body h rest
first_other body h n rest b e =
    let f : first body h (n ∷ rest) ≡ cond (n == h) 1 0 + first body h rest = first_in body h n rest b in
    let g : ◌≡◌ {A = ℕ} (cond (n == h) 1 0) 0 = ap (λ (t : Bool). cond t 1 0) e in omega (arith, f, g)

-- what follows a node of the body
pub first_tail : (body : ℕ → Bool) (h n : ℕ) (rest : List ℕ) → body n ≡ true → first body h rest ≤ first body h (n ∷ rest)
first_tail body h n rest b = let f : first body h (n ∷ rest) ≡ cond (n == h) 1 0 + first body h rest = first_in body h n rest b in omega (arith, f)

-- the stretch of the front is within that of the whole
pub first_front : (body : ℕ → Bool) (h : ℕ) (xs ys : List ℕ) → first body h xs ≤ first body h (xs ++ ys)
first_front body h [] ys = omega arith
first_front body h (x ∷ xs) ys = elim (tells (body x)) [
  | inl t ↦
      let a : first body h (x ∷ xs) ≡ cond (x == h) 1 0 + first body h xs = first_in body h x xs t in
      let b : first body h ((x ∷ xs) ++ ys) ≡ cond (x == h) 1 0 + first body h (xs ++ ys) = first_in body h x (xs ++ ys) t in
      let c : first body h xs ≤ first body h (xs ++ ys) = first_front body h xs ys in
      omega (arith, a, b, c)
  | inr f ↦ let a : first body h (x ∷ xs) ≡ 0 = first_out body h x xs f in omega (arith, a)
]

-- a list inside the body only lengthens the stretch
pub first_back : (body : ℕ → Bool) (h : ℕ) (xs ys : List ℕ) → AreInside body xs → first body h ys ≤ first body h (xs ++ ys)
first_back body h [] ys i = omega arith
first_back body h (x ∷ xs) ys i =
    let a : first body h (xs ++ ys) ≤ first body h ((x ∷ xs) ++ ys) = first_tail body h x (xs ++ ys) i.0 in
    let b : first body h ys ≤ first body h (xs ++ ys) = first_back body h xs ys i.1 in omega (arith, a, b)

-- the passes of the first stretch are within all
pub first_passes : (body : ℕ → Bool) (h : ℕ) (xs : List ℕ) → first body h xs ≤ passes h xs
first_passes body h [] = omega arith
first_passes body h (x ∷ xs) = elim (tells (body x)) [
  | inl t ↦
      let a : first body h (x ∷ xs) ≡ cond (x == h) 1 0 + first body h xs = first_in body h x xs t in
      let c : first body h xs ≤ passes h xs = first_passes body h xs in
      omega (arith, a, c)
  | inr f ↦ let a : first body h (x ∷ xs) ≡ 0 = first_out body h x xs f in omega (arith, a)
]

-- the passes of a list inside the body are within the stretch
pub passes_first : (body : ℕ → Bool) (h : ℕ) (xs ys : List ℕ) → AreInside body xs → passes h xs ≤ first body h (xs ++ ys)
passes_first body h [] ys i = omega arith
passes_first body h (x ∷ xs) ys i =
    let a : first body h ((x ∷ xs) ++ ys) ≡ cond (x == h) 1 0 + first body h (xs ++ ys) = first_in body h x (xs ++ ys) i.0 in
    let b : passes h xs ≤ first body h (xs ++ ys) = passes_first body h xs ys i.1 in omega (arith, a, b)

-- up to the next pass of a head inside its body
pub record NextPass (body : ℕ → Bool) (h : ℕ) (rest : List ℕ) : Type 0 where
  pub between : List ℕ
  pub after : List ℕ
  pub is : rest ≡ between ++ h ∷ after
  pub inside : AreInside body between
  pub once : passes h between ≡ 0
  pub count : first body h rest ≡ suc (first body h after)

-- a stretch passes the head no more, or there is a next pass
pub next_pass : (body : ℕ → Bool) (h : ℕ) (rest : List ℕ) → (first body h rest ≡ 0) ⊎ NextPass body h rest
next_pass body h [] = inl refl
next_pass body h (n ∷ rest) = elim (tells (body n)) [
  | inl t ↦ elim (eqb_tells n h) [
    | inl a ↦ inr (record { between = []; after = rest; is = ap (λ (x : ℕ). x ∷ rest) a.1; inside = tt; once = refl; count = first_here body h n rest t a.1 })
    | inr a ↦ elim (next_pass body h rest) [
      | inl z ↦ inl (first_other body h n rest t a.0 ∙ z)
      | inr s ↦ inr (record {
        between = n ∷ s.between;
        after = s.after;
        is = ap (λ (l : List ℕ). n ∷ l) s.is;
        inside = (t, s.inside);
        once = passes_other h n s.between a.0 ∙ s.once;
        count = first_other body h n rest t a.0 ∙ s.count;
      })
    ]
  ]
  | inr f ↦ inl (first_out body h n rest f)
]

-- the longest front inside a body
record LongestFront (body : ℕ → Bool) (h : ℕ) (walk : List ℕ) : Type 0 where
  pub stretch : List ℕ
  pub after : List ℕ
  pub is : stretch ++ after ≡ walk
  pub inside : AreInside body stretch
  pub count : passes h stretch ≡ first body h walk

longest_front : (body : ℕ → Bool) (h : ℕ) (walk : List ℕ) → LongestFront body h walk
longest_front body h [] = record { stretch = []; after = []; is = refl; inside = tt; count = refl }
longest_front body h (n ∷ rest) = elim (tells (body n)) [
  | inl t ↦
      let s : LongestFront body h rest = longest_front body h rest in
      record {
        stretch = n ∷ s.stretch;
        after = s.after;
        is = ap (λ (l : List ℕ). n ∷ l) s.is;
        inside = (t, s.inside);
        count = ap (λ (k : ℕ). cond (n == h) 1 0 + k) s.count ∙ sym (first_in body h n rest t);
      }
  | inr f ↦ record { stretch = []; after = n ∷ rest; is = refl; inside = tt; count = sym (first_out body h n rest f) }
]

-- from each node of a walk on, each head is passed at most its bound of times before its body is left
abbrev pub IsHeld : Loops → (ℕ → ℕ) → List ℕ → Type 0
IsHeld loops bound [] = Unit {0}
IsHeld loops bound (n ∷ rest) = ((h : ℕ) → loops.has h ≡ true → first (loops.body h) h (n ∷ rest) ≤ bound h) × IsHeld loops bound rest

keeps_tail : (loops : Loops) (bound : ℕ → ℕ) (n : ℕ) (rest : List ℕ) → KeepsBounds loops bound (n ∷ rest) → KeepsBounds loops bound rest
keeps_tail loops bound n rest k = record { kept = λ h before stretch after has e i. k.kept h (n ∷ before) stretch after has (ap (λ (l : List ℕ). n ∷ l) e) i }

-- a walk that keeps the head bounds has its stretches bounded one by one
pub held_from_keeps : (loops : Loops) (bound : ℕ → ℕ) (walk : List ℕ) → KeepsBounds loops bound walk → IsHeld loops bound walk
held_from_keeps loops bound [] k = tt
held_from_keeps loops bound (n ∷ rest) k = (
  (λ h has. let s : LongestFront (loops.body h) h (n ∷ rest) = longest_front (loops.body h) h (n ∷ rest) in
      subst (λ (p : ℕ). p ≤ bound h) s.count (k.kept h [] s.stretch s.after has s.is s.inside)),
  held_from_keeps loops bound rest (keeps_tail loops bound n rest k),
)

held_at : (loops : Loops) (bound : ℕ → ℕ) (h : ℕ) (before stretch after : List ℕ) → loops.has h ≡ true
    → IsHeld loops bound (before ++ (stretch ++ after)) → AreInside (loops.body h) stretch → passes h stretch ≤ bound h
held_at loops bound h [] [] after has k i = omega arith
held_at loops bound h [] (x ∷ xs) after has k i =
    let a : passes h (x ∷ xs) ≤ first (loops.body h) h ((x ∷ xs) ++ after) = passes_first (loops.body h) h (x ∷ xs) after i in
    let b : first (loops.body h) h ((x ∷ xs) ++ after) ≤ bound h = k.0 h has in omega (arith, a, b)
held_at loops bound h (b ∷ before) stretch after has k i = held_at loops bound h before stretch after has k.1 i

-- a walk whose stretches are bounded one by one keeps the head bounds
pub keeps_from_held : (loops : Loops) (bound : ℕ → ℕ) (walk : List ℕ) → IsHeld loops bound walk → KeepsBounds loops bound walk
keeps_from_held loops bound walk k = record
    { kept = λ h before stretch after has e i. held_at loops bound h before stretch after has (subst (IsHeld loops bound) (sym e) k) i }

-- the front of such a walk is one
pub held_front : (loops : Loops) (bound : ℕ → ℕ) (xs ys : List ℕ) → IsHeld loops bound (xs ++ ys) → IsHeld loops bound xs
held_front loops bound [] ys k = tt
held_front loops bound (x ∷ xs) ys k = (
  (λ h has. let a : first (loops.body h) h (x ∷ xs) ≤ first (loops.body h) h ((x ∷ xs) ++ ys) = first_front (loops.body h) h (x ∷ xs) ys in
      let b : first (loops.body h) h ((x ∷ xs) ++ ys) ≤ bound h = k.0 h has in omega (arith, a, b)),
  held_front loops bound xs ys k.1,
)

-- the rest of such a walk is one
pub held_back : (loops : Loops) (bound : ℕ → ℕ) (xs ys : List ℕ) → IsHeld loops bound (xs ++ ys) → IsHeld loops bound ys
held_back loops bound [] ys k = k
held_back loops bound (x ∷ xs) ys k = held_back loops bound xs ys k.1

-- the passes of the first stretch of two lists are at most those of both
pub first-append : (body : ℕ → Bool) (h : ℕ) (xs ys : List ℕ) → first body h (xs ++ ys) ≤ first body h xs + first body h ys
first-append body h [] ys = omega arith
first-append body h (x ∷ xs) ys = elim (tells (body x)) [
  | inl t ↦
      let a : first body h (x ∷ xs) ≡ cond (x == h) 1 0 + first body h xs = first_in body h x xs t in
      let b : first body h ((x ∷ xs) ++ ys) ≡ cond (x == h) 1 0 + first body h (xs ++ ys) = first_in body h x (xs ++ ys) t in
      let c : first body h (xs ++ ys) ≤ first body h xs + first body h ys = first-append body h xs ys in
      omega (arith, a, b, c)
  | inr f ↦ let a : first body h ((x ∷ xs) ++ ys) ≡ 0 = first_out body h x (xs ++ ys) f in omega (arith, a)
]

-- a list inside the body adds its passes to the stretch
pub first_inside : (body : ℕ → Bool) (h : ℕ) (xs ys : List ℕ) → AreInside body xs → first body h (xs ++ ys) ≡ passes h xs + first body h ys
first_inside body h [] ys i = omega arith
first_inside body h (x ∷ xs) ys i =
    let b : first body h ((x ∷ xs) ++ ys) ≡ cond (x == h) 1 0 + first body h (xs ++ ys) = first_in body h x (xs ++ ys) i.0 in
    let c : first body h (xs ++ ys) ≡ passes h xs + first body h ys = first_inside body h xs ys i.1 in omega (arith, b, c)

-- two walks one after the other are held where each head is not passed in the one or in the other
pub held-append : (loops : Loops) (bound : ℕ → ℕ) (xs ys : List ℕ) → IsHeld loops bound xs → IsHeld loops bound ys
    → ((h : ℕ) → loops.has h ≡ true → (first (loops.body h) h ys ≡ 0) ⊎ ((passes h xs ≡ 0) × (first (loops.body h) h ys ≤ bound h)))
    → IsHeld loops bound (xs ++ ys)
held-append loops bound [] ys a b c = b
held-append loops bound (x ∷ xs) ys a b c = (
  (λ h has.
      let f : first (loops.body h) h ((x ∷ xs) ++ ys) ≤ first (loops.body h) h (x ∷ xs) + first (loops.body h) h ys =
      first-append (loops.body h) h (x ∷ xs) ys in
      elim (c h has) [
        | inl z ↦ let g : first (loops.body h) h (x ∷ xs) ≤ bound h = a.0 h has in omega (arith, f, g, z)
        | inr p ↦
            let g : first (loops.body h) h (x ∷ xs) ≤ passes h (x ∷ xs) = first_passes (loops.body h) h (x ∷ xs) in
            let q = p.0 in let r = p.1 in omega (arith, f, g, q, r)
      ]),
  held-append loops bound xs ys a.1 b (λ h has. elim (c h has) [
    | inl z ↦ inl z
    | inr p ↦ inr ((let q : passes h (x ∷ xs) ≡ 0 = p.0 in omega (arith, q)), p.1)
  ]),
)
