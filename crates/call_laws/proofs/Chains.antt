-- Chains of calls: where one comes to a subprogram twice, and how long one can be that doesn't.
use Rattle.std.proofs.Common.{◌≡◌, ◌==◌, ◌||◌, ℕ, ◌<◌, ◌≤◌, ◌⊎◌, inl, inr, Bool, true, false, eqb, List, [], ◌∷◌, ◌++◌, length, refl, sym, ap}
use Rattle.std.proofs.Common.{subst, arith}
use Rattle.std.specs.List.{IsDistinct, AllByRecursion}
use Rattle.std.proofs.lemmas.Bool.{cases_lt}
use Rattle.std.proofs.lemmas.Bool.Decides.{eqb_tells}
use Rattle.std.proofs.lemmas.Map.Keys.{IsDistinct-cons}
use Rattle.std.proofs.lemmas.Map.Steps.{length-le_from_distinct_below}
use Rattle.bt_base.specs.Graph.{has}
use Rattle.graph_laws.specs.Walk.{IsWalk}
use Rattle.graph_laws.specs.Nest.{Reaches}
use Rattle.graph_laws.proofs.Walks.{walk_of_more}
use Rattle.call_laws.specs.Calls.{AreBelow, LeadsTo, ReachesCycle, AreFollowed, FollowedCallsEnd}

pub or_false : (a b : Bool) → (a || b) ≡ false → (a ≡ false) × (b ≡ false)
or_false true b e = cc
or_false false b e = (refl, e)

-- a member of a list
record IsAt (n : ℕ) (xs : List ℕ) : Type 0 where
  pub front : List ℕ
  pub back : List ℕ
  pub is : xs ≡ front ++ n ∷ back

at_from_has : (xs : List ℕ) (n : ℕ) → has xs n ≡ true → IsAt n xs
at_from_has [] n h = cc
at_from_has (x ∷ xs) n h = elim (eqb_tells n x) [
  | inl a ↦ record { front = []; back = xs; is = ap (λ (m : ℕ). m ∷ xs) (sym a.1) }
  | inr a ↦
      let r : IsAt n xs = at_from_has xs n (subst (λ (b : Bool). (b || has xs n) ≡ true) a.0 h) in
      record { front = x ∷ r.front; back = r.back; is = ap (λ (l : List ℕ). x ∷ l) r.is }
]

-- a member that stands twice
record HasTwice (xs : List ℕ) : Type 0 where
  pub again : ℕ
  pub before : List ℕ
  pub between : List ℕ
  pub after : List ℕ
  pub is : xs ≡ before ++ (again ∷ (between ++ again ∷ after))

all_apart : (x : ℕ) (xs : List ℕ) → has xs x ≡ false → AllByRecursion (λ y. eqb x y ≡ false) xs
all_apart x [] h = tt
all_apart x (y ∷ ys) h = let p = or_false (x == y) (has ys x) h in (p.0, all_apart x ys p.1)

none_distinct : IsDistinct eqb []
unfolding IsDistinct
none_distinct = tt

more_distinct : (x : ℕ) (xs : List ℕ) (b : Bool) → has xs x ≡ b → IsDistinct eqb xs → IsDistinct eqb (x ∷ xs) ⊎ HasTwice (x ∷ xs)
more_distinct x xs true e d =
    let a : IsAt x xs = at_from_has xs x e in
    inr (record { again = x; before = []; between = a.front; after = a.back; is = ap (λ (l : List ℕ). x ∷ l) a.is })
more_distinct x xs false e d = inl (IsDistinct-cons eqb x xs (all_apart x xs e) d)

distinct_or_twice : (xs : List ℕ) → IsDistinct eqb xs ⊎ HasTwice xs
distinct_or_twice [] = inl none_distinct
distinct_or_twice (x ∷ xs) = elim (distinct_or_twice xs) [
  | inl d ↦ more_distinct x xs (has xs x) refl d
  | inr t ↦ inr (record { again = t.again; before = x ∷ t.before; between = t.between; after = t.after; is = ap (λ (l : List ℕ). x ∷ l) t.is })
]

-- a walk through a node
walk_through : (edge : ℕ → ℕ → Bool) (n m : ℕ) (xs ys : List ℕ) → IsWalk edge n (xs ++ m ∷ ys) → IsWalk edge n (xs ++ m ∷ []) × IsWalk edge m ys
walk_through edge n m [] ys w = ((w.0, tt), w.1)
walk_through edge n m (x ∷ xs) ys w = let r = walk_through edge x m xs ys w.1 in ((w.0, r.0), r.1)

-- a walk that comes to a node twice leads to a cycle
twice_reaches : (calls : ℕ → ℕ → Bool) (n : ℕ) (rest : List ℕ) → IsWalk calls n rest → HasTwice rest → ReachesCycle calls n
twice_reaches calls n rest w t =
    let whole : IsWalk calls n (t.before ++ (t.again ∷ (t.between ++ t.again ∷ t.after))) = subst (IsWalk calls n) t.is w in
    let to = walk_through calls n t.again t.before (t.between ++ t.again ∷ t.after) whole in
    let round = walk_through calls t.again t.again t.between t.after to.1 in
    record { member = t.again; there = inr (record { between = t.before; walk = to.0 }); round = record { between = t.between; walk = round.0 } }

-- all nodes of a walk after its first are callees
nodes_below : (calls : ℕ → ℕ → Bool) (count : ℕ) → AreBelow calls count → (n : ℕ) (rest : List ℕ) → IsWalk calls n rest → (q : ℕ) → has rest q ≡ true
    → q < count
nodes_below calls count below n [] w q h = cc
nodes_below calls count below n (m ∷ rest) w q h = elim (eqb_tells q m) [
  | inl a ↦ let l : m < count = below n m w.0 in let e : q ≡ m = a.1 in omega (arith, l, e)
  | inr a ↦ nodes_below calls count below m rest w.1 q (subst (λ (b : Bool). (b || has rest q) ≡ true) a.0 h)
]

-- a walk of more nodes than there are callees leads to a cycle
pub long_reaches : (calls : ℕ → ℕ → Bool) (count : ℕ) → AreBelow calls count → (n : ℕ) (rest : List ℕ) → IsWalk calls n rest → count < length rest
    → ReachesCycle calls n
long_reaches calls count below n rest w l = elim (distinct_or_twice rest) [
  | inl d ↦
      let short : length rest ≤ count = length-le_from_distinct_below rest count d (λ q h. nodes_below calls count below n rest w q h) in
      absurd (omega (arith, short, l))
  | inr t ↦ twice_reaches calls n rest w t
]

-- a subprogram that reaches a cycle calls one that does
pub record CallsOne (calls : ℕ → ℕ → Bool) (n : ℕ) : Type 0 where
  pub callee : ℕ
  pub is : calls n callee ≡ true
  pub reaches : ReachesCycle calls callee

-- the first step of a walk from one subprogram to another
step_to : (calls : ℕ → ℕ → Bool) (n m : ℕ) (between : List ℕ) → IsWalk calls n (between ++ m ∷ []) → (k : ℕ) × (calls n k ≡ true) × LeadsTo calls k m
step_to calls n m [] w = (m, w.0, inl refl)
step_to calls n m (k ∷ between) w = (k, w.0, inr (record { between = between; walk = w.1 }))

-- what reaches a call cycle calls something that does
pub cycle_from_callee : (calls : ℕ → ℕ → Bool) (n : ℕ) → ReachesCycle calls n → CallsOne calls n
cycle_from_callee calls n r = elim r.there [
  | inl e ↦
      let s = step_to calls r.member r.member r.round.between r.round.walk in
      record { callee = s.0; is = subst (λ (x : ℕ). calls x s.0 ≡ true) (sym e) s.1; reaches = record { member = r.member; there = s.2; round = r.round } }
  | inr t ↦
      let s = step_to calls n r.member t.between t.walk in
      record { callee = s.0; is = s.1; reaches = record { member = r.member; there = s.2; round = r.round } }
]

reaches_more : (calls more : ℕ → ℕ → Bool) → ((n m : ℕ) → calls n m ≡ true → more n m ≡ true) → (n m : ℕ) → Reaches calls n m → Reaches more n m
reaches_more calls more h n m r = record { between = r.between; walk = walk_of_more calls more h n (r.between ++ m ∷ []) r.walk }

-- no followed call is in a cycle
no_round : (calls follows : ℕ → ℕ → Bool) → AreFollowed calls follows → (n : ℕ) (between : List ℕ) → IsWalk follows n (between ++ n ∷ []) → ⊥
no_round calls follows f n [] w = f.apart n n w.0 (record { between = []; walk = (f.called n n w.0, tt) })
no_round calls follows f n (m ∷ between) w = f.apart n m w.0 (reaches_more follows calls f.called m n (record { between = between; walk = w.1 }))

followed_away : (calls follows : ℕ → ℕ → Bool) → AreFollowed calls follows → (n : ℕ) → ReachesCycle follows n → ⊥
followed_away calls follows f n r = no_round calls follows f r.member r.round.between r.round.walk

-- calls that are followed only out of call cycles lead to no cycle, and each chain of them ends
pub followed_end : FollowedCallsEnd
followed_end calls follows count f below = record {
  away = followed_away calls follows f;
  short = λ n rest w. elim (cases_lt count (length rest)) [
    | inl l ↦ absurd (followed_away calls follows f n (long_reaches follows count below n rest w l))
    | inr l ↦ omega (arith, l)
  ];
}
