-- Walks from a head: their sums, and how one that comes to a node twice is cut.
use Rattle.std.proofs.Common.{◌≡◌, ◌==◌, ◌||◌, ◌⊎◌, ℕ, zero, suc, ◌+◌, ◌*◌, ◌^◌, ◌<◌, ◌≤◌, inl, inr, Bool, true, false, eqb, List, [], ◌∷◌, ◌++◌, length}
use Rattle.std.proofs.Common.{refl, sym, ap, subst, ◌∙◌, arith}
use Rattle.std.specs.List.{IsDistinct, AllByRecursion}
use Rattle.std.proofs.lemmas.Bool.Decides.{eqb_tells}
use Rattle.std.proofs.lemmas.List.{length-append}
use Rattle.std.proofs.lemmas.Map.Keys.{IsDistinct-cons}
use Rattle.std.proofs.lemmas.Map.Steps.{length-le_from_distinct_below}
use Rattle.bt_base.specs.Graph.{has}
use Rattle.graph_laws.specs.Walk.{IsWalk, passes, end_of, total}
use Rattle.graph_laws.specs.Counter.{Changes}
use Rattle.graph_laws.proofs.Walks.{passes-append, end-append}
use Rattle.turn_sums.specs.Search.{sum_before, AreBalanced}

or_false : (a b : Bool) → (a || b) ≡ false → (a ≡ false) × (b ≡ false)
or_false true b e = cc
or_false false b e = (refl, e)

-- a member of a list
record IsAt (n : ℕ) (xs : List ℕ) : Type 0 where
  pub front : List ℕ
  pub back : List ℕ
  pub is : xs ≡ front ++ n ∷ back

at_from_has : (xs : List ℕ) (n : ℕ) → has xs n ≡ true → IsAt n xs
at_from_has [] n h = cc
at_from_has (x ∷ xs) n h = elim (eqb_tells n x) [
  | inl a ↦ record { front = []; back = xs; is = ap (λ (m : ℕ). m ∷ xs) (sym a.1) }
  | inr a ↦
      let r : IsAt n xs = at_from_has xs n (subst (λ (b : Bool). (b || has xs n) ≡ true) a.0 h) in
      record { front = x ∷ r.front; back = r.back; is = ap (λ (l : List ℕ). x ∷ l) r.is }
]

-- a member that stands twice
record HasTwice (xs : List ℕ) : Type 0 where
  pub again : ℕ
  pub before : List ℕ
  pub between : List ℕ
  pub after : List ℕ
  pub is : xs ≡ before ++ (again ∷ (between ++ again ∷ after))

all_apart : (x : ℕ) (xs : List ℕ) → has xs x ≡ false → AllByRecursion (λ y. eqb x y ≡ false) xs
all_apart x [] h = tt
all_apart x (y ∷ ys) h = let p = or_false (x == y) (has ys x) h in (p.0, all_apart x ys p.1)

none_distinct : IsDistinct eqb []
unfolding IsDistinct
none_distinct = tt

more_distinct : (x : ℕ) (xs : List ℕ) (b : Bool) → has xs x ≡ b → IsDistinct eqb xs → IsDistinct eqb (x ∷ xs) ⊎ HasTwice (x ∷ xs)
more_distinct x xs true e d =
    let a : IsAt x xs = at_from_has xs x e in
    inr (record { again = x; before = []; between = a.front; after = a.back; is = ap (λ (l : List ℕ). x ∷ l) a.is })
more_distinct x xs false e d = inl (IsDistinct-cons eqb x xs (all_apart x xs e) d)

distinct_or_twice : (xs : List ℕ) → IsDistinct eqb xs ⊎ HasTwice xs
distinct_or_twice [] = inl none_distinct
distinct_or_twice (x ∷ xs) = elim (distinct_or_twice xs) [
  | inl d ↦ more_distinct x xs (has xs x) refl d
  | inr t ↦ inr (record { again = t.again; before = x ∷ t.before; between = t.between; after = t.after; is = ap (λ (l : List ℕ). x ∷ l) t.is })
]

nodes_below : (edge : ℕ → ℕ → Bool) (count : ℕ) → ((n m : ℕ) → edge n m ≡ true → m < count) → (n : ℕ) (rest : List ℕ) → IsWalk edge n rest
    → (q : ℕ) → has rest q ≡ true → q < count
nodes_below edge count below n [] w q h = cc
nodes_below edge count below n (m ∷ rest) w q h = elim (eqb_tells q m) [
  | inl a ↦ let l : m < count = below n m w.0 in let e : q ≡ m = a.1 in omega (arith, l, e)
  | inr a ↦ nodes_below edge count below m rest w.1 q (subst (λ (b : Bool). (b || has rest q) ≡ true) a.0 h)
]

-- the sums along two walks add up
pub sum_before-append : (f : ℕ → ℕ) (n m : ℕ) (xs ys : List ℕ) → sum_before f n (xs ++ m ∷ ys) ≡ sum_before f n xs + f (end_of n xs) + sum_before f m ys
sum_before-append f n m [] ys = omega arith
sum_before-append f n m (x ∷ xs) ys =
    let e : sum_before f x (xs ++ m ∷ ys) ≡ sum_before f x xs + f (end_of x xs) + sum_before f m ys = sum_before-append f x m xs ys in omega (arith, e)

-- a sum over all nodes is that before the last and its own
pub total_is_before : (f : ℕ → ℕ) (n : ℕ) (xs : List ℕ) → total f (n ∷ xs) ≡ sum_before f n xs + f (end_of n xs)
total_is_before f n [] = omega arith
total_is_before f n (x ∷ xs) = let e : total f (x ∷ xs) ≡ sum_before f x xs + f (end_of x xs) = total_is_before f x xs in omega (arith, e)

-- a sum along a walk is bounded by its length
pub sum_before-le : (f : ℕ → ℕ) → ((n : ℕ) → f n < 2 ^ 32) → (n : ℕ) (rest : List ℕ) → sum_before f n rest ≤ length rest * 2 ^ 32
sum_before-le f below n [] = omega arith
sum_before-le f below n (m ∷ rest) =
    let e : sum_before f m rest ≤ length rest * 2 ^ 32 = sum_before-le f below m rest in
    let l : f n < 2 ^ 32 = below n in omega (arith, e, l)

-- a list is empty or has a last member
pub record HasLast (xs : List ℕ) : Type 0 where
  pub front : List ℕ
  pub last : ℕ
  pub is : xs ≡ front ++ last ∷ []

-- a list that isn't empty has a last
pub last_of : (x : ℕ) (xs : List ℕ) → HasLast (x ∷ xs)
last_of x [] = record { front = []; last = x; is = refl }
last_of x (y ∷ ys) = let r : HasLast (y ∷ ys) = last_of y ys in record { front = x ∷ r.front; last = r.last; is = ap (λ (l : List ℕ). x ∷ l) r.is }

-- a walk from the head with the same end, which doesn't come back to it, and whose sum is the same
pub record IsShort (edge : ℕ → ℕ → Bool) (head : ℕ) (changes : Changes) (count : ℕ) (rest : List ℕ) : Type 0 where
  pub path : List ℕ
  pub walk : IsWalk edge head path
  pub ends : end_of head path ≡ end_of head rest
  pub once : passes head path ≡ 0
  pub short : length path ≤ count
  pub same : sum_before changes.up head rest + sum_before changes.down head path ≡ sum_before changes.up head path + sum_before changes.down head rest

split_end : (n m k : ℕ) (xs ys zs : List ℕ) → end_of n (xs ++ (m ∷ (ys ++ k ∷ zs))) ≡ end_of k zs
split_end n m k xs ys zs = end-append n m xs (ys ++ k ∷ zs) ∙ end-append m k ys zs

module _ (edge : ℕ → ℕ → Bool) (head : ℕ) (changes : Changes) (count : ℕ) (below : (n m : ℕ) → edge n m ≡ true
    → m < count) (balanced : AreBalanced edge head changes) where
  -- one stretch is cut out
  record IsCut (rest : List ℕ) : Type 0 where
    pub path : List ℕ
    pub walk : IsWalk edge head path
    pub ends : end_of head path ≡ end_of head rest
    pub once : passes head path ≡ 0
    pub shorter : length path < length rest
    pub same : sum_before changes.up head rest + sum_before changes.down head path ≡ sum_before changes.up head path + sum_before changes.down head rest

  lengths : (x : ℕ) (before between after : List ℕ) → length (before ++ x ∷ after) < length (before ++ (x ∷ (between ++ x ∷ after)))
  lengths x before between after =
      let a : length (before ++ x ∷ after) ≡ length before + length (x ∷ after) = length-append before (x ∷ after) in
      let b : length (before ++ (x ∷ (between ++ x ∷ after))) ≡ length before + length (x ∷ (between ++ x ∷ after)) =
      length-append before (x ∷ (between ++ x ∷ after)) in
      let c : length (between ++ x ∷ after) ≡ length between + length (x ∷ after) = length-append between (x ∷ after) in
      omega (arith, a, b, c)

  round_walk : (n x : ℕ) (mid after : List ℕ) → IsWalk edge n (mid ++ x ∷ after) → IsWalk edge n (mid ++ x ∷ []) × IsWalk edge x after
  round_walk n x [] after w = ((w.0, tt), w.1)
  round_walk n x (y ∷ mid) after w = let r = round_walk y x mid after w.1 in ((w.0, r.0), r.1)

  join_walk : (n : ℕ) (x : ℕ) (before after : List ℕ) → IsWalk edge n (before ++ x ∷ []) → IsWalk edge x after → IsWalk edge n (before ++ x ∷ after)
  join_walk n x [] after a b = (a.0, b)
  join_walk n x (y ∷ before) after a b = (a.0, join_walk y x before after a.1 b)

  -- what is cut out sums to its total
  sums : (f : ℕ → ℕ) (before : List ℕ) (x : ℕ) (mid after : List ℕ)
      → sum_before f head (before ++ (x ∷ (mid ++ x ∷ after))) ≡ sum_before f head (before ++ x ∷ after) + total f (x ∷ mid)
  sums f before x mid after =
      let a : sum_before f head (before ++ (x ∷ (mid ++ x ∷ after))) ≡ sum_before f head before + f (end_of head before) + sum_before f x (mid ++ x ∷ after)
      = sum_before-append f head x before (mid ++ x ∷ after) in
      let b : sum_before f head (before ++ x ∷ after) ≡ sum_before f head before + f (end_of head before) + sum_before f x after =
      sum_before-append f head x before after in
      let c : sum_before f x (mid ++ x ∷ after) ≡ sum_before f x mid + f (end_of x mid) + sum_before f x after = sum_before-append f x x mid after in
      let d : total f (x ∷ mid) ≡ sum_before f x mid + f (end_of x mid) = total_is_before f x mid in
      omega (arith, a, b, c, d)

  cut_twice : (rest before : List ℕ) (x : ℕ) (mid after : List ℕ) → rest ≡ before ++ (x ∷ (mid ++ x ∷ after)) → IsWalk edge head rest → passes head rest ≡ 0
      → IsCut rest
  cut_twice rest before x mid after is w p =
      let whole : IsWalk edge head (before ++ (x ∷ (mid ++ x ∷ after))) = subst (IsWalk edge head) is w in
      let to = round_walk head x before (mid ++ x ∷ after) whole in
      let round = round_walk x x mid after to.1 in
      let passed : passes head (before ++ (x ∷ (mid ++ x ∷ after))) ≡ 0 = subst (λ (l : List ℕ). passes head l ≡ 0) is p in
      let a : passes head (before ++ (x ∷ (mid ++ x ∷ after))) ≡ passes head before + passes head (x ∷ (mid ++ x ∷ after)) =
      passes-append head before (x ∷ (mid ++ x ∷ after)) in
      let b : passes head ((x ∷ mid) ++ x ∷ after) ≡ passes head (x ∷ mid) + passes head (x ∷ after) = passes-append head (x ∷ mid) (x ∷ after) in
      let d : passes head (before ++ x ∷ after) ≡ passes head before + passes head (x ∷ after) = passes-append head before (x ∷ after) in
      let whole_is : passes head ((x ∷ mid) ++ x ∷ after) ≡ passes head (x ∷ (mid ++ x ∷ after)) = refl in
      let even : total changes.up (x ∷ mid) ≡ total changes.down (x ∷ mid) = balanced x mid round.0 (omega (arith, a, b, passed, whole_is)) in
      let path : IsWalk edge head (before ++ x ∷ after) = join_walk head x before after to.0 round.1 in
      let sums_up = sums changes.up before x mid after in
      let sums_down = sums changes.down before x mid after in
      let up_is : sum_before changes.up head rest ≡ sum_before changes.up head (before ++ (x ∷ (mid ++ x ∷ after))) = ap (sum_before changes.up head) is in
      let down_is : sum_before changes.down head rest ≡ sum_before changes.down head (before ++ (x ∷ (mid ++ x ∷ after))) =
      ap (sum_before changes.down head) is in
      record {
        path = before ++ x ∷ after;
        walk = path;
        ends = end-append head x before after ∙ sym (ap (end_of head) is ∙ split_end head x x before mid after);
        once = omega (arith, a, b, d, passed, whole_is);
        shorter = subst (λ (l : List ℕ). length (before ++ x ∷ after) < length l) (sym is) (lengths x before mid after);
        same = omega (arith, sums_up, sums_down, even, up_is, down_is);
      }

  shorter_by : (rest : List ℕ) (cut : IsCut rest) → IsShort edge head changes count cut.path → IsShort edge head changes count rest
  shorter_by rest cut s =
      let one : sum_before changes.up head rest + sum_before changes.down head cut.path ≡ sum_before changes.up head cut.path
      + sum_before changes.down head rest = cut.same in
      let two : sum_before changes.up head cut.path + sum_before changes.down head s.path ≡ sum_before changes.up head s.path
      + sum_before changes.down head cut.path = s.same in
      record { path = s.path; walk = s.walk; ends = s.ends ∙ cut.ends; once = s.once; short = s.short; same = omega (arith, one, two) }

  short_of : (size : ℕ) (rest : List ℕ) → length rest < size → IsWalk edge head rest → passes head rest ≡ 0 → IsShort edge head changes count rest
  short_of zero rest l w p = absurd (omega arith)
  short_of (suc size) rest l w p = elim (distinct_or_twice rest) [
    | inl d ↦
        let short : length rest ≤ count = length-le_from_distinct_below rest count d (λ q h. nodes_below edge count below head rest w q h) in
        record { path = rest; walk = w; ends = refl; once = p; short = short; same = refl }
    | inr t ↦
        let cut : IsCut rest = cut_twice rest t.before t.again t.between t.after t.is w p in
        let less : length cut.path < length rest = cut.shorter in
        shorter_by rest cut (short_of size cut.path (omega (arith, less, l)) cut.walk cut.once)
  ]

  -- each walk from the head has one of at most as many steps as there are nodes
  pub short_path : (rest : List ℕ) → IsWalk edge head rest → passes head rest ≡ 0 → IsShort edge head changes count rest
  short_path rest w p = short_of (suc (length rest)) rest (omega arith) w p
