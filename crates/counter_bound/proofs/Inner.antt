-- The loops inside another one, found by their heads: those whose heads are the nodes of its body.
use Rattle.std.proofs.Common.{◌≡◌, ◌≢◌, ◌==◌, ◌&&◌, ◌||◌, ℕ, zero, suc, ◌+◌, ◌<◌, ◌≤◌, inl, inr, Bool, true, false, not, Some, List, [], ◌∷◌, ◌++◌}
use Rattle.std.proofs.Common.{length, take, get_or, refl, sym, ap, subst, ◌∙◌, arith}
use Rattle.std.specs.List.{slice_get, list_any}
use Rattle.std.specs.List.Sorted.{IsNonDecreasingBy}
use Rattle.std.proofs.lemmas.Bool.{cases_lt, eq-eqb}
use Rattle.std.proofs.lemmas.Bool.Decides.{eqb_tells}
use Rattle.std.proofs.lemmas.List.{take_more}
use Rattle.std.proofs.lemmas.List.Folds.{list_any-append}
use Rattle.std.proofs.lemmas.Option.{slice_get-get_or, slice_get_within}
use Rattle.bt_base.specs.Graph.{has}
use Rattle.counter_bound.specs.Body.{is_inside, is_inner}
use Rattle.graph_laws.proofs.Nests.{two_true}
use Rattle.graph_laws.proofs.Stretches.{tells, both}
use Rattle.loop_nest.specs.LoopNest.{HeadsRise}
use Rattle.loop_nest.specs.declared.natural_loop.Loop.{Loop}
use Rattle.path_bound.specs.Places.{place_of}
use Rattle.path_bound.proofs.Placed.{some_one, place_is}

pub or_true : (b : Bool) → (b || true) ≡ true
or_true true = refl
or_true false = refl

pub or_none : (a b : Bool) → b ≡ false → a ≡ (a || b)
or_none true b e = refl
or_none false b e = sym e

pub or_after : (a b c : Bool) → ((a || b) || c) ≡ (a || (b || c))
or_after true b c = refl
or_after false b c = refl

-- a loop of a list that passes a test
pub record IsFound (loops : List Loop) (passes : Loop → Bool) : Type 0 where
  pub place : ℕ
  pub two : Loop
  pub at : slice_get loops place ≡ Some two
  pub test : passes two ≡ true

later : (y : Loop) (loops : List Loop) (test : Loop → Bool) → IsFound loops test → IsFound (y ∷ loops) test
later y loops test f = record { place = suc f.place; two = f.two; at = f.at; test = f.test }

find_by : (b : Bool) (y : Loop) (loops : List Loop) (test : Loop → Bool) → test y ≡ b → (list_any test loops ≡ true → IsFound loops test)
    → (b || list_any test loops) ≡ true → IsFound (y ∷ loops) test
find_by true y loops test e on t = record { place = 0; two = y; at = refl; test = e }
find_by false y loops test e on t = later y loops test (on t)

pub find : (loops : List Loop) (test : Loop → Bool) → list_any test loops ≡ true → IsFound loops test
find [] test t = cc
find (y ∷ loops) test t = find_by (test y) y loops test refl (find loops test) t

-- one that passes it is found
pub any_at : (xs : List Loop) (i : ℕ) (x : Loop) → slice_get xs i ≡ Some x → (p : Loop → Bool) → p x ≡ true → list_any p xs ≡ true
any_at [] i x e p t = cc
any_at (y ∷ xs) zero x e p t = let s : y ≡ x = some_one e in ap (λ (b : Bool). b || list_any p xs) (ap p s ∙ t)
any_at (y ∷ xs) (suc i) x e p t = ap (λ (b : Bool). p y || b) (any_at xs i x e p t) ∙ or_true (p y)

-- the heads of loops rise, as a search among them asks
pub heads_rise : (loops : List Loop) → HeadsRise loops → IsNonDecreasingBy (λ (one : Loop). one.head) loops
heads_rise loops rise i j d le l = elim (cases_lt i j) [
  | inl a ↦
      let b : (get_or loops i d).head < (get_or loops j d).head = rise i j (get_or loops i d) (get_or loops j d) a (slice_get-get_or loops i d (omega (arith, a, l)))
      (slice_get-get_or loops j d l) in omega (arith, b)
  | inr a ↦ let e : i ≡ j = omega (arith, a, le) in omega (arith, ap (λ (k : ℕ). (get_or loops k d).head) e)
]

-- a node more, and a loop more
parted : (c a b d : Bool) → (c && ((a || b) && d)) ≡ ((c && (a && d)) || (c && (b && d)))
parted true true b true = refl
parted true true b false = sym (none b)
  where
    none : (b : Bool) → (b && false) ≡ false
    none true = refl
    none false = refl
parted true false b d = refl
parted false a b d = refl

swapped : (a b s t : Bool) → ((a || b) || (s || t)) ≡ ((a || s) || (b || t))
swapped true b s t = refl
swapped false true true t = refl
swapped false true false t = refl
swapped false false s t = refl

more_inside : (head : ℕ) (nodes : List ℕ) (node : ℕ) (one : Loop) (n : ℕ)
    → is_inside head (nodes ++ node ∷ []) one n ≡ (is_inside head nodes one n || is_inside head (node ∷ []) one n)
more_inside head nodes node one n =
    ap (λ (b : Bool). not (one.head == head) && (b && has one.body.items n)) (list_any-append (λ m. one.head == m) nodes (node ∷ []))
    ∙ parted (not (one.head == head)) (has nodes one.head) (has (node ∷ []) one.head) (has one.body.items n)

inner_push : (loops : List Loop) (head : ℕ) (nodes : List ℕ) (node n : ℕ)
    → is_inner loops head (nodes ++ node ∷ []) n ≡ (is_inner loops head nodes n || is_inner loops head (node ∷ []) n)
inner_push [] head nodes node n = refl
inner_push (one ∷ loops) head nodes node n =
    ap (λ (b : Bool). b || is_inner loops head (nodes ++ node ∷ []) n) (more_inside head nodes node one n)
    ∙ ap (λ (b : Bool). (is_inside head nodes one n || is_inside head (node ∷ []) one n) || b) (inner_push loops head nodes node n)
    ∙ swapped (is_inside head nodes one n) (is_inside head (node ∷ []) one n) (is_inner loops head nodes n) (is_inner loops head (node ∷ []) n)

-- the loops of one node more are inside
pub inner_more : (loops : List Loop) (head : ℕ) (nodes : List ℕ) (i n : ℕ) → i < length nodes
    → is_inner loops head (take (i + 1) nodes) n ≡ (is_inner loops head (take i nodes) n || is_inner loops head (get_or nodes i 0 ∷ []) n)
inner_more loops head nodes i n l = ap (λ (x : List ℕ). is_inner loops head x n) (take_more nodes i 0 l) ∙ inner_push loops head (take i nodes) (get_or nodes i 0) n

no_inside : (c d : Bool) → (c && (false && d)) ≡ false
no_inside true d = refl
no_inside false d = refl

-- and without nodes none
pub inner_none : (loops : List Loop) (head n : ℕ) → is_inner loops head [] n ≡ false
inner_none [] head n = refl
inner_none (one ∷ loops) head n = ap (λ (b : Bool). b || is_inner loops head [] n) (no_inside (not (one.head == head)) (has one.body.items n)) ∙ inner_none loops head n

same_of : (x y : ℕ) → (x == y) ≡ true → x ≡ y
same_of x y t = elim (eqb_tells x y) [ inl a ↦ a.1 | inr a ↦ let f : (x == y) ≡ false = a.0 in cc ]

or_false : (b : Bool) → (b || false) ≡ b
or_false true = refl
or_false false = refl

-- a loop inside whose head is a node
record IsOf (loops : List Loop) (head node n : ℕ) : Type 0 where
  pub place : ℕ
  pub two : Loop
  pub at : slice_get loops place ≡ Some two
  pub head_is : two.head ≡ node
  pub other : (node == head) ≡ false
  pub holds : has two.body.items n ≡ true

not_true : (b : Bool) → not b ≡ true → b ≡ false
not_true true t = cc
not_true false t = refl

of_node : (loops : List Loop) (head node n : ℕ) → is_inner loops head (node ∷ []) n ≡ true → IsOf loops head node n
of_node loops head node n t =
    let f = find loops (λ x. is_inside head (node ∷ []) x n) t in
    let b = both (not (f.two.head == head)) (has (node ∷ []) f.two.head && has f.two.body.items n) f.test in
    let c = both (has (node ∷ []) f.two.head) (has f.two.body.items n) b.1 in
    let s : f.two.head ≡ node = same_of f.two.head node (sym (or_false (f.two.head == node)) ∙ c.0) in
    record {
      place = f.place;
      two = f.two;
      at = f.at;
      head_is = s;
      other = ap (λ (m : ℕ). m == head) (sym s) ∙ not_true (f.two.head == head) b.0;
      holds = c.1;
    }

-- the marks of a node that is the head of the loop at a place
pub inner_at : (loops : List Loop) → HeadsRise loops → (head node place : ℕ) (one : Loop) → slice_get loops place ≡ Some one → one.head ≡ node
    → (node == head) ≡ false → (n : ℕ) → is_inner loops head (node ∷ []) n ≡ has one.body.items n
inner_at loops rise head node place one at e other n = elim (tells (has one.body.items n)) [
  | inl t ↦
      any_at loops place one at (λ x. is_inside head (node ∷ []) x n) (two_true (not (one.head == head)) (has (node ∷ []) one.head && has one.body.items n)
      (ap not (ap (λ (m : ℕ). m == head) e ∙ other)) (two_true (has (node ∷ []) one.head) (has one.body.items n)
      (ap (λ (b : Bool). b || false) (eq-eqb one.head node e)) t)) ∙ sym t
  | inr f ↦ elim (tells (is_inner loops head (node ∷ []) n)) [
    | inl t ↦
        let o = of_node loops head node n t in
        let p : o.place ≡ place = sym (place_is loops rise o.place o.two o.at) ∙ (ap (λ (m : ℕ). place_of loops m) (o.head_is ∙ sym e) ∙ place_is loops rise place one at) in
        let q : o.two ≡ one = some_one (sym o.at ∙ (ap (slice_get loops) p ∙ at)) in
        let h : has one.body.items n ≡ true = ap (λ (x : Loop). has x.body.items n) (sym q) ∙ o.holds in cc
    | inr g ↦ g ∙ sym f
  ]
]

-- a place behind the heads that are below a node
pub record IsBehind (loops : List Loop) (node place : ℕ) : Type 0 where
  pub below : (k : ℕ) (d : Loop) → k < place → (get_or loops k d).head < node
  pub above : (k : ℕ) (d : Loop) → place ≤ k → k < length loops → node ≤ (get_or loops k d).head

-- where the loop there has another head, or no loop is there, no loop has the node as its head
at_behind : (loops : List Loop) → HeadsRise loops → (node place : ℕ) → IsBehind loops node place → (k : ℕ) (two : Loop)
    → slice_get loops k ≡ Some two → two.head ≡ node → k ≡ place
at_behind loops rise node place b k two at e = elim (cases_lt k place) [
  | inl l ↦
      let w : k < length loops = slice_get_within loops k two at in
      let g : get_or loops k two ≡ two = some_one (sym (slice_get-get_or loops k two w) ∙ at) in
      let q : (get_or loops k two).head < node = b.below k two l in absurd (omega (arith, q, e, ap (λ (x : Loop). x.head) g))
  | inr m ↦ elim (cases_lt place k) [
    | inl l ↦
        let w : k < length loops = slice_get_within loops k two at in
        let r : (get_or loops place two).head < two.head = rise place k (get_or loops place two) two l (slice_get-get_or loops place two (omega (arith, l, w))) at in
        let q : node ≤ (get_or loops place two).head = b.above place two (omega arith) (omega (arith, l, w)) in absurd (omega (arith, r, q, e))
    | inr l ↦ omega (arith, l, m)
  ]
]

pub inner_elsewhere : (loops : List Loop) → HeadsRise loops → (head node place : ℕ) → IsBehind loops node place
    → ((one : Loop) → slice_get loops place ≡ Some one → one.head ≡ node → (node == head) ≡ true) → (n : ℕ) → is_inner loops head (node ∷ []) n ≡ false
inner_elsewhere loops rise head node place b none n = elim (tells (is_inner loops head (node ∷ []) n)) [
  | inl t ↦
      let o = of_node loops head node n t in
      let p : o.place ≡ place = at_behind loops rise node place b o.place o.two o.at o.head_is in
      let s : (node == head) ≡ true = none o.two (ap (slice_get loops) (sym p) ∙ o.at) o.head_is in
      let f : (node == head) ≡ false = o.other in cc
  | inr f ↦ f
]
