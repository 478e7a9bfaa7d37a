-- The place of the loop of a head.
use Rattle.std.proofs.Common.{◌≡◌, ◌==◌, ◌||◌, ◌⊎◌, ℕ, zero, suc, ◌+◌, ◌<◌, ◌≤◌, inl, inr, Bool, true, false, Option, Some, None, List, [], ◌∷◌}
use Rattle.std.proofs.Common.{length, set, get_or, cond, ltb, sym, ap, ◌∙◌, arith}
use Rattle.std.specs.List.{slice_get}
use Rattle.std.proofs.lemmas.Bool.{eq-eqb, cases_lt, lt-ltb, le-ltb, ltb-true}
use Rattle.std.proofs.lemmas.Bool.Decides.{eqb_tells}
use Rattle.std.proofs.lemmas.List.{get_or-set_same, get_or-set_other}
use Rattle.std.proofs.lemmas.Option.{slice_get_within}
use Rattle.graph_laws.proofs.Stretches.{tells}
use Rattle.loop_nest.specs.declared.natural_loop.Loop.{Loop}
use Rattle.loop_nest.specs.LoopNest.{is_head, HeadsRise}
use Rattle.path_bound.specs.Places.{place_of, place_below, AreLoopsBelow}

-- what is there is one
pub some_one : {A : Type 0} {x y : A} → Some x ≡ Some y → x ≡ y
some_one e = cc

equal : (a b : ℕ) → (a == b) ≡ true → a ≡ b
equal a b t = elim (eqb_tells a b) [ inl q ↦ q.1 | inr q ↦ let f : (a == b) ≡ false = q.0 in cc ]

-- the loop at a place
pub record IsLoopAt (loops : List Loop) (place h : ℕ) : Type 0 where
  pub one : Loop
  pub at : slice_get loops place ≡ Some one
  pub head : one.head ≡ h

-- at the place of a head stands its loop
pub place_reads : (loops : List Loop) (h : ℕ) → place_of loops h < length loops → IsLoopAt loops (place_of loops h) h
place_reads [] h l = absurd (omega (arith, l))
place_reads (one ∷ loops) h l = elim (tells (h == one.head)) [
  | inl t ↦ record { one = one; at = ap (slice_get (one ∷ loops)) (ap (λ (b : Bool). cond b 0 (suc (place_of loops h))) t); head = sym (equal h one.head t) }
  | inr t ↦
      let e : place_of (one ∷ loops) h ≡ suc (place_of loops h) = ap (λ (b : Bool). cond b 0 (suc (place_of loops h))) t in
      let r : IsLoopAt loops (place_of loops h) h = place_reads loops h (omega (arith, l, e)) in
      record { one = r.one; at = ap (slice_get (one ∷ loops)) e ∙ r.at; head = r.head }
]

place_first : (loops : List Loop) (k : ℕ) (one : Loop) → slice_get loops k ≡ Some one → place_of loops one.head ≤ k
place_first [] k one e = cc
place_first (l ∷ loops) zero one e =
    let s : l ≡ one = some_one e in
    let z : place_of (l ∷ loops) one.head ≡ 0 =
    ap (λ (b : Bool). cond b 0 (suc (place_of loops one.head))) (eq-eqb one.head l.head (ap (λ (x : Loop). x.head) (sym s))) in omega (arith, z)
place_first (l ∷ loops) (suc k) one e = most (one.head == l.head) (place_first loops k one e)
  where
    most : (b : Bool) → place_of loops one.head ≤ k → cond b 0 (suc (place_of loops one.head)) ≤ suc k
    most true r = omega arith
    most false r = omega (arith, r)

-- the place of a loop's head is the loop's
pub place_is : (loops : List Loop) → HeadsRise loops → (k : ℕ) (one : Loop) → slice_get loops k ≡ Some one → place_of loops one.head ≡ k
place_is loops rise k one e =
    let m : place_of loops one.head ≤ k = place_first loops k one e in
    let w : k < length loops = slice_get_within loops k one e in
    let r : IsLoopAt loops (place_of loops one.head) one.head = place_reads loops one.head (omega (arith, m, w)) in
    elim (cases_lt (place_of loops one.head) k) [
      | inl l ↦ let a : r.one.head < one.head = rise (place_of loops one.head) k r.one one l r.at e in absurd (omega (arith, a, r.head))
      | inr l ↦ omega (arith, m, l)
    ]

-- a node is a head exactly where it has a place among the loops
pub head_place : (loops : List Loop) (h : ℕ) → is_head loops h ≡ ltb (place_of loops h) (length loops)
head_place [] h = sym (le-ltb 0 0 (omega arith))
head_place (one ∷ loops) h = elim (tells (h == one.head)) [
  | inl t ↦
      let z : place_of (one ∷ loops) h ≡ 0 = ap (λ (b : Bool). cond b 0 (suc (place_of loops h))) t in
      ap (λ (b : Bool). b || is_head loops h) t ∙ sym (lt-ltb (place_of (one ∷ loops) h) (suc (length loops)) (omega (arith, z)))
  | inr t ↦
      let z : place_of (one ∷ loops) h ≡ suc (place_of loops h) = ap (λ (b : Bool). cond b 0 (suc (place_of loops h))) t in
      ap (λ (b : Bool). b || is_head loops h) t
      ∙ (head_place loops h ∙ (same (place_of loops h) (length loops) ∙ ap (λ (k : ℕ). ltb k (suc (length loops))) (sym z)))
]
  where
    same : (a b : ℕ) → ltb a b ≡ ltb (suc a) (suc b)
    same a b = elim (cases_lt a b) [
      | inl l ↦ lt-ltb a b l ∙ sym (lt-ltb (suc a) (suc b) (omega (arith, l)))
      | inr l ↦ le-ltb a b l ∙ sym (le-ltb (suc a) (suc b) (omega (arith, l)))
    ]

-- a place that is found below a count is the head's
pub below_some : (loops : List Loop) (count h p : ℕ) → place_below loops count h ≡ Some p → (place_of loops h ≡ p) × (p < count)
below_some loops count h p e = given (tells (ltb (place_of loops h) count))
  where
    given : (ltb (place_of loops h) count ≡ true) ⊎ (ltb (place_of loops h) count ≡ false) → (place_of loops h ≡ p) × (p < count)
    given (inl t) =
        let s : place_of loops h ≡ p = some_one (sym (ap (λ (b : Bool). cond b (Some (place_of loops h)) None) t) ∙ e) in
        let l : place_of loops h < count = ltb-true (place_of loops h) count t in (s, omega (arith, s, l))
    given (inr t) = let n : None ≡ Some p = sym (ap (λ (b : Bool). cond b (Some (place_of loops h)) None) t) ∙ e in cc

pub below_is : (loops : List Loop) (count h : ℕ) → place_of loops h < count → place_below loops count h ≡ Some (place_of loops h)
below_is loops count h l = ap (λ (b : Bool). cond b (Some (place_of loops h)) None) (lt-ltb (place_of loops h) count l)

pub below_none : (loops : List Loop) (count h : ℕ) → count ≤ place_of loops h → place_below loops count h ≡ None
below_none loops count h l = ap (λ (b : Bool). cond b (Some (place_of loops h)) None) (le-ltb (place_of loops h) count l)

-- a head is one whose place is known, and no other node
pub back_none : (loops : List Loop) (h : ℕ) → place_below loops (length loops) h ≡ None → is_head loops h ≡ false
back_none loops h e = elim (tells (ltb (place_of loops h) (length loops))) [
  | inl t ↦ let f : None ≡ Some (place_of loops h) = sym e ∙ ap (λ (b : Bool). cond b (Some (place_of loops h)) None) t in cc
  | inr t ↦ head_place loops h ∙ t
]

-- a place that is found is that of a head
pub back_some : (loops : List Loop) (h p : ℕ) → place_below loops (length loops) h ≡ Some p → is_head loops h ≡ true
back_some loops h p e =
    let b : (place_of loops h ≡ p) × (p < length loops) = below_some loops (length loops) h p e in
    head_place loops h ∙ lt-ltb (place_of loops h) (length loops) (omega (arith, b.0, b.1))

-- one loop more has its place
pub places_on : (loops : List Loop) (count i : ℕ) (one : Loop) (places : List (Option ℕ)) → AreLoopsBelow count loops → length places ≡ count
    → slice_get loops i ≡ Some one
    → ((h : ℕ) → get_or places h None ≡ place_below loops i h) → (h : ℕ) → get_or (set places one.head (Some i)) h None ≡ place_below loops (i + 1) h
places_on loops count i one places are size e was h =
    let p : place_of loops one.head ≡ i = place_is loops are.rising i one e in
    let w : one.head < count = are.heads i one e in
    elim (eqb_tells h one.head) [
      | inl q ↦
          let r : place_of loops h ≡ i = ap (place_of loops) q.1 ∙ p in
          ap (λ (x : ℕ). get_or (set places one.head (Some i)) x None) q.1
          ∙ (get_or-set_same places one.head (Some i) None (omega (arith, w, size))
          ∙ sym (below_is loops (i + 1) h (omega (arith, r)) ∙ ap (λ (x : ℕ). Some x) r))
      | inr q ↦
          get_or-set_other places one.head h (Some i) None q.1
          ∙ (was h
          ∙ elim (cases_lt (place_of loops h) i) [
            | inl l ↦ below_is loops i h l ∙ sym (below_is loops (i + 1) h (omega (arith, l)))
            | inr l ↦ below_none loops i h l ∙ sym (below_none loops (i + 1) h (beyond q.1 l))
          ])
    ]
  where
    beyond : (h ≡ one.head → ⊥) → i ≤ place_of loops h → i + 1 ≤ place_of loops h
    beyond ne l = elim (cases_lt i (place_of loops h)) [
      | inl a ↦ omega (arith, a)
      | inr a ↦
          let s : place_of loops h ≡ i = omega (arith, l, a) in
          let w : i < length loops = slice_get_within loops i one e in
          let r : IsLoopAt loops (place_of loops h) h = place_reads loops h (omega (arith, s, w)) in
          let f : r.one ≡ one = some_one (sym r.at ∙ (ap (slice_get loops) s ∙ e)) in absurd (ne (sym r.head ∙ ap (λ (x : Loop). x.head) f))
    ]
