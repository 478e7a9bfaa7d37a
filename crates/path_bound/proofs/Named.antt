-- The node that is named is the least head whose loop costs too much while none inside it does.
use Rattle.std.proofs.Common.{◌≡◌, ◌==◌, ◌&&◌, ◌⊎◌, ◌↔◌, ℕ, zero, suc, ◌<◌, ◌≤◌, inl, inr, Bool, true, false, not, Some, List, [], ◌∷◌, cond, refl}
use Rattle.std.proofs.Common.{sym, ap, subst, ◌∙◌, arith}
use Rattle.std.specs.List.{slice_get, list_any}
use Rattle.std.proofs.lemmas.Bool.{eq-eqb, cases_lt}
use Rattle.std.proofs.lemmas.Bool.Decides.{eqb_tells}
use Rattle.std.proofs.lemmas.Grind.{get_or_default_zero as get_or_zero}
use Rattle.std.proofs.lemmas.List.Folds.{list_any_at, Any-from_list_any}
use Rattle.bt_base.specs.Graph.{has}
use Rattle.graph_laws.specs.Loops.{Loops}
use Rattle.graph_laws.proofs.Nests.{two_true, not_false}
use Rattle.graph_laws.proofs.Stretches.{tells, both}
use Rattle.loop_nest.proofs.Lists.{IsPlace, place_of as place_in, has_where}
use Rattle.loop_nest.specs.LoopNest.{HeadsRise}
use Rattle.loop_nest.specs.declared.natural_loop.Loop.{Loop}
use Rattle.path_bound.specs.Blamed.{is_innermost_of, first_of}
use Rattle.path_bound.specs.Capped.{limit}
use Rattle.path_bound.specs.LongWalk.{IsBlamed, IsNamed}

some_eq : {A : Type 0} {x y : A} → Some x ≡ Some y → x ≡ y
some_eq e = cc

-- the first loop of a list that is innermost, or none is
record IsFirst (large : ℕ → Bool) (loops : List Loop) (named : ℕ) : Type 0 where
  pub place : ℕ
  pub one : Loop
  pub at : slice_get loops place ≡ Some one
  pub is : is_innermost_of large one ≡ true
  pub head : named ≡ one.head
  pub before : (j : ℕ) (two : Loop) → j < place → slice_get loops j ≡ Some two → is_innermost_of large two ≡ false

first_cases : (large : ℕ → Bool) (loops : List Loop) (entry : ℕ) → IsFirst large loops (first_of large loops entry)
    ⊎ ((first_of large loops entry ≡ entry) × ((k : ℕ) (one : Loop) → slice_get loops k ≡ Some one → is_innermost_of large one ≡ false))
first_cases large [] entry = inr (refl, (λ k one e. cc))
first_cases large (l ∷ loops) entry = by (tells (is_innermost_of large l)) (first_cases large loops entry)
  where
    by : (is_innermost_of large l ≡ true) ⊎ (is_innermost_of large l ≡ false)
        → IsFirst large loops (first_of large loops entry)
        ⊎ ((first_of large loops entry ≡ entry) × ((k : ℕ) (one : Loop) → slice_get loops k ≡ Some one → is_innermost_of large one ≡ false))
        → IsFirst large (l ∷ loops) (first_of large (l ∷ loops) entry)
        ⊎ ((first_of large (l ∷ loops) entry ≡ entry) × ((k : ℕ) (one : Loop) → slice_get (l ∷ loops) k ≡ Some one → is_innermost_of large one ≡ false))
    by (inl t) rest = inl (record {
      place = 0;
      one = l;
      at = refl;
      is = t;
      head = ap (λ (b : Bool). cond b l.head (first_of large loops entry)) t;
      before = λ j two a e. absurd (omega (arith, a));
    })
    by (inr t) (inl r) = inl (record {
      place = suc r.place;
      one = r.one;
      at = r.at;
      is = r.is;
      head = ap (λ (b : Bool). cond b l.head (first_of large loops entry)) t ∙ r.head;
      before = earlier r;
    })
      where
        earlier : (r : IsFirst large loops (first_of large loops entry)) → (j : ℕ) (two : Loop) → j < suc r.place
            → slice_get (l ∷ loops) j ≡ Some two → is_innermost_of large two ≡ false
        earlier r zero two a e = ap (is_innermost_of large) (sym (some_eq e)) ∙ t
        earlier r (suc j) two a e = r.before j two (omega (arith, a)) e
    by (inr t) (inr r) = inr (ap (λ (b : Bool). cond b l.head (first_of large loops entry)) t ∙ r.0, none r.1)
      where
        none : ((k : ℕ) (one : Loop) → slice_get loops k ≡ Some one → is_innermost_of large one ≡ false) → (k : ℕ) (one : Loop)
            → slice_get (l ∷ loops) k ≡ Some one → is_innermost_of large one ≡ false
        none r zero one e = ap (is_innermost_of large) (sym (some_eq e)) ∙ t
        none r (suc k) one e = r k one e

-- a loop of a list
pub record IsLoopOf (all : Loops) (loops : List Loop) (h : ℕ) : Type 0 where
  pub place : ℕ
  pub one : Loop
  pub at : slice_get loops place ≡ Some one
  pub head : one.head ≡ h

module _ (all : Loops) (loops : List Loop) (rise : HeadsRise loops) (listed : (h : ℕ) → all.has h ≡ true → IsLoopOf all loops h)
    (heads : (k : ℕ) (one : Loop) → slice_get loops k ≡ Some one → all.has one.head ≡ true)
    (bodies : (k n : ℕ) (one : Loop) → slice_get loops k ≡ Some one → all.body one.head n ≡ has one.body.items n)
    (large : ℕ → Bool) (own : ℕ → ℕ) (says : (h : ℕ) → all.has h ≡ true → (large h ≡ true) ↔ (limit ≤ own h))
    (others : (n : ℕ) → all.has n ≡ false → large n ≡ false) where
  to_blamed : (k : ℕ) (one : Loop) → slice_get loops k ≡ Some one → is_innermost_of large one ≡ true → IsBlamed all own one.head
  to_blamed k one e t =
      let b : (large one.head ≡ true) × (not (list_any (λ n. not (n == one.head) && large n) one.body.items) ≡ true) =
      both (large one.head) (not (list_any (λ n. not (n == one.head) && large n) one.body.items)) t in
      let none : list_any (λ n. not (n == one.head) && large n) one.body.items ≡ false =
      not_false (list_any (λ n. not (n == one.head) && large n) one.body.items) b.1 in
      record {
        head = heads k one e;
        large = (says one.head (heads k one e)).0 b.0;
        inner = λ j a i ne. elim (cases_lt (own j) limit) [
          | inl l ↦ l
          | inr l ↦
              let p : IsPlace one.body.items j = place_in one.body.items j (sym (bodies k j one e) ∙ i) in
              let big : large j ≡ true = (says j a).1 l in
              let f : (j == one.head) ≡ false = elim (eqb_tells j one.head) [ inl q ↦ absurd (ne q.1) | inr q ↦ q.0 ] in
              let u : (not (j == one.head) && large j) ≡ true = two_true (not (j == one.head)) (large j) (ap not f) big in
              let g : list_any (λ n. not (n == one.head) && large n) one.body.items ≡ true =
              list_any_at (λ n. not (n == one.head) && large n) one.body.items p.at 0 p.within (ap (λ (n : ℕ). not (n == one.head) && large n) p.is ∙ u) in cc
        ];
      }

  of_blamed : (k : ℕ) (one : Loop) → slice_get loops k ≡ Some one → IsBlamed all own one.head → is_innermost_of large one ≡ true
  of_blamed k one e b =
      let none : list_any (λ n. not (n == one.head) && large n) one.body.items ≡ false =
      elim (tells (list_any (λ n. not (n == one.head) && large n) one.body.items)) [
        | inl t ↦ absurd (never t)
        | inr t ↦ t
      ] in
      two_true (large one.head) (not (list_any (λ n. not (n == one.head) && large n) one.body.items)) ((says one.head b.head).1 b.large) (ap not none)
    where
      never : list_any (λ n. not (n == one.head) && large n) one.body.items ≡ true → ⊥
      never t =
          let a = Any-from_list_any (λ (n : ℕ). not (n == one.head) && large n) one.body.items t in
          let p : (not (a.1 == one.head) ≡ true) × (large a.1 ≡ true) = both (not (a.1 == one.head)) (large a.1) a.4 in
          let f : (a.1 == one.head) ≡ false = not_false (a.1 == one.head) p.0 in
          let inside : has one.body.items a.1 ≡ true = has_where one.body.items a.0 a.1 a.2 (sym (get_or_zero one.body.items a.0 a.1 a.2) ∙ a.3) in
          elim (tells (all.has a.1)) [
            | inl h ↦
                let w : own a.1 < limit = b.inner a.1 h (bodies k a.1 one e ∙ inside) (λ q. let g : (a.1 == one.head) ≡ true = eq-eqb a.1 one.head q in cc) in
                let l : limit ≤ own a.1 = (says a.1 h).0 p.1 in omega (arith, w, l)
            | inr h ↦ let g : large a.1 ≡ false = others a.1 h in let i : large a.1 ≡ true = p.1 in cc
          ]

  -- the first of the large loops, or the entry, is the one that is named
  pub named : (entry : ℕ) → IsNamed all own entry (first_of large loops entry)
  named entry = elim (first_cases large loops entry) [
    | inl f ↦ inl (
      (subst (λ (n : ℕ). IsBlamed all own n) (sym f.head) (to_blamed f.place f.one f.at f.is)),
      (λ h b.
          let l : IsLoopOf all loops h = listed h b.head in
          let i : is_innermost_of large l.one ≡ true = of_blamed l.place l.one l.at (subst (λ (n : ℕ). IsBlamed all own n) (sym l.head) b) in
          elim (cases_lt l.place f.place) [
            | inl a ↦ let g : is_innermost_of large l.one ≡ false = f.before l.place l.one a l.at in cc
            | inr a ↦ elim (cases_lt f.place l.place) [
              | inl c ↦ let r : f.one.head < l.one.head = rise f.place l.place f.one l.one c f.at l.at in omega (arith, r, f.head, l.head)
              | inr c ↦
                  let q : f.place ≡ l.place = omega (arith, a, c) in
                  let s : f.one ≡ l.one = some_eq (sym f.at ∙ (ap (slice_get loops) q ∙ l.at)) in omega (arith, f.head, l.head, ap (λ (x : Loop). x.head) s)
            ]
          ]),
    )
    | inr f ↦ inr (
      f.0,
      (λ h b.
          let l : IsLoopOf all loops h = listed h b.head in
          let i : is_innermost_of large l.one ≡ true = of_blamed l.place l.one l.at (subst (λ (n : ℕ). IsBlamed all own n) (sym l.head) b) in
          let g : is_innermost_of large l.one ≡ false = f.1 l.place l.one l.at in cc),
    )
  ]
