-- The nodes to which labels lead come before.
use Rattle.std.proofs.Common.{◌≡◌, ◌==◌, ◌||◌, ℕ, zero, suc, ◌<◌, ◌≤◌, inl, inr, Bool, true, false, Option, Some, None, List, [], ◌∷◌, length, take}
use Rattle.std.proofs.Common.{get_or, cond, refl, sym, ap, ◌∙◌, arith, Vec, Global}
use Rattle.bt_base.specs.Graph.{has}
use Rattle.graph_laws.proofs.Stretches.{tells}
use Rattle.path_bound.specs.declared.choosing.Label.{Label}
use Rattle.path_bound.specs.declared.stepping.Step.{Step}
use Rattle.path_bound.specs.Capped.{cap}
use Rattle.path_bound.specs.Choosing.{label_at, is_end, behind, asked, greater, best_of, start_at, only, next_of}
use Rattle.path_bound.specs.Ranked.{rank_in}
use Rattle.path_bound.specs.Steps.{steps_at}
use Rattle.path_bound.specs.Turning.{ArePassed}
use Rattle.path_bound.proofs.Best.{greater_either}
use Rattle.path_bound.proofs.Ordered.{rank_at, rank_within, rank_taken}

some_eq : {A : Type 0} {x y : A} → Some x ≡ Some y → x ≡ y
some_eq e = cc

-- a label that leads on is asked for by a step to a node with a label
asked_next : (cut : ℕ → ℕ) (head : Option ℕ) (laps : ℕ → ℕ) (test : ℕ → Bool) (label : ℕ → Option Label) (step : Step) (one : Label) (m : ℕ)
    → asked cut head laps (only test label) step ≡ Some one → one.next ≡ Some m
    → test m ≡ true
asked_next cut head laps test label step one m e f = given (is_end head step.to) (test step.to) (label step.to) e refl
  where
    given : (b c : Bool) (o : Option Label)
        → cond b (Some (record { cost = step.cost; next = None })) (behind cut laps step (cond c o None)) ≡ Some one → test step.to ≡ c
        → test m ≡ true
    given true c o g t = let n : None ≡ one.next = ap (λ (x : Label). x.next) (some_eq g) in let h : None ≡ Some m = n ∙ f in cc
    given false true None g t = cc
    given false true (Some two) g t =
        let n : Some step.to ≡ one.next = ap (λ (x : Label). x.next) (some_eq g) in
        let q : step.to ≡ m = some_eq (n ∙ f) in ap test (sym q) ∙ t
    given false false o g t = cc

best_next : (cut : ℕ → ℕ) (head : Option ℕ) (laps : ℕ → ℕ) (test : ℕ → Bool) (label : ℕ → Option Label) (steps : List Step) (start : Option Label)
    (one : Label) (m : ℕ)
    → ((old : Label) → start ≡ Some old → old.next ≡ Some m → test m ≡ true) → best_of cut head laps (only test label) start steps ≡ Some one
    → one.next ≡ Some m → test m ≡ true
best_next cut head laps test label [] start one m old e f = old one e f
best_next cut head laps test label (s ∷ steps) start one m old e f =
    best_next cut head laps test label steps (greater start (asked cut head laps (only test label) s)) one m
    (λ x g h. elim (greater_either start (asked cut head laps (only test label) s) x g) [
      | inl a ↦ old x a h
      | inr a ↦ asked_next cut head laps test label s x m a h
    ]) e f

start_next : (head : Option ℕ) (cost : ℕ) (old : Label) (m : ℕ) → start_at head cost ≡ Some old → old.next ≡ Some m → ⊥
start_next None cost old m e f = let n : None ≡ old.next = ap (λ (x : Label). x.next) (some_eq e) in let h : None ≡ Some m = n ∙ f in cc
start_next (Some head) cost old m e f = cc

next_some : (o : Option Label) (m : ℕ) → next_of o ≡ Some m → (one : Label) × (o ≡ Some one) × (one.next ≡ Some m)
next_some None m e = cc
next_some (Some one) m e = (one, refl, e)

all_taken : (xs : List ℕ) (k m : ℕ) → k ≤ length xs → has (take k xs) m ≡ true → has xs m ≡ true
all_taken [] zero m l t = cc
all_taken [] (suc k) m l t = cc
all_taken (x ∷ xs) zero m l t = cc
all_taken (x ∷ xs) (suc k) m l t = elim (tells (m == x)) [
  | inl h ↦ ap (λ (b : Bool). b || has xs m) h
  | inr h ↦ ap (λ (b : Bool). b || has xs m) h ∙ all_taken xs k m (omega (arith, l)) (sym (ap (λ (b : Bool). b || has (take k xs) m) h) ∙ t)
]

module _ (order : List ℕ) (head : Option ℕ) (node : List ℕ) (steps : List (Vec Step Global)) (laps : List ℕ) (labels : List (Option Label))
    (passed : ArePassed order head node steps laps labels) where
  taken_next : (n m : ℕ) → has order n ≡ true → next_of (label_at labels n) ≡ Some m → has (take (rank_in order n) order) m ≡ true
  taken_next n m h e =
      let at : get_or order (rank_in order n) 0 ≡ n = rank_at order n h in
      let s : (one : Label) × (label_at labels n ≡ Some one) × (one.next ≡ Some m) = next_some (label_at labels n) m e in
      best_next cap head (λ k. get_or laps k 0) (has (take (rank_in order n) order)) (label_at labels) (steps_at steps (get_or order (rank_in order n) 0))
      (start_at head (cap (get_or node (get_or order (rank_in order n) 0) 0))) s.0 m
      (λ old g f. absurd (start_next head (cap (get_or node (get_or order (rank_in order n) 0) 0)) old m g f))
      (sym (passed.labelled (rank_in order n) (rank_within order n h)) ∙ (ap (label_at labels) at ∙ s.1)) s.2

  there : (n m : ℕ) → next_of (label_at labels n) ≡ Some m → has order n ≡ true
  there n m e = elim (tells (has order n)) [
    | inl t ↦ t
    | inr t ↦ let f : None ≡ Some m = sym (ap next_of (passed.others n t)) ∙ e in cc
  ]

  -- ranks fall along the labels, which lead to nodes of the order
  pub next_falls : (n m : ℕ) → next_of (label_at labels n) ≡ Some m → rank_in order m < rank_in order n
  next_falls n m e = rank_taken order (rank_in order n) m (taken_next n m (there n m e) e)

  -- the node that a label leads to is placed
  pub next_there : (n m : ℕ) → next_of (label_at labels n) ≡ Some m → has order m ≡ true
  next_there n m e = all_taken order (rank_in order n) m
      (let r : rank_in order n < length order = rank_within order n (there n m e) in omega (arith, r)) (taken_next n m (there n m e) e)
