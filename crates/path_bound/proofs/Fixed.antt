-- Functions that are defined in steps are fixed, where each step looks only at nodes of smaller rank.
use Rattle.std.proofs.Common.{◌≡◌, ◌*◌, ◌-◌, ℕ, zero, suc, ◌<◌, inl, inr, Bool, true, false, not, Option, Some, None, cond, refl, sym, ap, ◌∙◌, arith}
use Rattle.std.proofs.lemmas.Bool.{eq-eqb}
use Rattle.bt_base.specs.Graph.{is_edge}
use Rattle.graph_laws.proofs.Stretches.{tells, both}
use Rattle.graph_laws.specs.Loops.{is_back}
use Rattle.graph_laws.proofs.Nests.{not_false}
use Rattle.path_bound.specs.declared.choosing.Label.{Label}
use Rattle.path_bound.specs.Capped.{exact}
use Rattle.path_bound.specs.Steps.{step_to}
use Rattle.path_bound.specs.Choosing.{is_end, behind, asked, start_at, only, cost_of}
use Rattle.path_bound.specs.Exact.{iterate, Task, row_of, move_of, goes, label_next, labels_by, laps_next, laps_of}
use Rattle.path_bound.proofs.Best.{best_same}

-- enough steps are as good as more
pub stable : {A : Type 0} (next : (ℕ → A) → ℕ → A) (bottom : A) (rank : ℕ → ℕ)
    → ((f g : ℕ → A) (n : ℕ) → ((m : ℕ) → rank m < rank n → f m ≡ g m) → next f n ≡ next g n)
    → (k l n : ℕ) → rank n < k → rank n < l → iterate next bottom k n ≡ iterate next bottom l n
stable next bottom rank respects zero l n a b = absurd (omega (arith, a))
stable next bottom rank respects (suc k) zero n a b = absurd (omega (arith, b))
stable next bottom rank respects (suc k) (suc l) n a b =
    respects (λ m. iterate next bottom k m) (λ m. iterate next bottom l m) n
    (λ m h. stable next bottom rank respects k l m (omega (arith, a, h)) (omega (arith, b, h)))

-- an edge along which a walk goes on isn't one back
pub goes_forward : (t : Task) (inside : ℕ → Bool) (n m : ℕ) → goes t inside n m ≡ true → is_back t.loops n m ≡ false
goes_forward t inside n m h = not_false (is_back t.loops n m) (both (inside m) (not (is_back t.loops n m)) h).1

-- a walk that goes on stays inside
pub goes_inside : (t : Task) (inside : ℕ → Bool) (n m : ℕ) → goes t inside n m ≡ true → inside m ≡ true
goes_inside t inside n m h = (both (inside m) (not (is_back t.loops n m)) h).0

-- what a step asks is the same, where the labels and the laps on which it rests are
pub asked_same : (cut : ℕ → ℕ) (head : Option ℕ) (laps others : ℕ → ℕ) (label other : ℕ → Option Label) (test : ℕ → Bool) (cost : ℕ → ℕ) (m : ℕ)
    → (test m ≡ true → is_end head m ≡ false → label m ≡ other m) → (test m ≡ true → is_end head m ≡ false → laps m ≡ others m)
    → asked cut head laps (only test label) (step_to cost m) ≡ asked cut head others (only test other) (step_to cost m)
asked_same cut head laps others label other test cost m labels costs = elim (tells (is_end head m)) [
  | inl e ↦ ended e
  | inr e ↦ elim (tells (test m)) [
    | inl t ↦
        let a : cond (test m) (label m) None ≡ cond (test m) (other m) None = ap (λ (o : Option Label). cond (test m) o None) (labels t e) in
        let b : laps m ≡ others m = costs t e in
        ap (λ (o : Option Label). cond (is_end head m) (Some (record { cost = cost m; next = None })) (behind cut laps (step_to cost m) o)) a
        ∙ ap (λ (l : ℕ). cond (is_end head m) (Some (record { cost = cost m; next = None }))
        (behind cut (λ _. l) (step_to cost m) (cond (test m) (other m) None))) b
    | inr t ↦
        ap (λ (x : Bool). cond (is_end head m) (Some (record { cost = cost m; next = None })) (behind cut laps (step_to cost m) (cond x (label m) None))) t
        ∙ sym (ap (λ (x : Bool). cond (is_end head m) (Some (record { cost = cost m; next = None }))
        (behind cut others (step_to cost m) (cond x (other m) None))) t)
  ]
]
  where
    ended : is_end head m ≡ true → asked cut head laps (only test label) (step_to cost m) ≡ asked cut head others (only test other) (step_to cost m)
    ended e =
        ap (λ (x : Bool). cond x (Some (record { cost = cost m; next = None })) (behind cut laps (step_to cost m) (only test label m))) e
        ∙ sym (ap (λ (x : Bool). cond x (Some (record { cost = cost m; next = None })) (behind cut others (step_to cost m) (only test other m))) e)

module _ (t : Task) (rank : ℕ → ℕ) (size : ℕ) (small : (n : ℕ) → rank n < size)
    (falls : (n m : ℕ) → is_edge t.graph n m ≡ true → is_back t.loops n m ≡ false → rank m < rank n) where
  -- a true label is what its node asks of the others
  pub label_fixed : (inside : ℕ → Bool) (head : Option ℕ) (laps : ℕ → ℕ) (n : ℕ)
      → labels_by t inside head laps size n ≡ label_next t inside head laps (labels_by t inside head laps size) n
  label_fixed inside head laps n = stable (label_next t inside head laps) None rank
      (λ f g k same. best_same exact head laps laps (only (goes t inside k) f) (only (goes t inside k) g) (move_of t k) (row_of t k)
      (start_at head (t.costs.node k))
      (λ m e. asked_same exact head laps laps f g (goes t inside k) (move_of t k) m
      (λ h u. same m (falls k m e (goes_forward t inside k m h))) (λ h u. refl)))
      size (suc size) n (small n) (let s : rank n < size = small n in omega (arith, s))

  -- the labels rest on the laps of the heads inside alone
  pub labels_same : (inside : ℕ → Bool) (head : Option ℕ) (laps others : ℕ → ℕ) → ((m : ℕ) → inside m ≡ true → is_end head m ≡ false → laps m ≡ others m)
      → (k n : ℕ) → labels_by t inside head laps k n ≡ labels_by t inside head others k n
  labels_same inside head laps others same zero n = refl
  labels_same inside head laps others same (suc k) n =
      best_same exact head laps others (only (goes t inside n) (labels_by t inside head laps k)) (only (goes t inside n) (labels_by t inside head others k))
      (move_of t n) (row_of t n) (start_at head (t.costs.node n))
      (λ m e. asked_same exact head laps others (labels_by t inside head laps k) (labels_by t inside head others k) (goes t inside n) (move_of t n) m
      (λ h u. labels_same inside head laps others same k m) (λ h u. same m (goes_inside t inside n m h) u))

  module _ (inner : (h m : ℕ) → t.loops.has h ≡ true → t.loops.body h m ≡ true → (h ≡ m → ⊥) → rank m < rank h) where
    no_head : (f : ℕ → ℕ) (n : ℕ) → t.loops.has n ≡ false → laps_next t size f n ≡ 0
    no_head f n o = ap (λ (b : Bool). cond b ((t.bound n - 1) * cost_of (labels_by t (t.loops.body n) (Some n) f size n)) 0) o

    respects_laps : (f g : ℕ → ℕ) (n : ℕ) → ((m : ℕ) → rank m < rank n → f m ≡ g m) → laps_next t size f n ≡ laps_next t size g n
    respects_laps f g n same = elim (tells (t.loops.has n)) [
      | inl h ↦
          ap (λ (o : Option Label). cond (t.loops.has n) ((t.bound n - 1) * cost_of o) 0)
          (labels_same (t.loops.body n) (Some n) f g (λ m b e. same m (inner n m h b (λ s. apart n m s e))) size n)
      | inr h ↦ no_head f n h ∙ sym (no_head g n h)
    ]
      where
        apart : (a b : ℕ) → a ≡ b → is_end (Some a) b ≡ false → ⊥
        apart a b s e = let t : is_end (Some a) b ≡ true = eq-eqb a b s in cc

    -- the true laps are what the next ones are made of
    pub laps_fixed : (n : ℕ) → laps_of t size n ≡ laps_next t size (laps_of t size) n
    laps_fixed n = stable (laps_next t size) 0 rank respects_laps size (suc size) n (small n) (let s : rank n < size = small n in omega (arith, s))
