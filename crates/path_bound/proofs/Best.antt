-- The greatest of what the steps from a node ask: at least each, one of them, and the same where all ask the same.
use Rattle.std.proofs.Common.{◌≡◌, ◌==◌, ◌||◌, ◌⊎◌, ℕ, ◌<◌, ◌≤◌, inl, inr, Bool, true, false, Option, Some, None, List, [], ◌∷◌, cond, refl, sym, ap}
use Rattle.std.proofs.Common.{◌∙◌, arith, ltb}
use Rattle.std.proofs.lemmas.Bool.{eq-eqb, ltb-true, ltb-false}
use Rattle.std.proofs.lemmas.Bool.Decides.{eqb_tells}
use Rattle.bt_base.specs.Graph.{has}
use Rattle.path_bound.specs.declared.choosing.Label.{Label}
use Rattle.path_bound.specs.Steps.{step_to, moves}
use Rattle.path_bound.specs.Choosing.{asked, greater, best_of}

-- a label that is there and costs at least so much
pub record IsLabel (label : Option Label) (cost : ℕ) : Type 0 where
  pub one : Label
  pub is : label ≡ Some one
  pub least : cost ≤ one.cost

-- a node of a list asks for a label
pub record IsAsked (cut : ℕ → ℕ) (head : Option ℕ) (laps : ℕ → ℕ) (label : ℕ → Option Label) (cost : ℕ → ℕ) (nodes : List ℕ) (one : Label) : Type 0 where
  pub node : ℕ
  pub there : has nodes node ≡ true
  pub asks : asked cut head laps label (step_to cost node) ≡ Some one

-- what is there is one
pub some_is : {A : Type 0} {x y : A} → Some x ≡ Some y → x ≡ y
some_is e = cc

-- a list has its first
pub has_first : (m : ℕ) (nodes : List ℕ) → has (m ∷ nodes) m ≡ true
has_first m nodes = ap (λ (b : Bool). b || has nodes m) (eq-eqb m m refl)

-- one of two tests holds where the second does
pub or_right : (a b : Bool) → b ≡ true → (a || b) ≡ true
or_right true b h = refl
or_right false b h = h

pub has_cases : (m k : ℕ) (nodes : List ℕ) → has (m ∷ nodes) k ≡ true → (k ≡ m) ⊎ (has nodes k ≡ true)
has_cases m k nodes h = elim (eqb_tells k m) [
  | inl a ↦ inl a.1
  | inr a ↦ inr (sym (ap (λ (b : Bool). b || has nodes k) a.0) ∙ h)
]

-- of two labels the greater is kept
kept_old : (b : Bool) (old new : Label) → ltb old.cost new.cost ≡ b → IsLabel (cond b (Some new) (Some old)) old.cost
kept_old true old new e = record { one = new; is = refl; least = let l : old.cost < new.cost = ltb-true old.cost new.cost e in omega (arith, l) }
kept_old false old new e = record { one = old; is = refl; least = omega arith }

kept_new : (b : Bool) (old new : Label) → ltb old.cost new.cost ≡ b → IsLabel (cond b (Some new) (Some old)) new.cost
kept_new true old new e = record { one = new; is = refl; least = omega arith }
kept_new false old new e = record { one = old; is = refl; least = let l : new.cost ≤ old.cost = ltb-false old.cost new.cost e in omega (arith, l) }

pub greater_old : (old : Label) (new : Option Label) → IsLabel (greater (Some old) new) old.cost
greater_old old None = record { one = old; is = refl; least = omega arith }
greater_old old (Some new) = kept_old (ltb old.cost new.cost) old new refl

pub greater_new : (old : Option Label) (new : Label) → IsLabel (greater old (Some new)) new.cost
greater_new None new = record { one = new; is = refl; least = omega arith }
greater_new (Some old) new = kept_new (ltb old.cost new.cost) old new refl

kept_either : (b : Bool) (old new one : Label) → cond b (Some new) (Some old) ≡ Some one → (Some old ≡ Some one) ⊎ (Some new ≡ Some one)
kept_either true old new one e = inr e
kept_either false old new one e = inl e

-- the greater of two labels is one of them
pub greater_either : (old new : Option Label) (one : Label) → greater old new ≡ Some one → (old ≡ Some one) ⊎ (new ≡ Some one)
greater_either None new one e = inr e
greater_either (Some old) None one e = inl e
greater_either (Some old) (Some new) one e = kept_either (ltb old.cost new.cost) old new one e

more : (label : Option Label) (a b : ℕ) → a ≤ b → IsLabel label b → IsLabel label a
more label a b h l = record { one = l.one; is = l.is; least = omega (arith, h, l.least) }

module _ (cut : ℕ → ℕ) (head : Option ℕ) (laps : ℕ → ℕ) (label : ℕ → Option Label) (cost : ℕ → ℕ) where
  -- the best is at least what there was
  pub best_start : (nodes : List ℕ) (start : Option Label) (c : ℕ) → IsLabel start c → IsLabel (best_of cut head laps label start (moves cost nodes)) c
  best_start [] start c l = l
  best_start (m ∷ nodes) start c l =
      best_start nodes (greater start (asked cut head laps label (step_to cost m))) c
      (let g : IsLabel (greater (Some l.one) (asked cut head laps label (step_to cost m))) l.one.cost =
      greater_old l.one (asked cut head laps label (step_to cost m)) in
      let h : IsLabel (greater start (asked cut head laps label (step_to cost m))) l.one.cost =
      record {
        one = g.one;
        is = ap (λ (o : Option Label). greater o (asked cut head laps label (step_to cost m))) l.is ∙ g.is;
        least = g.least;
      } in
      more (greater start (asked cut head laps label (step_to cost m))) c l.one.cost l.least h)

  -- and what each node asks
  pub best_least : (nodes : List ℕ) (start : Option Label) (m : ℕ) (one : Label) → has nodes m ≡ true → asked cut head laps label (step_to cost m) ≡ Some one
      → IsLabel (best_of cut head laps label start (moves cost nodes)) one.cost
  best_least [] start m one h e = cc
  best_least (k ∷ nodes) start m one h e = elim (has_cases k m nodes h) [
    | inl s ↦
        let here : asked cut head laps label (step_to cost k) ≡ Some one = ap (λ (x : ℕ). asked cut head laps label (step_to cost x)) (sym s) ∙ e in
        let g : IsLabel (greater start (Some one)) one.cost = greater_new start one in
        best_start nodes (greater start (asked cut head laps label (step_to cost k))) one.cost
        (record { one = g.one; is = ap (greater start) here ∙ g.is; least = g.least })
    | inr s ↦ best_least nodes (greater start (asked cut head laps label (step_to cost k))) m one s e
  ]

  -- and one of these
  pub best_chosen : (nodes : List ℕ) (start : Option Label) (one : Label) → best_of cut head laps label start (moves cost nodes) ≡ Some one
      → (start ≡ Some one) ⊎ IsAsked cut head laps label cost nodes one
  best_chosen [] start one e = inl e
  best_chosen (m ∷ nodes) start one e = elim (best_chosen nodes (greater start (asked cut head laps label (step_to cost m))) one e) [
    | inl a ↦ elim (greater_either start (asked cut head laps label (step_to cost m)) one a) [
      | inl b ↦ inl b
      | inr b ↦ inr (record { node = m; there = has_first m nodes; asks = b })
    ]
    | inr a ↦ inr (record { node = a.node; there = or_right (a.node == m) (has nodes a.node) a.there; asks = a.asks })
  ]

-- where all nodes ask the same the best is the same
pub best_same : (cut : ℕ → ℕ) (head : Option ℕ) (laps others : ℕ → ℕ) (label other : ℕ → Option Label) (cost : ℕ → ℕ) (nodes : List ℕ) (start : Option Label)
    → ((m : ℕ) → has nodes m ≡ true → asked cut head laps label (step_to cost m) ≡ asked cut head others other (step_to cost m))
    → best_of cut head laps label start (moves cost nodes) ≡ best_of cut head others other start (moves cost nodes)
best_same cut head laps others label other cost [] start same = refl
best_same cut head laps others label other cost (m ∷ nodes) start same =
    ap (λ (o : Option Label). best_of cut head laps label (greater start o) (moves cost nodes)) (same m (has_first m nodes))
    ∙ best_same cut head laps others label other cost nodes (greater start (asked cut head others other (step_to cost m)))
    (λ k h. same k (or_right (k == m) (has nodes k) h))
