-- Labels are given to one node after the other, and labels lead along a walk.
use Rattle.std.proofs.Common.{◌≡◌, ◌≢◌, ◌==◌, ◌||◌, ℕ, zero, suc, ◌+◌, ◌<◌, ◌≤◌, inl, inr, Bool, true, false, Option, Some, None, List, [], ◌∷◌, ◌++◌}
use Rattle.std.proofs.Common.{length, take, drop, set, get_or, cond, refl, sym, ap, subst, ◌∙◌, arith, Vec, Global}
use mathlib.Core.Path.{fun_ext}
use Rattle.std.proofs.lemmas.Bool.{eq-eqb, cases_lt}
use Rattle.std.proofs.lemmas.Bool.Decides.{eqb_tells}
use Rattle.std.proofs.lemmas.List.{drop_more, get_or-set_same, get_or-set_other, length-set}
use Rattle.std.proofs.lemmas.Option.{slice_get-get_or}
use Rattle.bt_base.specs.Graph.{has}
use Rattle.graph_laws.specs.Walk.{end_of}
use Rattle.graph_laws.proofs.Stretches.{tells}
use Rattle.graph_laws.proofs.Nests.{neither}
use Rattle.loop_nest.proofs.Lists.{has_take_more, has_take_all}
use Rattle.path_bound.specs.declared.choosing.Label.{Label}
use Rattle.path_bound.specs.declared.stepping.Step.{Step}
use Rattle.path_bound.specs.Capped.{cap}
use Rattle.path_bound.specs.Choosing.{label_at, asked, greater, best_of, start_at, only, next_of}
use Rattle.path_bound.specs.Steps.{items_of, steps_at}
use Rattle.path_bound.specs.Turning.{NoLabels, ArePassed, Leads, IsFollowed}

-- one step more is looked at
pub best_more : (cut : ℕ → ℕ) (head : Option ℕ) (laps : ℕ → ℕ) (label : ℕ → Option Label) (old new : Option Label) (steps : List Step) (i : ℕ)
    (d : Step) → i < length steps
    → new ≡ greater old (asked cut head laps label (get_or steps i d))
    → best_of cut head laps label new (drop (i + 1) steps) ≡ best_of cut head laps label old (drop i steps)
best_more cut head laps label old new steps i d l e =
    ap (λ (o : Option Label). best_of cut head laps label o (drop (i + 1) steps)) e
    ∙ sym (ap (λ (s : List Step). best_of cut head laps label old s) (drop_more steps i d l))

-- a label that is written
pub label_here : (labels : List (Option Label)) (x : ℕ) (o : Option Label) → x < length labels → label_at (set labels x o) x ≡ o
label_here labels x o l = get_or-set_same labels x o None l

pub label_other : (labels : List (Option Label)) (x n : ℕ) (o : Option Label) → n ≢ x → label_at (set labels x o) n ≡ label_at labels n
label_other labels x n o ne = get_or-set_other labels x n o None ne

-- the first nodes of an order have their labels
pub record ArePassedUpTo (order : List ℕ) (head : Option ℕ) (node : List ℕ) (steps : List (Vec Step Global)) (laps : List ℕ) (count : ℕ)
    (labels : List (Option Label)) : Type 0 where
  pub size : length labels ≡ length node
  pub labelled : (k : ℕ) → k < count
      → label_at labels (get_or order k 0)
      ≡ best_of cap head (λ m. get_or laps m 0) (only (has (take k order)) (label_at labels))
      (start_at head (cap (get_or node (get_or order k 0) 0))) (steps_at steps (get_or order k 0))
  pub others : (n : ℕ) → has (take count order) n ≡ false → label_at labels n ≡ None

pub has_in_take : (xs : List ℕ) (i k : ℕ) → k < i → i ≤ length xs → has (take i xs) (get_or xs k 0) ≡ true
has_in_take xs zero k l h = absurd (omega (arith, l))
has_in_take xs (suc i) k l h = elim (cases_lt k i) [
  | inl a ↦
      has_later (has_in_take xs i k a (omega (arith, h)))
  | inr a ↦ let e : k ≡ i = omega (arith, l, a) in
      subst (λ (j : ℕ). has (take j xs) (get_or xs k 0) ≡ true) (sym (one_more i))
      (has_take_more xs i (get_or xs k 0) (omega (arith, h))
      ∙ or_true (has (take i xs) (get_or xs k 0)) (get_or xs k 0 == get_or xs i 0)
      (eq-eqb (get_or xs k 0) (get_or xs i 0) (ap (λ (j : ℕ). get_or xs j 0) e)))
]
  where
    one_more : (i : ℕ) → suc i ≡ i + 1
    one_more i = omega arith

    or_true : (a b : Bool) → b ≡ true → (a || b) ≡ true
    or_true true b h = refl
    or_true false b h = h

    has_later : has (take i xs) (get_or xs k 0) ≡ true → has (take (suc i) xs) (get_or xs k 0) ≡ true
    has_later p = subst (λ (j : ℕ). has (take j xs) (get_or xs k 0) ≡ true) (sym (one_more i))
        (has_take_more xs i (get_or xs k 0) (omega (arith, h)) ∙ ap (λ (b : Bool). b || (get_or xs k 0 == get_or xs i 0)) p)

-- what is in a beginning is in a longer one
pub take_on : (xs : List ℕ) (k i n : ℕ) → k ≤ i → has (take k xs) n ≡ true → has (take i xs) n ≡ true
take_on [] zero i n l h = cc
take_on [] (suc k) i n l h = cc
take_on (x ∷ xs) zero i n l h = cc
take_on (x ∷ xs) (suc k) zero n l h = absurd (omega (arith, l))
take_on (x ∷ xs) (suc k) (suc i) n l h = elim (tells (n == x)) [
  | inl t ↦ ap (λ (b : Bool). b || has (take i xs) n) t
  | inr t ↦ right (n == x) (has (take i xs) n) (take_on xs k i n (omega (arith, l)) (sym (ap (λ (b : Bool). b || has (take k xs) n) t) ∙ h))
]
  where
    right : (a b : Bool) → b ≡ true → (a || b) ≡ true
    right true b h = refl
    right false b h = h

-- no node is passed yet
pub passed_begun : (order : List ℕ) (head : Option ℕ) (node : List ℕ) (steps : List (Vec Step Global)) (laps : List ℕ) (labels : List (Option Label))
    → length labels ≡ length node → NoLabels labels
    → ArePassedUpTo order head node steps laps 0 labels
passed_begun order head node steps laps labels size none = record { size = size; labelled = λ k l. absurd (omega (arith, l)); others = λ n h. none n }

module _ (order : List ℕ) (head : Option ℕ) (node : List ℕ) (steps : List (Vec Step Global)) (laps : List ℕ) (i : ℕ) (labels : List (Option Label))
    (o : Option Label)
    (l : i < length order) (once : has (take i order) (get_or order i 0) ≡ false) (within : get_or order i 0 < length labels)
    (is : o ≡ best_of cap head (λ m. get_or laps m 0) (label_at labels) (start_at head (cap (get_or node (get_or order i 0) 0)))
    (steps_at steps (get_or order i 0)))
    (was : ArePassedUpTo order head node steps laps i labels) where
  earlier : (k m : ℕ) → k ≤ i → has (take k order) m ≡ true → m ≢ get_or order i 0
  earlier k m h t e = let f : has (take i order) (get_or order i 0) ≡ true = ap (has (take i order)) (sym e) ∙ take_on order k i m h t in cc

  kept : (m : ℕ) → m ≢ get_or order i 0 → label_at (set labels (get_or order i 0) o) m ≡ label_at labels m
  kept m ne = label_other labels (get_or order i 0) m o ne

  same_only : (k : ℕ) → k ≤ i → (m : ℕ)
      → only (has (take k order)) (label_at (set labels (get_or order i 0) o)) m ≡ only (has (take k order)) (label_at labels) m
  same_only k h m = elim (tells (has (take k order) m)) [
    | inl t ↦ ap (λ (x : Option Label). cond (has (take k order) m) x None) (kept m (earlier k m h t))
    | inr t ↦ ap (λ (b : Bool). cond b (label_at (set labels (get_or order i 0) o) m) None) t ∙ sym (ap (λ (b : Bool). cond b (label_at labels m) None) t)
  ]

  only_these : (m : ℕ) → label_at labels m ≡ only (has (take i order)) (label_at (set labels (get_or order i 0) o)) m
  only_these m = elim (tells (has (take i order) m)) [
    | inl t ↦ sym (kept m (earlier i m (omega arith) t)) ∙ sym (ap (λ (b : Bool). cond b (label_at (set labels (get_or order i 0) o) m) None) t)
    | inr t ↦ was.others m t ∙ sym (ap (λ (b : Bool). cond b (label_at (set labels (get_or order i 0) o) m) None) t)
  ]

  -- one node more is passed
  pub passed_on : ArePassedUpTo order head node steps laps (i + 1) (set labels (get_or order i 0) o)
  passed_on = record {
    size = length-set labels (get_or order i 0) o ∙ was.size;
    labelled = λ k h. elim (cases_lt k i) [
      | inl a ↦
          kept (get_or order k 0) (earlier i (get_or order k 0) (omega arith) (has_in_take order i k a (omega (arith, l))))
          ∙ (was.labelled k a
          ∙ ap (λ (f : ℕ → Option Label). best_of cap head (λ m. get_or laps m 0) f (start_at head (cap (get_or node (get_or order k 0) 0)))
          (steps_at steps (get_or order k 0)))
          (fun_ext (λ m. sym (same_only k (omega (arith, a)) m))))
      | inr a ↦
          let e : i ≡ k = omega (arith, h, a) in
          subst (λ (j : ℕ). label_at (set labels (get_or order i 0) o) (get_or order j 0)
          ≡ best_of cap head (λ m. get_or laps m 0) (only (has (take j order)) (label_at (set labels (get_or order i 0) o)))
          (start_at head (cap (get_or node (get_or order j 0) 0))) (steps_at steps (get_or order j 0))) e
          (label_here labels (get_or order i 0) o within
          ∙ (is ∙ ap (λ (f : ℕ → Option Label). best_of cap head (λ m. get_or laps m 0) f (start_at head (cap (get_or node (get_or order i 0) 0)))
          (steps_at steps (get_or order i 0))) (fun_ext only_these)))
    ];
    others = λ n h.
        let e : has (take (i + 1) order) n ≡ (has (take i order) n || (n == get_or order i 0)) = has_take_more order i n l in
        let b : (has (take i order) n ≡ false) × ((n == get_or order i 0) ≡ false) = neither (has (take i order) n) (n == get_or order i 0) (sym e ∙ h) in
        kept n (apart n (get_or order i 0) b.1) ∙ was.others n b.0;
  }
    where
      apart : (a b : ℕ) → (a == b) ≡ false → a ≢ b
      apart a b f e = let t : (a == b) ≡ true = eq-eqb a b e in cc

-- all nodes of an order have their labels
pub passed_done : (order : List ℕ) (head : Option ℕ) (node : List ℕ) (steps : List (Vec Step Global)) (laps : List ℕ) (count : ℕ)
    (labels : List (Option Label)) → count ≡ length order
    → ArePassedUpTo order head node steps laps count labels → ArePassed order head node steps laps labels
passed_done order head node steps laps count labels e was = record {
  labelled = λ k l. was.labelled k (omega (arith, l, e));
  others = λ n h. was.others n (has_take_all order count n (omega (arith, e)) ∙ h);
}

-- labels lead on by one node
pub leads_on : (labels : List (Option Label)) (n m : ℕ) (rest : List ℕ) → Leads labels n rest → next_of (label_at labels (end_of n rest)) ≡ Some m
    → Leads labels n (rest ++ m ∷ [])
leads_on labels n m [] a e = (e, tt)
leads_on labels n m (k ∷ rest) a e = (a.0, leads_on labels k m rest a.1 e)

pub end_on : (n m : ℕ) (rest : List ℕ) → end_of n (rest ++ m ∷ []) ≡ m
end_on n m [] = refl
end_on n m (k ∷ rest) = end_on k m rest

-- a walk to which labels lead, up to a node
pub record IsOnWay (labels : List (Option Label)) (from : ℕ) (walk : List ℕ) (node : ℕ) : Type 0 where
  pub rest : List ℕ
  pub begins : walk ≡ from ∷ rest
  pub leads : Leads labels from rest
  pub ends : end_of from rest ≡ node

-- a way begins at its node
pub way_begun : (labels : List (Option Label)) (from : ℕ) (walk : List ℕ) → walk ≡ from ∷ [] → IsOnWay labels from walk from
way_begun labels from walk e = record { rest = []; begins = e; leads = tt; ends = refl }

-- a way goes on by one label more
pub way_on : (labels : List (Option Label)) (from node next : ℕ) (walk : List ℕ) → IsOnWay labels from walk node
    → next_of (label_at labels node) ≡ Some next → IsOnWay labels from (walk ++ next ∷ []) next
way_on labels from node next walk w e = record {
  rest = w.rest ++ next ∷ [];
  begins = ap (λ (x : List ℕ). x ++ next ∷ []) w.begins;
  leads = leads_on labels from next w.rest w.leads (ap (λ (x : ℕ). next_of (label_at labels x)) w.ends ∙ e);
  ends = end_on from next w.rest;
}

-- a way along labels ends where they lead no further
pub way_done : (labels : List (Option Label)) (from node : ℕ) (walk : List ℕ) → IsOnWay labels from walk node → next_of (label_at labels node) ≡ None
    → IsFollowed labels from walk
way_done labels from node walk w e = record { rest = w.rest; begins = w.begins; leads = w.leads; ends = ap (λ (x : ℕ). next_of (label_at labels x)) w.ends ∙ e }

-- a label is taken away
pub cleared_on : (nodes : List ℕ) (i : ℕ) (first labels : List (Option Label)) → i < length nodes → get_or nodes i 0 < length labels
    → length labels ≡ length first
    → ((n : ℕ) → label_at labels n ≡ cond (has (take i nodes) n) None (label_at first n))
    → record {
      size : length (set labels (get_or nodes i 0) None) ≡ length first;
      labels : (n : ℕ) → label_at (set labels (get_or nodes i 0) None) n ≡ cond (has (take (i + 1) nodes) n) None (label_at first n);
    }
cleared_on nodes i first labels l w size was = record {
  size = length-set labels (get_or nodes i 0) None ∙ size;
  labels = λ n.
      let e : has (take (i + 1) nodes) n ≡ (has (take i nodes) n || (n == get_or nodes i 0)) = has_take_more nodes i n l in
      elim (eqb_tells n (get_or nodes i 0)) [
        | inl a ↦
            ap (λ (x : ℕ). label_at (set labels (get_or nodes i 0) None) x) a.1
            ∙ (label_here labels (get_or nodes i 0) None w
            ∙ sym (ap (λ (b : Bool). cond b None (label_at first n)) (e ∙ (ap (λ (b : Bool). has (take i nodes) n || b) a.0 ∙ or_all (has (take i nodes) n)))))
        | inr a ↦
            label_other labels (get_or nodes i 0) n None a.1
            ∙ (was n ∙ sym (ap (λ (b : Bool). cond b None (label_at first n))
            (e ∙ (ap (λ (b : Bool). has (take i nodes) n || b) a.0 ∙ or_none (has (take i nodes) n)))))
      ];
}
  where
    or_all : (a : Bool) → (a || true) ≡ true
    or_all true = refl
    or_all false = refl

    or_none : (a : Bool) → (a || false) ≡ a
    or_none true = refl
    or_none false = refl

-- the steps of a row that is read
pub steps_read : (rows : List (Vec Step Global)) (n : ℕ) (row : Vec Step Global) → n < length rows → row ≡ get_or rows n row → row.items ≡ steps_at rows n
steps_read rows n row l e = ap (λ (r : Vec Step Global). r.items) e ∙ sym (ap items_of (slice_get-get_or rows n row l))
