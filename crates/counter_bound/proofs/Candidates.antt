-- The cells that may count, from what the nodes of a body change.
use Rattle.std.proofs.Common.{◌≡◌, ◌≢◌, ◌==◌, ◌&&◌, ◌||◌, ◌⊎◌, ◌+◌, ◌≤◌, inl, inr, ℕ, zero, suc, ℤ, Bool, true, false, not, cond, Option, Some, None, List, [], ◌∷◌, length, get_or, refl, sym, ap, subst, ◌∙◌, arith}
use Rattle.std.specs.List.{slice_get, list_any}
use Rattle.std.proofs.lemmas.Bool.{cases_lt, eq-eqb}
use Rattle.std.proofs.lemmas.Bool.Decides.{eqb_tells}
use Rattle.bt_base.specs.Graph.{has, is_edge}
use Rattle.call_effects.specs.Mask.{has_cell}
use Rattle.counter_bound.specs.Best.{AreCandidates}
use Rattle.counter_bound.specs.Body.{is_inside, is_inner, is_marked, AreInner, adds_outside, spoils, IsSpoilt, AreTouched}
use Rattle.counter_bound.specs.Change.{touches, adds_to, up_in, down_in, up_of, down_of, changes_of, AreAdded}
use Rattle.counter_bound.specs.Counts.{HasNest, CellCounts}
use Rattle.counter_bound.specs.declared.change.Change.{Change}
use Rattle.counter_bound.specs.declared.change.Change.TheVariants.{Add, Other}
use Rattle.counter_bound.specs.declared.touching.Touched.{Touched}
use Rattle.counter_bound.proofs.Inner.{any_at, find, or_true}
use Rattle.counter_bound.proofs.Bodies.{body_is, head_has, head_in, loops_are, rising}
use Rattle.graph_laws.specs.Walk.{AreInside, total}
use Rattle.graph_laws.proofs.Nests.{two_true}
use Rattle.graph_laws.proofs.Stretches.{tells, both}
use Rattle.loop_nest.specs.declared.natural_loop.Loop.{Loop}
use Rattle.path_bound.specs.Places.{place_of, held, loops_in}
use Rattle.path_bound.specs.Ranked.{rank_in}
use Rattle.path_bound.proofs.Facts.{loop_at}
use Rattle.path_bound.proofs.Ordered.{rank_within, rank_at}
use Rattle.path_bound.proofs.Placed.{IsLoopAt, place_is}
use Rattle.turn_sums.specs.Step.{IsStep}
use Rattle.turn_sums.specs.declared.step.TurnStep.{TurnStep}
use Rattle.turn_sums.specs.declared.step.TurnStep.TheVariants.{Rises, Falls}
use Rattle.turn_sums.proofs.Lists.{has_at}

pub some_same : {A : Type 0} {x y : A} → Some x ≡ Some y → x ≡ y
some_same e = cc

-- some node of a list has a number
record HasSome (body : ℕ → Bool) (number : ℕ → ℕ) : Type 0 where
  pub node : ℕ
  pub inside : body node ≡ true
  pub one : 1 ≤ number node

some_of : (body : ℕ → Bool) (number : ℕ → ℕ) (nodes : List ℕ) → AreInside body nodes → 1 ≤ total number nodes → HasSome body number
some_of body number [] i l = absurd (omega (arith, l))
some_of body number (n ∷ nodes) i l = elim (cases_lt 0 (number n)) [
  | inl a ↦ record { node = n; inside = i.0; one = omega (arith, a) }
  | inr a ↦ some_of body number nodes i.1 (omega (arith, l, a))
]

-- a change that adds a number to a cell, or takes one from it
record IsAdd (o : Option Change) (cell : ℕ) : Type 0 where
  pub to : ℕ
  pub k : ℤ
  pub is : o ≡ Some (Add to k)
  pub same : (cell == to) ≡ true

one_if : (b : Bool) (n : ℕ) → 1 ≤ cond b n 0 → b ≡ true
one_if true n l = refl
one_if false n l = absurd (omega (arith, l))

up_adds : (o : Option Change) (cell : ℕ) → 1 ≤ up_in o cell → IsAdd o cell
up_adds None cell l = absurd (omega (arith, l))
up_adds (Some (Add to k)) cell l = record { to = to; k = k; is = refl; same = one_if (cell == to) (up_of k) l }
up_adds (Some (Other mask)) cell l = absurd (omega (arith, l))

down_adds : (o : Option Change) (cell : ℕ) → 1 ≤ down_in o cell → IsAdd o cell
down_adds None cell l = absurd (omega (arith, l))
down_adds (Some (Add to k)) cell l = record { to = to; k = k; is = refl; same = one_if (cell == to) (down_of k) l }
down_adds (Some (Other mask)) cell l = absurd (omega (arith, l))

-- where there is a step, a node adds to the cell
record HasAdd (body : ℕ → Bool) (changes : List Change) (cell : ℕ) : Type 0 where
  pub node : ℕ
  pub inside : body node ≡ true
  pub add : IsAdd (slice_get changes node) cell

step_adds : (edge : ℕ → ℕ → Bool) (body : ℕ → Bool) (head : ℕ) (changes : List Change) (cell : ℕ) (step : TurnStep) → body head ≡ true
    → IsStep edge body head (changes_of changes cell) step → HasAdd body changes cell
step_adds edge body head changes cell (Rises by) here s =
    let is : total (changes_of changes cell).down (head ∷ s.between) + by ≡ total (changes_of changes cell).up (head ∷ s.between) = s.is in
    let o : 1 ≤ by = s.one in
    let r : HasSome body (changes_of changes cell).up = some_of body (changes_of changes cell).up (head ∷ s.between) (here, s.turn.inside) (omega (arith, is, o)) in
    record { node = r.node; inside = r.inside; add = up_adds (slice_get changes r.node) cell r.one }
step_adds edge body head changes cell (Falls by) here s =
    let is : total (changes_of changes cell).up (head ∷ s.between) + by ≡ total (changes_of changes cell).down (head ∷ s.between) = s.is in
    let o : 1 ≤ by = s.one in
    let r : HasSome body (changes_of changes cell).down = some_of body (changes_of changes cell).down (head ∷ s.between) (here, s.turn.inside) (omega (arith, is, o)) in
    record { node = r.node; inside = r.inside; add = down_adds (slice_get changes r.node) cell r.one }

same_node : (x y : ℕ) → (x == y) ≡ true → x ≡ y
same_node x y t = elim (eqb_tells x y) [ inl a ↦ a.1 | inr a ↦ let f : (x == y) ≡ false = a.0 in cc ]

not_same : (x y : ℕ) → not (x == y) ≡ true → x ≡ y → ⊥
not_same x y t e = let s : (x == y) ≡ true = eq-eqb x y e in let f : not (x == y) ≡ false = ap not s in cc

not_is : (x y : ℕ) → (x ≡ y → ⊥) → not (x == y) ≡ true
not_is x y ne = elim (eqb_tells x y) [ inl a ↦ absurd (ne a.1) | inr a ↦ ap not a.0 ]

spoils_any : (change : Change) (inner : Bool) (cell : ℕ) → spoils change inner cell ≡ false → touches change cell ≡ true → adds_to change cell ≡ true
spoils_any (Add to k) inner cell s t = t
spoils_any (Other mask) inner cell s t = absurd (let f : has_cell mask cell ≡ false = s in let g : has_cell mask cell ≡ true = t in cc)

spoils_inner : (change : Change) (cell : ℕ) → spoils change true cell ≡ false → touches change cell ≡ false
spoils_inner (Add to k) cell s = s
spoils_inner (Other mask) cell s = s

spoilt_is : (change : Change) (inner : Bool) (cell : ℕ) → spoils change inner cell ≡ true
    → (touches change cell ≡ true) × ((inner ≡ true) ⊎ (adds_to change cell ≡ false))
spoilt_is (Add to k) inner cell s = let b = both inner (cell == to) s in (b.1, inl b.0)
spoilt_is (Other mask) inner cell s = (s, inr refl)

add_outside : (to cell : ℕ) (k : ℤ) (inner : Bool) → (cell == to) ≡ true → inner ≡ false → adds_outside (Add to k) inner cell ≡ true
add_outside to cell k inner e f = two_true (not inner) (cell == to) (ap not f) e

module _ (graph : List (List ℕ)) (loops : List Loop) (nest : HasNest graph loops) (number : ℕ) (one : Loop) (at : slice_get loops number ≡ Some one)
    (changes : List Change) (count : length changes ≡ length graph) (added : AreAdded changes) (marks : List Bool)
    (marked : AreInner loops one.head one.body.items marks) (touched : Touched)
    (is : AreTouched one.body.items changes marks (length one.body.items) touched) where
  abbrev body : List ℕ
  body = one.body.items

  here : (n : ℕ) → (loops_in loops).body one.head n ≡ has body n
  here n = body_is graph loops nest number one at n

  abbrev place : ℕ → ℕ
  place n = rank_in body n

  at_place : (n : ℕ) (change : Change) → has body n ≡ true → slice_get changes n ≡ Some change → slice_get changes (get_or body (place n) 0) ≡ Some change
  at_place n change h e = ap (slice_get changes) (rank_at body n h) ∙ e

  -- a node of a body isn't spoilt
  free_at : (cell n : ℕ) (change : Change) → has_cell touched.spoilt cell ≡ false → has body n ≡ true → slice_get changes n ≡ Some change
      → spoils change (is_marked marks (place n)) cell ≡ false
  free_at cell n change f h e = elim (tells (spoils change (is_marked marks (place n)) cell)) [
    | inl t ↦ let s : has_cell touched.spoilt cell ≡ true = is.spoils (place n) cell change (rank_within body n h) (at_place n change h e) t in absurd (let x : true ≡ false = sym s ∙ f in cc)
    | inr t ↦ t
  ]

  mark_at : (n : ℕ) → has body n ≡ true → is_marked marks (place n) ≡ is_inner loops one.head body n
  mark_at n h = marked.marked (place n) (rank_within body n h) ∙ ap (is_inner loops one.head body) (rank_at body n h)

  -- a loop inside marks its nodes
  inner_by : (k n : ℕ) → (loops_in loops).has k ≡ true → (loops_in loops).body one.head k ≡ true → one.head ≢ k → (loops_in loops).body k n ≡ true
      → is_inner loops one.head body n ≡ true
  inner_by k n a b ne c =
      let l : IsLoopAt loops (place_of loops k) k = loop_at graph nest.entry loops nest.nest nest.reached k a in
      let in_body : has l.one.body.items n ≡ true = sym (ap (λ (o : Option Loop). held o n) l.at) ∙ c in
      let test : is_inside one.head body l.one n ≡ true = two_true (not (l.one.head == one.head)) (has body l.one.head && has l.one.body.items n)
      (not_is l.one.head one.head (λ e. ne (sym e ∙ l.head)))
      (two_true (has body l.one.head) (has l.one.body.items n) (ap (has body) l.head ∙ (sym (here k) ∙ b)) in_body) in
      any_at loops (place_of loops k) l.one l.at (λ x. is_inside one.head body x n) test

  -- a marked node is in a loop inside
  record IsIn (n : ℕ) : Type 0 where
    pub head : ℕ
    pub has_it : (loops_in loops).has head ≡ true
    pub within : (loops_in loops).body one.head head ≡ true
    pub other : one.head ≢ head
    pub holds : (loops_in loops).body head n ≡ true

  inner_of : (n : ℕ) → is_inner loops one.head body n ≡ true → IsIn n
  inner_of n t =
      let a = find loops (λ x. is_inside one.head body x n) t in
      let b = both (not (a.two.head == one.head)) (has body a.two.head && has a.two.body.items n) a.test in
      let c = both (has body a.two.head) (has a.two.body.items n) b.1 in
      let p : place_of loops a.two.head ≡ a.place = place_is loops nest.nest.rising a.place a.two a.at in
      record {
        head = a.two.head;
        has_it = sym (nest.nest.heads a.two.head) ∙ (nest.nest.each a.place a.two a.at).head;
        within = here a.two.head ∙ c.0;
        other = λ e. not_same a.two.head one.head b.0 (sym e);
        holds = ap (λ (o : Option Loop). held o n) (ap (slice_get loops) p ∙ a.at) ∙ c.1;
      }

  pub candidates_are : AreCandidates (is_edge graph) (loops_in loops) one.head changes touched
  candidates_are = record {
    added = λ cell f. record {
      adds = λ n change b e t. let h : has body n ≡ true = sym (here n) ∙ b in spoils_any change (is_marked marks (place n)) cell (free_at cell n change f h e) t;
      outside = λ k n change a b ne c e.
          let inside : (loops_in loops).body one.head n ≡ true = (loops_are graph loops nest number one at).within k one.head n a (head_has graph loops nest number one at) b (λ q. ne (sym q)) c in
          let h : has body n ≡ true = sym (here n) ∙ inside in
          let m : is_marked marks (place n) ≡ true = mark_at n h ∙ inner_by k n a b ne c in
          spoils_inner change cell (subst (λ (x : Bool). spoils change x cell ≡ false) m (free_at cell n change f h e));
    };
    adds = λ cell step counts.
        let r : HasAdd ((loops_in loops).body one.head) changes cell = some_add cell step counts in
        let h : has body r.node ≡ true = sym (here r.node) ∙ r.inside in
        is.adds (place r.node) cell (Add r.add.to r.add.k) (rank_within body r.node h) (at_place r.node (Add r.add.to r.add.k) h r.add.is)
        (add_outside r.add.to cell r.add.k (is_marked marks (place r.node)) r.add.same (unmarked cell step counts r h));
    free = λ cell step counts. elim (tells (has_cell touched.spoilt cell)) [
      | inl t ↦ absurd (spoilt_counts cell step counts (is.spoilt cell t))
      | inr t ↦ t
    ];
    cells = λ cell step counts.
        let r : HasAdd ((loops_in loops).body one.head) changes cell = some_add cell step counts in
        let l = added r.node r.add.to r.add.k r.add.is in
        let e : cell ≡ r.add.to = same_node cell r.add.to r.add.same in omega (arith, l.1, e);
  }
    where
      some_add : (cell : ℕ) (step : TurnStep) → CellCounts (is_edge graph) (loops_in loops) one.head changes cell step
          → HasAdd ((loops_in loops).body one.head) changes cell
      some_add cell step counts = step_adds (is_edge graph) ((loops_in loops).body one.head) one.head changes cell step
          (here one.head ∙ head_in graph loops nest number one at) counts.step

      unmarked : (cell : ℕ) (step : TurnStep) → CellCounts (is_edge graph) (loops_in loops) one.head changes cell step
          → (r : HasAdd ((loops_in loops).body one.head) changes cell) → has body r.node ≡ true → is_marked marks (place r.node) ≡ false
      unmarked cell step counts r h = elim (tells (is_marked marks (place r.node))) [
        | inl t ↦
            let k : IsIn r.node = inner_of r.node (sym (mark_at r.node h) ∙ t) in
            let f : touches (Add r.add.to r.add.k) cell ≡ false = counts.added.outside k.head r.node (Add r.add.to r.add.k) k.has_it k.within k.other k.holds r.add.is in
            absurd (let x : true ≡ false = sym r.add.same ∙ f in cc)
        | inr t ↦ t
      ]

      spoilt_counts : (cell : ℕ) (step : TurnStep) → CellCounts (is_edge graph) (loops_in loops) one.head changes cell step
          → IsSpoilt body changes marks (length body) cell → ⊥
      spoilt_counts cell step counts s =
          let n : ℕ = get_or body s.place 0 in
          let h : has body n ≡ true = has_at body s.place s.below in
          let t = spoilt_is s.change (is_marked marks s.place) cell s.spoilt in
          elim t.1 [
            | inl m ↦
                let k : IsIn n = inner_of n (sym (marked.marked s.place s.below) ∙ m) in
                let f : touches s.change cell ≡ false = counts.added.outside k.head n s.change k.has_it k.within k.other k.holds s.at in
                let x : true ≡ false = sym t.0 ∙ f in cc
            | inr m ↦
                let g : adds_to s.change cell ≡ true = counts.added.adds n s.change (here n ∙ h) s.at t.0 in
                let x : true ≡ false = sym g ∙ m in cc
          ]

-- the same of a body and marks that are borrowed
pub borrowed_are : (graph : List (List ℕ)) (loops : List Loop) (nest : HasNest graph loops) (number : ℕ) (one : Loop) (at : slice_get loops number ≡ Some one)
    (changes : List Change) (count : length changes ≡ length graph) (added : AreAdded changes) (lent : List Loop) (first second : List ℕ) (marks read : List Bool)
    (touched : Touched) → lent ≡ loops → first ≡ one.body.items → second ≡ one.body.items → read ≡ marks → AreInner lent one.head first marks
    → AreTouched second changes read (length second) touched → AreCandidates (is_edge graph) (loops_in loops) one.head changes touched
borrowed_are graph loops nest number one at changes count added lent first second marks read touched a b d e inner is =
    let m : AreInner loops one.head one.body.items marks =
    subst (λ (l : List Loop). AreInner l one.head one.body.items marks) a (subst (λ (l : List ℕ). AreInner lent one.head l marks) b inner) in
    let t : AreTouched one.body.items changes marks (length one.body.items) touched =
    subst (λ (l : List ℕ). AreTouched l changes marks (length l) touched) d (subst (λ (r : List Bool). AreTouched second changes r (length second) touched) e is) in
    candidates_are graph loops nest number one at changes count added marks m touched t
