-- Nodes are placed one after the other, or wait, and are woken.
use Rattle.std.proofs.Common.{◌≡◌, ◌≢◌, ◌==◌, ◌&&◌, ◌||◌, ◌⊎◌, ℕ, ◌+◌, ◌-◌, ◌<◌, ◌≤◌, inl, inr, Bool, true, false, not, Some, List, [], ◌∷◌, ◌++◌}
use Rattle.std.proofs.Common.{length, take, set, get_or, cond, refl, sym, ap, subst, ◌∙◌, arith, Vec, Global}
use Rattle.std.specs.Prelude.{filter}
use Rattle.std.proofs.lemmas.Bool.{eq-eqb, cases_lt}
use Rattle.std.proofs.lemmas.Bool.Decides.{eqb_tells}
use Rattle.std.proofs.lemmas.List.{take-append-le, length-append, get_or_append_left, get_or-set_same, get_or-set_other, length-set}
use Rattle.std.proofs.lemmas.Option.{slice_get-get_or, slice_get_past}
use Rattle.std.proofs.Math.Seq.{take-append_seam, get_or-append_seam}
use Rattle.bt_base.specs.Graph.{has}
use Rattle.graph_laws.specs.Loops.{Loops, is_back}
use Rattle.graph_laws.specs.Forward.{HasForwardNext}
use Rattle.graph_laws.proofs.Nests.{two_true, not_false}
use Rattle.graph_laws.proofs.Stretches.{tells, both}
use Rattle.loop_nest.proofs.Lists.{has-push, has_take_more}
use Rattle.path_bound.specs.Ranked.{IsOrder}
use Rattle.path_bound.specs.Ranking.{is_placed, waiters, waits_for, IsRanking, HaveEnds, HasGrown, IsUnplaced, AllArePlaced}

or_left : (a b : Bool) → a ≡ true → (a || b) ≡ true
or_left true b h = refl
or_left false b h = cc

or_right : (a b : Bool) → b ≡ true → (a || b) ≡ true
or_right true b h = refl
or_right false b h = h

or_cases : (a b : Bool) → (a || b) ≡ true → (a ≡ true) ⊎ (b ≡ true)
or_cases true b h = inl refl
or_cases false b h = inr h

equal : (a b : ℕ) → (a == b) ≡ true → a ≡ b
equal a b t = elim (eqb_tells a b) [ inl q ↦ q.1 | inr q ↦ let f : (a == b) ≡ false = q.0 in cc ]

-- rows that are written
waits_same : (waiting : List (Vec ℕ Global)) (m : ℕ) (row : Vec ℕ Global) → m < length waiting → waits_for (set waiting m row) m ≡ row.items
waits_same waiting m row l =
    let n : length (set waiting m row) ≡ length waiting = length-set waiting m row in
    ap waiters (slice_get-get_or (set waiting m row) m row (omega (arith, l, n))) ∙ ap (λ (r : Vec ℕ Global). r.items) (get_or-set_same waiting m row row l)

waits_other : (waiting : List (Vec ℕ Global)) (m k : ℕ) (row : Vec ℕ Global) → k ≢ m → waits_for (set waiting m row) k ≡ waits_for waiting k
waits_other waiting m k row ne =
    let n : length (set waiting m row) ≡ length waiting = length-set waiting m row in
    ap waiters (elim (cases_lt k (length waiting)) [
      | inl l ↦
          slice_get-get_or (set waiting m row) k row (omega (arith, l, n))
          ∙ (ap (λ (r : Vec ℕ Global). Some r) (get_or-set_other waiting m k row row ne) ∙ sym (slice_get-get_or waiting k row l))
      | inr l ↦ slice_get_past (set waiting m row) k (omega (arith, l, n)) ∙ sym (slice_get_past waiting k l)
    ])

placed_same : (placed : List Bool) (m : ℕ) (b : Bool) → m < length placed → is_placed (set placed m b) m ≡ b
placed_same placed m b l = get_or-set_same placed m b true l

placed_other : (placed : List Bool) (m k : ℕ) (b : Bool) → k ≢ m → is_placed (set placed m b) k ≡ is_placed placed k
placed_other placed m k b ne = get_or-set_other placed m k b true ne

apart : (a b : ℕ) → (a ≡ b → ⊥) → (a == b) ≡ false
apart a b ne = elim (eqb_tells a b) [ inl q ↦ absurd (ne q.1) | inr q ↦ q.0 ]

module _ (edge : ℕ → ℕ → Bool) (loops : Loops) (count : ℕ) (inside : ℕ → Bool) (done : List ℕ) (pending more : ℕ → Bool) (node : ℕ)
    (all : (n : ℕ) → more n ≡ true → (n ≡ node) ⊎ (pending n ≡ true)) (here : inside node ≡ true) (order : List ℕ) (placed : List Bool)
    (waiting : List (Vec ℕ Global))
    (is : IsRanking edge loops count inside done more order placed waiting) where
  -- a node that is placed needn't be advanced
  pub skipped : is_placed placed node ≡ true → IsRanking edge loops count inside done pending order placed waiting
  skipped p = record {
    below = is.below;
    placed_so = is.placed_so;
    others = is.others;
    within = is.within;
    once = is.once;
    before = is.before;
    quiet = is.quiet;
    listed = is.listed;
    woken = is.woken;
    open_so = λ n i. elim (is.open_so n i) [
      | inl a ↦ inl a
      | inr b ↦ elim b [
        | inl a ↦ elim (all n a) [
          | inl e ↦ inl (ap (has order) e ∙ (sym (is.placed_so node here) ∙ p))
          | inr e ↦ inr (inl e)
        ]
        | inr w ↦ inr (inr w)
      ]
    ];
  }

  -- a node is placed whose successors are
  pub placed_on : node < length placed → is_placed placed node ≡ false → AllArePlaced edge loops placed node
      → IsRanking edge loops count inside done pending (order ++ node ∷ []) (set placed node true) waiting
  placed_on l p none = record {
    below = is.below;
    placed_so = λ n i. elim (eqb_tells n node) [
      | inl q ↦
          ap (is_placed (set placed node true)) q.1 ∙ (placed_same placed node true l ∙ sym (has-push order node n ∙ or_right (has order n) (n == node) q.0))
      | inr q ↦
          placed_other placed node n true q.1
          ∙ (is.placed_so n i ∙ sym (has-push order node n ∙ (ap (λ (b : Bool). has order n || b) q.0 ∙ or_none (has order n))))
    ];
    others = λ n o. placed_other placed node n true (λ e. let f : inside n ≡ true = ap inside e ∙ here in cc) ∙ is.others n o;
    within = λ n h. elim (or_cases (has order n) (n == node) (sym (has-push order node n) ∙ h)) [
      | inl a ↦ is.within n a
      | inr a ↦ ap inside (equal n node a) ∙ here
    ];
    once = λ k h. elim (cases_lt k (length order)) [
      | inl a ↦
          ap (λ (x : List ℕ). has x (get_or (order ++ node ∷ []) k 0)) (take-append-le k order (node ∷ []) (omega (arith, a)))
          ∙ (ap (has (take k order)) (get_or_append_left order (node ∷ []) 0 k a) ∙ is.once k a)
      | inr a ↦
          let e : length order ≡ k = last k h a in
          subst (λ (j : ℕ). has (take j (order ++ node ∷ [])) (get_or (order ++ node ∷ []) j 0) ≡ false) e
          (ap (λ (x : List ℕ). has x (get_or (order ++ node ∷ []) (length order) 0)) (take-append_seam order (node ∷ []))
          ∙ (ap (has order) (get_or-append_seam order node [] 0) ∙ (sym (is.placed_so node here) ∙ p)))
    ];
    before = λ k m h i e f. elim (cases_lt k (length order)) [
      | inl a ↦
          let g : get_or (order ++ node ∷ []) k 0 ≡ get_or order k 0 = get_or_append_left order (node ∷ []) 0 k a in
          ap (λ (x : List ℕ). has x m) (take-append-le k order (node ∷ []) (omega (arith, a)))
          ∙ is.before k m a i (ap (λ (x : ℕ). edge x m) (sym g) ∙ e) (ap (λ (x : ℕ). is_back loops x m) (sym g) ∙ f)
      | inr a ↦
          let q : length order ≡ k = last k h a in
          let g : get_or (order ++ node ∷ []) k 0 ≡ node = ap (λ (j : ℕ). get_or (order ++ node ∷ []) j 0) (sym q) ∙ get_or-append_seam order node [] 0 in
          ap (λ (x : List ℕ). has x m) (ap (λ (j : ℕ). take j (order ++ node ∷ [])) (sym q) ∙ take-append_seam order (node ∷ []))
          ∙ elim (tells (is_placed placed m)) [
            | inl t ↦ sym (is.placed_so m i) ∙ t
            | inr t ↦ absurd (none m (record {
              leads = ap (λ (x : ℕ). edge x m) (sym g) ∙ e;
              missing = t;
              forward = ap (λ (x : ℕ). is_back loops x m) (sym g) ∙ f;
            }))
          ]
    ];
    open_so = λ n i. elim (is.open_so n i) [
      | inl a ↦ inl (has-push order node n ∙ or_left (has order n) (n == node) a)
      | inr b ↦ elim b [
        | inl a ↦ elim (all n a) [
          | inl e ↦ inl (has-push order node n ∙ or_right (has order n) (n == node) (eq-eqb n node e))
          | inr e ↦ inr (inl e)
        ]
        | inr w ↦ inr (inr w)
      ]
    ];
    quiet = is.quiet;
    listed = is.listed;
    woken = λ n h. has-push order node n ∙ or_left (has order n) (n == node) (is.woken n h);
  }
    where
      or_none : (a : Bool) → (a || false) ≡ a
      or_none true = refl
      or_none false = refl

      last : (k : ℕ) → k < length (order ++ node ∷ []) → length order ≤ k → length order ≡ k
      last k h a = let s : length (order ++ node ∷ []) ≡ length order + 1 = length-append order (node ∷ []) in omega (arith, s, h, a)

  -- a node waits for a successor that isn't placed
  pub waited_on : (m : ℕ) (row : Vec ℕ Global) → m < length waiting → IsUnplaced edge loops placed node m → row.items ≡ waits_for waiting m ++ node ∷ []
      → IsRanking edge loops count inside done pending order placed (set waiting m row)
  waited_on m row l u e = record {
    below = is.below;
    placed_so = is.placed_so;
    others = is.others;
    within = is.within;
    once = is.once;
    before = is.before;
    woken = is.woken;
    open_so = λ n i. elim (is.open_so n i) [
      | inl a ↦ inl a
      | inr b ↦ elim b [
        | inl a ↦ elim (all n a) [
          | inl q ↦ inr (inr (record {
            at = m;
            leads = ap (λ (x : ℕ). edge x m) q ∙ u.leads;
            forward = ap (λ (x : ℕ). is_back loops x m) q ∙ u.forward;
            within = there;
            listed = ap (λ (x : List ℕ). has x n) (waits_same waiting m row l ∙ e)
                ∙ (has-push (waits_for waiting m) node n ∙ or_right (has (waits_for waiting m) n) (n == node) (eq-eqb n node q));
            asleep = sleeps;
          }))
          | inr q ↦ inr (inl q)
        ]
        | inr w ↦ inr (inr (record {
          at = w.at;
          leads = w.leads;
          forward = w.forward;
          within = w.within;
          asleep = w.asleep;
          listed = elim (eqb_tells w.at m) [
            | inl q ↦
                ap (λ (x : ℕ). has (waits_for (set waiting m row) x) n) q.1
                ∙ (ap (λ (x : List ℕ). has x n) (waits_same waiting m row l ∙ e)
                ∙ (has-push (waits_for waiting m) node n
                ∙ or_left (has (waits_for waiting m) n) (n == node) (ap (λ (x : ℕ). has (waits_for waiting x) n) (sym q.1) ∙ w.listed)))
            | inr q ↦ ap (λ (x : List ℕ). has x n) (waits_other waiting m w.at row q.1) ∙ w.listed
          ];
        }))
      ]
    ];
    quiet = λ k h. waits_other waiting m k row (λ q. elim h [
      | inl o ↦ let f : inside k ≡ true = ap inside q ∙ there in cc
      | inr d ↦ let f : has done k ≡ false = ap (has done) q ∙ sleeps in cc
    ]) ∙ is.quiet k h;
    listed = λ k n h. elim (eqb_tells k m) [
      | inl q ↦ elim (or_cases (has (waits_for waiting m) n) (n == node)
          (sym (ap (λ (x : ℕ). has (waits_for (set waiting m row) x) n) q.1
          ∙ (ap (λ (x : List ℕ). has x n) (waits_same waiting m row l ∙ e) ∙ has-push (waits_for waiting m) node n)) ∙ h)) [
            | inl a ↦ is.listed m n a
            | inr a ↦ ap inside (equal n node a) ∙ here
          ]
      | inr q ↦ is.listed k n (sym (ap (λ (x : List ℕ). has x n) (waits_other waiting m k row q.1)) ∙ h)
    ];
  }
    where
      there : inside m ≡ true
      there = elim (tells (inside m)) [
        | inl t ↦ t
        | inr t ↦ let a : is_placed placed m ≡ true = is.others m t in let b : is_placed placed m ≡ false = u.missing in cc
      ]

      sleeps : has done m ≡ false
      sleeps = elim (tells (has done m)) [
        | inl t ↦ let a : is_placed placed m ≡ true = is.placed_so m there ∙ is.woken m t in let b : is_placed placed m ≡ false = u.missing in cc
        | inr t ↦ t
      ]

-- the nodes that wait for a node are woken
pub woken_on : (edge : ℕ → ℕ → Bool) (loops : Loops) (count : ℕ) (inside : ℕ → Bool) (done next : List ℕ) (node : ℕ) (order : List ℕ)
    (placed : List Bool) (waiting : List (Vec ℕ Global)) (row : Vec ℕ Global)
    → ((n : ℕ) → has next n ≡ (has done n || (n == node))) → has order node ≡ true → node < length waiting → row.items ≡ []
    → IsRanking edge loops count inside done (λ _. false) order placed waiting
    → IsRanking edge loops count inside next (has (waits_for waiting node)) order placed (set waiting node row)
woken_on edge loops count inside done next node order placed waiting row more placed_there l none is = record {
  below = is.below;
  placed_so = is.placed_so;
  others = is.others;
  within = is.within;
  once = is.once;
  before = is.before;
  open_so = λ n i. elim (is.open_so n i) [
    | inl a ↦ inl a
    | inr b ↦ elim b [
      | inl a ↦ cc
      | inr w ↦ elim (eqb_tells w.at node) [
        | inl q ↦ inr (inl (ap (λ (x : ℕ). has (waits_for waiting x) n) (sym q.1) ∙ w.listed))
        | inr q ↦ inr (inr (record {
          at = w.at;
          leads = w.leads;
          forward = w.forward;
          within = w.within;
          listed = ap (λ (x : List ℕ). has x n) (waits_other waiting node w.at row q.1) ∙ w.listed;
          asleep = more w.at ∙ (ap (λ (b : Bool). b || (w.at == node)) w.asleep ∙ q.0);
        }))
      ]
    ]
  ];
  quiet = λ m h. elim (eqb_tells m node) [
    | inl q ↦ ap (waits_for (set waiting node row)) q.1 ∙ (waits_same waiting node row l ∙ none)
    | inr q ↦ waits_other waiting node m row q.1 ∙ is.quiet m (elim h [
      | inl o ↦ inl o
      | inr d ↦ elim (or_cases (has done m) (m == node) (sym (more m) ∙ d)) [
        | inl a ↦ inr a
        | inr a ↦ let f : (m == node) ≡ false = q.0 in cc
      ]
    ])
  ];
  listed = λ m n h. elim (eqb_tells m node) [
    | inl q ↦
        let f : has [] n ≡ true = sym (ap (λ (x : ℕ). has (waits_for (set waiting node row) x) n) q.1
        ∙ ap (λ (x : List ℕ). has x n) (waits_same waiting node row l ∙ none)) ∙ h in cc
    | inr q ↦ is.listed m n (sym (ap (λ (x : List ℕ). has x n) (waits_other waiting node m row q.1)) ∙ h)
  ];
  woken = λ n h. elim (or_cases (has done n) (n == node) (sym (more n) ∙ h)) [
    | inl a ↦ is.woken n a
    | inr a ↦ ap (has order) (equal n node a) ∙ placed_there
  ];
}

pub has_filter : (p : ℕ → Bool) (xs : List ℕ) (n : ℕ) → has (filter p xs) n ≡ (has xs n && p n)
has_filter p [] n = refl
has_filter p (x ∷ xs) n = by_test (tells (p x)) (has_filter p xs n)
  where
    never : (a b : Bool) → b ≡ false → (a && b) ≡ false
    never true b h = h
    never false b h = refl

    by_test : (p x ≡ true) ⊎ (p x ≡ false) → has (filter p xs) n ≡ (has xs n && p n) → has (filter p (x ∷ xs)) n ≡ (has (x ∷ xs) n && p n)
    by_test (inl t) rest =
        ap (λ (b : Bool). has (cond b (x ∷ filter p xs) (filter p xs)) n) t
        ∙ elim (eqb_tells n x) [
          | inl q ↦ ap (λ (b : Bool). b || has (filter p xs) n) q.0 ∙ sym (ap (λ (b : Bool). (b || has xs n) && p n) q.0 ∙ (ap p q.1 ∙ t))
          | inr q ↦ ap (λ (b : Bool). b || has (filter p xs) n) q.0 ∙ (rest ∙ sym (ap (λ (b : Bool). (b || has xs n) && p n) q.0))
        ]
    by_test (inr t) rest =
        ap (λ (b : Bool). has (cond b (x ∷ filter p xs) (filter p xs)) n) t
        ∙ (rest
        ∙ elim (eqb_tells n x) [
          | inl q ↦ never (has xs n) (p n) (ap p q.1 ∙ t) ∙ sym (never (has (x ∷ xs) n) (p n) (ap p q.1 ∙ t))
          | inr q ↦ sym (ap (λ (b : Bool). (b || has xs n) && p n) q.0)
        ])

-- in the end all nodes are placed
module _ (edge : ℕ → ℕ → Bool) (loops : Loops) (count : ℕ) (nodes done order : List ℕ) (placed : List Bool) (waiting : List (Vec ℕ Global))
    (ends : HaveEnds edge loops)
    (all : (n : ℕ) → has order n ≡ true → has done n ≡ true) (is : IsRanking edge loops count (has nodes) done (λ _. false) order placed waiting) where
  left_over : (n : ℕ) → has (filter (λ m. not (has order m)) nodes) n ≡ true → HasForwardNext edge loops (filter (λ m. not (has order m)) nodes) n
  left_over n h =
      let b : (has nodes n ≡ true) × (not (has order n) ≡ true) =
      both (has nodes n) (not (has order n)) (sym (has_filter (λ m. not (has order m)) nodes n) ∙ h) in
      let o : has order n ≡ false = not_false (has order n) b.1 in
      elim (is.open_so n b.0) [
        | inl a ↦ cc
        | inr c ↦ elim c [
          | inl a ↦ cc
          | inr w ↦ record {
            next = w.at;
            leads = w.leads;
            forward = w.forward;
            inside = has_filter (λ m. not (has order m)) nodes w.at ∙ two_true (has nodes w.at) (not (has order w.at)) w.within (elim (tells (has order w.at)) [
              | inl t ↦ let d : has done w.at ≡ true = all w.at t in let a : has done w.at ≡ false = w.asleep in cc
              | inr t ↦ ap not t
            ]);
          }
        ]
      ]

  all_there : (n : ℕ) → has nodes n ≡ true → has order n ≡ true
  all_there n h = elim (tells (has order n)) [
    | inl t ↦ t
    | inr t ↦
        let f : has (filter (λ m. not (has order m)) nodes) n ≡ false = ends (filter (λ m. not (has order m)) nodes) left_over n in
        let g : has (filter (λ m. not (has order m)) nodes) n ≡ true =
        has_filter (λ m. not (has order m)) nodes n ∙ two_true (has nodes n) (not (has order n)) h (ap not t) in cc
  ]

  -- the nodes that are ranked are in a forward order
  pub ranked_order : IsOrder edge loops (has nodes) order
  ranked_order = record {
    same = λ n. elim (tells (has nodes n)) [
      | inl t ↦ all_there n t ∙ sym t
      | inr t ↦ elim (tells (has order n)) [
        | inl o ↦ let f : has nodes n ≡ true = is.within n o in cc
        | inr o ↦ o ∙ sym t
      ]
    ];
    once = is.once;
    before = is.before;
  }

  -- in the end each node is placed
  pub ranked_all : (n : ℕ) → is_placed placed n ≡ true
  ranked_all n = elim (tells (has nodes n)) [
    | inl t ↦ is.placed_so n t ∙ all_there n t
    | inr t ↦ is.others n t
  ]

  -- in the end no node waits
  pub ranked_quiet : (n : ℕ) → waits_for waiting n ≡ []
  ranked_quiet n = elim (tells (has nodes n)) [
    | inl t ↦ is.quiet n (inr (all n (all_there n t)))
    | inr t ↦ is.quiet n (inl t)
  ]

-- no node is placed at first
pub ranking_begun : (edge : ℕ → ℕ → Bool) (loops : Loops) (count : ℕ) (nodes : List ℕ) (first placed : List Bool) (waiting : List (Vec ℕ Global))
    → ((n : ℕ) → has nodes n ≡ true → n < count)
    → ((n : ℕ) → is_placed first n ≡ true) → ((n : ℕ) → is_placed placed n ≡ cond (has nodes n) false (is_placed first n))
    → ((n : ℕ) → waits_for waiting n ≡ [])
    → IsRanking edge loops count (has nodes) [] (has nodes) [] placed waiting
ranking_begun edge loops count nodes first placed waiting below all opened quiet = record {
  below = below;
  placed_so = λ n i. opened n ∙ ap (λ (b : Bool). cond b false (is_placed first n)) i;
  others = λ n o. opened n ∙ (ap (λ (b : Bool). cond b false (is_placed first n)) o ∙ all n);
  within = λ n h. cc;
  once = λ k l. absurd (omega (arith, l));
  before = λ k m l i e f. absurd (omega (arith, l));
  open_so = λ n i. inr (inl i);
  quiet = λ m h. quiet m;
  listed = λ m n h. let f : has [] n ≡ true = sym (ap (λ (x : List ℕ). has x n) (quiet m)) ∙ h in cc;
  woken = λ n h. cc;
}

-- one node more is to be placed
pub opened_on : (nodes : List ℕ) (i : ℕ) (first placed : List Bool) → i < length nodes → get_or nodes i 0 < length placed → length placed ≡ length first
    → ((n : ℕ) → is_placed placed n ≡ cond (has (take i nodes) n) false (is_placed first n))
    → record {
      size : length (set placed (get_or nodes i 0) false) ≡ length first;
      opened : (n : ℕ) → is_placed (set placed (get_or nodes i 0) false) n ≡ cond (has (take (i + 1) nodes) n) false (is_placed first n);
    }
opened_on nodes i first placed l w size was = record {
  size = length-set placed (get_or nodes i 0) false ∙ size;
  opened = λ n.
      let e : has (take (i + 1) nodes) n ≡ (has (take i nodes) n || (n == get_or nodes i 0)) = has_take_more nodes i n l in
      elim (eqb_tells n (get_or nodes i 0)) [
        | inl a ↦
            ap (λ (x : ℕ). is_placed (set placed (get_or nodes i 0) false) x) a.1
            ∙ (placed_same placed (get_or nodes i 0) false w
            ∙ sym (ap (λ (b : Bool). cond b false (is_placed first n)) (e ∙ or_right (has (take i nodes) n) (n == get_or nodes i 0) a.0)))
        | inr a ↦
            placed_other placed (get_or nodes i 0) n false a.1
            ∙ (was n ∙ sym (ap (λ (b : Bool). cond b false (is_placed first n))
            (e ∙ (ap (λ (b : Bool). has (take i nodes) n || b) a.0 ∙ nor (has (take i nodes) n)))))
      ];
}
  where
    nor : (a : Bool) → (a || false) ≡ a
    nor true = refl
    nor false = refl

-- the nodes to be advanced are told otherwise
pub ranking_told : (edge : ℕ → ℕ → Bool) (loops : Loops) (count : ℕ) (inside : ℕ → Bool) (done next : List ℕ) (pending : ℕ → Bool) (order : List ℕ)
    (placed : List Bool) (waiting : List (Vec ℕ Global))
    → done ≡ next → IsRanking edge loops count inside done pending order placed waiting → IsRanking edge loops count inside next pending order placed waiting
ranking_told edge loops count inside done next pending order placed waiting e is =
    subst (λ (d : List ℕ). IsRanking edge loops count inside d pending order placed waiting) e is

-- the rows of a list of those that wait
pub waits_read : (waiting : List (Vec ℕ Global)) (n : ℕ) (row : Vec ℕ Global) → n < length waiting → row ≡ get_or waiting n row
    → row.items ≡ waits_for waiting n
waits_read waiting n row l e = ap (λ (r : Vec ℕ Global). r.items) e ∙ sym (ap waiters (slice_get-get_or waiting n row l))

-- the last of the first nodes is taken away
pub last_taken : (nodes : List ℕ) (left : ℕ) → 1 ≤ left → left ≤ length nodes → (n : ℕ) → has (take left nodes) n ≡ true
    → (n ≡ get_or nodes (left - 1) 0) ⊎ (has (take (left - 1) nodes) n ≡ true)
last_taken nodes left l w n h =
    let e : left ≡ left - 1 + 1 = omega (arith, l) in
    let t : has (take (left - 1 + 1) nodes) n ≡ true = ap (λ (k : ℕ). has (take k nodes) n) (sym e) ∙ h in
    elim (or_cases (has (take (left - 1) nodes) n) (n == get_or nodes (left - 1) 0) (sym (has_take_more nodes (left - 1) n (omega (arith, l, w))) ∙ t)) [
      | inl a ↦ inr a
      | inr a ↦ inl (equal n (get_or nodes (left - 1) 0) a)
    ]

-- an order grows
pub not_grown : (order : List ℕ) → HasGrown order order
not_grown order = record { longer = omega arith; kept = λ k h. refl }

pub grown_by : (order : List ℕ) (node : ℕ) → HasGrown order (order ++ node ∷ [])
grown_by order node = record {
  longer = let s : length (order ++ node ∷ []) ≡ length order + 1 = length-append order (node ∷ []) in omega (arith, s);
  kept = λ k h. take-append-le k order (node ∷ []) h;
}

-- an order that grows goes on growing
pub grown_on : (one two three : List ℕ) → HasGrown one two → HasGrown two three → HasGrown one three
grown_on one two three a b = record {
  longer = omega (arith, a.longer, b.longer);
  kept = λ k h. b.kept k (omega (arith, h, a.longer)) ∙ a.kept k h;
}
