-- Labels without a limit are at least what they must be, and each is one of these: they say greatest costs.
use Rattle.std.proofs.Common.{◌≡◌, ◌==◌, ◌&&◌, ◌⊎◌, ◌*◌, ◌-◌, ℕ, ◌+◌, ◌<◌, ◌≤◌, inl, inr, Bool, true, false, not, Option, Some, None, cond, refl, sym}
use Rattle.std.proofs.Common.{ap, subst, ◌∙◌, arith}
use Rattle.std.specs.Prelude.{unwrap_or}
use Rattle.std.proofs.lemmas.Bool.{eq-eqb}
use Rattle.std.proofs.lemmas.Bool.Decides.{eqb_tells}
use Rattle.bt_base.specs.Graph.{is_edge}
use Rattle.graph_laws.specs.Loops.{AreLoops, is_back, IsGreatestCost, edges_inside}
use Rattle.graph_laws.specs.Labels.{laps_cost, charge, step_cost, IsAtLeast, AreLabels, AreChosen, AreOwnLabels, AreOwnChosen}
use Rattle.graph_laws.proofs.Attained.{chosen_greatest, own_greatest as own_chosen_greatest}
use Rattle.graph_laws.proofs.Nests.{two_true}
use Rattle.graph_laws.proofs.Stretches.{tells}
use Rattle.path_bound.specs.declared.choosing.Label.{Label}
use Rattle.path_bound.specs.Capped.{exact}
use Rattle.path_bound.specs.Steps.{step_to, moves}
use Rattle.path_bound.specs.Choosing.{is_end, behind, asked, best_of, start_at, only, cost_of}
use Rattle.path_bound.specs.Exact.{Task, row_of, move_of, goes, label_next, labels_by, laps_of, cost_if, labels_of, own_of}
use Rattle.path_bound.proofs.Best.{IsLabel, IsAsked, some_is, best_start, best_least, best_chosen}
use Rattle.path_bound.proofs.Fixed.{goes_forward, goes_inside, label_fixed, laps_fixed}

if_cost : (o : Option Label) → unwrap_or (cost_if o) 0 ≡ cost_of o
if_cost None = refl
if_cost (Some one) = refl

if_some : (o : Option Label) (v : ℕ) → cost_if o ≡ Some v → (one : Label) × (o ≡ Some one) × (one.cost ≡ v)
if_some None v e = cc
if_some (Some one) v e = (one, refl, some_is e)

at_least : (o : Option Label) (c : ℕ) → IsLabel o c → IsAtLeast (cost_if o) c
at_least o c l = record { value = l.one.cost; is = ap cost_if l.is; least = l.least }

-- what is asked along an edge to the end of walks, and along another
ended : (cut : ℕ → ℕ) (head : Option ℕ) (laps : ℕ → ℕ) (label : ℕ → Option Label) (cost : ℕ → ℕ) (m : ℕ) → is_end head m ≡ true
    → asked cut head laps label (step_to cost m) ≡ Some (record { cost = cost m; next = None })
ended cut head laps label cost m e = ap (λ (b : Bool). cond b (Some (record { cost = cost m; next = None })) (behind cut laps (step_to cost m) (label m))) e

goes_on : (cut : ℕ → ℕ) (head : Option ℕ) (laps : ℕ → ℕ) (label : ℕ → Option Label) (test : ℕ → Bool) (cost : ℕ → ℕ) (m : ℕ) (one : Label)
    → is_end head m ≡ false → test m ≡ true → label m ≡ Some one
    → asked cut head laps (only test label) (step_to cost m) ≡ Some (record { cost = cut (cut (cost m + laps m) + one.cost); next = Some m })
goes_on cut head laps label test cost m one e h l =
    ap (λ (b : Bool). cond b (Some (record { cost = cost m; next = None })) (behind cut laps (step_to cost m) (only test label m))) e
    ∙ ap (λ (o : Option Label). behind cut laps (step_to cost m) o) (ap (λ (b : Bool). cond b (label m) None) h ∙ l)

-- a label is that of a step to the end of walks, or of one that goes on
pub record IsEnding (t : Task) (head : Option ℕ) (n : ℕ) (cost : ℕ → ℕ → ℕ) (one : Label) : Type 0 where
  pub node : ℕ
  pub leads : is_edge t.graph n node ≡ true
  pub ends : is_end head node ≡ true
  pub is : one ≡ record { cost = cost n node; next = None }

pub record IsGoing (t : Task) (cut : ℕ → ℕ) (head : Option ℕ) (laps : ℕ → ℕ) (label : ℕ → Option Label) (test : ℕ → Bool) (cost : ℕ → ℕ → ℕ) (n : ℕ)
    (one : Label) : Type 0 where
  pub node : ℕ
  pub leads : is_edge t.graph n node ≡ true
  pub on : is_end head node ≡ false
  pub may : test node ≡ true
  pub two : Label
  pub there : label node ≡ Some two
  pub is : one ≡ record { cost = cut (cut (cost n node + laps node) + two.cost); next = Some node }

-- a label that is made is what the node or one of its edges asks
pub chosen_of : (t : Task) (cut : ℕ → ℕ) (head : Option ℕ) (laps : ℕ → ℕ) (label : ℕ → Option Label) (test : ℕ → Bool) (cost : ℕ → ℕ → ℕ) (n : ℕ)
    (start : Option Label) (one : Label)
    → best_of cut head laps (only test label) start (moves (cost n) (row_of t n)) ≡ Some one
    → (start ≡ Some one) ⊎ (IsEnding t head n cost one ⊎ IsGoing t cut head laps label test cost n one)
chosen_of t cut head laps label test cost n start one e = elim (best_chosen cut head laps (only test label) (cost n) (row_of t n) start one e) [
  | inl a ↦ inl a
  | inr a ↦ inr (elim (tells (is_end head a.node)) [
    | inl i ↦ inl (record { node = a.node; leads = a.there; ends = i; is = some_is (sym a.asks ∙ ended cut head laps (only test label) (cost n) a.node i) })
    | inr i ↦ inr (going a i (ap (λ (b : Bool). cond b (Some (record { cost = cost n a.node; next = None }))
        (behind cut laps (step_to (cost n) a.node) (only test label a.node))) i))
  ])
]
  where
    given : (m : ℕ) (b : Bool) (o : Option Label) → behind cut laps (step_to (cost n) m) (cond b o None) ≡ Some one
        → (b ≡ true) × ((two : Label) × (o ≡ Some two) × (one ≡ record { cost = cut (cut (cost n m + laps m) + two.cost); next = Some m }))
    given m true None f = cc
    given m true (Some two) f = (refl, (two, refl, some_is (sym f)))
    given m false o f = cc

    going : (a : IsAsked cut head laps (only test label) (cost n) (row_of t n) one) → is_end head a.node ≡ false
        → asked cut head laps (only test label) (step_to (cost n) a.node) ≡ behind cut laps (step_to (cost n) a.node) (only test label a.node)
        → IsGoing t cut head laps label test cost n one
    going a i f =
        let g = given a.node (test a.node) (label a.node) (sym f ∙ a.asks) in
        record { node = a.node; leads = a.there; on = i; may = g.0; two = g.1.0; there = g.1.1; is = g.1.2 }

-- the labels of the walks through some nodes
abbrev pub through : Task → ℕ → (ℕ → Bool) → Option ℕ → ℕ → Option Label
through t size inside head n = labels_by t inside head (laps_of t size) size n

module _ (t : Task) (whole : ℕ → Bool) (rank : ℕ → ℕ) (size : ℕ) (small : (n : ℕ) → rank n < size)
    (falls : (n m : ℕ) → is_edge t.graph n m ≡ true → is_back t.loops n m ≡ false → rank m < rank n)
    (inner : (h m : ℕ) → t.loops.has h ≡ true → t.loops.body h m ≡ true → (h ≡ m → ⊥) → rank m < rank h)
    (within : (n m : ℕ) → is_edge t.graph n m ≡ true → whole m ≡ true) where
  fixed : (inside : ℕ → Bool) (head : Option ℕ) (n : ℕ)
      → through t size inside head n ≡ label_next t inside head (laps_of t size) (through t size inside head) n
  fixed inside head n = label_fixed t rank size small falls inside head (laps_of t size) n

  -- an edge along which a walk goes on asks for its label
  pub going : (inside : ℕ → Bool) (head : Option ℕ) (n m : ℕ) (one : Label) → is_edge t.graph n m ≡ true → is_back t.loops n m ≡ false
      → inside m ≡ true → is_end head m ≡ false
      → through t size inside head m ≡ Some one → IsLabel (through t size inside head n) (move_of t n m + laps_of t size m + one.cost)
  going inside head n m one e f i o l =
      let b : IsLabel (label_next t inside head (laps_of t size) (through t size inside head) n) (move_of t n m + laps_of t size m + one.cost) =
      best_least exact head (laps_of t size) (only (goes t inside n) (through t size inside head)) (move_of t n) (row_of t n) (start_at head (t.costs.node n)) m
      (record { cost = move_of t n m + laps_of t size m + one.cost; next = Some m }) e
      (goes_on exact head (laps_of t size) (through t size inside head) (goes t inside n) (move_of t n) m one o
      (two_true (inside m) (not (is_back t.loops n m)) i (ap not f)) l) in
      record { one = b.one; is = fixed inside head n ∙ b.is; least = b.least }

  -- an edge to where a walk ends asks for its label
  pub ending : (inside : ℕ → Bool) (head : Option ℕ) (n m : ℕ) → is_edge t.graph n m ≡ true → is_end head m ≡ true
      → IsLabel (through t size inside head n) (move_of t n m)
  ending inside head n m e o =
      let b : IsLabel (label_next t inside head (laps_of t size) (through t size inside head) n) (move_of t n m) =
      best_least exact head (laps_of t size) (only (goes t inside n) (through t size inside head)) (move_of t n) (row_of t n) (start_at head (t.costs.node n)) m
      (record { cost = move_of t n m; next = None }) e
      (ended exact head (laps_of t size) (only (goes t inside n) (through t size inside head)) (move_of t n) m o) in
      record { one = b.one; is = fixed inside head n ∙ b.is; least = b.least }

  -- a walk that ends anywhere may end at the node itself
  pub starting : (inside : ℕ → Bool) (n : ℕ) → IsLabel (through t size inside None n) (t.costs.node n)
  starting inside n =
      let b : IsLabel (label_next t inside None (laps_of t size) (through t size inside None) n) (t.costs.node n) =
      best_start exact None (laps_of t size) (only (goes t inside n) (through t size inside None)) (move_of t n) (row_of t n)
      (start_at None (t.costs.node n)) (t.costs.node n)
      (record { one = record { cost = t.costs.node n; next = None }; is = refl; least = omega arith }) in
      record { one = b.one; is = fixed inside None n ∙ b.is; least = b.least }

  chosen : (inside : ℕ → Bool) (head : Option ℕ) (n : ℕ) (one : Label) → through t size inside head n ≡ Some one
      → (start_at head (t.costs.node n) ≡ Some one)
      ⊎ (IsEnding t head n (move_of t) one
      ⊎ IsGoing t exact head (laps_of t size) (through t size inside head) (goes t inside n) (move_of t) n one)
  chosen inside head n one e = chosen_of t exact head (laps_of t size) (through t size inside head) (goes t inside n) (move_of t) n
      (start_at head (t.costs.node n)) one (sym (fixed inside head n) ∙ e)

  pub laps_are : (n : ℕ) → laps_cost t.loops t.bound (labels_of t whole size) n ≡ laps_of t size n
  laps_are n =
      ap (λ (c : ℕ). cond (t.loops.has n) ((t.bound n - 1) * c) 0) (if_cost (through t size (t.loops.body n) (Some n) n))
      ∙ sym (laps_fixed t rank size small falls inner n)

  step_is : (n m : ℕ) → is_back t.loops n m ≡ false → step_cost t.loops t.bound t.costs (labels_of t whole size) n m ≡ move_of t n m + laps_of t size m
  step_is n m f =
      let c : charge t.loops t.bound (labels_of t whole size) n m ≡ laps_of t size m =
      ap (λ (b : Bool). cond b 0 (laps_cost t.loops t.bound (labels_of t whole size) m)) f ∙ laps_are m in
      ap (λ (x : ℕ). t.costs.node n + t.costs.edge n m + x) c

  -- walks that end anywhere
  pub free_node : (inside : ℕ → Bool) (n : ℕ) → t.costs.node n ≤ cost_of (through t size inside None n)
  free_node inside n =
      let s : IsLabel (through t size inside None n) (t.costs.node n) = starting inside n in
      let e : cost_of (through t size inside None n) ≡ s.one.cost = ap cost_of s.is in omega (arith, s.least, e)

  free_rest : (inside : ℕ → Bool) (n m : ℕ) → is_edge t.graph n m ≡ true → is_back t.loops n m ≡ false → inside m ≡ true
      → step_cost t.loops t.bound t.costs (labels_of t whole size) n m + cost_of (through t size inside None m) ≤ cost_of (through t size inside None n)
  free_rest inside n m e f i =
      let s : IsLabel (through t size inside None m) (t.costs.node m) = starting inside m in
      let g : IsLabel (through t size inside None n) (move_of t n m + laps_of t size m + s.one.cost) = going inside None n m s.one e f i refl s.is in
      let a : cost_of (through t size inside None m) ≡ s.one.cost = ap cost_of s.is in
      let b : cost_of (through t size inside None n) ≡ g.one.cost = ap cost_of g.is in
      let c = step_is n m f in
      let l : move_of t n m + laps_of t size m + s.one.cost ≤ g.one.cost = g.least in omega (arith, a, b, c, l)

  free_chosen : (inside : ℕ → Bool) (n : ℕ) → (cost_of (through t size inside None n) ≡ t.costs.node n)
      ⊎ ((m : ℕ) × (is_edge t.graph n m ≡ true) × (goes t inside n m ≡ true)
      × (cost_of (through t size inside None n) ≡ step_cost t.loops t.bound t.costs (labels_of t whole size) n m + cost_of (through t size inside None m)))
  free_chosen inside n =
      let s : IsLabel (through t size inside None n) (t.costs.node n) = starting inside n in
      let a : cost_of (through t size inside None n) ≡ s.one.cost = ap cost_of s.is in
      elim (chosen inside None n s.one s.is) [
        | inl x ↦ let q : s.one.cost ≡ t.costs.node n = ap (λ (o : Label). o.cost) (sym (some_is x)) in inl (a ∙ q)
        | inr y ↦ elim y [
          | inl x ↦ let o : false ≡ true = x.ends in cc
          | inr x ↦
              let q : s.one.cost ≡ move_of t n x.node + laps_of t size x.node + x.two.cost = ap (λ (o : Label). o.cost) x.is in
              let b : cost_of (through t size inside None x.node) ≡ x.two.cost = ap cost_of x.there in
              let c = step_is n x.node (goes_forward t inside n x.node x.may) in
              inr (x.node, x.leads, x.may, omega (arith, a, q, b, c))
        ]
      ]

  pub are_labels : AreLabels (is_edge t.graph) t.loops t.bound t.costs (labels_of t whole size)
  are_labels = record {
    node = λ n. free_node whole n;
    rest = λ n m e f. free_rest whole n m e f (within n m e);
    turn = λ h n m v a two bn bm e f l.
        let s : (one : Label) × (through t size (t.loops.body h) (Some h) m ≡ Some one) × (one.cost ≡ v) =
        if_some (through t size (t.loops.body h) (Some h) m) v l in
        let g : IsLabel (through t size (t.loops.body h) (Some h) n) (move_of t n m + laps_of t size m + s.0.cost) =
        going (t.loops.body h) (Some h) n m s.0 e f bm (other h n m a bn f) s.1 in
        at_least (through t size (t.loops.body h) (Some h) n) (step_cost t.loops t.bound t.costs (labels_of t whole size) n m + v)
        (record {
          one = g.one;
          is = g.is;
          least = let c = step_is n m f in let l : move_of t n m + laps_of t size m + s.0.cost ≤ g.one.cost =
              g.least in omega (arith, c, l, s.2);
        });
    back = λ h n a two bn e. at_least (through t size (t.loops.body h) (Some h) n) (t.costs.node n + t.costs.edge n h)
        (ending (t.loops.body h) (Some h) n h e (eq-eqb h h refl));
  }
    where
      other : (h n m : ℕ) → t.loops.has h ≡ true → t.loops.body h n ≡ true → is_back t.loops n m ≡ false → is_end (Some h) m ≡ false
      other h n m a bn f = elim (eqb_tells h m) [
        | inl q ↦
            let b : is_back t.loops n m ≡ true = subst (λ (x : ℕ). is_back t.loops n x ≡ true) q.1 (two_true (t.loops.has h) (t.loops.body h n) a bn) in cc
        | inr q ↦ q.0
      ]

  pub are_chosen : AreChosen (is_edge t.graph) t.loops t.bound t.costs (labels_of t whole size) rank
  are_chosen = record {
    rest = λ n. elim (free_chosen whole n) [
      | inl a ↦ inl a
      | inr a ↦ inr (record {
        next = a.0;
        asked = cost_of (through t size whole None a.0);
        leads = a.1;
        forward = goes_forward t whole n a.0 a.2;
        lower = falls n a.0 a.1 (goes_forward t whole n a.0 a.2);
        label = refl;
        is = a.3;
      })
    ];
    turn = λ h n v a bn l.
        let s : (one : Label) × (through t size (t.loops.body h) (Some h) n ≡ Some one) × (one.cost ≡ v) =
        if_some (through t size (t.loops.body h) (Some h) n) v l in
        elim (chosen (t.loops.body h) (Some h) n s.0 s.1) [
          | inl x ↦ cc
          | inr y ↦ elim y [
            | inl x ↦
                let same : h ≡ x.node = equal h x.node x.ends in
                let q : s.0.cost ≡ move_of t n x.node = ap (λ (o : Label). o.cost) x.is in
                inl (subst (λ (k : ℕ). is_edge t.graph n k ≡ true) (sym same) x.leads, sym s.2 ∙ (q ∙ ap (move_of t n) (sym same)))
            | inr x ↦
                let q : s.0.cost ≡ move_of t n x.node + laps_of t size x.node + x.two.cost = ap (λ (o : Label). o.cost) x.is in
                let f : is_back t.loops n x.node ≡ false = goes_forward t (t.loops.body h) n x.node x.may in
                let i : t.loops.body h x.node ≡ true = goes_inside t (t.loops.body h) n x.node x.may in
                let c = step_is n x.node f in
                inr (record {
                  next = x.node;
                  asked = x.two.cost;
                  leads = two_true (is_edge t.graph n x.node) (t.loops.body h n && t.loops.body h x.node) x.leads
                      (two_true (t.loops.body h n) (t.loops.body h x.node) bn i);
                  forward = f;
                  lower = falls n x.node x.leads f;
                  label = ap cost_if x.there;
                  is = omega (arith, q, c, s.2);
                })
          ]
        ];
  }
    where
      equal : (a b : ℕ) → (a == b) ≡ true → a ≡ b
      equal a b t = elim (eqb_tells a b) [ inl q ↦ q.1 | inr q ↦ let f : (a == b) ≡ false = q.0 in cc ]

  pub own_labels : (h : ℕ) → AreOwnLabels (is_edge t.graph) t.loops t.bound t.costs (labels_of t whole size) h (own_of t size h)
  own_labels h = record { node = λ n b. free_node (t.loops.body h) n; rest = λ n m bn bm e f. free_rest (t.loops.body h) n m e f bm }

  pub own_chosen : (h : ℕ) → AreOwnChosen (is_edge t.graph) t.loops t.bound t.costs (labels_of t whole size) rank h (own_of t size h)
  own_chosen h = record {
    rest = λ n bn. elim (free_chosen (t.loops.body h) n) [
      | inl a ↦ inl a
      | inr a ↦
          let i : t.loops.body h a.0 ≡ true = goes_inside t (t.loops.body h) n a.0 a.2 in
          let f : is_back t.loops n a.0 ≡ false = goes_forward t (t.loops.body h) n a.0 a.2 in
          inr (record {
            next = a.0;
            asked = own_of t size h a.0;
            leads = two_true (is_edge t.graph n a.0) (t.loops.body h n && t.loops.body h a.0) a.1 (two_true (t.loops.body h n) (t.loops.body h a.0) bn i);
            forward = f;
            lower = falls n a.0 a.1 f;
            label = refl;
            is = a.3;
          })
    ];
  }

  module _ (entry : ℕ) (are : AreLoops (is_edge t.graph) entry t.loops) (one : (h : ℕ) → t.loops.has h ≡ true → 1 ≤ t.bound h) where
    -- the greatest cost of all walks
    pub greatest : IsGreatestCost (is_edge t.graph) entry t.loops t.bound t.costs (laps_of t size entry + cost_of (through t size whole None entry))
    greatest = subst (λ (c : ℕ). IsGreatestCost (is_edge t.graph) entry t.loops t.bound t.costs (c + cost_of (through t size whole None entry)))
        (laps_are entry)
        (chosen_greatest (is_edge t.graph) entry t.loops t.bound t.costs (labels_of t whole size) rank are one are_labels are_chosen)

    -- and of the walks inside the body of a loop from its head
    pub own_greatest : (h : ℕ) → t.loops.has h ≡ true
        → IsGreatestCost (edges_inside (is_edge t.graph) (t.loops.body h)) h t.loops t.bound t.costs (laps_of t size h + own_of t size h h)
    own_greatest h a = subst (λ (c : ℕ). IsGreatestCost (edges_inside (is_edge t.graph) (t.loops.body h)) h t.loops t.bound t.costs
        (c + own_of t size h h)) (laps_are h)
        (own_chosen_greatest (is_edge t.graph) entry t.loops t.bound t.costs (labels_of t whole size) rank h
        (own_of t size h) are one are_labels are_chosen a (own_labels h) (own_chosen h))
