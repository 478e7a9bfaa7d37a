-- The labels that are told are the labels without a limit, up to the limit; and the walks to which they lead cost so much.
use Rattle.std.proofs.Common.{◌≡◌, ◌==◌, ◌||◌, ◌⊎◌, ℕ, zero, suc, ◌+◌, ◌<◌, ◌≤◌, inl, inr, Bool, true, false, not, Option, Some, None, List, [], ◌∷◌}
use Rattle.std.proofs.Common.{length, take, get_or, cond, refl, sym, ap, subst, ◌∙◌, arith, ltb, Vec, Global, zero-add}
use Rattle.std.specs.Prelude.{min}
use Rattle.std.proofs.lemmas.Bool.{ltb-true, ltb-false, lt-ltb}
use Rattle.std.proofs.lemmas.Bool.Decides.{eqb_tells}
use Rattle.bt_base.specs.Graph.{has, is_edge}
use Rattle.graph_laws.specs.Walk.{IsWalk, AreInside, end_of}
use Rattle.graph_laws.specs.Loops.{is_back, IsForward}
use Rattle.graph_laws.proofs.Nests.{two_true}
use Rattle.path_bound.specs.declared.choosing.Label.{Label}
use Rattle.path_bound.specs.declared.stepping.Step.{Step}
use Rattle.path_bound.specs.Capped.{limit, cap, exact}
use Rattle.path_bound.specs.Steps.{step_to, moves, steps_at}
use Rattle.path_bound.specs.Choosing.{label_at, is_end, behind, asked, greater, best_of, start_at, only, next_of}
use Rattle.path_bound.specs.Exact.{Task, row_of, move_of, goes, labels_by, label_next}
use Rattle.path_bound.specs.Ranked.{IsForwardOrder}
use Rattle.path_bound.specs.Turning.{ArePassed, Leads, toll}
use Rattle.path_bound.proofs.Best.{some_is, best_same, has_first, or_right}
use Rattle.path_bound.proofs.Fixed.{goes_forward, goes_inside, label_fixed}
use Rattle.path_bound.proofs.Labelled.{IsEnding, chosen_of}

-- a label has the cost of another up to the limit
abbrev pub IsCapped : Option Label → Option Label → Type 0
IsCapped None None = Unit {0}
IsCapped None (Some two) = ⊥
IsCapped (Some one) None = ⊥
IsCapped (Some one) (Some two) = one.cost ≡ cap two.cost

less : (a b c d l : ℕ) → a < c → d ≤ b → a ≡ min b l → c ≡ min d l → c ≡ min b l
less a b c d l h k e f = omega (arith, h, k, e, f)

more : (a b c d l : ℕ) → c ≤ a → b < d → a ≡ min b l → c ≡ min d l → a ≡ min d l
more a b c d l h k e f = omega (arith, h, k, e, f)

picked : (x y : Bool) (a b c d : Label) → ltb a.cost c.cost ≡ x → ltb b.cost d.cost ≡ y → a.cost ≡ cap b.cost → c.cost ≡ cap d.cost
    → IsCapped (cond x (Some c) (Some a)) (cond y (Some d) (Some b))
picked true true a b c d s t e f = f
picked true false a b c d s t e f = less a.cost b.cost c.cost d.cost limit (ltb-true a.cost c.cost s) (ltb-false b.cost d.cost t) e f
picked false true a b c d s t e f = more a.cost b.cost c.cost d.cost limit (ltb-false a.cost c.cost s) (ltb-true b.cost d.cost t) e f
picked false false a b c d s t e f = e

greater_capped : (o p q r : Option Label) → IsCapped o p → IsCapped q r → IsCapped (greater o q) (greater p r)
greater_capped None None q r a b = b
greater_capped None (Some x) q r a b = absurd a
greater_capped (Some x) None q r a b = absurd a
greater_capped (Some x) (Some y) None None a b = a
greater_capped (Some x) (Some y) None (Some v) a b = absurd b
greater_capped (Some x) (Some y) (Some u) None a b = absurd b
greater_capped (Some x) (Some y) (Some u) (Some v) a b = picked (ltb x.cost u.cost) (ltb y.cost v.cost) x y u v refl refl a b

summed : (c p told a b l : ℕ) → told ≡ min p l → a ≡ min b l → min (min (min c l + told) l + a) l ≡ min (c + p + b) l
summed c p told a b l e f = omega (arith, e, f)

behind_capped : (laps costs : ℕ → ℕ) (cost : ℕ → ℕ) (m : ℕ) (o p : Option Label) → ((x : Label) → o ≡ Some x → laps m ≡ cap (costs m)) → IsCapped o p
    → IsCapped (behind cap laps (step_to (λ k. cap (cost k)) m) o) (behind exact costs (step_to cost m) p)
behind_capped laps costs cost m None None e c = tt
behind_capped laps costs cost m None (Some y) e c = absurd c
behind_capped laps costs cost m (Some x) None e c = absurd c
behind_capped laps costs cost m (Some x) (Some y) e c = summed (cost m) (costs m) (laps m) x.cost y.cost limit (e x refl) c

asked_capped : (b : Bool) (laps costs : ℕ → ℕ) (cost : ℕ → ℕ) (m : ℕ) (o p : Option Label)
    → (b ≡ false → (x : Label) → o ≡ Some x → laps m ≡ cap (costs m)) → (b ≡ false → IsCapped o p)
    → IsCapped (cond b (Some (record { cost = cap (cost m); next = None })) (behind cap laps (step_to (λ k. cap (cost k)) m) o))
    (cond b (Some (record { cost = cost m; next = None })) (behind exact costs (step_to cost m) p))
asked_capped true laps costs cost m o p e c = refl
asked_capped false laps costs cost m o p e c = behind_capped laps costs cost m o p (e refl) (c refl)

best_capped : (head : Option ℕ) (laps costs : ℕ → ℕ) (label other : ℕ → Option Label) (cost : ℕ → ℕ) (nodes : List ℕ) (one two : Option Label)
    → IsCapped one two
    → ((m : ℕ) → has nodes m ≡ true → IsCapped (asked cap head laps label (step_to (λ k. cap (cost k)) m)) (asked exact head costs other (step_to cost m)))
    → IsCapped (best_of cap head laps label one (moves (λ k. cap (cost k)) nodes)) (best_of exact head costs other two (moves cost nodes))
best_capped head laps costs label other cost [] one two c each = c
best_capped head laps costs label other cost (m ∷ nodes) one two c each =
    best_capped head laps costs label other cost nodes (greater one (asked cap head laps label (step_to (λ k. cap (cost k)) m)))
    (greater two (asked exact head costs other (step_to cost m)))
    (greater_capped one two (asked cap head laps label (step_to (λ k. cap (cost k)) m)) (asked exact head costs other (step_to cost m)) c
    (each m (has_first m nodes)))
    (λ k h. each k (or_right (k == m) (has nodes k) h))

start_capped : (head : Option ℕ) (cost : ℕ) → IsCapped (start_at head (cap cost)) (start_at head cost)
start_capped None cost = refl
start_capped (Some h) cost = tt

-- the place of a number in a list
pub record IsAt (xs : List ℕ) (n : ℕ) : Type 0 where
  pub place : ℕ
  pub within : place < length xs
  pub is : get_or xs place 0 ≡ n

only_both : (p q : Bool) (o : Option Label) → (p ≡ true → q ≡ true) → (q ≡ true → (p ≡ true) ⊎ (o ≡ None)) → cond p o None ≡ cond q o None
only_both true true o f g = refl
only_both true false o f g = let x : false ≡ true = f refl in cc
only_both false true o f g = elim (g refl) [ inl x ↦ cc | inr x ↦ sym x ]
only_both false false o f g = refl

-- what the end of a walk costs: its last node, and the edge back where it is a turn
abbrev pub end_cost : Task → Option ℕ → ℕ → ℕ
end_cost t None n = t.costs.node n
end_cost t (Some h) n = move_of t n h

-- a walk to which labels lead from a node
pub record IsTrip (t : Task) (inside : ℕ → Bool) (head : Option ℕ) (laps : ℕ → ℕ) (rank : ℕ → ℕ) (n : ℕ) (rest : List ℕ) (one : Label) : Type 0 where
  pub walk : IsWalk (is_edge t.graph) n rest
  pub forward : IsForward t.loops n rest
  pub stays : AreInside inside rest
  pub falls : (limit : ℕ) → rank n ≤ limit → AreInside (λ m. ltb (rank m) limit) rest
  pub back : (h : ℕ) → head ≡ Some h → is_edge t.graph (end_of n rest) h ≡ true
  pub cost : one.cost ≡ cap (toll t.costs laps n rest + end_cost t head (end_of n rest))

-- labels of one pass over an order of some nodes
module _ (t : Task) (inside : ℕ → Bool) (order : List ℕ) (is : IsForwardOrder (is_edge t.graph) t.loops inside order) (head : Option ℕ)
    (node : List ℕ) (steps : List (Vec Step Global))
    (laps : List ℕ) (labels : List (Option Label)) (passed : ArePassed order head node steps laps labels)
    (nodes : (n : ℕ) → get_or node n 0 ≡ t.costs.node n) (rows : (n : ℕ) → steps_at steps n ≡ moves (λ m. cap (move_of t n m)) (row_of t n)) where
  outside : (n : ℕ) → inside n ≡ false → label_at labels n ≡ None
  outside n o = passed.others n (is.sorted.same n ∙ o)

  next_at : (k : ℕ) → k < length order → label_at labels (get_or order k 0)
      ≡ best_of cap head (λ m. get_or laps m 0) (only (goes t inside (get_or order k 0)) (label_at labels))
      (start_at head (cap (t.costs.node (get_or order k 0))))
      (moves (λ m. cap (move_of t (get_or order k 0) m)) (row_of t (get_or order k 0)))
  next_at k l =
      let n : ℕ = get_or order k 0 in
      passed.labelled k l
      ∙ (ap (λ (c : ℕ). best_of cap head (λ m. get_or laps m 0) (only (has (take k order)) (label_at labels)) (start_at head (cap c))
      (steps_at steps n)) (nodes n)
      ∙ (ap (λ (s : List Step). best_of cap head (λ m. get_or laps m 0) (only (has (take k order)) (label_at labels))
      (start_at head (cap (t.costs.node n))) s) (rows n)
      ∙ best_same cap head (λ m. get_or laps m 0) (λ m. get_or laps m 0) (only (has (take k order)) (label_at labels))
      (only (goes t inside n) (label_at labels)) (λ m. cap (move_of t n m)) (row_of t n)
      (start_at head (cap (t.costs.node n)))
      (λ m e. ap (λ (o : Option Label). cond (is_end head m) (Some (record { cost = cap (move_of t n m); next = None }))
      (behind cap (λ m. get_or laps m 0) (step_to (λ m. cap (move_of t n m)) m) o))
      (only_both (has (take k order) m) (goes t inside n m) (label_at labels m)
      (λ h. two_true (inside m) (not (is_back t.loops n m)) (earlier k m h) (ap not (is.forward k m l e h)))
      (λ h. inl (is.sorted.before k m l (goes_inside t inside n m h) e (goes_forward t inside n m h)))))))
    where
      taken : (i : ℕ) (xs : List ℕ) (m : ℕ) → has (take i xs) m ≡ true → has xs m ≡ true
      taken zero xs m h = cc
      taken (suc i) [] m h = cc
      taken (suc i) (x ∷ xs) m h = elim (eqb_tells m x) [
        | inl a ↦ ap (λ (b : Bool). b || has xs m) a.0
        | inr a ↦ or_right (m == x) (has xs m) (taken i xs m (sym (ap (λ (b : Bool). b || has (take i xs) m) a.0) ∙ h))
      ]

      earlier : (k m : ℕ) → has (take k order) m ≡ true → inside m ≡ true
      earlier k m h = sym (is.sorted.same m) ∙ taken k order m h

  pub told_next : (n : ℕ) → IsAt order n → label_at labels n
      ≡ best_of cap head (λ m. get_or laps m 0) (only (goes t inside n) (label_at labels)) (start_at head (cap (t.costs.node n)))
      (moves (λ m. cap (move_of t n m)) (row_of t n))
  told_next n at = subst (λ (x : ℕ). label_at labels x
      ≡ best_of cap head (λ m. get_or laps m 0) (only (goes t inside x) (label_at labels)) (start_at head (cap (t.costs.node x)))
      (moves (λ m. cap (move_of t x m)) (row_of t x)))
      at.is (next_at at.place at.within)

  module _ (rank : ℕ → ℕ) (size : ℕ) (small : (n : ℕ) → rank n < size)
      (falls : (n m : ℕ) → is_edge t.graph n m ≡ true → is_back t.loops n m ≡ false → rank m < rank n)
      (all : (n : ℕ) → inside n ≡ true → IsAt order n) (costs : ℕ → ℕ)
      (told : (m : ℕ) → inside m ≡ true → is_end head m ≡ false → get_or laps m 0 ≡ cap (costs m)) where
    capped_by : (k n : ℕ) → rank n < k → inside n ≡ true → IsCapped (label_at labels n) (labels_by t inside head costs size n)
    capped_by zero n l i = absurd (omega (arith, l))
    capped_by (suc k) n l i =
        let a : label_at labels n
        ≡ best_of cap head (λ m. get_or laps m 0) (only (goes t inside n) (label_at labels)) (start_at head (cap (t.costs.node n)))
        (moves (λ m. cap (move_of t n m)) (row_of t n)) =
        told_next n (all n i) in
        let b : labels_by t inside head costs size n ≡ label_next t inside head costs (labels_by t inside head costs size) n =
        label_fixed t rank size small falls inside head costs n in
        let c : IsCapped (best_of cap head (λ m. get_or laps m 0) (only (goes t inside n) (label_at labels)) (start_at head (cap (t.costs.node n)))
        (moves (λ m. cap (move_of t n m)) (row_of t n)))
        (label_next t inside head costs (labels_by t inside head costs size) n) =
        best_capped head (λ m. get_or laps m 0) costs (only (goes t inside n) (label_at labels))
        (only (goes t inside n) (labels_by t inside head costs size)) (move_of t n) (row_of t n)
        (start_at head (cap (t.costs.node n))) (start_at head (t.costs.node n)) (start_capped head (t.costs.node n))
        (λ m e. asked_capped (is_end head m) (λ m. get_or laps m 0) costs (move_of t n) m (only (goes t inside n) (label_at labels) m)
        (only (goes t inside n) (labels_by t inside head costs size) m)
        (λ o x q. told m (goes_inside t inside n m (of_one (goes t inside n m) (label_at labels m) x q)) o)
        (λ o. of_two (goes t inside n m) (label_at labels m) (labels_by t inside head costs size m)
        (λ g. capped_by k m (let r : rank m < rank n = falls n m e (goes_forward t inside n m g) in omega (arith, l, r)) (goes_inside t inside n m g)))) in
        subst (λ (o : Option Label). IsCapped o (labels_by t inside head costs size n)) (sym a)
        (subst (λ (o : Option Label). IsCapped
        (best_of cap head (λ m. get_or laps m 0) (only (goes t inside n) (label_at labels)) (start_at head (cap (t.costs.node n)))
        (moves (λ m. cap (move_of t n m)) (row_of t n))) o) (sym b) c)
      where
        of_two : (g : Bool) (o p : Option Label) → (g ≡ true → IsCapped o p) → IsCapped (cond g o None) (cond g p None)
        of_two true o p f = f refl
        of_two false o p f = tt

        of_one : (g : Bool) (o : Option Label) (x : Label) → cond g o None ≡ Some x → g ≡ true
        of_one true o x e = refl
        of_one false o x e = cc

    -- a label in the list is the true one, capped
    pub told_capped : (n : ℕ) → inside n ≡ true → IsCapped (label_at labels n) (labels_by t inside head costs size n)
    told_capped n i = capped_by (suc (rank n)) n (omega arith) i

  module _ (rank : ℕ → ℕ) (falls : (n m : ℕ) → is_edge t.graph n m ≡ true → is_back t.loops n m ≡ false → rank m < rank n)
      (all : (n : ℕ) → inside n ≡ true → IsAt order n) where
    ended : (h : Option ℕ) (n : ℕ) (one : Label) → head ≡ h → IsEnding t h n (λ i m. cap (move_of t i m)) one
        → IsTrip t inside h (λ m. get_or laps m 0) rank n [] one
    ended None n one e x = let o : false ≡ true = x.ends in cc
    ended (Some h) n one e x =
        let same : h ≡ x.node = equal h x.node x.ends in
        let q : one.cost ≡ cap (move_of t n x.node) = ap (λ (o : Label). o.cost) x.is in
        record {
          walk = tt;
          forward = tt;
          stays = tt;
          falls = λ limit l. tt;
          back = λ k f. subst (λ (y : ℕ). is_edge t.graph n y ≡ true) (sym same ∙ some_is f) x.leads;
          cost = q ∙ (ap (λ (y : ℕ). cap (move_of t n y)) (sym same) ∙ ap (λ (y : ℕ). cap y) (sym (zero-add (move_of t n h))));
        }
      where
        equal : (a b : ℕ) → (a == b) ≡ true → a ≡ b
        equal a b u = elim (eqb_tells a b) [ inl q ↦ q.1 | inr q ↦ let f : (a == b) ≡ false = q.0 in cc ]

    begun : (h : Option ℕ) (n : ℕ) (one : Label) → start_at h (cap (t.costs.node n)) ≡ Some one → IsTrip t inside h (λ m. get_or laps m 0) rank n [] one
    begun None n one e = record {
      walk = tt;
      forward = tt;
      stays = tt;
      falls = λ limit l. tt;
      back = λ k f. cc;
      cost = ap (λ (o : Label). o.cost) (sym (some_is e)) ∙ ap (λ (y : ℕ). cap y) (sym (zero-add (t.costs.node n)));
    }
    begun (Some h) n one e = cc

    arrived : (n m : ℕ) (rest : List ℕ) (one two : Label) → is_edge t.graph n m ≡ true → goes t inside n m ≡ true
        → one.cost ≡ cap (cap (cap (move_of t n m) + get_or laps m 0) + two.cost)
        → IsTrip t inside head (λ m. get_or laps m 0) rank m rest two → IsTrip t inside head (λ m. get_or laps m 0) rank n (m ∷ rest) one
    arrived n m rest one two e g q trip =
        let f : is_back t.loops n m ≡ false = goes_forward t inside n m g in
        let r : rank m < rank n = falls n m e f in
        record {
          walk = (e, trip.walk);
          forward = (f, trip.forward);
          stays = (goes_inside t inside n m g, trip.stays);
          falls = λ limit l. (lt-ltb (rank m) limit (omega (arith, r, l)), trip.falls limit (omega (arith, r, l)));
          back = trip.back;
          cost = q ∙ added (move_of t n m) (get_or laps m 0) two.cost (toll t.costs (λ m. get_or laps m 0) m rest)
              (end_cost t head (end_of m rest)) limit trip.cost;
        }
      where
        added : (c p a s z l : ℕ) → a ≡ min (s + z) l → min (min (min c l + p) l + a) l ≡ min (c + p + s + z) l
        added c p a s z l h = omega (arith, h)

    -- a label leads along a walk of its cost
    pub trip_of : (rest : List ℕ) (n : ℕ) (one : Label) → inside n ≡ true → label_at labels n ≡ Some one → Leads labels n rest
        → next_of (label_at labels (end_of n rest)) ≡ None
        → IsTrip t inside head (λ m. get_or laps m 0) rank n rest one
    trip_of [] n one i e leads ends =
        let last : one.next ≡ None = sym (ap next_of e) ∙ ends in
        elim (chosen_of t cap head (λ m. get_or laps m 0) (label_at labels) (goes t inside n) (λ i m. cap (move_of t i m)) n
        (start_at head (cap (t.costs.node n))) one (sym (told_next n (all n i)) ∙ e)) [
          | inl x ↦ begun head n one x
          | inr y ↦ elim y [
            | inl x ↦ ended head n one refl x
            | inr x ↦ let o : one.next ≡ Some x.node = ap (λ (o : Label). o.next) x.is in cc
          ]
        ]
    trip_of (m ∷ rest) n one i e leads ends =
        let first : one.next ≡ Some m = sym (ap next_of e) ∙ leads.0 in
        elim (chosen_of t cap head (λ m. get_or laps m 0) (label_at labels) (goes t inside n) (λ i m. cap (move_of t i m)) n
        (start_at head (cap (t.costs.node n))) one (sym (told_next n (all n i)) ∙ e)) [
          | inl x ↦ let o : one.next ≡ None = starts head (cap (t.costs.node n)) one x in cc
          | inr y ↦ elim y [
            | inl x ↦ let o : one.next ≡ None = ap (λ (o : Label). o.next) x.is in cc
            | inr x ↦
                let o : one.next ≡ Some x.node = ap (λ (o : Label). o.next) x.is in
                let same : x.node ≡ m = some_is (sym o ∙ first) in
                subst (λ (k : ℕ). IsTrip t inside head (λ m. get_or laps m 0) rank n (k ∷ rest) one) same
                (arrived n x.node rest one x.two x.leads x.may (ap (λ (o : Label). o.cost) x.is)
                (trip_of rest x.node x.two (goes_inside t inside n x.node x.may) x.there (subst (λ (k : ℕ). Leads labels k rest) (sym same) leads.1)
                (subst (λ (k : ℕ). next_of (label_at labels (end_of k rest)) ≡ None) (sym same) ends)))
          ]
        ]
      where
        starts : (h : Option ℕ) (c : ℕ) (one : Label) → start_at h c ≡ Some one → one.next ≡ None
        starts None c one e = ap (λ (o : Label). o.next) (sym (some_is e))
        starts (Some h) c one e = cc
