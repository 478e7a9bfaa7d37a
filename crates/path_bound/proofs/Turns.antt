-- A turn more is taken, and what was taken stays.
use Rattle.std.proofs.Common.{◌≡◌, ◌≢◌, ◌==◌, ◌&&◌, ◌||◌, ◌⊎◌, ◌*◌, ◌-◌, ℕ, zero, suc, ◌+◌, ◌<◌, ◌≤◌, inl, inr, Bool, true, false, Option, Some, None}
use Rattle.std.proofs.Common.{List, [], ◌∷◌, length, map, take, set, get_or, cond, ltb, refl, sym, ap, subst, ◌∙◌, arith, Vec, Global}
use Rattle.std.specs.List.{slice_get}
use Rattle.std.proofs.lemmas.Bool.{eq-eqb, cases_lt, ltb-true}
use Rattle.std.proofs.lemmas.Bool.Decides.{eqb_tells}
use Rattle.std.proofs.lemmas.List.{length-set, get_or-set_same, get_or-set_other}
use Rattle.std.proofs.lemmas.Option.{slice_get-get_or, slice_get_past}
use Rattle.bt_base.specs.Graph.{has, is_edge}
use Rattle.graph_laws.specs.Walk.{IsWalk, AreInside, end_of}
use Rattle.graph_laws.specs.Loops.{is_back, IsForward}
use Rattle.graph_laws.specs.Forward.{HasTurn}
use Rattle.graph_laws.proofs.Nests.{neither}
use Rattle.graph_laws.proofs.Stretches.{tells}
use Rattle.loop_nest.proofs.Lists.{has_take_more}
use Rattle.loop_nest.specs.declared.natural_loop.Loop.{Loop}
use Rattle.path_bound.specs.declared.choosing.Label.{Label}
use Rattle.path_bound.specs.declared.long_walk.Turn.{Turn}
use Rattle.path_bound.specs.declared.stepping.Step.{Step}
use Rattle.path_bound.specs.Capped.{cap}
use Rattle.path_bound.specs.Choosing.{label_at, is_end, cost_of}
use Rattle.path_bound.specs.Exact.{Task, row_of, move_of, labels_by, laps_of}
use Rattle.path_bound.specs.LongWalk.{rest_of}
use Rattle.path_bound.specs.Places.{place_of}
use Rattle.path_bound.specs.Ranked.{rank_in, IsForwardOrder}
use Rattle.path_bound.specs.Steps.{moves, steps_at}
use Rattle.path_bound.specs.Turned.{size_of, IsGround, IsTurnOf, IsTurnAt, AreTurnedUpTo}
use Rattle.path_bound.specs.Turning.{ArePassed, IsFollowed, IsTaken}
use Rattle.path_bound.proofs.Best.{IsLabel}
use Rattle.path_bound.proofs.Final.{lap_capped, AreEven, toll_same}
use Rattle.path_bound.proofs.Fixed.{laps_fixed}
use Rattle.path_bound.proofs.Labelled.{going, ending}
use Rattle.path_bound.proofs.Ordered.{rank_most, rank_taken, taken_rank, place_in}
use Rattle.path_bound.proofs.Told.{IsAt, IsCapped, told_capped, IsTrip, trip_of}

some_eq : {A : Type 0} {x y : A} → Some x ≡ Some y → x ≡ y
some_eq e = cc

equal : (a b : ℕ) → (a == b) ≡ true → a ≡ b
equal a b t = elim (eqb_tells a b) [ inl q ↦ q.1 | inr q ↦ let f : (a == b) ≡ false = q.0 in cc ]

or_right : (a b : Bool) → b ≡ true → (a || b) ≡ true
or_right true b h = refl
or_right false b h = h

or_left : (a b : Bool) → a ≡ true → (a || b) ≡ true
or_left true b h = refl
or_left false b h = cc

or_cases : (a b : Bool) → (a || b) ≡ true → (a ≡ true) ⊎ (b ≡ true)
or_cases true b h = inl refl
or_cases false b h = inr h

-- an element that is written
pub get_written : {A : Type 0} (xs : List A) (k : ℕ) (x : A) → k < length xs → slice_get (set xs k x) k ≡ Some x
get_written xs k x l =
    let s : length (set xs k x) ≡ length xs = length-set xs k x in
    slice_get-get_or (set xs k x) k x (omega (arith, l, s)) ∙ ap (λ y. Some y) (get_or-set_same xs k x x l)

pub get_unwritten : {A : Type 0} (xs : List A) (k j : ℕ) (x : A) → j ≢ k → slice_get (set xs k x) j ≡ slice_get xs j
get_unwritten xs k j x ne =
    let s : length (set xs k x) ≡ length xs = length-set xs k x in
    elim (cases_lt j (length xs)) [
      | inl l ↦
          slice_get-get_or (set xs k x) j x (omega (arith, l, s))
          ∙ (ap (λ y. Some y) (get_or-set_other xs k j x x ne) ∙ sym (slice_get-get_or xs j x l))
      | inr l ↦ slice_get_past (set xs k x) j (omega (arith, l, s)) ∙ sym (slice_get_past xs j l)
    ]

map_written : (xs : List Turn) (k : ℕ) (x : Turn) → ((was : Turn) → slice_get xs k ≡ Some was → x.head ≡ was.head)
    → map (λ (one : Turn). one.head) (set xs k x) ≡ map (λ (one : Turn). one.head) xs
map_written [] k x h = refl
map_written (y ∷ xs) zero x h = ap (λ (n : ℕ). n ∷ map (λ (one : Turn). one.head) xs) (h y refl)
map_written (y ∷ xs) (suc k) x h = ap (λ (l : List ℕ). y.head ∷ l) (map_written xs k x h)

-- the cost of a capped label is that of the true one, capped
pub capped_cost : (o p : Option Label) → IsCapped o p → cost_of o ≡ cap (cost_of p)
capped_cost None None c = refl
capped_cost None (Some b) c = absurd c
capped_cost (Some a) None c = absurd c
capped_cost (Some a) (Some b) c = c

-- where the true label is there, the capped one is
pub capped_some : (o p : Option Label) (b : ℕ) → IsCapped o p → IsLabel p b → (a : Label) × (o ≡ Some a)
capped_some None None b c l = let e : None ≡ Some l.one = l.is in cc
capped_some None (Some x) b c l = absurd c
capped_some (Some a) p b c l = (a, refl)

module _ (t : Task) (loops : List Loop) (order : List ℕ) (ground : IsGround t order) where
  -- each place in the order is below its size
  pub small : (n : ℕ) → rank_in order n < size_of order
  small n = let r : rank_in order n ≤ length order = rank_most order n in omega (arith, r)

  -- what is told of the laps of a head, and of another node
  pub laps_told : (laps : ℕ → ℕ) (turns : List Turn) (h : ℕ) → t.loops.has h ≡ true → IsTurnAt t order laps turns (place_of loops h) h
      → laps h ≡ cap (laps_of t (size_of order) h)
  laps_told laps turns h a at =
      at.turn.lap
      ∙ (ap (λ (c : ℕ). cap ((t.bound h - 1) * c)) at.greatest
      ∙ (lap_capped (t.bound h - 1) (cost_of (labels_by t (t.loops.body h) (Some h) (laps_of t (size_of order)) (size_of order) h))
      ∙ ap (λ (c : ℕ). cap c) (sym (laps_fixed t (rank_in order) (size_of order) small ground.falls ground.inner h
      ∙ ap (λ (b : Bool). cond b ((t.bound h - 1) * cost_of (labels_by t (t.loops.body h) (Some h) (laps_of t (size_of order)) (size_of order) h)) 0) a))))

  -- a node that is no head has no laps
  pub no_laps : (n : ℕ) → t.loops.has n ≡ false → laps_of t (size_of order) n ≡ 0
  no_laps n o =
      laps_fixed t (rank_in order) (size_of order) small ground.falls ground.inner n
      ∙ ap (λ (b : Bool). cond b ((t.bound n - 1) * cost_of (labels_by t (t.loops.body n) (Some n) (laps_of t (size_of order)) (size_of order) n)) 0) o

  -- a head has a label: that of a turn at least
  labelled : (h n : ℕ) (rest : List ℕ) → t.loops.has h ≡ true → IsWalk (is_edge t.graph) n rest → AreInside (t.loops.body h) rest
      → IsForward t.loops n rest → is_edge t.graph (end_of n rest) h ≡ true
      → t.loops.body h n ≡ true → IsLabel (labels_by t (t.loops.body h) (Some h) (laps_of t (size_of order)) (size_of order) n) 0
  labelled h n [] a w s f e b =
      let l : IsLabel (labels_by t (t.loops.body h) (Some h) (laps_of t (size_of order)) (size_of order) n) (move_of t n h) =
      ending t (λ _. true) (rank_in order) (size_of order) small ground.falls ground.inner (λ x y z. refl) (t.loops.body h) (Some h) n h e (eq-eqb h h refl) in
      record { one = l.one; is = l.is; least = omega arith }
  labelled h n (m ∷ rest) a w s f e b =
      let next : IsLabel (labels_by t (t.loops.body h) (Some h) (laps_of t (size_of order)) (size_of order) m) 0 = labelled h m rest a w.1 s.1 f.1 e s.0 in
      let l : IsLabel (labels_by t (t.loops.body h) (Some h) (laps_of t (size_of order)) (size_of order) n)
      (move_of t n m + laps_of t (size_of order) m + next.one.cost) =
      going t (λ _. true) (rank_in order) (size_of order) small ground.falls ground.inner (λ x y z. refl) (t.loops.body h)
      (Some h) n m next.one w.0 f.0 s.0 other next.is in
      record { one = l.one; is = l.is; least = omega arith }
    where
      other : is_end (Some h) m ≡ false
      other = elim (eqb_tells h m) [
        | inl q ↦
            let k : is_back t.loops n h ≡ true = ap (λ (x : Bool). x && t.loops.body h n) a ∙ b in
            let g : is_back t.loops n h ≡ false = ap (is_back t.loops n) q.1 ∙ f.0 in cc
        | inr q ↦ q.0
      ]

  pub head_labelled : (h : ℕ) → t.loops.has h ≡ true → IsLabel (labels_by t (t.loops.body h) (Some h) (laps_of t (size_of order)) (size_of order) h) 0
  head_labelled h a = let k : HasTurn (is_edge t.graph) t.loops h = ground.turns h a in labelled h h k.rest a k.walk k.inside k.forward k.back (ground.head h a)

  -- turns by laps that are the same at lower nodes
  kept_turn : (laps others : ℕ → ℕ) (h : ℕ) (walk : List ℕ) (cost : ℕ) → ((m : ℕ) → rank_in order m < rank_in order h → laps m ≡ others m) → laps h ≡ others h
      → IsTurnOf t (rank_in order) laps h walk cost → IsTurnOf t (rank_in order) others h walk cost
  kept_turn laps others h walk cost same here is = record {
    walked = is.walked;
    forward = is.forward;
    stays = is.stays;
    lower = is.lower;
    back = is.back;
    told = is.told ∙ ap (λ (s : ℕ). cap (s + move_of t (end_of h walk) h)) (toll_same t.costs laps others h walk (even walk is.lower));
    lap = sym here ∙ is.lap;
  }
    where
      even : (rest : List ℕ) → AreInside (λ m. ltb (rank_in order m) (rank_in order h)) rest → AreEven laps others rest
      even [] low = tt
      even (m ∷ rest) low = (same m (ltb-true (rank_in order m) (rank_in order h) low.0), even rest low.1)

  taken_later : (i h x : ℕ) → i < length order → x ≡ get_or order i 0 → has (take (i + 1) order) h ≡ true → (h ≡ x) ⊎ (has (take i order) h ≡ true)
  taken_later i h x l e b = elim (or_cases (has (take i order) h) (h == get_or order i 0) (sym (has_take_more order i h l) ∙ b)) [
    | inl a ↦ inr a
    | inr a ↦ inl (equal h (get_or order i 0) a ∙ sym e)
  ]

  -- no laps and no turn are told of a node that is no head
  pub turned_past : (i : ℕ) (laps : List ℕ) (turns : List Turn) → i < length order → t.loops.has (get_or order i 0) ≡ false
      → AreTurnedUpTo t loops order i laps turns → AreTurnedUpTo t loops order (i + 1) laps turns
  turned_past i laps turns l o was = record {
    heads = was.heads;
    others = λ n h. elim h [
      | inl a ↦ was.others n (inl a)
      | inr a ↦ was.others n (inr ((neither (has (take i order) n) (n == get_or order i 0) (sym (has_take_more order i n l) ∙ a)).0))
    ];
    each = λ h a b. elim (taken_later i h (get_or order i 0) l refl b) [
      | inl q ↦ let f : t.loops.has h ≡ false = ap t.loops.has q ∙ o in cc
      | inr q ↦ was.each h a q
    ];
  }

  module _ (i : ℕ) (l : i < length order) (x : ℕ) (here : x ≡ get_or order i 0) (head : t.loops.has x ≡ true) (one : Loop) (named : one.head ≡ x)
      (at_place : (n : ℕ) → t.loops.body x n ≡ has one.body.items n)
      (node : List ℕ) (steps : List (Vec Step Global)) (nodes_cost : (n : ℕ) → get_or node n 0 ≡ t.costs.node n)
      (rows : (n : ℕ) → steps_at steps n ≡ moves (λ m. cap (move_of t n m)) (row_of t n)) (laps : List ℕ) (turns : List Turn)
      (was : AreTurnedUpTo t loops order i laps turns) where
    low : (m : ℕ) → rank_in order m < rank_in order x → rank_in order m < i
    low m r =
        let e : rank_in order x ≤ i = first in omega (arith, r, e)
      where
        first : rank_in order x ≤ i
        first = elim (cases_lt i (rank_in order x)) [
          | inl a ↦
              let t1 : has (take (i + 1) order) x ≡ true =
              has_take_more order i x l ∙ or_right (has (take i order) x) (x == get_or order i 0) (eq-eqb x (get_or order i 0) here) in
              let r1 : rank_in order x < i + 1 = rank_taken order (i + 1) x t1 in absurd (omega (arith, a, r1))
          | inr a ↦ a
        ]

    -- what is told of the laps of the nodes inside
    inner_told : (m : ℕ) → t.loops.body x m ≡ true → is_end (Some x) m ≡ false → get_or laps m 0 ≡ cap (laps_of t (size_of order) m)
    inner_told m b e =
        let r : rank_in order m < rank_in order x = ground.inner x m head b (λ q. let f : (x == m) ≡ true = eq-eqb x m q in cc) in
        by (tells (t.loops.has m)) (low m r)
      where
        by : (t.loops.has m ≡ true) ⊎ (t.loops.has m ≡ false) → rank_in order m < i → get_or laps m 0 ≡ cap (laps_of t (size_of order) m)
        by (inl a) r = laps_told (λ n. get_or laps n 0) turns m a (was.each m a (taken_rank order i m (ground.placed m a) r))
        by (inr a) r = was.others m (inl a) ∙ ap (λ (c : ℕ). cap c) (sym (no_laps m a))

    module _ (place bound : ℕ) (placed : place_of loops x ≡ place) (bound_is : bound ≡ t.bound x) (new : List ℕ) (after : List Turn)
        (within : x < length laps) (there : place < length turns)
        (apart : (h : ℕ) → t.loops.has h ≡ true → h ≢ x → place_of loops h ≢ place)
        (taken : IsTaken (is_edge t.graph) t.loops one bound place node steps laps new turns after) where
      sorted : IsForwardOrder (is_edge t.graph) t.loops (t.loops.body x) taken.nodes
      sorted = ground.forward x taken.nodes head
          (record {
            same = λ n. taken.sorted.same n ∙ sym (at_place n);
            once = taken.sorted.once;
            before = λ k m a b. taken.sorted.before k m a (sym (at_place m) ∙ b);
          })

      passed : ArePassed taken.nodes (Some x) node steps laps taken.labels
      passed = subst (λ (h : ℕ). ArePassed taken.nodes (Some h) node steps laps taken.labels) named taken.passed

      all : (n : ℕ) → t.loops.body x n ≡ true → IsAt taken.nodes n
      all n b = place_in taken.nodes n (sorted.sorted.same n ∙ b)

      cost_is : taken.turn.cost ≡ cost_of (label_at taken.labels x)
      cost_is = taken.cost ∙ ap (λ (h : ℕ). cost_of (label_at taken.labels h)) named

      like : IsCapped (label_at taken.labels x) (labels_by t (t.loops.body x) (Some x) (laps_of t (size_of order)) (size_of order) x)
      like = told_capped t (t.loops.body x) taken.nodes sorted (Some x) node steps laps taken.labels passed nodes_cost rows (rank_in order)
          (size_of order) small ground.falls all (laps_of t (size_of order)) inner_told x (ground.head x head)

      label : (a : Label) × (label_at taken.labels x ≡ Some a)
      label = let l : IsLabel (labels_by t (t.loops.body x) (Some x) (laps_of t (size_of order)) (size_of order) x) 0 = head_labelled x head in
          capped_some (label_at taken.labels x) (labels_by t (t.loops.body x) (Some x) (laps_of t (size_of order)) (size_of order) x) 0 like l

      followed : IsFollowed taken.labels x taken.turn.walk.items
      followed = subst (λ (h : ℕ). IsFollowed taken.labels h taken.turn.walk.items) named taken.followed

      trip : IsTrip t (t.loops.body x) (Some x) (λ m. get_or laps m 0) (rank_in order) x followed.rest label.0
      trip = trip_of t (t.loops.body x) taken.nodes sorted (Some x) node steps laps taken.labels passed nodes_cost rows
          (rank_in order) ground.falls all followed.rest x label.0 (ground.head x head) label.1 followed.leads followed.ends

      rest_is : rest_of taken.turn.walk.items ≡ followed.rest
      rest_is = ap rest_of followed.begins

      late : rank_in order x < i → ⊥
      late r =
          let a : has (take i order) x ≡ true = taken_rank order i x (ground.placed x head) r in
          let b : has (take i order) x ≡ false = ap (has (take i order)) here ∙ ground.once i l in cc

      new_at : get_or new x 0 ≡ cap ((t.bound x - 1) * taken.turn.cost)
      new_at =
          ap (λ (s : List ℕ). get_or s x 0) taken.laps
          ∙ (ap (λ (h : ℕ). get_or (set laps h (cap ((bound - 1) * taken.turn.cost))) x 0) named
          ∙ (get_or-set_same laps x (cap ((bound - 1) * taken.turn.cost)) 0 within ∙ ap (λ (b : ℕ). cap ((b - 1) * taken.turn.cost)) bound_is))

      new_other : (m : ℕ) → m ≢ x → get_or new m 0 ≡ get_or laps m 0
      new_other m ne =
          ap (λ (s : List ℕ). get_or s m 0) taken.laps
          ∙ (ap (λ (h : ℕ). get_or (set laps h (cap ((bound - 1) * taken.turn.cost))) m 0) named
          ∙ get_or-set_other laps x m (cap ((bound - 1) * taken.turn.cost)) 0 ne)

      lower_other : (m h : ℕ) → rank_in order m < rank_in order h → rank_in order h ≤ rank_in order x → m ≢ x
      lower_other m h r s e = omega (arith, r, s, ap (rank_in order) e)

      here_turn : IsTurnOf t (rank_in order) (λ m. get_or new m 0) x (rest_of taken.turn.walk.items) taken.turn.cost
      here_turn = subst (λ (w : List ℕ). IsTurnOf t (rank_in order) (λ m. get_or new m 0) x w taken.turn.cost) (sym rest_is) (record {
        walked = trip.walk;
        forward = trip.forward;
        stays = trip.stays;
        lower = trip.falls (rank_in order x) (omega arith);
        back = trip.back x refl;
        told = cost_is ∙ (ap cost_of label.1 ∙ (trip.cost ∙ ap (λ (s : ℕ). cap (s + move_of t (end_of x followed.rest) x))
            (toll_same t.costs (λ m. get_or laps m 0) (λ m. get_or new m 0) x followed.rest
            (even followed.rest (trip.falls (rank_in order x) (omega arith))))));
        lap = new_at;
      })
        where
          even : (rest : List ℕ) → AreInside (λ m. ltb (rank_in order m) (rank_in order x)) rest → AreEven (λ m. get_or laps m 0) (λ m. get_or new m 0) rest
          even [] b = tt
          even (m ∷ rest) b = (sym (new_other m (lower_other m x (ltb-true (rank_in order m) (rank_in order x) b.0) (omega arith))), even rest b.1)

      -- one turn more is settled
      pub turned_on : AreTurnedUpTo t loops order (i + 1) new after
      turned_on = record {
        heads = ap (λ (s : List Turn). map (λ (y : Turn). y.head) s) taken.turns ∙ (map_written turns place taken.turn taken.named ∙ was.heads);
        others = λ n h. elim (eqb_tells n x) [
          | inl q ↦ absurd (elim h [
            | inl a ↦ let f : t.loops.has n ≡ true = ap t.loops.has q.1 ∙ head in cc
            | inr a ↦
                let f : has (take (i + 1) order) n ≡ true =
                has_take_more order i n l ∙ or_right (has (take i order) n) (n == get_or order i 0)
                (eq-eqb n (get_or order i 0) (q.1 ∙ here)) in cc
          ])
          | inr q ↦ new_other n q.1 ∙ was.others n (elim h [
            | inl a ↦ inl a
            | inr a ↦ inr ((neither (has (take i order) n) (n == get_or order i 0) (sym (has_take_more order i n l) ∙ a)).0)
          ])
        ];
        each = λ h a b. elim (eqb_tells h x) [
          | inl q ↦ subst (λ (k : ℕ). IsTurnAt t order (λ m. get_or new m 0) after (place_of loops k) k) (sym q.1) (record {
            one = taken.turn;
            at = ap (slice_get after) placed ∙ (ap (λ (s : List Turn). slice_get s place) taken.turns ∙ get_written turns place taken.turn there);
            begins = followed.begins ∙ ap (λ (s : List ℕ). x ∷ s) (sym rest_is);
            turn = here_turn;
            greatest = cost_is ∙ capped_cost (label_at taken.labels x)
                (labels_by t (t.loops.body x) (Some x) (laps_of t (size_of order)) (size_of order) x) like;
          })
          | inr q ↦ earlier h a q.1 (elim (taken_later i h x l here b) [ inl e ↦ absurd (q.1 e) | inr e ↦ e ])
        ];
      }
        where
          earlier : (h : ℕ) → t.loops.has h ≡ true → h ≢ x → has (take i order) h ≡ true → IsTurnAt t order (λ m. get_or new m 0) after (place_of loops h) h
          earlier h a ne b =
              let w : IsTurnAt t order (λ m. get_or laps m 0) turns (place_of loops h) h = was.each h a b in
              let r : rank_in order h < i = rank_taken order i h b in
              record {
                one = w.one;
                at = ap (λ (s : List Turn). slice_get s (place_of loops h)) taken.turns
                    ∙ (get_unwritten turns place (place_of loops h) taken.turn (apart h a ne) ∙ w.at);
                begins = w.begins;
                turn = kept_turn (λ m. get_or laps m 0) (λ m. get_or new m 0) h (rest_of w.one.walk.items) w.one.cost
                    (λ m s. sym (new_other m (λ q. late (omega (arith, r, s, ap (rank_in order) q))))) (sym (new_other h ne)) w.turn;
                greatest = w.greatest;
              }
