-- Inductions over closed states: a test that is handed on holds of what is due, and a finer system's due graph is below.
use Rattle.std.proofs.Common.{◌≡◌, Bool, true, false, cond, List, Option, Some, None, Ordering, IsSome, IsTrue, Contains, refl, sym, ap, ◌∙◌, subst}
use Rattle.flow_system.specs.Due.{IsDueKey, IsHandedOn, HasPassing, IsFiner}
use Rattle.flow_system.specs.Laws.{IsLawful}
use Rattle.flow_system.specs.Rules.{Rules}
use Rattle.flow_system.specs.State.{AllFit, ContainsPiece, ContainsAll, IsBelow, IsCovered, HasPieceAbove, IsClosed, IsDue, HoldsDue, IsDueGraph}

-- a state that has a piece has its key
has_key : {V : Type 0} (o : Option V) (v : V) → o ≡ Some v → IsSome o
has_key o v found = subst (λ x. IsSome x) (sym found) refl

module _ {K V : Type 0} (m : Rules K V) where
  -- the key of a due piece is due
  pub due_has_key : (k : K) (v : V) → IsDue m k v → IsDueKey m k
  due_has_key k v due s closed = let p = due s closed in has_key (s k) p.fact p.found

module _ {K V : Type 0} (cmp : K → K → Ordering) (m : Rules K V) (law : IsLawful cmp m) where
  -- the facts of two due graphs at a key are the same
  pub graph_same : (s t : K → Option V) → IsDueGraph m s → IsDueGraph m t → (k : K) → s k ≡ t k
  graph_same s t first second k = same_cases (s k) (t k) refl refl
    where
      fact_same : (v w : V) → s k ≡ Some v → t k ≡ Some w → v ≡ w
      fact_same v w here there =
          let up = first.least k v here t second.closed in
          let down = second.least k w there s first.closed in
          let is_w : up.fact ≡ w = let found = up.found in cc in
          let is_v : down.fact ≡ v = let found = down.found in cc in
          law.order.both k v w (first.closed.fit k v here) (second.closed.fit k w there) (subst (λ x. IsTrue (m.at_most v x)) is_w up.above)
          (subst (λ x. IsTrue (m.at_most w x)) is_v down.above)

      same_cases : (o p : Option V) → s k ≡ o → t k ≡ p → s k ≡ t k
      same_cases None None here there = cc
      same_cases None (Some w) here there = let found = (second.least k w there s first.closed).found in absurd (cc)
      same_cases (Some v) None here there = let found = (first.least k v here t second.closed).found in absurd (cc)
      same_cases (Some v) (Some w) here there = let is = fact_same v w here there in cc

module _ {K V : Type 0} (test : K → V → Bool) where
  -- a fact, where it passes
  abbrev pub kept : K → Option V → Option V
  kept k None = None
  kept k (Some v) = cond (test k v) (Some v) None

  kept_is : (k : K) (o : Option V) (v : V) → kept k o ≡ Some v → (o ≡ Some v) × (test k v ≡ true)
  kept_is k None v e = absurd (cc)
  kept_is k (Some w) v e = keep_cases (test k w) refl e
    where
      keep_cases : (b : Bool) → test k w ≡ b → cond b (Some w) None ≡ Some v → (Some w ≡ Some v) × (test k v ≡ true)
      keep_cases true t e = let is : w ≡ v = cc in (e, subst (λ x. test k x ≡ true) is t)
      keep_cases false t e = absurd (cc)

  kept_at : (s : K → Option V) (k : K) (v : V) → s k ≡ Some v → test k v ≡ true → kept k (s k) ≡ Some v
  kept_at s k v found passes = ap (kept k) found ∙ ap (λ b. cond b (Some v) None) passes

module _ {K V : Type 0} (cmp : K → K → Ordering) (m : Rules K V) (law : IsLawful cmp m) (s : K → Option V) (test : K → V → Bool) (closed : IsClosed m s)
    (on : IsHandedOn m s test) where
  -- the state's facts that pass
  abbrev pub passed : K → Option V
  passed k = kept test k (s k)

  passed_fit : AllFit m passed
  passed_fit k v found = closed.fit k v (kept_is test k (s k) v found).0

  passed_below : IsBelow m passed s
  passed_below k v found = record { fact = v; found = (kept_is test k (s k) v found).0; above = law.order.same k v (passed_fit k v found) }

  -- a piece that the state contains and that passes is contained in what passes
  passed_contains : (k : K) (v w : V) → IsTrue (m.fits k v) → IsTrue (m.fits k w) → IsTrue (m.at_most v w) → IsTrue (test k w) → ContainsPiece m s k w
      → ContainsPiece m passed k v
  passed_contains k v w fv fw up passes p = record {
    fact = p.fact;
    found = kept_at test s k p.fact p.found (on.greater k w p.fact fw (closed.fit k p.fact p.found) p.above passes);
    above = law.order.onward k v w p.fact fv fw (closed.fit k p.fact p.found) up p.above;
  }

  passed_given : (j : K) (o : Option V) → passed j ≡ o → IsSome o → ContainsAll m passed (m.gives j passed)
  passed_given j None e has k v listed = absurd (cc)
  passed_given j (Some u) e has k v listed =
      let own = kept_is test j (s j) u e in
      let c = law.monotone passed s passed_fit closed.fit passed_below j k v listed in
      passed_contains k v c.fact (law.fit.gives j passed passed_fit k v listed) (law.fit.gives j s closed.fit k c.fact c.listed) c.above
      (on.given j u own.0 own.1 k c.fact c.listed)
      (closed.given j (has_key (s j) u own.0) k c.fact c.listed)

  -- what passes is closed
  pub passed_closed : IsClosed m passed
  passed_closed = record {
    fit = passed_fit;
    starts = λ k v listed. passed_contains k v v (law.fit.starts k v listed) (law.fit.starts k v listed) (law.order.same k v (law.fit.starts k v listed))
        (on.starts k v listed) (closed.starts k v listed);
    given = λ j has. passed_given j (passed j) refl has;
  }

  -- at each due piece's key the state has a fact that is at least the piece's and passes
  pub due_passes : (k : K) (v : V) → IsDue m k v → HasPassing m s test k v
  due_passes k v due =
      let p = due passed passed_closed in
      let own = kept_is test k (s k) p.fact p.found in
      record { fact = p.fact; found = own.0; above = p.above; passes = own.1 }

module _ {K V : Type 0} (cmp : K → K → Ordering) (m : Rules K V) (law : IsLawful cmp m) (s : K → Option V) (test : K → V → Bool) (graph : IsDueGraph m s)
    (on : IsHandedOn m s test) where
  -- each fact of the due graph passes
  pub graph_passes : (k : K) (v : V) → s k ≡ Some v → IsTrue (test k v)
  graph_passes k v found =
      let p = due_passes cmp m law s test graph.closed on k v (graph.least k v found) in
      let is : p.fact ≡ v = let f = p.found in cc in
      subst (λ x. IsTrue (test k x)) is p.passes

module _ {K V : Type 0} (cmp cmp' : K → K → Ordering) (m n : Rules K V) (law : IsLawful cmp m) (other : IsLawful cmp' n) (finer : IsFiner m n) where
  -- pieces that are covered by what a state of the coarser system contains
  covered_in : (t : K → Option V) → AllFit n t → (pieces others : List (K × V)) → ((k : K) (v : V) → Contains pieces (k, v) → IsTrue (m.fits k v))
      → ((k : K) (v : V) → Contains others (k, v) → IsTrue (n.fits k v)) → IsCovered m pieces others → ContainsAll n t others → ContainsAll m t pieces
  covered_in t ft pieces others fp fo covered has k v listed =
      let c = covered k v listed in
      let p = has k c.fact c.listed in
      record {
        fact = p.fact;
        found = p.found;
        above = law.order.onward k v c.fact p.fact (fp k v listed) (finer.fits k c.fact (fo k c.fact c.listed)) (finer.fits k p.fact (ft k p.fact p.found))
            c.above (finer.order c.fact p.fact p.above);
      }

  -- a state that is closed in the coarser system is closed in the finer one
  pub closed_in_finer : (t : K → Option V) → IsClosed n t → IsClosed m t
  closed_in_finer t closed = record {
    fit = fit;
    starts = covered_in t closed.fit m.starts n.starts law.fit.starts other.fit.starts finer.starts closed.starts;
    given = λ k has. covered_in t closed.fit (m.gives k t) (n.gives k t) (law.fit.gives k t fit) (other.fit.gives k t closed.fit) (finer.gives k t closed.fit)
        (closed.given k has);
  }
    where
      fit : AllFit m t
      fit k v found = finer.fits k v (closed.fit k v found)

  -- so the finer system's due graph is below the coarser one's
  pub graph_below : (s t : K → Option V) → IsDueGraph m s → IsDueGraph n t → IsBelow m s t
  graph_below s t small great k v found = small.least k v found t (closed_in_finer t great.closed)
