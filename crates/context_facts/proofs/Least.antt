-- The least local map of a context is its facts.
use Rattle.std.proofs.Common.{◌≡◌, ℕ, zero, suc, ◌<◌, Bool, true, false, List, [], ◌∷◌, length, Option, Some, None, Contains, IsTrue, refl, sym, ap}
use Rattle.std.proofs.Common.{subst, ◌∙◌, arith, inl, inr, if◌then◌else◌}
use Rattle.std.specs.Prelude.{◌==◌, is_some, slice_index_or}
use Rattle.std.specs.List.{All}
use Rattle.std.proofs.lemmas.Bool.{both_ways, cases_Bool, eq-eqb, false≢true}
use Rattle.std.proofs.lemmas.List.Elements.{All-contains}
use Rattle.call_effects.specs.declared.summary.Summary.{Summary as Effects}
use Rattle.value_lattice.specs.declared.value.Value.{Value}
use Rattle.value_lattice.specs.Thresholds.{IsThresholds}
use Rattle.abs_state.proofs.OrderLemmas.{states_are_ordered}
use Rattle.abs_state.proofs.WriteLemmas.{writes_stand}
use Rattle.abs_state.specs.State.{entry_state, is_at_most as is_state_at_most}
use Rattle.abs_state.specs.Key.{compare}
use Rattle.abs_state.specs.declared.key.Key.{Key}
use Rattle.abs_state.specs.declared.key.Key.TheVariants as key
use Rattle.abs_state.specs.declared.key.Next.{Next}
use Rattle.abs_state.specs.declared.key.Next.TheVariants.{At, Into, Back}
use Rattle.abs_state.specs.declared.key.Place.{Place}
use Rattle.flow_system.specs.Facts.{fact_at}
use Rattle.flow_system.specs.State.{AllFit, ContainsPiece, IsClosed}
use Rattle.local_facts.specs.Restricted.{IsLeastLocal, IsLocallyClosed, IsRestriction, beside as beside_fixed, is_listed}
use Rattle.transfer_rules.proofs.Closing.{state_above}
use Rattle.transfer_rules.proofs.FactOrder.{facts_onward, same_fact}
use Rattle.transfer_rules.proofs.FactKinds.{fitting}
use Rattle.transfer_rules.proofs.PieceLists.{IsAbove}
use Rattle.transfer_rules.proofs.Rising as rising
use Rattle.transfer_rules.proofs.System.{fit_stays}
use Rattle.transfer_rules.specs.Closed.{HasState}
use Rattle.transfer_rules.specs.Fact.{Piece, effects_in, fits, is_at_most, state_in}
use Rattle.transfer_rules.specs.Family.{Family, Program}
use Rattle.transfer_rules.specs.Give.{Facts, callee_of, entered_with, entry_of, gives, node_gives, pieces_of}
use Rattle.transfer_rules.specs.Lawful.{rules_of}
use Rattle.transfer_rules.specs.declared.fact.Fact.{Fact}
use Rattle.transfer_rules.specs.declared.fact.Fact.TheVariants as fact
use Rattle.context_facts.specs.Context.{AreLawful, IsAmong, IsContext, IsKept, LeastMapsAreContexts, is_local, with_others}

-- the state at an entry is at most itself
pub entry_up : (t : List ℕ) → IsThresholds t → is_state_at_most entry_state entry_state ≡ true
entry_up t is = states_are_ordered.same t entry_state (writes_stand.entry t is)

-- what is given looks at the fact there and at summaries
pub same_gives : (f : Family) (m : Program) (x y : Facts) (p : Place) → x (key.Node p) ≡ y (key.Node p) → ((q : ℕ) → x (key.Summary q) ≡ y (key.Summary q))
    → gives f m (key.Node p) x ≡ gives f m (key.Node p) y
same_gives f m x y p here there =
    ap (λ (o : Option Fact). pieces_of (state_in o) (node_gives f m p (callee_of p.next x))) here
    ∙ ap (λ (c : Option Effects). pieces_of (state_in (y (key.Node p))) (node_gives f m p c)) (callee p.next)
  where
    callee : (next : Next) → callee_of next x ≡ callee_of next y
    callee (At n) = refl
    callee (Into q) = ap effects_in (there q)
    callee Back = refl

-- what is given of lesser facts over more thresholds is among the facts of a closed state
pub given_among : (t more : List ℕ) (f g : Family) (m : Program) (x z : Facts) → AreLawful t more f g m → IsClosed (rules_of t f m) x
    → ((k : Key) (v : Fact) → z k ≡ Some v → fits more k v ≡ true) → ((k : Key) (v : Fact) → z k ≡ Some v → IsAmong x k v)
    → (p : Place) (k : Key) (v : Fact) → is_some (x (key.Node p)) ≡ true → Contains (gives g m (key.Node p) z) (k, v) → IsAmong x k v
given_among t more f g m x z lawful closed fit below p k v there has =
    let up = entry_up t lawful.coarse.thresholds in
    let covered =
    rising.gives_rise t more m up f g lawful.coarse lawful.fine lawful.finer z x fit closed.fit
    (record { fact = λ j w found. let a = below j w found in (a.fact, a.found, a.above) }) (key.Node p) in
    let above : IsAbove (gives f m (key.Node p) x) (k, v) = All-contains (IsAbove (gives f m (key.Node p) x)) (gives g m (key.Node p) z) (k, v) covered has in
    let in_x = closed.given (key.Node p) there k above.fact above.listed in
    record { fact = in_x.fact; found = in_x.found; above = facts_onward v above.fact in_x.fact above.above in_x.above }

only_piece : (one piece : Piece) → Contains (one ∷ []) piece → one ≡ piece
only_piece one piece has = by has.0 has.1 has.2 where
  by : (k : ℕ) → k < 1 → slice_index_or (one ∷ []) k piece ≡ piece → one ≡ piece
  by zero below is = is
  by (suc k) below is = absurd (omega arith)

module _ (t more : List ℕ) (f g : Family) (m : Program) (x : Facts) (sub : ℕ) (args : List Value) (keep : List Key) (fixed : List Piece)
    (lawful : AreLawful t more f g m) (closed : IsClosed (rules_of t f m) x) (entry : HasState x (entry_of sub) (entered_with args))
    (kept : IsKept x sub keep fixed) where
  -- the closed state at the kept keys
  abbrev within : Facts
  within k = if is_listed compare keep k then x k else None

  within_is : (k : Key) (v : Fact) → within k ≡ Some v → (x k ≡ Some v) × (is_listed compare keep k ≡ true)
  within_is k v = by (is_listed compare keep k) where
    by : (b : Bool) → (if b then x k else None) ≡ Some v → (x k ≡ Some v) × (b ≡ true)
    by true found = (found, refl)
    by false found = absurd (cc)

  within_at : (k : Key) → is_listed compare keep k ≡ true → within k ≡ x k
  within_at k listed = ap (λ (b : Bool). if b then x k else None) listed

  entry_listed : is_listed compare keep (key.Node (entry_of sub)) ≡ true
  entry_listed = (kept.keeps (key.Node (entry_of sub))).1 (eq-eqb sub sub refl, ap is_some entry.found)

  summary_out : (q : ℕ) → is_listed compare keep (key.Summary q) ≡ false
  summary_out q =
      elim (cases_Bool (is_listed compare keep (key.Summary q))) [
        | inl listed ↦ absurd (false≢true ((kept.keeps (key.Summary q)).0 listed).0)
        | inr out ↦ out
      ]

  -- the fixed facts beside a map are what is said of subprograms
  beside_summary : (s : Facts) (q : ℕ) → beside_fixed compare keep fixed s (key.Summary q) ≡ x (key.Summary q)
  beside_summary s q =
      ap (λ (b : Bool). if b then s (key.Summary q) else fact_at compare fixed (key.Summary q)) (summary_out q) ∙ kept.summaries q

  beside_node : (s : Facts) (p : Place) → is_listed compare keep (key.Node p) ≡ true → beside_fixed compare keep fixed s (key.Node p) ≡ s (key.Node p)
  beside_node s p listed = ap (λ (b : Bool). if b then s (key.Node p) else fact_at compare fixed (key.Node p)) listed

  pub same_beside : (s : Facts) (p : Place) → is_listed compare keep (key.Node p) ≡ true
      → gives g m (key.Node p) (beside_fixed compare keep fixed s) ≡ gives g m (key.Node p) (with_others s x)
  same_beside s p listed = same_gives g m (beside_fixed compare keep fixed s) (with_others s x) p (beside_node s p listed) (beside_summary s)

  fit_more : (k : Key) (v : Fact) → x k ≡ Some v → fits more k v ≡ true
  fit_more k v found = fit_stays t more k v lawful.finer.thresholds (closed.fit k v found)

  among_itself : (k : Key) (v : Fact) → x k ≡ Some v → IsAmong x k v
  among_itself k v found = record { fact = v; found = found; above = same_fact t v (fitting t k v (closed.fit k v found)).over }

  others_fit : (k : Key) (v : Fact) → with_others within x k ≡ Some v → x k ≡ Some v
  others_fit (key.Node p) v found = (within_is (key.Node p) v found).0
  others_fit (key.Edge p q) v found = (within_is (key.Edge p q) v found).0
  others_fit (key.Call p q) v found = (within_is (key.Call p q) v found).0
  others_fit (key.Summary q) v found = found
  others_fit (key.Gap q pc kind) v found = found

  within_closed : IsLocallyClosed compare (rules_of more g m) ((key.Node (entry_of sub), fact.State (entered_with args)) ∷ []) keep fixed within
  within_closed = record { kept = in_keep; fit = fit; starts = starts; given = given } where
    in_keep : (k : Key) → is_some (within k) ≡ true → IsTrue (is_listed compare keep k)
    in_keep k = by (is_listed compare keep k) where
      by : (b : Bool) → is_some (if b then x k else None) ≡ true → b ≡ true
      by true there = refl
      by false there = absurd (false≢true there)

    fit : (k : Key) (v : Fact) → within k ≡ Some v → fits more k v ≡ true
    fit k v found = fit_more k v (within_is k v found).0

    starts : (k : Key) (v : Fact) → Contains {X = Piece} ((key.Node (entry_of sub), fact.State (entered_with args)) ∷ []) (k, v)
        → ContainsPiece (rules_of more g m) within k v
    starts k v has =
        subst (λ (piece : Piece). ContainsPiece (rules_of more g m) within piece.0 piece.1)
        (only_piece (key.Node (entry_of sub), fact.State (entered_with args)) (k, v) has)
        (record { fact = fact.State entry.state; found = within_at (key.Node (entry_of sub)) entry_listed ∙ entry.found; above = entry.above })

    given : (k : Key) → is_some (within k) ≡ true → (j : Key) (v : Fact) → Contains (gives g m k (beside_fixed compare keep fixed within)) (j, v)
        → IsTrue (is_listed compare keep j) → ContainsPiece (rules_of more g m) within j v
    given (key.Node p) there j v has listed =
        let here = in_keep (key.Node p) there in
        let pieces : Contains (gives g m (key.Node p) (with_others within x)) (j, v) =
        subst (λ (ps : List Piece). Contains ps (j, v)) (same_beside within p here) has in
        let among = given_among t more f g m x (with_others within x) lawful closed (λ k w found. fit_more k w (others_fit k w found))
        (λ k w found. among_itself k w (others_fit k w found)) p j v
        (((kept.keeps (key.Node p)).0 here).1) pieces in
        record { fact = among.fact; found = within_at j listed ∙ among.found; above = among.above }
    given (key.Edge p q) there j v has listed = absurd (let low = has.1 in omega arith)
    given (key.Call p q) there j v has listed = absurd (let low = has.1 in omega arith)
    given (key.Summary q) there j v has listed = absurd (let low = has.1 in omega arith)
    given (key.Gap q pc kind) there j v has listed = absurd (let low = has.1 in omega arith)

  pub least_is_context : (s : Facts) → IsLeastLocal compare (rules_of more g m)
      ((key.Node (entry_of sub), fact.State (entered_with args)) ∷ []) keep fixed s → IsContext more g m x sub args s
  least_is_context s least = record { fit = least.closed.fit; enters = enters; local = local; below = below; given = given } where
    enters : HasState s (entry_of sub) (entered_with args)
    enters =
        let has = least.closed.starts (key.Node (entry_of sub)) (fact.State (entered_with args)) (0, omega arith, refl) in
        let state = state_above (entered_with args) has.fact has.above in
        record { state = state.0; found = has.found ∙ ap Some state.1; above = state.2 }

    local : (k : Key) → is_some (s k) ≡ true → is_local sub k ≡ true
    local k there = ((kept.keeps k).0 (least.closed.kept k there)).0

    below : (k : Key) (v : Fact) → s k ≡ Some v → IsAmong x k v
    below k v found =
        let has = least.least within within_closed k v found in
        record { fact = has.fact; found = (within_is k has.fact has.found).0; above = has.above }

    given : (p : Place) (k : Key) (v : Fact) → is_some (s (key.Node p)) ≡ true → Contains (gives g m (key.Node p) (with_others s x)) (k, v)
        → is_local sub k ≡ true → is_some (x k) ≡ true → IsAmong s k v
    given p k v there has own known =
        let here = least.closed.kept (key.Node p) there in
        let pieces : Contains (gives g m (key.Node p) (beside_fixed compare keep fixed s)) (k, v) =
        subst (λ (ps : List Piece). Contains ps (k, v)) (sym (same_beside s p here)) has in
        let in_s = least.closed.given (key.Node p) there k v pieces ((kept.keeps k).1 (own, known)) in
        record { fact = in_s.fact; found = in_s.found; above = in_s.above }

-- the least local map of a context, over the program points, edges and calls that a closed state has of its subprogram,
-- is the facts of the context: it is below the closed state, though its thresholds are more, because what is given rises
-- with facts and falls with thresholds
pub least_maps_are_contexts : LeastMapsAreContexts
least_maps_are_contexts t more f g m x sub args keep fixed s lawful closed entry kept restricts least =
    least_is_context t more f g m x sub args keep fixed lawful closed entry kept s least
