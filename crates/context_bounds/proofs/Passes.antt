-- An induction over the facts of a context: a test of keys that its entry passes, and that each of its program points hands on.
use Rattle.std.proofs.Common.{◌≡◌, ℕ, zero, suc, Bool, true, false, cond, List, [], ◌∷◌, Option, Some, None, Contains, IsTrue, refl, ap, subst, ◌∙◌}
use Rattle.std.proofs.Common.{arith, inl, inr}
use Rattle.std.specs.Prelude.{is_some}
use Rattle.std.proofs.lemmas.Bool.{cases_Bool, eqb-true, false≢true}
use Rattle.abs_state.specs.Key.{compare}
use Rattle.abs_state.specs.declared.key.Key.{Key}
use Rattle.abs_state.specs.declared.key.Key.TheVariants as key
use Rattle.abs_state.specs.declared.key.Place.{Place}
use Rattle.context_bounds.specs.Laws.{ContextsPass, IsHandedOn}
use Rattle.context_facts.proofs.Least.{least_maps_are_contexts, same_gives}
use Rattle.context_facts.specs.Context.{AreLawful, IsContext, IsKept, with_others}
use Rattle.flow_system.specs.Facts.{fact_at}
use Rattle.flow_system.specs.State.{ContainsPiece, IsClosed}
use Rattle.local_facts.specs.Restricted.{IsLeastLocal, IsLocallyClosed, IsRestriction, beside as beside_fixed, is_listed}
use Rattle.transfer_rules.specs.Closed.{HasState}
use Rattle.transfer_rules.specs.Fact.{Piece, fits}
use Rattle.transfer_rules.specs.Family.{Family, Program}
use Rattle.transfer_rules.specs.Give.{Facts, entered_with, entry_of, gives}
use Rattle.transfer_rules.specs.Lawful.{rules_of}
use Rattle.transfer_rules.specs.declared.fact.Fact.{Fact}
use Rattle.transfer_rules.specs.declared.fact.Fact.TheVariants as fact
use Rattle.value_lattice.specs.declared.value.Value.{Value}

module _ (t more : List ℕ) (f g : Family) (m : Program) (x : Facts) (sub : ℕ) (args : List Value) (keep : List Key) (fixed : List Piece) (s : Facts)
    (test : Key → Bool)
    (lawful : AreLawful t more f g m) (closed : IsClosed (rules_of t f m) x) (entry : HasState x (entry_of sub) (entered_with args))
    (kept : IsKept x sub keep fixed)
    (restricts : IsRestriction compare (rules_of more g m) ((key.Node (entry_of sub), fact.State (entered_with args)) ∷ []) keep fixed)
    (least : IsLeastLocal compare (rules_of more g m) ((key.Node (entry_of sub), fact.State (entered_with args)) ∷ []) keep fixed s)
    (hands : IsHandedOn g m x sub s test) where
  -- the least map is a context
  pub context : IsContext more g m x sub args s
  context = least_maps_are_contexts t more f g m x sub args keep fixed s lawful closed entry kept restricts least

  -- the facts at keys that pass
  abbrev cut : Facts
  cut k = cond (test k) (s k) None

  -- at a key that passes the facts are the same
  cut_at : (k : Key) → test k ≡ true → cut k ≡ s k
  cut_at k passing = ap (λ (b : Bool). cond b (s k) None) passing

  -- a fact that is left is a fact, and its key passes
  cut_is : (k : Key) (v : Fact) → cut k ≡ Some v → (s k ≡ Some v) × (test k ≡ true)
  cut_is k v = by (test k) where
    by : (b : Bool) → cond b (s k) None ≡ Some v → (s k ≡ Some v) × (b ≡ true)
    by true found = (found, refl)
    by false found = absurd (cc)

  -- so where one is left
  there_is : (k : Key) → is_some (cut k) ≡ true → (is_some (s k) ≡ true) × (test k ≡ true)
  there_is k = by (test k) where
    by : (b : Bool) → is_some (cond b (s k) None) ≡ true → (is_some (s k) ≡ true) × (b ≡ true)
    by true there = (there, refl)
    by false there = absurd (false≢true there)

  -- what is said of subprograms isn't kept
  summary_out : (q : ℕ) → is_listed compare keep (key.Summary q) ≡ false
  summary_out q =
      elim (cases_Bool (is_listed compare keep (key.Summary q))) [
        | inl listed ↦ absurd (false≢true ((kept.keeps (key.Summary q)).0 listed).0)
        | inr out ↦ out
      ]

  -- what a program point that passes gives is what it gives over all facts
  over_all : (p : Place) → test (key.Node p) ≡ true → is_listed compare keep (key.Node p) ≡ true
      → gives g m (key.Node p) (beside_fixed compare keep fixed cut) ≡ gives g m (key.Node p) (with_others s x)
  over_all p passing listed =
      same_gives g m (beside_fixed compare keep fixed cut) (with_others s x) p
      (ap (λ (b : Bool). cond b (cut (key.Node p)) (fact_at compare fixed (key.Node p))) listed ∙ cut_at (key.Node p) passing)
      (λ q. ap (λ (b : Bool). cond b (cut (key.Summary q)) (fact_at compare fixed (key.Summary q))) (summary_out q) ∙ kept.summaries q)

  -- what is left is closed
  cut_closed : IsLocallyClosed compare (rules_of more g m) ((key.Node (entry_of sub), fact.State (entered_with args)) ∷ []) keep fixed cut
  cut_closed = record { kept = in_keep; fit = fit; starts = begun; given = given } where
    in_keep : (k : Key) → is_some (cut k) ≡ true → IsTrue (is_listed compare keep k)
    in_keep k there = least.closed.kept k (there_is k there).0

    fit : (k : Key) (v : Fact) → cut k ≡ Some v → fits more k v ≡ true
    fit k v found = least.closed.fit k v (cut_is k v found).0

    kept_piece : (k : Key) (v : Fact) → test k ≡ true → ContainsPiece (rules_of more g m) s k v → ContainsPiece (rules_of more g m) cut k v
    kept_piece k v passing has = record { fact = has.fact; found = cut_at k passing ∙ has.found; above = has.above }

    only_start : (k : Key) (v : Fact) → Contains {X = Piece} ((key.Node (entry_of sub), fact.State (entered_with args)) ∷ []) (k, v) → test k ≡ true
    only_start k v has = subst (λ (piece : Piece). test piece.0 ≡ true) (first has) hands.entry where
      first : Contains {X = Piece} ((key.Node (entry_of sub), fact.State (entered_with args)) ∷ []) (k, v)
          → ◌≡◌ {A = Piece} (key.Node (entry_of sub), fact.State (entered_with args)) (k, v)
      first (zero, below, is) = is
      first (suc i, below, is) = absurd (omega (arith, below))

    begun : (k : Key) (v : Fact) → Contains {X = Piece} ((key.Node (entry_of sub), fact.State (entered_with args)) ∷ []) (k, v)
        → ContainsPiece (rules_of more g m) cut k v
    begun k v has = kept_piece k v (only_start k v has) (least.closed.starts k v has)

    given : (k : Key) → is_some (cut k) ≡ true → (j : Key) (v : Fact) → Contains (gives g m k (beside_fixed compare keep fixed cut)) (j, v)
        → IsTrue (is_listed compare keep j) → ContainsPiece (rules_of more g m) cut j v
    given (key.Node p) there j v has listed =
        let at = there_is (key.Node p) there in
        let here = least.closed.kept (key.Node p) at.0 in
        let pieces : Contains (gives g m (key.Node p) (with_others s x)) (j, v) = subst (λ (ps : List Piece). Contains ps (j, v)) (over_all p at.1 here) has in
        let own = (kept.keeps j).0 listed in
        let in_s = context.given p j v at.0 pieces own.0 own.1 in
        let sub_is : p.sub ≡ sub = eqb-true p.sub sub ((kept.keeps (key.Node p)).0 here).0 in
        kept_piece j v (hands.onward p j v at.1 at.0 sub_is pieces own.0 in_s) (record { fact = in_s.fact; found = in_s.found; above = in_s.above })
    given (key.Edge p q) there j v has listed = absurd (let low = has.1 in omega arith)
    given (key.Call p q) there j v has listed = absurd (let low = has.1 in omega arith)
    given (key.Summary q) there j v has listed = absurd (let low = has.1 in omega arith)
    given (key.Gap q pc kind) there j v has listed = absurd (let low = has.1 in omega arith)

  -- so it has all that the least map has
  pub all_pass : (k : Key) → is_some (s k) ≡ true → test k ≡ true
  all_pass k there = by (s k) refl there where
    by : (o : Option Fact) → s k ≡ o → is_some o ≡ true → test k ≡ true
    by None is some = absurd (false≢true some)
    by (Some v) is some = let has = least.least cut cut_closed k v is in (cut_is k has.fact has.found).1

-- a test that is handed on holds of all keys of a context
pub contexts_pass : ContextsPass
contexts_pass t more f g m x sub args keep fixed s test lawful closed entry kept restricts least hands =
    all_pass t more f g m x sub args keep fixed s test lawful closed entry kept restricts least hands
