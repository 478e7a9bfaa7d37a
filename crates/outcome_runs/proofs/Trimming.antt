-- The facts of the whole program, and of a context, have the program points of their steps and calls: without the others they
-- would be closed too, and they are the least.
use Rattle.std.proofs.Common.{◌≡◌, ℕ, zero, suc, ◌<◌, Bool, true, false, List, [], ◌∷◌, ◌++◌, length, Option, Some, None, Contains, IsTrue, refl, sym, ap, subst, ◌∙◌, arith}
use Rattle.std.specs.Prelude.{◌==◌, ◌&&◌, is_some, map, slice_index_or, if◌then◌else◌}
use Rattle.std.specs.List.{All}
use Rattle.std.proofs.lemmas.Bool.{and_parts, eq-eqb, eqb-true, false≢true}
use Rattle.std.proofs.lemmas.List.Elements.{All-append, All-cons, All-contains, All-nil}
use Rattle.call_effects.specs.Summary.{effects_of_stub}
use Rattle.value_lattice.specs.declared.value.Value.{Value}
use Rattle.abs_state.specs.State.{entry_state}
use Rattle.abs_state.specs.Key.{compare}
use Rattle.abs_state.specs.declared.key.Key.{Key}
use Rattle.abs_state.specs.declared.key.Key.TheVariants as key
use Rattle.abs_state.specs.declared.key.Next.{Next}
use Rattle.abs_state.specs.declared.key.Next.TheVariants.{At, Into, Back}
use Rattle.abs_state.specs.declared.key.Place.{Place}
use Rattle.flow_system.specs.Facts.{fact_at}
use Rattle.flow_system.specs.State.{AllFit, ContainsPiece, IsClosed, IsDueGraph}
use Rattle.local_facts.specs.Restricted.{IsLeastLocal, IsLocallyClosed, beside as beside_fixed, is_listed}
use Rattle.context_facts.proofs.Least.{same_gives}
use Rattle.context_facts.specs.Context.{IsKept}
use Rattle.transfer_rules.specs.Fact.{Piece, fits}
use Rattle.transfer_rules.specs.Family.{Family, Program}
use Rattle.transfer_rules.specs.Give.{Facts, entered_with, entry_of, gives, starts as start_pieces}
use Rattle.transfer_rules.specs.Lawful.{rules_of}
use Rattle.transfer_rules.specs.declared.fact.Fact.{Fact}
use Rattle.transfer_rules.specs.declared.fact.Fact.TheVariants as fact
use Rattle.outcome_runs.proofs.OwnKeys.{IsCallOf, IsOwn, IsStepOf, own_pieces}

-- whether control goes into a subprogram
abbrev pub is_into : Next → ℕ → Bool
is_into (At n) t = false
is_into (Into u) t = u == t
is_into Back t = false

pub into_is : (next : Next) (t : ℕ) → is_into next t ≡ true → next ≡ Into t
into_is (At n) t is = absurd (false≢true is)
into_is (Into u) t is = ap Into (eqb-true u t is)
into_is Back t is = absurd (false≢true is)

is_into_it : (next : Next) (t : ℕ) → next ≡ Into t → is_into next t ≡ true
is_into_it next t same = subst (λ (n : Next). is_into n t ≡ true) (sym same) (eq-eqb t t refl)

-- a step with both its program points, and a call with that which makes it
pub record HasEnds (s : Facts) (a b : Place) : Type 0 where
  pub from : is_some (s (key.Node a)) ≡ true
  pub to : is_some (s (key.Node b)) ≡ true

pub record HasMaker (s : Facts) (a : Place) (t : ℕ) : Type 0 where
  pub from : is_some (s (key.Node a)) ≡ true
  pub into : a.next ≡ Into t

and_both : (b c : Bool) → b ≡ true → c ≡ true → (b && c) ≡ true
and_both true true one two = refl
and_both true false one two = two
and_both false c one two = one

module _ (s : Facts) where
  abbrev pub keeps : Key → Bool
  keeps (key.Node p) = true
  keeps (key.Edge a b) = is_some (s (key.Node a)) && is_some (s (key.Node b))
  keeps (key.Call a t) = is_some (s (key.Node a)) && is_into a.next t
  keeps (key.Summary q) = true
  keeps (key.Gap q pc kind) = true

  abbrev pub trimmed : Facts
  trimmed k = if keeps k then s k else None

  trimmed_is : (k : Key) (v : Fact) → trimmed k ≡ Some v → (keeps k ≡ true) × (s k ≡ Some v)
  trimmed_is k v = by (keeps k) where
    by : (b : Bool) → (if b then s k else None) ≡ Some v → (b ≡ true) × (s k ≡ Some v)
    by true found = (refl, found)
    by false found = absurd (cc)

  some_trimmed : (k : Key) → is_some (trimmed k) ≡ true → is_some (s k) ≡ true
  some_trimmed k = by (keeps k) where
    by : (b : Bool) → is_some (if b then s k else None) ≡ true → is_some (s k) ≡ true
    by true there = there
    by false there = absurd (false≢true there)

  trimmed_at : (k : Key) → keeps k ≡ true → trimmed k ≡ s k
  trimmed_at k kept = ap (λ (b : Bool). if b then s k else None) kept

  -- what a program point gives that the facts have is kept
  own_kept : (f : Family) (m : Program) (x : Facts) (p : Place) (k : Key) (v : Fact) → is_some (s (key.Node p)) ≡ true → IsOwn f m x p (gives f m (key.Node p) x) k v
      → ((b : Place) (w : Fact) → b.sub ≡ p.sub → Contains {X = Piece} (gives f m (key.Node p) x) (key.Node b, w) → k ≡ key.Edge p b → is_some (s (key.Node b)) ≡ true)
      → keeps k ≡ true
  own_kept f m x p (key.Node q) v there own ends = refl
  own_kept f m x p (key.Edge a b) v there own ends =
      and_both (is_some (s (key.Node a))) (is_some (s (key.Node b))) (subst (λ (q : Place). is_some (s (key.Node q)) ≡ true) (sym own.from) there)
      (ends b own.fact own.one own.has (ap (λ (q : Place). key.Edge q b) own.from))
  own_kept f m x p (key.Call a t) v there own ends =
      and_both (is_some (s (key.Node a))) (is_into a.next t) (subst (λ (q : Place). is_some (s (key.Node q)) ≡ true) (sym own.from) there)
      (is_into_it a.next t (subst (λ (q : Place). q.next ≡ Into t) (sym own.from) own.into))
  own_kept f m x p (key.Summary q) v there own ends = refl
  own_kept f m x p (key.Gap q pc kind) v there own ends = refl

  ends_of : (a b : Place) → keeps (key.Edge a b) ≡ true → HasEnds s a b
  ends_of a b kept = let both = and_parts (is_some (s (key.Node a))) (is_some (s (key.Node b))) kept in record { from = both.0; to = both.1 }

  maker_of : (a : Place) (t : ℕ) → keeps (key.Call a t) ≡ true → HasMaker s a t
  maker_of a t kept = let both = and_parts (is_some (s (key.Node a))) (is_into a.next t) kept in record { from = both.0; into = into_is a.next t both.1 }

found_of : (o : Option Fact) → is_some o ≡ true → (v : Fact) × (o ≡ Some v)
found_of None there = absurd (false≢true there)
found_of (Some v) there = (v, refl)

only_piece : (one piece : Piece) → Contains (one ∷ []) piece → one ≡ piece
only_piece one piece has = by has.0 has.1 has.2 where
  by : (k : ℕ) → k < 1 → slice_index_or (one ∷ []) k piece ≡ piece → one ≡ piece
  by zero below is = is
  by (suc k) below is = absurd (omega arith)

none_in : (piece : Piece) → Contains {X = Piece} [] piece → ⊥
none_in piece has = let low = has.1 in omega arith

-- the facts of the whole program
module _ (t : List ℕ) (f : Family) (m : Program) (x : Facts) (due : IsDueGraph (rules_of t f m) x) where
  abbrev Starts : Piece → Type 0
  Starts piece = keeps x piece.0 ≡ true

  roots_start : (roots : List ℕ) → All Starts (map (λ root. (key.Node (entry_of root), fact.State entry_state)) roots)
  roots_start [] = All-nil Starts
  roots_start (root ∷ roots) =
      All-cons Starts (key.Node (entry_of root), fact.State entry_state) (map (λ r. (key.Node (entry_of r), fact.State entry_state)) roots) refl (roots_start roots)

  stubs_start : (stubs : List ℕ) → All Starts (map (λ stub. (key.Summary stub, fact.Sum effects_of_stub)) stubs)
  stubs_start [] = All-nil Starts
  stubs_start (stub ∷ stubs) =
      All-cons Starts (key.Summary stub, fact.Sum effects_of_stub) (map (λ q. (key.Summary q, fact.Sum effects_of_stub)) stubs) refl (stubs_start stubs)

  all_start : All Starts (start_pieces m)
  all_start =
      All-append Starts (map (λ root. (key.Node (entry_of root), fact.State entry_state)) m.roots) (map (λ stub. (key.Summary stub, fact.Sum effects_of_stub)) m.stubs)
      (roots_start m.roots) (stubs_start m.stubs)

  piece_in : (k : Key) (v : Fact) → keeps x k ≡ true → ContainsPiece (rules_of t f m) x k v → ContainsPiece (rules_of t f m) (trimmed x) k v
  piece_in k v kept has = record { fact = has.fact; found = trimmed_at x k kept ∙ has.found; above = has.above }

  whole_closed : IsClosed (rules_of t f m) (trimmed x)
  whole_closed = record { fit = fit; starts = starts; given = given } where
    fit : (k : Key) (v : Fact) → trimmed x k ≡ Some v → fits t k v ≡ true
    fit k v found = due.closed.fit k v (trimmed_is x k v found).1

    starts : (k : Key) (v : Fact) → Contains {X = Piece} (start_pieces m) (k, v) → ContainsPiece (rules_of t f m) (trimmed x) k v
    starts k v has = piece_in k v (All-contains Starts (start_pieces m) (k, v) all_start has) (due.closed.starts k v has)

    given : (k : Key) → is_some (trimmed x k) ≡ true → (j : Key) (v : Fact) → Contains {X = Piece} (gives f m k (trimmed x)) (j, v)
        → ContainsPiece (rules_of t f m) (trimmed x) j v
    given (key.Node p) there j v has =
        let pieces : Contains {X = Piece} (gives f m (key.Node p) x) (j, v) =
        subst (λ (ps : List Piece). Contains ps (j, v)) (same_gives f m (trimmed x) x p refl (λ q. refl)) has in
        piece_in j v
        (own_kept x f m x p j v there (own_pieces f m x p j v pieces)
        (λ b w one listed same. ap is_some (due.closed.given (key.Node p) there (key.Node b) w listed).found))
        (due.closed.given (key.Node p) there j v pieces)
    given (key.Edge a b) there j v has = absurd (none_in (j, v) has)
    given (key.Call a q) there j v has = absurd (none_in (j, v) has)
    given (key.Summary q) there j v has = absurd (none_in (j, v) has)
    given (key.Gap q pc kind) there j v has = absurd (none_in (j, v) has)

  whole_keeps : (k : Key) → is_some (x k) ≡ true → keeps x k ≡ true
  whole_keeps k there =
      let v = found_of (x k) there in
      let has = due.least k v.0 v.1 (trimmed x) whole_closed in
      (trimmed_is x k has.fact has.found).0

  pub whole_ends : (a b : Place) → is_some (x (key.Edge a b)) ≡ true → HasEnds x a b
  whole_ends a b there = ends_of x a b (whole_keeps (key.Edge a b) there)

  pub whole_maker : (a : Place) (q : ℕ) → is_some (x (key.Call a q)) ≡ true → HasMaker x a q
  whole_maker a q there = maker_of x a q (whole_keeps (key.Call a q) there)

-- the facts of a context, over the keys of a state that has the program points of its steps
module _ (t : List ℕ) (g : Family) (m : Program) (x : Facts) (sub : ℕ) (args : List Value) (keep : List Key) (fixed : List Piece) (s : Facts) (ends : (a b : Place) → is_some (x (key.Edge a b)) ≡ true → HasEnds x a b) (kept : IsKept x sub keep fixed) (least : IsLeastLocal compare (rules_of t g m) ((key.Node (entry_of sub), fact.State (entered_with args)) ∷ []) keep fixed s) where
  piece_here : (k : Key) (v : Fact) → keeps s k ≡ true → ContainsPiece (rules_of t g m) s k v → ContainsPiece (rules_of t g m) (trimmed s) k v
  piece_here k v kept_key has = record { fact = has.fact; found = trimmed_at s k kept_key ∙ has.found; above = has.above }

  -- the end of a step of a kept key is kept
  end_there : (p b : Place) (j : Key) (v w : Fact) → is_some (s (key.Node p)) ≡ true → is_listed compare keep j ≡ true → b.sub ≡ p.sub
      → Contains {X = Piece} (gives g m (key.Node p) (beside_fixed compare keep fixed s)) (key.Node b, w) → j ≡ key.Edge p b → is_some (s (key.Node b)) ≡ true
  end_there p b j v w there listed one has same =
      let edge : is_listed compare keep (key.Edge p b) ≡ true = subst (λ (k : Key). is_listed compare keep k ≡ true) same listed in
      let known = (kept.keeps (key.Edge p b)).0 edge in
      let own : (b.sub == sub) ≡ true = ap (λ (q : ℕ). q == sub) one ∙ known.0 in
      ap is_some (least.closed.given (key.Node p) there (key.Node b) w has ((kept.keeps (key.Node b)).1 (own, (ends p b known.1).to))).found

  local_closed : IsLocallyClosed compare (rules_of t g m) ((key.Node (entry_of sub), fact.State (entered_with args)) ∷ []) keep fixed (trimmed s)
  local_closed = record { kept = in_keep; fit = fit; starts = starts; given = given } where
    in_keep : (k : Key) → is_some (trimmed s k) ≡ true → IsTrue (is_listed compare keep k)
    in_keep k there = least.closed.kept k (some_trimmed s k there)

    fit : (k : Key) (v : Fact) → trimmed s k ≡ Some v → fits t k v ≡ true
    fit k v found = least.closed.fit k v (trimmed_is s k v found).1

    starts : (k : Key) (v : Fact) → Contains {X = Piece} ((key.Node (entry_of sub), fact.State (entered_with args)) ∷ []) (k, v)
        → ContainsPiece (rules_of t g m) (trimmed s) k v
    starts k v has =
        let first = least.closed.starts (key.Node (entry_of sub)) (fact.State (entered_with args)) (0, omega arith, refl) in
        subst (λ (piece : Piece). ContainsPiece (rules_of t g m) (trimmed s) piece.0 piece.1)
        (only_piece (key.Node (entry_of sub), fact.State (entered_with args)) (k, v) has)
        (record { fact = first.fact; found = first.found; above = first.above })

    given : (k : Key) → is_some (trimmed s k) ≡ true → (j : Key) (v : Fact)
        → Contains {X = Piece} (gives g m k (beside_fixed compare keep fixed (trimmed s))) (j, v) → IsTrue (is_listed compare keep j)
        → ContainsPiece (rules_of t g m) (trimmed s) j v
    given (key.Node p) there j v has listed =
        let pieces : Contains {X = Piece} (gives g m (key.Node p) (beside_fixed compare keep fixed s)) (j, v) =
        subst (λ (ps : List Piece). Contains ps (j, v))
        (same_gives g m (beside_fixed compare keep fixed (trimmed s)) (beside_fixed compare keep fixed s) p refl (λ q. refl)) has in
        piece_here j v
        (own_kept s g m (beside_fixed compare keep fixed s) p j v there (own_pieces g m (beside_fixed compare keep fixed s) p j v pieces)
        (λ b w one held same. end_there p b j v w there listed one held same))
        (least.closed.given (key.Node p) there j v pieces listed)
    given (key.Edge a b) there j v has listed = absurd (none_in (j, v) has)
    given (key.Call a q) there j v has listed = absurd (none_in (j, v) has)
    given (key.Summary q) there j v has listed = absurd (none_in (j, v) has)
    given (key.Gap q pc kind) there j v has listed = absurd (none_in (j, v) has)

  local_keeps : (k : Key) → is_some (s k) ≡ true → keeps s k ≡ true
  local_keeps k there =
      let v = found_of (s k) there in
      let has = least.least (trimmed s) local_closed k v.0 v.1 in
      (trimmed_is s k has.fact has.found).0

  pub local_ends : (a b : Place) → is_some (s (key.Edge a b)) ≡ true → HasEnds s a b
  local_ends a b there = ends_of s a b (local_keeps (key.Edge a b) there)

  pub local_maker : (a : Place) (q : ℕ) → is_some (s (key.Call a q)) ≡ true → HasMaker s a q
  local_maker a q there = maker_of s a q (local_keeps (key.Call a q) there)
