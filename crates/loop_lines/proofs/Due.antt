-- Inductions over the program points of a due graph.
use Rattle.std.proofs.Common.{◌≡◌, ◌==◌, ◌↔◌, ℕ, Bool, true, false, cond, List, map, get_or, Option, Some, None, Contains, inl, inr, refl, sym, ap, subst, ◌∙◌}
use Rattle.std.specs.Prelude.{is_some, if◌then◌else◌}
use Rattle.std.specs.Map.{keys_of}
use Rattle.std.proofs.lemmas.Bool.{eq-eqb, eqb-true, false≢true}
use Rattle.std.proofs.lemmas.List.Elements.{All-append, All-contains, All-map}
use Rattle.abs_state.specs.Key.{compare}
use Rattle.abs_state.specs.State.{entry_state}
use Rattle.abs_state.specs.declared.key.Key.{Key}
use Rattle.abs_state.specs.declared.key.Key.TheVariants as key
use Rattle.abs_state.specs.declared.key.Place.{Place}
use Rattle.assert_bind.specs.declared.body.BoundAssertion.{BoundAssertion}
use Rattle.call_effects.specs.Summary.{effects_of_stub}
use Rattle.context_bounds.proofs.Reached.{marks_reach}
use Rattle.context_bounds.proofs.Shapes.{AreOwn, keys_order}
use Rattle.context_bounds.specs.Laws.{AreMarks}
use Rattle.context_facts.specs.Context.{is_local}
use Rattle.flow_core.proofs.WritingLemmas.{key_listed, listed_key}
use Rattle.flow_system.proofs.Inductions.{graph_passes}
use Rattle.flow_system.specs.Due.{IsHandedOn}
use Rattle.flow_system.specs.Facts.{fact_at}
use Rattle.flow_system.specs.State.{IsDueGraph}
use Rattle.graph_view.specs.View.{AreViewed, StepStands}
use Rattle.loop_lines.specs.Laws.{EntriesAreThere, PointsAreReached}
use Rattle.loop_lines.specs.Matched.{own_of}
use Rattle.transfer_fns.specs.Laws.{lawful_over}
use Rattle.transfer_fns.specs.Numbers.{AreNumbers}
use Rattle.transfer_fns.specs.Setting.{program_in, rules_over}
use Rattle.transfer_rules.proofs.Giving.{only_places_give, places_have_edges}
use Rattle.transfer_rules.specs.Fact.{Piece}
use Rattle.transfer_rules.specs.Family.{Family, Program}
use Rattle.transfer_rules.specs.Give.{Facts, entry_of, gives, starts}
use Rattle.transfer_rules.specs.declared.fact.Fact.{Fact}
use Rattle.transfer_rules.specs.declared.fact.Fact.TheVariants as fact
use Rattle.transfer_values.specs.Family.{family}

-- a program point is an entry, where a key names one
abbrev IsEntry : Key → Type 0
IsEntry (key.Node p) = (root : ℕ) × (p ≡ entry_of root)
IsEntry (key.Edge p q) = Unit {0}
IsEntry (key.Call p t) = Unit {0}
IsEntry (key.Summary sub) = Unit {0}
IsEntry (key.Gap sub pc kind) = Unit {0}

-- all starts are
starts_are_entries : (m : Program) (k : Key) (v : Fact) → Contains (starts m) (k, v) → IsEntry k
starts_are_entries m k v has =
    All-contains (λ (piece : Piece). IsEntry piece.0) (starts m) (k, v)
    (All-append (λ (piece : Piece). IsEntry piece.0) (map (λ root. (key.Node (entry_of root), fact.State entry_state)) m.roots)
    (map (λ stub. (key.Summary stub, fact.Sum effects_of_stub)) m.stubs)
    (All-map (λ (piece : Piece). IsEntry piece.0) (λ root. (key.Node (entry_of root), fact.State entry_state)) m.roots (λ i d h. (get_or m.roots i d, refl)))
    (All-map (λ (piece : Piece). IsEntry piece.0) (λ stub. (key.Summary stub, fact.Sum effects_of_stub)) m.stubs (λ i d h. tt))) has

-- a key passes where it isn't a program point, or one that passes a test
abbrev passes : (Place → Bool) → Key → Bool
passes test (key.Node p) = test p
passes test (key.Edge p q) = true
passes test (key.Call p t) = true
passes test (key.Summary sub) = true
passes test (key.Gap sub pc kind) = true

module _ (t image : List ℕ) (binding : List BoundAssertion) (eight : Bool) (numbers : AreNumbers t) (x : Facts)
    (due : IsDueGraph (rules_over t image binding eight) x) where
  -- what computes with states
  abbrev f : Family
  f = family t image binding

  -- what is read off the program
  abbrev m : Program
  m = program_in image binding eight

  -- what a program point gives is there
  given_there : (p : Place) (k : Key) (v : Fact) → is_some (x (key.Node p)) ≡ true → Contains (gives f m (key.Node p) x) (k, v) → is_some (x k) ≡ true
  given_there p k v there has = let piece = due.closed.given (key.Node p) there k v has in ap is_some piece.found

  -- and so is each start
  start_there : (k : Key) (v : Fact) → Contains (starts m) (k, v) → is_some (x k) ≡ true
  start_there k v has = let piece = due.closed.starts k v has in ap is_some piece.found

  -- a test that each entry passes which is there, and that is handed on along steps, holds of all program points
  module _ (test : Place → Bool) (enter : (root : ℕ) → is_some (x (key.Node (entry_of root))) ≡ true → test (entry_of root) ≡ true)
      (onward : (p q : Place) → test p ≡ true → is_some (x (key.Edge p q)) ≡ true → q.sub ≡ p.sub → test q ≡ true) where
    -- starts pass
    start_passes : (k : Key) (v : Fact) → Contains (starts m) (k, v) → passes test k ≡ true
    start_passes (key.Node q) v has =
        let is = starts_are_entries m (key.Node q) v has in
        let there : is_some (x (key.Node q)) ≡ true = start_there (key.Node q) v has in
        ap test is.1 ∙ enter is.0 (sym (ap (λ (p : Place). is_some (x (key.Node p))) is.1) ∙ there)
    start_passes (key.Edge p q) v has = refl
    start_passes (key.Call p q) v has = refl
    start_passes (key.Summary sub) v has = refl
    start_passes (key.Gap sub pc kind) v has = refl

    -- what a program point gives that passes, passes
    given_passes : (p : Place) (k : Key) (v : Fact) → is_some (x (key.Node p)) ≡ true → test p ≡ true
        → Contains (gives f m (key.Node p) x) (k, v) → passes test k ≡ true
    given_passes p (key.Node q) v there passing has =
        elim (places_have_edges.edges f m p q v x has) [
          | inl edge ↦
              let led = places_have_edges.places f m p p q fact.Mark x edge in
              onward p q passing (given_there p (key.Edge p q) fact.Mark there edge) led.sub
          | inr entered ↦
              let node : is_some (x (key.Node q)) ≡ true = given_there p (key.Node q) v there has in
              ap test entered.entry ∙ enter entered.callee (sym (ap (λ (p : Place). is_some (x (key.Node p))) entered.entry) ∙ node)
        ]
    given_passes p (key.Edge a b) v there passing has = refl
    given_passes p (key.Call a q) v there passing has = refl
    given_passes p (key.Summary q) v there passing has = refl
    given_passes p (key.Gap q pc kind) v there passing has = refl

    -- and so what any key gives
    of_given : (j k : Key) (u v : Fact) → x j ≡ Some u → passes test j ≡ true → Contains (gives f m j x) (k, v) → passes test k ≡ true
    of_given j k u v found passing has =
        let at = only_places_give f m j k v x has in
        given_passes at.0 k v (subst (λ (i : Key). is_some (x i) ≡ true) at.1 (ap is_some found)) (subst (λ (i : Key). passes test i ≡ true) at.1 passing)
        (subst (λ (i : Key). Contains (gives f m i x) (k, v)) at.1 has)

    -- so the test is handed on
    handed_on : IsHandedOn (rules_over t image binding eight) x (λ k v. passes test k)
    handed_on = record {
      starts = start_passes;
      greater = λ k v w fv fw up is. is;
      given = λ j u found passing k v has. of_given j k u v found passing has;
    }

    -- and holds of all program points
    pub places_pass : (p : Place) → is_some (x (key.Node p)) ≡ true → test p ≡ true
    places_pass p there = by (x (key.Node p)) refl there where
      by : (o : Option Fact) → x (key.Node p) ≡ o → is_some o ≡ true → test p ≡ true
      by None found some = absurd (false≢true some)
      by (Some v) found some =
          graph_passes compare (rules_over t image binding eight) (lawful_over t image binding eight numbers) x
          (λ k v. passes test k) due handed_on (key.Node p) v found

-- the entry of each subprogram is there, as it is at entries and along steps
pub entries_are_there : EntriesAreThere
entries_are_there t image binding eight pieces numbers due p there =
    places_pass t image binding eight numbers (fact_at compare pieces) due (λ q. is_some (fact_at compare pieces (key.Node (entry_of q.sub)))) (λ root is. is)
    (λ p q passing edge same. ap (λ (n : ℕ). is_some (fact_at compare pieces (key.Node (entry_of n)))) same ∙ passing) p there

-- a fact is kept where a test holds
own_is : (b : Bool) (o : Option Fact) → (is_some (if b then o else None) ≡ true) ↔ ((b ≡ true) × (is_some o ≡ true))
own_is true o = (λ some. (refl, some), λ both. both.1)
own_is false o = (λ some. absurd (false≢true some), λ both. absurd (false≢true both.0))

-- what facts have of a subprogram are those of them that are its own
pub are_own : (pieces : List Piece) (sub : ℕ) → AreOwn pieces sub (own_of pieces sub)
are_own pieces sub k = own_is (is_local sub k) (fact_at compare pieces k)

-- marks that begin at the entry of a subprogram and follow its steps have all program points of it
module _ (t image : List ℕ) (binding : List BoundAssertion) (eight : Bool) (pieces : List Piece) (numbers : AreNumbers t)
    (due : IsDueGraph (rules_over t image binding eight) (fact_at compare pieces)) (sub : ℕ) (mark : Place → Bool)
    (marks : AreMarks (own_of pieces sub) sub mark) where
  -- a program point passes where it is of another subprogram, or has a mark
  abbrev test : Place → Bool
  test p = cond (p.sub == sub) (mark p) true

  -- it passes where it has a mark if it is of the subprogram
  test_if : (p : Place) → (p.sub ≡ sub → mark p ≡ true) → test p ≡ true
  test_if p is = by (p.sub == sub) refl where
    by : (b : Bool) → (p.sub == sub) ≡ b → cond b (mark p) true ≡ true
    by true own = is (eqb-true p.sub sub own)
    by false other = refl

  -- and one of the subprogram that passes has a mark
  test_gives : (p : Place) → p.sub ≡ sub → test p ≡ true → mark p ≡ true
  test_gives p own passing = subst (λ (b : Bool). cond b (mark p) true ≡ true) (eq-eqb p.sub sub own) passing

  -- steps hand the test on
  onward : (p q : Place) → test p ≡ true → is_some (fact_at compare pieces (key.Edge p q)) ≡ true → q.sub ≡ p.sub → test q ≡ true
  onward p q passing edge same =
      test_if q
      (λ own.
      let from : p.sub ≡ sub = sym same ∙ own in
      marks.onward p q (test_gives p from passing) ((are_own pieces sub (key.Edge p q)).1 (eq-eqb p.sub sub from, edge)))

  -- so all program points of the subprogram have marks
  pub all_marked : (p : Place) → is_some (own_of pieces sub (key.Node p)) ≡ true → mark p ≡ true
  all_marked p there =
      let both = (are_own pieces sub (key.Node p)).0 there in
      test_gives p (eqb-true p.sub sub both.0)
      (places_pass t image binding eight numbers (fact_at compare pieces) due test
      (λ root is. test_if (entry_of root) (λ own. ap (λ (n : ℕ). mark (entry_of n)) own ∙ marks.entry)) onward p both.1)

-- the end of a step of a subprogram is a program point of it
own_ends : (pieces : List Piece) (sub : ℕ) → AreViewed (keys_of pieces) → (p q : Place) → is_some (own_of pieces sub (key.Edge p q)) ≡ true
    → is_some (own_of pieces sub (key.Node q)) ≡ true
own_ends pieces sub viewed p q there =
    let both = (are_own pieces sub (key.Edge p q)).0 there in
    let stand : StepStands (keys_of pieces) p q = viewed.steps p q (key_listed compare keys_order pieces (key.Edge p q) both.1) in
    (are_own pieces sub (key.Node q)).1
    (subst (λ (n : ℕ). (n == sub) ≡ true) stand.one both.0, listed_key compare keys_order pieces (key.Node q) stand.to)

-- each program point of a subprogram is reached from its entry by its own steps
pub points_are_reached : PointsAreReached
points_are_reached t image binding eight pieces numbers due viewed sub shape =
    marks_reach (own_of pieces sub) sub (own_ends pieces sub viewed)
    (λ mark marks p there. all_marked t image binding eight pieces numbers due sub mark marks p there) shape
