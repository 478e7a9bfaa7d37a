-- All program points of a context are reached, and what its steps and calls name is there.
use Rattle.std.proofs.Common.{◌≡◌, ◌==◌, ◌&&◌, ℕ, Bool, true, List, [], ◌∷◌, Option, Some, None, Contains, refl, sym, ap, ◌∙◌, inl, inr}
use Rattle.std.specs.Prelude.{is_some}
use Rattle.std.proofs.lemmas.Bool.{and_from, eq-eqb, eqb-true}
use Rattle.std.proofs.lemmas.List.Elements.{All-cons, All-contains, All-nil}
use Rattle.std.specs.List.{All}
use Rattle.abs_state.specs.declared.key.Key.{Key}
use Rattle.abs_state.specs.declared.key.Key.TheVariants as key
use Rattle.abs_state.specs.declared.key.Place.{Place}
use Rattle.context_bounds.proofs.Passes.{all_pass}
use Rattle.context_bounds.specs.Laws.{AreMarks, ContextsStand, IsHandedOn, MarksAreAll, stands}
use Rattle.context_facts.proofs.Least.{given_among, least_maps_are_contexts}
use Rattle.context_facts.specs.Context.{AreLawful, IsAmong, IsContext, is_local, with_others}
use Rattle.flow_system.specs.State.{IsClosed}
use Rattle.transfer_rules.proofs.FactKinds.{fitting}
use Rattle.transfer_rules.proofs.FactOrder.{same_fact}
use Rattle.transfer_rules.proofs.Giving.{given_hold, places_have_edges}
use Rattle.transfer_rules.proofs.System.{fit_stays}
use Rattle.transfer_rules.specs.Fact.{Piece, fits}
use Rattle.transfer_rules.specs.Family.{Family, Program}
use Rattle.transfer_rules.specs.Give.{Facts, arguments, effects, entry_of, gap, gives}
use Rattle.transfer_rules.specs.Lawful.{rules_of}
use Rattle.transfer_rules.specs.declared.fact.Fact.{Fact}
use Rattle.transfer_rules.specs.declared.fact.Fact.TheVariants as fact
use Rattle.value_lattice.specs.declared.value.Value.{Value}

-- what is something is there
some_there : {A : Type 0} (o : Option A) (a : A) → o ≡ Some a → is_some o ≡ true
some_there o a is = ap is_some is

-- a key passes where it isn't a program point, or one with a mark
abbrev passes : (Place → Bool) → Key → Bool
passes mark (key.Node p) = mark p
passes mark (key.Edge p q) = true
passes mark (key.Call p t) = true
passes mark (key.Summary sub) = true
passes mark (key.Gap sub pc kind) = true

-- a call that a program point gives begins there
abbrev IsFrom : Place → Key → Type 0
IsFrom p (key.Node q) = Unit {0}
IsFrom p (key.Edge a b) = Unit {0}
IsFrom p (key.Call q t) = q ≡ p
IsFrom p (key.Summary sub) = Unit {0}
IsFrom p (key.Gap sub pc kind) = Unit {0}

-- all pieces of a list of one begin at a program point
one_of : (p : Place) (piece : Piece) → IsFrom p piece.0 → All (λ (piece : Piece). IsFrom p piece.0) (piece ∷ [])
one_of p piece is = All-cons (λ (piece : Piece). IsFrom p piece.0) piece [] is (All-nil (λ (piece : Piece). IsFrom p piece.0))

-- and so of a list of two
two_of : (p : Place) (one two : Piece) → IsFrom p one.0 → IsFrom p two.0 → All (λ (piece : Piece). IsFrom p piece.0) (one ∷ two ∷ [])
two_of p one two is also = All-cons (λ (piece : Piece). IsFrom p piece.0) one (two ∷ []) is (one_of p two also)

-- a call that a program point gives begins there
calls_begin_there : (f : Family) (m : Program) (p q : Place) (t : ℕ) (v : Fact) (x : Facts) → Contains (gives f m (key.Node p) x) (key.Call q t, v) → q ≡ p
calls_begin_there f m p q t v x has =
    All-contains (λ (piece : Piece). IsFrom p piece.0) (gives f m (key.Node p) x) (key.Call q t, v)
    (given_hold (λ others piece. IsFrom p piece.0) (λ xs ys piece is. is) (λ xs ys piece is. is) m p
    (λ r s same. two_of p (key.Node r, fact.State s) (key.Edge p r, fact.Mark) tt tt)
    (λ kind. one_of p (gap p kind) tt)
    (λ returns skips written. one_of p (effects p.sub returns skips written) tt)
    (λ callee depth s is. one_of p (key.Call p callee, fact.Args (arguments depth s)) refl)
    (λ callee s is. one_of p (key.Node (entry_of callee), fact.State s) tt) f x) has

module _ (t more : List ℕ) (f g : Family) (m : Program) (x : Facts) (sub : ℕ) (args : List Value) (s : Facts)
    (lawful : AreLawful t more f g m) (closed : IsClosed (rules_of t f m) x) (within : IsContext more g m x sub args s) where
  -- the facts of a context beside those of the whole fit its thresholds
  others_fit : (k : Key) (v : Fact) → with_others s x k ≡ Some v → fits more k v ≡ true
  others_fit (key.Node p) v found = within.fit (key.Node p) v found
  others_fit (key.Edge p q) v found = within.fit (key.Edge p q) v found
  others_fit (key.Call p q) v found = within.fit (key.Call p q) v found
  others_fit (key.Summary q) v found = fit_stays t more (key.Summary q) v lawful.finer.thresholds (closed.fit (key.Summary q) v found)
  others_fit (key.Gap q pc kind) v found = fit_stays t more (key.Gap q pc kind) v lawful.finer.thresholds (closed.fit (key.Gap q pc kind) v found)

  -- a fact of the whole is among the whole
  itself : (k : Key) (v : Fact) → x k ≡ Some v → IsAmong x k v
  itself k v found = record { fact = v; found = found; above = same_fact t v (fitting t k v (closed.fit k v found)).over }

  -- the facts of a context beside those of the whole are among the whole
  others_among : (k : Key) (v : Fact) → with_others s x k ≡ Some v → IsAmong x k v
  others_among (key.Node p) v found = within.below (key.Node p) v found
  others_among (key.Edge p q) v found = within.below (key.Edge p q) v found
  others_among (key.Call p q) v found = within.below (key.Call p q) v found
  others_among (key.Summary q) v found = itself (key.Summary q) v found
  others_among (key.Gap q pc kind) v found = itself (key.Gap q pc kind) v found

  -- a program point of a context is one of the whole
  whole_there : (p : Place) → is_some (s (key.Node p)) ≡ true → is_some (x (key.Node p)) ≡ true
  whole_there p there = by (s (key.Node p)) refl there where
    by : (o : Option Fact) → s (key.Node p) ≡ o → is_some o ≡ true → is_some (x (key.Node p)) ≡ true
    by None is some = absurd (cc)
    by (Some v) is some = let among = within.below (key.Node p) v is in some_there (x (key.Node p)) among.fact among.found

  -- a piece of the subprogram that a program point of the context gives is among the context's facts
  given_there : (p : Place) (k : Key) (v : Fact) → is_some (s (key.Node p)) ≡ true → Contains (gives g m (key.Node p) (with_others s x)) (k, v)
      → is_local sub k ≡ true → is_some (s k) ≡ true
  given_there p k v there has local =
      let among = given_among t more f g m x (with_others s x) lawful closed others_fit others_among p k v (whole_there p there) has in
      let in_s = within.given p k v there has local (some_there (x k) among.fact among.found) in
      some_there (s k) in_s.fact in_s.found

  -- marks that follow steps are handed on
  marks_hand_on : (mark : Place → Bool) → AreMarks s sub mark → IsHandedOn g m x sub s (passes mark)
  marks_hand_on mark marks = record { entry = marks.entry; onward = onward } where
    from_entry : (r : Place) → r.sub ≡ sub → (callee : ℕ) → r ≡ entry_of callee → mark r ≡ true
    from_entry r own callee is =
        let same : callee ≡ sub = sym (ap (λ (place : Place). place.sub) is) ∙ own in
        ap mark (is ∙ ap entry_of same) ∙ marks.entry

    onward : (p : Place) (j : Key) (v : Fact) → passes mark (key.Node p) ≡ true → is_some (s (key.Node p)) ≡ true → p.sub ≡ sub
        → Contains (gives g m (key.Node p) (with_others s x)) (j, v) → is_local sub j ≡ true → IsAmong s j v → passes mark j ≡ true
    onward p (key.Node q) v passing there own has local among =
        elim (places_have_edges.edges g m p q v (with_others s x) has) [
          | inl edge ↦ marks.onward p q passing (given_there p (key.Edge p q) fact.Mark there edge (eq-eqb p.sub sub own))
          | inr entered ↦ from_entry q (eqb-true q.sub sub local) entered.callee entered.entry
        ]
    onward p (key.Edge a b) v passing there own has local among = refl
    onward p (key.Call a q) v passing there own has local among = refl
    onward p (key.Summary q) v passing there own has local among = refl
    onward p (key.Gap q pc kind) v passing there own has local among = refl

  -- that what a key names is there is handed on
  stands_hand_on : IsHandedOn g m x sub s (stands s)
  stands_hand_on = record { entry = refl; onward = onward } where
    onward : (p : Place) (j : Key) (v : Fact) → stands s (key.Node p) ≡ true → is_some (s (key.Node p)) ≡ true → p.sub ≡ sub
        → Contains (gives g m (key.Node p) (with_others s x)) (j, v) → is_local sub j ≡ true → IsAmong s j v → stands s j ≡ true
    onward p (key.Node q) v passing there own has local among = refl
    onward p (key.Edge a b) v passing there own has local among =
        let led = places_have_edges.places g m p a b v (with_others s x) has in
        let from : is_some (s (key.Node a)) ≡ true = ap (λ (r : Place). is_some (s (key.Node r))) led.from ∙ there in
        let to : is_some (s (key.Node b)) ≡ true = given_there p (key.Node b) (fact.State led.state) there led.given (eq-eqb b.sub sub (led.sub ∙ own)) in
        let same : a.sub ≡ b.sub = ap (λ (r : Place). r.sub) led.from ∙ sym led.sub in
        and_from (is_some (s (key.Node a))) (is_some (s (key.Node b)) && (a.sub == b.sub)) from
        (and_from (is_some (s (key.Node b))) (a.sub == b.sub) to (eq-eqb a.sub b.sub same))
    onward p (key.Call q callee) v passing there own has local among =
        ap (λ (r : Place). is_some (s (key.Node r))) (calls_begin_there g m p q callee v (with_others s x) has) ∙ there
    onward p (key.Summary q) v passing there own has local among = refl
    onward p (key.Gap q pc kind) v passing there own has local among = refl

-- all program points of a context have the mark
pub marks_are_all : MarksAreAll
marks_are_all t more f g m x sub args keep fixed s mark lawful closed entry kept restricts least marks p there =
    let within = least_maps_are_contexts t more f g m x sub args keep fixed s lawful closed entry kept restricts least in
    all_pass t more f g m x sub args keep fixed s (passes mark) lawful closed entry kept restricts least
    (marks_hand_on t more f g m x sub args s lawful closed within mark marks) (key.Node p) there

-- what the keys of a context name is there
pub contexts_stand : ContextsStand
contexts_stand t more f g m x sub args keep fixed s lawful closed entry kept restricts least =
    let within = least_maps_are_contexts t more f g m x sub args keep fixed s lawful closed entry kept restricts least in
    all_pass t more f g m x sub args keep fixed s (stands s) lawful closed entry kept restricts least
    (stands_hand_on t more f g m x sub args s lawful closed within)
