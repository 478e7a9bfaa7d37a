-- What the due facts say of a call is at most what they say of the entry of what is called: with the entry's values for the
-- call's arguments they would be closed too, and they are the least.
use Rattle.std.proofs.Common.{◌≡◌, ℕ, zero, suc, ◌<◌, Bool, true, false, List, [], ◌∷◌, ◌++◌, length, Option, Some, None, Contains, refl, sym, ap, subst, ◌∙◌, arith}
use Rattle.std.specs.Prelude.{◌==◌, ◌&&◌, not, is_some, map, slice_set, if◌then◌else◌}
use Rattle.std.specs.List.{All, list_all}
use Rattle.std.proofs.lemmas.Bool.{and_from, and_parts, false≢true}
use Rattle.std.proofs.lemmas.List.{set-get_or}
use Rattle.std.proofs.lemmas.List.Elements.{All-append, All-cons, All-contains, All-nil}
use Rattle.call_effects.specs.Summary.{effects_of_stub}
use Rattle.value_lattice.proofs.TestLemmas.{the_order_is_one}
use Rattle.value_lattice.specs.Height.{are_at_most}
use Rattle.value_lattice.specs.Least.{top}
use Rattle.value_lattice.specs.Test.{is_at_most as is_value_at_most, is_over, is_value}
use Rattle.value_lattice.specs.Thresholds.{IsThresholds}
use Rattle.value_lattice.specs.declared.value.Value.{Value}
use Rattle.abs_state.proofs.CellsLemmas.{cells_onward, cells_same}
use Rattle.abs_state.proofs.OrderLemmas.{states_are_ordered}
use Rattle.abs_state.proofs.WriteLemmas.{writes_keep_order, writes_stand}
use Rattle.abs_state.specs.Flags.{flags_at_most, names}
use Rattle.abs_state.specs.State.{State, cell_at, cell_in, entry_cells, entry_state, is_at_most as is_state_at_most, is_state_over, with_cell, with_value}
use Rattle.abs_state.specs.declared.flags.Flags.{Flags}
use Rattle.abs_state.specs.declared.flags.Flags.TheVariants.{Unknown, Cmp, Res}
use Rattle.abs_state.specs.declared.key.Key.{Key}
use Rattle.abs_state.specs.declared.key.Key.TheVariants as key
use Rattle.abs_state.specs.declared.key.Place.{Place}
use Rattle.flow_system.specs.State.{AllFit, ContainsPiece, IsClosed, IsDueGraph}
use Rattle.context_facts.proofs.Least.{entry_up, same_gives}
use Rattle.transfer_rules.proofs.Closing.{closed_calls}
use Rattle.transfer_rules.proofs.FactKinds.{fitting, from_fitting}
use Rattle.transfer_rules.proofs.HandedValues.{arguments_fit, cell_over, cell_up, entered_over, entered_up}
use Rattle.transfer_rules.specs.Closed.{HasState, IsTaken}
use Rattle.transfer_rules.specs.Fact.{Piece, fits, is_at_most}
use Rattle.transfer_rules.specs.Family.{Family, Program}
use Rattle.transfer_rules.specs.Give.{Facts, argument_registers, arguments, entered_with, entry_of, gives, starts as start_pieces, with_each}
use Rattle.transfer_rules.specs.Lawful.{IsLawfulFamily, is_over_or_none, rules_of}
use Rattle.transfer_rules.specs.declared.act.Way.TheVariants.{Onward}
use Rattle.transfer_rules.specs.declared.fact.Fact.{Fact}
use Rattle.transfer_rules.specs.declared.fact.Fact.TheVariants as fact
use Rattle.transfer_rules.specs.declared.step.Step.{Step}
use Rattle.context_outcomes.specs.Arguments.{any_arguments}
use Rattle.outcome_runs.proofs.OwnKeys.{IsCallOf, IsOwn, own_pieces}

some_same : {X : Type 0} {x y : X} → Some x ≡ Some y → x ≡ y
some_same e = cc

none_some : {X : Type 0} {x : X} → None ≡ Some x → ⊥
none_some e = cc

-- the values of the arguments in the state at an entry
abbrev pub entry_values : State → List Value
entry_values s = map (cell_at s) argument_registers

mapped_up : (f g : ℕ → Value) (rs : List ℕ) → ((r : ℕ) → is_value_at_most (f r) (g r) ≡ true) → are_at_most (map f rs) (map g rs) ≡ true
mapped_up f g [] up = refl
mapped_up f g (r ∷ rs) up =
    and_from (is_value_at_most (f r) (g r)) (are_at_most (map f rs) (map g rs)) (up r) (mapped_up f g rs up)

mapped_over : (t : List ℕ) (f : ℕ → Value) (rs : List ℕ) → ((r : ℕ) → is_over t (f r) ≡ true) → list_all (is_over t) (map f rs) ≡ true
mapped_over t f [] over = refl
mapped_over t f (r ∷ rs) over = and_from (is_over t (f r)) (list_all (is_over t) (map f rs)) (over r) (mapped_over t f rs over)

pub values_over : (t : List ℕ) (s : State) → IsThresholds t → is_state_over t s ≡ true → list_all (is_over t) (entry_values s) ≡ true
values_over t s is over = mapped_over t (cell_at s) argument_registers (λ r. cell_over t s r is over)

-- the state at the entry has the values with which it is entered
entered_values : (depth : ℕ) (s : State) → entry_values (entered_with (arguments depth s)) ≡ arguments depth s
unfolding entry_cells
entered_values depth s = refl

-- entered again with other values, it is as if it were entered with these
entered_again : (depth : ℕ) (a s : State) → with_each (entered_with (arguments depth a)) argument_registers (entry_values s) ≡ entered_with (entry_values s)
unfolding entry_cells
entered_again depth a s = refl

pub entered_with_any : entered_with any_arguments ≡ entry_state
unfolding entry_cells
entered_with_any = refl

-- flags of which nothing was known stay so
unknown_above : (f : Flags) → flags_at_most Unknown f ≡ true → f ≡ Unknown
unknown_above Unknown up = refl
unknown_above (Cmp left right) up = absurd (false≢true up)
unknown_above (Res cell) up = absurd (false≢true up)

entered_unknown : (depth : ℕ) (s : State) → (entered_with (arguments depth s)).flags ≡ Unknown
unfolding entry_cells
entered_unknown depth s = refl

-- a cell with its own value written
own_value : (cells : List Value) (c : ℕ) → with_value cells c (cell_in cells c) ≡ cells
own_value cells c = by (c == 0) where
  by : (b : Bool) → (if b then cells else slice_set cells c (cell_in cells c)) ≡ cells
  by true = refl
  by false = set-get_or cells c top

same_state : (a b : State) → a.cells ≡ b.cells → a.flags ≡ b.flags → a ≡ b
same_state a b cells flags = λ i. record { cells = cells i; flags = flags i }

own_cell : (s : State) (c : ℕ) → s.flags ≡ Unknown → with_cell s c (cell_at s c) ≡ s
own_cell s c free = same_state (with_cell s c (cell_at s c)) s (own_value s.cells c) (flags (names s.flags c)) where
  flags : (b : Bool) → (if b then Unknown else s.flags) ≡ s.flags
  flags true = sym free
  flags false = refl

own_each : (s : State) (rs : List ℕ) → s.flags ≡ Unknown → with_each s rs (map (cell_at s) rs) ≡ s
own_each s [] free = refl
own_each s (r ∷ rs) free =
    ap (λ (u : State). with_each u rs (map (cell_at s) rs)) (own_cell s r free) ∙ own_each s rs free

each_up : (a b : State) (rs : List ℕ) (vs us : List Value) → is_state_at_most a b ≡ true → are_at_most vs us ≡ true
    → is_state_at_most (with_each a rs vs) (with_each b rs us) ≡ true
each_up a b [] vs us up values = up
each_up a b (r ∷ rs) [] [] up values = up
each_up a b (r ∷ rs) [] (u ∷ us) up values = absurd (false≢true values)
each_up a b (r ∷ rs) (v ∷ vs) [] up values = absurd (false≢true values)
each_up a b (r ∷ rs) (v ∷ vs) (u ∷ us) up values =
    let parts = and_parts (is_value_at_most v u) (are_at_most vs us) values in
    each_up (with_cell a r v) (with_cell b r u) rs vs us (writes_keep_order.cell a b r v u up parts.0) parts.1

-- a state that is at least one that is entered is at least the one that is entered with its own values
pub entered_own : (t : List ℕ) (depth : ℕ) (a s : State) → IsThresholds t → is_state_over t s ≡ true → is_state_at_most (entered_with (arguments depth a)) s ≡ true
    → is_state_at_most (entered_with (entry_values s)) s ≡ true
entered_own t depth a s is over up =
    let free : s.flags ≡ Unknown =
    unknown_above s.flags
    (subst (λ (f : Flags). flags_at_most f s.flags ≡ true) (entered_unknown depth a)
    (and_parts (are_at_most (entered_with (arguments depth a)).cells s.cells) (flags_at_most (entered_with (arguments depth a)).flags s.flags) up).1) in
    let written =
    each_up (entered_with (arguments depth a)) s argument_registers (entry_values s) (entry_values s) up
    (cells_same t (entry_values s) (values_over t s is over)) in
    subst (λ (u : State). is_state_at_most u s ≡ true) (entered_again depth a s)
    (subst (λ (u : State). is_state_at_most (with_each (entered_with (arguments depth a)) argument_registers (entry_values s)) u ≡ true)
    (own_each s argument_registers free) written)

-- its values are at least those with which it is entered
pub entered_below : (t : List ℕ) (depth : ℕ) (a s : State) → IsThresholds t → is_state_over t a ≡ true → is_state_over t s ≡ true
    → is_state_at_most (entered_with (arguments depth a)) s ≡ true → are_at_most (arguments depth a) (entry_values s) ≡ true
entered_below t depth a s is lower over up =
    subst (λ (vs : List Value). are_at_most vs (entry_values s) ≡ true) (entered_values depth a)
    (mapped_up (cell_at (entered_with (arguments depth a))) (cell_at s) argument_registers
    (λ r. cell_up t t (entered_with (arguments depth a)) s r (record { lower = entered_over t depth a is lower; upper = over; up = up })))

-- what may be said of a call: the values at the entry, where there is one that is entered with its own values
abbrev lowered_to : Option Fact → Option Fact → Option Fact
lowered_to entry None = None
lowered_to (Some (fact.State s)) (Some v) = if is_state_at_most (entered_with (entry_values s)) s then Some (fact.Args (entry_values s)) else None
lowered_to (Some (fact.Args list)) (Some v) = None
lowered_to (Some (fact.Sum e)) (Some v) = None
lowered_to (Some fact.Mark) (Some v) = None
lowered_to None (Some v) = None

-- the entry of what a call leads to, with what is said of the call
pub record IsEntered (x : Facts) (u : ℕ) (given : List Value) : Type 0 where
  pub state : State
  pub found : x (key.Node (entry_of u)) ≡ Some (fact.State state)
  pub own : is_state_at_most (entered_with (entry_values state)) state ≡ true
  pub above : are_at_most given (entry_values state) ≡ true

module _ (t : List ℕ) (f : Family) (m : Program) (x : Facts) (lawful : IsLawfulFamily t m.widest f) (due : IsDueGraph (rules_of t f m) x) where
  abbrev lowered : Facts
  lowered (key.Node p) = x (key.Node p)
  lowered (key.Edge a b) = x (key.Edge a b)
  lowered (key.Call a u) = if m.is_stub u then x (key.Call a u) else lowered_to (x (key.Node (entry_of u))) (x (key.Call a u))
  lowered (key.Summary q) = x (key.Summary q)
  lowered (key.Gap q pc kind) = x (key.Gap q pc kind)

  pub state_over : (p : Place) (s : State) → x (key.Node p) ≡ Some (fact.State s) → is_state_over t s ≡ true
  state_over p s found = (fitting t (key.Node p) (fact.State s) (due.closed.fit (key.Node p) (fact.State s) found)).over

  -- the states behind what is taken stand over the thresholds
  behind_over : (p : Place) (step : Step) (before after : State) → IsTaken f m x p step Onward before after → is_state_over t after ≡ true
  behind_over p step before after taken =
      let first = state_over p taken.allowed.state taken.allowed.found in
      let middle : is_state_over t before ≡ true =
      subst (λ (o : Option State). is_over_or_none t o ≡ true) taken.allowed.narrowed (lawful.narrow p taken.allowed.state first) in
      subst (λ (o : Option State). is_over_or_none t o ≡ true) taken.stepped (lawful.step step before middle)

  args_fit : (a : Place) (u : ℕ) (s : State) (v : Fact) → x (key.Call a u) ≡ Some v → is_state_over t s ≡ true
      → fits t (key.Call a u) (fact.Args (entry_values s)) ≡ true
  args_fit a u s v found over =
      let old = fitting t (key.Call a u) v (due.closed.fit (key.Call a u) v found) in
      from_fitting t (key.Call a u) (fact.Args (entry_values s))
      (record { kind = refl; depths = old.depths; over = values_over t s lawful.thresholds over })

  lowered_fit : (a : Place) (u : ℕ) (entry call : Option Fact) (v : Fact) → x (key.Node (entry_of u)) ≡ entry → x (key.Call a u) ≡ call
      → lowered_to entry call ≡ Some v → fits t (key.Call a u) v ≡ true
  lowered_fit a u entry None v one two is = absurd (none_some is)
  lowered_fit a u (Some (fact.State s)) (Some w) v one two is = by (is_state_at_most (entered_with (entry_values s)) s) is where
    by : (b : Bool) → (if b then Some (fact.Args (entry_values s)) else None) ≡ Some v → fits t (key.Call a u) v ≡ true
    by true is =
        subst (λ (o : Fact). fits t (key.Call a u) o ≡ true) (some_same is)
        (args_fit a u s w two (state_over (entry_of u) s one))
    by false is = absurd (none_some is)
  lowered_fit a u (Some (fact.Args list)) (Some w) v one two is = absurd (none_some is)
  lowered_fit a u (Some (fact.Sum e)) (Some w) v one two is = absurd (none_some is)
  lowered_fit a u (Some fact.Mark) (Some w) v one two is = absurd (none_some is)
  lowered_fit a u None (Some w) v one two is = absurd (none_some is)

  -- start pieces are no calls
  abbrev Starts : Piece → Type 0
  Starts piece = lowered piece.0 ≡ x piece.0

  roots_start : (roots : List ℕ) → All Starts (map (λ root. (key.Node (entry_of root), fact.State entry_state)) roots)
  roots_start [] = All-nil Starts
  roots_start (root ∷ roots) =
      All-cons Starts (key.Node (entry_of root), fact.State entry_state) (map (λ r. (key.Node (entry_of r), fact.State entry_state)) roots) refl (roots_start roots)

  stubs_start : (stubs : List ℕ) → All Starts (map (λ stub. (key.Summary stub, fact.Sum effects_of_stub)) stubs)
  stubs_start [] = All-nil Starts
  stubs_start (stub ∷ stubs) =
      All-cons Starts (key.Summary stub, fact.Sum effects_of_stub) (map (λ q. (key.Summary q, fact.Sum effects_of_stub)) stubs) refl (stubs_start stubs)

  all_start : All Starts (start_pieces m)
  all_start =
      All-append Starts (map (λ root. (key.Node (entry_of root), fact.State entry_state)) m.roots) (map (λ stub. (key.Summary stub, fact.Sum effects_of_stub)) m.stubs)
      (roots_start m.roots) (stubs_start m.stubs)

  same_piece : (k : Key) (v : Fact) → lowered k ≡ x k → ContainsPiece (rules_of t f m) x k v → ContainsPiece (rules_of t f m) lowered k v
  same_piece k v same has = record { fact = has.fact; found = same ∙ has.found; above = has.above }

  none_in : (piece : Piece) → Contains {X = Piece} [] piece → ⊥
  none_in piece has = let low = has.1 in omega arith

  -- a call that is made is at most the values at the entry
  call_piece : (p a : Place) (u : ℕ) (v : Fact) → IsCallOf f m x p a u v → ContainsPiece (rules_of t f m) x (key.Call a u) v
      → (stub : Bool) → m.is_stub u ≡ stub → ContainsPiece (rules_of t f m) lowered (key.Call a u) v
  call_piece p a u v made has true stub =
      same_piece (key.Call a u) v (ap (λ (b : Bool). if b then x (key.Call a u) else lowered_to (x (key.Node (entry_of u))) (x (key.Call a u))) stub) has
  call_piece p a u v made has false stub =
      let enters = closed_calls.enters t f m x p u made.step made.before made.after due.closed made.taken made.into stub in
      let after : is_state_over t made.after ≡ true = behind_over p made.step made.before made.after made.taken in
      let there : is_state_over t enters.state ≡ true = state_over (entry_of u) enters.state enters.found in
      let own = entered_own t made.step.depth made.after enters.state lawful.thresholds there enters.above in
      let found : lowered (key.Call a u) ≡ Some (fact.Args (entry_values enters.state)) =
      ap (λ (b : Bool). if b then x (key.Call a u) else lowered_to (x (key.Node (entry_of u))) (x (key.Call a u))) stub
      ∙ (ap (λ (o : Option Fact). lowered_to o (x (key.Call a u))) enters.found
      ∙ (ap (λ (o : Option Fact). lowered_to (Some (fact.State enters.state)) o) has.found
      ∙ ap (λ (b : Bool). if b then Some (fact.Args (entry_values enters.state)) else None) own)) in
      record {
        fact = fact.Args (entry_values enters.state);
        found = found;
        above =
            subst (λ (w : Fact). is_at_most w (fact.Args (entry_values enters.state)) ≡ true) (sym made.is)
            (entered_below t made.step.depth made.after enters.state lawful.thresholds after there enters.above);
      }

  given_piece : (p : Place) (k : Key) (v : Fact) → IsOwn f m x p (gives f m (key.Node p) x) k v → ContainsPiece (rules_of t f m) x k v
      → ContainsPiece (rules_of t f m) lowered k v
  given_piece p (key.Node q) v own has = same_piece (key.Node q) v refl has
  given_piece p (key.Edge a b) v own has = same_piece (key.Edge a b) v refl has
  given_piece p (key.Call a u) v own has = call_piece p a u v own has (m.is_stub u) refl
  given_piece p (key.Summary q) v own has = same_piece (key.Summary q) v refl has
  given_piece p (key.Gap q pc kind) v own has = same_piece (key.Gap q pc kind) v refl has

  lowered_closed : IsClosed (rules_of t f m) lowered
  lowered_closed = record { fit = fit; starts = starts; given = given } where
    fit : (k : Key) (v : Fact) → lowered k ≡ Some v → fits t k v ≡ true
    fit (key.Node p) v found = due.closed.fit (key.Node p) v found
    fit (key.Edge a b) v found = due.closed.fit (key.Edge a b) v found
    fit (key.Call a u) v found = by (m.is_stub u) found where
      by : (b : Bool) → (if b then x (key.Call a u) else lowered_to (x (key.Node (entry_of u))) (x (key.Call a u))) ≡ Some v → fits t (key.Call a u) v ≡ true
      by true found = due.closed.fit (key.Call a u) v found
      by false found = lowered_fit a u (x (key.Node (entry_of u))) (x (key.Call a u)) v refl refl found
    fit (key.Summary q) v found = due.closed.fit (key.Summary q) v found
    fit (key.Gap q pc kind) v found = due.closed.fit (key.Gap q pc kind) v found

    starts : (k : Key) (v : Fact) → Contains {X = Piece} (start_pieces m) (k, v) → ContainsPiece (rules_of t f m) lowered k v
    starts k v has = same_piece k v (All-contains Starts (start_pieces m) (k, v) all_start has) (due.closed.starts k v has)

    of_node : (p : Place) → is_some (x (key.Node p)) ≡ true → (j : Key) (v : Fact) → Contains {X = Piece} (gives f m (key.Node p) lowered) (j, v)
        → ContainsPiece (rules_of t f m) lowered j v
    of_node p there j v has =
        let pieces : Contains {X = Piece} (gives f m (key.Node p) x) (j, v) =
        subst (λ (ps : List Piece). Contains ps (j, v)) (same_gives f m lowered x p refl (λ q. refl)) has in
        given_piece p j v (own_pieces f m x p j v pieces) (due.closed.given (key.Node p) there j v pieces)

    given : (k : Key) → is_some (lowered k) ≡ true → (j : Key) (v : Fact) → Contains {X = Piece} (gives f m k lowered) (j, v)
        → ContainsPiece (rules_of t f m) lowered j v
    given (key.Node p) there j v has = of_node p there j v has
    given (key.Edge a b) there j v has = absurd (none_in (j, v) has)
    given (key.Call a q) there j v has = absurd (none_in (j, v) has)
    given (key.Summary q) there j v has = absurd (none_in (j, v) has)
    given (key.Gap q pc kind) there j v has = absurd (none_in (j, v) has)

  entered_from : (u : ℕ) (given : List Value) (entry call : Option Fact) (v : Fact) → x (key.Node (entry_of u)) ≡ entry → lowered_to entry call ≡ Some v
      → is_at_most (fact.Args given) v ≡ true → IsEntered x u given
  entered_from u given entry None v one is up = absurd (none_some is)
  entered_from u given (Some (fact.State s)) (Some w) v one is up = by (is_state_at_most (entered_with (entry_values s)) s) refl is where
    by : (b : Bool) → is_state_at_most (entered_with (entry_values s)) s ≡ b → (if b then Some (fact.Args (entry_values s)) else None) ≡ Some v → IsEntered x u given
    by true own same =
        record {
          state = s;
          found = one;
          own = own;
          above =
              subst (λ (o : Fact). is_at_most (fact.Args given) o ≡ true)
              (sym (some_same same)) up;
        }
    by false own same = absurd (none_some same)
  entered_from u given (Some (fact.Args list)) (Some w) v one is up = absurd (none_some is)
  entered_from u given (Some (fact.Sum e)) (Some w) v one is up = absurd (none_some is)
  entered_from u given (Some fact.Mark) (Some w) v one is up = absurd (none_some is)
  entered_from u given None (Some w) v one is up = absurd (none_some is)

  -- what is said of a call that is looked into is at most what is said of the entry
  pub calls_enter : (a : Place) (u : ℕ) (given : List Value) → m.is_stub u ≡ false → x (key.Call a u) ≡ Some (fact.Args given) → IsEntered x u given
  calls_enter a u given stub found =
      let has = due.least (key.Call a u) (fact.Args given) found lowered lowered_closed in
      entered_from u given (x (key.Node (entry_of u))) (x (key.Call a u)) has.fact refl
      (sym (ap (λ (b : Bool). if b then x (key.Call a u) else lowered_to (x (key.Node (entry_of u))) (x (key.Call a u))) stub) ∙ has.found) has.above

  -- so the entry is entered with whatever is at most its values
  pub has_entered : (u : ℕ) (given args : List Value) → (is : IsEntered x u given) → are_at_most args (entry_values is.state) ≡ true
      → HasState x (entry_of u) (entered_with args)
  has_entered u given args is up =
      record {
        state = is.state;
        found = is.found;
        above =
            states_are_ordered.onward (entered_with args) (entered_with (entry_values is.state)) is.state
            (entered_up args (entry_values is.state) (entry_up t lawful.thresholds) up) is.own;
      }
