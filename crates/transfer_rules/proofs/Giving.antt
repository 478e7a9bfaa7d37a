-- What holds of the pieces that a place gives.
use Rattle.std.proofs.Common.{◌≡◌, ℕ, zero, suc, ◌+◌, ◌≤◌, ◌⊎◌, inl, inr, ◌&&◌, Bool, true, false, List, [], ◌∷◌, ◌++◌, Option, Some, None, Contains}
use Rattle.std.proofs.Common.{refl, sym, ap, subst, ◌∙◌, arith}
use Rattle.std.specs.Prelude.{◌==◌, not, nat_lt, if◌then◌else◌}
use Rattle.std.specs.List.{All, flat_map}
use Rattle.std.proofs.lemmas.Bool.{agree_below_at, eq-eqb, false≢true, le-ltb, not-true, both_ways}
use Rattle.std.proofs.lemmas.List.Elements.{All-append, All-cons, All-contains, All-map, All-nil, All-weaker, Contains-append_left, Contains-append_right}
use Rattle.call_effects.specs.Cell.{cell_of}
use Rattle.call_effects.specs.Mask.{after_call, has_cell}
use Rattle.call_effects.specs.Summary.{effects_of_stub}
use Rattle.call_effects.specs.declared.summary.Summary.{Summary as Effects}
use Rattle.value_lattice.specs.Least.{top}
use Rattle.value_lattice.specs.Test.{is_at_most as is_value_at_most}
use Rattle.value_lattice.specs.Value.{is_ret}
use Rattle.value_lattice.specs.declared.value.Value.{Value}
use Rattle.value_lattice.specs.declared.value.Value.TheVariants.{Words, Range, Ret}
use Rattle.abs_state.specs.State.{State, cell_at, cell_in, forgotten, forgotten_from, without}
use Rattle.abs_state.specs.declared.key.GapKind.{GapKind}
use Rattle.abs_state.specs.declared.key.GapKind.TheVariants as why
use Rattle.abs_state.specs.declared.key.Key.{Key}
use Rattle.abs_state.specs.declared.key.Key.TheVariants as key
use Rattle.abs_state.specs.declared.key.Next.{Next}
use Rattle.abs_state.specs.declared.key.Next.TheVariants.{At, Into, Back}
use Rattle.abs_state.specs.declared.key.Place.{Place}
use Rattle.transfer_rules.specs.Fact.{Piece, effects_in, state_in}
use Rattle.transfer_rules.specs.Family.{Family, Program}
use Rattle.transfer_rules.specs.Give.{Facts, act_beside, act_entered, act_gives, act_here, argument_registers, arguments, behind, beside, beside_to}
use Rattle.transfer_rules.specs.Give.{called, called_effects, called_to, callee_of, delayed, effects, entered, entered_to, entered_with, entry_of}
use Rattle.transfer_rules.specs.Give.{exits, gap, given_if, gives, goes, handed, here, here_to, is_behind, is_known, jumped_to, mask_of, node_gives}
use Rattle.transfer_rules.specs.Give.{onward, pieces_of, place}
use Rattle.transfer_rules.specs.Given.{ArgumentsAreNoReturnAddress, BranchesLeadToExits, CallsEnterDelays, CallsKeepTheRest, GapsAreEnds}
use Rattle.transfer_rules.specs.Given.{IsBehindCall, IsEntered, IsExit, IsLed, OnlyPlacesGive, PlacesHaveEdges, PlacesSpeakOfTheirs, StubsKeepLocals}
use Rattle.transfer_rules.specs.Given.{WritesAreSaid, sub_of}
use Rattle.transfer_rules.specs.declared.act.Act.{Act}
use Rattle.transfer_rules.specs.declared.act.Act.TheVariants.{Dead, Open, Acts}
use Rattle.transfer_rules.specs.declared.act.Exit.{Exit}
use Rattle.transfer_rules.specs.declared.act.Way.{Way}
use Rattle.transfer_rules.specs.declared.act.Way.TheVariants.{Onward, Forks, CallsTo, JumpsTo, ReturnsBy}
use Rattle.transfer_rules.specs.declared.fact.Fact.{Fact}
use Rattle.transfer_rules.specs.declared.fact.Fact.TheVariants as fact
use Rattle.transfer_rules.specs.declared.step.Step.{Step}

-- only program points give anything
none_given : (j : Key) (v : Fact) → Contains {X = Piece} [] (j, v) → ⊥
none_given j v has = let below = has.1 in omega arith

-- only a program point gives anything
pub only_places_give : OnlyPlacesGive
only_places_give f m (key.Node p) j v x has = (p, refl)
only_places_give f m (key.Edge p q) j v x has = absurd (none_given j v has)
only_places_give f m (key.Call p t) j v x has = absurd (none_given j v has)
only_places_give f m (key.Summary sub) j v x has = absurd (none_given j v has)
only_places_give f m (key.Gap sub pc kind) j v x has = absurd (none_given j v has)

-- what holds of each piece in its list, where more in the list changes nothing
module _ (P : List Piece → Piece → Type 0) (left : (xs ys : List Piece) (piece : Piece) → P xs piece → P (xs ++ ys) piece)
    (right : (xs ys : List Piece) (piece : Piece) → P ys piece → P (xs ++ ys) piece) where
  abbrev Holds : List Piece → Type 0
  Holds ps = All (P ps) ps

  none_hold : Holds []
  none_hold = All-nil (P [])

  both_hold : (ps qs : List Piece) → Holds ps → Holds qs → Holds (ps ++ qs)
  both_hold ps qs one two =
      All-append (P (ps ++ qs)) ps qs (All-weaker (P ps) (P (ps ++ qs)) (left ps qs) ps one) (All-weaker (P qs) (P (ps ++ qs)) (right ps qs) qs two)

  if_hold : (b : Bool) (ps : List Piece) → Holds ps → Holds (given_if b ps)
  if_hold true ps are = are
  if_hold false ps are = none_hold

  each_hold : {A : Type 0} (give : A → List Piece) (xs : List A) → ((a : A) → Holds (give a)) → Holds (flat_map give xs)
  each_hold give [] are = none_hold
  each_hold give (x ∷ xs) are = both_hold (give x) (flat_map give xs) (are x) (each_hold give xs are)

  of_hold : {A : Type 0} (o : Option A) (give : A → List Piece) → ((a : A) → Holds (give a)) → Holds (pieces_of o give)
  of_hold None give are = none_hold
  of_hold (Some a) give are = are a

  module _ (m : Program) (p : Place)
      (steps : (q : Place) (s : State) → q.sub ≡ p.sub → Holds (goes p q s))
      (gaps : (kind : GapKind) → Holds (gap p kind ∷ []))
      (says : (returns skips : Bool) (written : ℕ) → Holds (effects p.sub returns skips written ∷ []))
      (calls : (t depth : ℕ) (s : State) → p.next ≡ Into t → Holds ((key.Call p t, fact.Args (arguments depth s)) ∷ []))
      (enters : (t : ℕ) (s : State) → p.next ≡ Into t → Holds ((key.Node (entry_of t), fact.State s) ∷ [])) where
    called_hold : (depth : ℕ) (e : Effects) (s : State) → Holds (called p depth e s)
    called_hold depth e s =
        both_hold (given_if e.returns (goes p (onward p (behind p.pc 4) depth) (without s (after_call e.written depth))))
        (given_if e.skips (goes p (onward p (behind p.pc 8) depth) (without s (after_call e.written depth))))
        (if_hold e.returns (goes p (onward p (behind p.pc 4) depth) (without s (after_call e.written depth)))
        (steps (onward p (behind p.pc 4) depth) (without s (after_call e.written depth)) refl))
        (if_hold e.skips (goes p (onward p (behind p.pc 8) depth) (without s (after_call e.written depth)))
        (steps (onward p (behind p.pc 8) depth) (without s (after_call e.written depth)) refl))

    here_to_hold : (next : Next) (depth : ℕ) (c : Option Effects) (s : State) → Holds (here_to next p depth c s)
    here_to_hold (At n) depth c s = steps (onward p n depth) s refl
    here_to_hold (Into q) depth c s = of_hold c (λ there. called p depth there s) (λ e. called_hold depth e s)
    here_to_hold Back depth c s = none_hold

    beside_to_hold : (next : Next) (depth : ℕ) (c : Option Effects) (s : State) → p.next ≡ next → Holds (beside_to next m p depth c s)
    beside_to_hold (At n) depth c s is = none_hold
    beside_to_hold (Into q) depth c s is =
        both_hold ((key.Call p q, fact.Args (arguments depth s)) ∷ []) (pieces_of c (called_effects p depth)) (calls q depth s is)
        (of_hold c (called_effects p depth) (λ e. says false false (after_call e.written depth)))
    beside_to_hold Back depth c s is = by (depth == 0) where
      by : (b : Bool) → Holds (if b then effects p.sub (not (m.skips p)) (m.skips p) 0 ∷ [] else gap p why.Instr ∷ [])
      by true = says (not (m.skips p)) (m.skips p) 0
      by false = gaps why.Instr

    entered_to_hold : (next : Next) (depth : ℕ) (s : State) → p.next ≡ next → Holds (entered_to next m depth s)
    entered_to_hold (At n) depth s is = none_hold
    entered_to_hold (Into q) depth s is =
        if_hold (not (m.is_stub q)) ((key.Node (entry_of q), fact.State (entered_with (arguments depth s))) ∷ [])
        (enters q (entered_with (arguments depth s)) is)
    entered_to_hold Back depth s is = none_hold

    entered_hold : (step : Step) (way : Way) (s : State) → Holds (entered m p step way s)
    entered_hold step Onward s = entered_to_hold p.next step.depth s refl
    entered_hold step (Forks one two) s = none_hold
    entered_hold step (CallsTo aim) s = none_hold
    entered_hold step (JumpsTo aim) s = none_hold
    entered_hold step (ReturnsBy x) s = none_hold

    module _ (f : Family) where
      exits_hold : (exit : Option Exit) (s : State) → Holds (exits f p exit s)
      exits_hold None s = none_hold
      exits_hold (Some exit) s =
          of_hold (f.test exit.test s) (goes p (place p exit.pc (At exit.npc) p.depth)) (λ u. steps (place p exit.pc (At exit.npc) p.depth) u refl)

      here_hold : (step : Step) (way : Way) (c : Option Effects) (before s : State) → Holds (here f p step way c before s)
      here_hold step Onward c before s = here_to_hold p.next step.depth c s
      here_hold step (Forks one two) c before s = both_hold (exits f p one s) (exits f p two s) (exits_hold one s) (exits_hold two s)
      here_hold step (CallsTo aim) c before s =
          each_hold (called_to p s) (f.resolve p.pc aim before).list
          (λ q. if_hold (not (is_behind p q)) (goes p (delayed p (Into q)) s) (steps (delayed p (Into q)) s refl))
      here_hold step (JumpsTo aim) c before s = each_hold (jumped_to p s) (f.resolve p.pc aim before).list (λ q. steps (delayed p (At q)) s refl)
      here_hold step (ReturnsBy x) c before s = if_hold (is_value_at_most Ret (cell_at before x)) (goes p (delayed p Back) s) (steps (delayed p Back) s refl)

      beside_hold : (step : Step) (way : Way) (c : Option Effects) (before s : State) → Holds (beside f m p step way c before s)
      beside_hold step Onward c before s = beside_to_hold p.next step.depth c s refl
      beside_hold step (Forks one two) c before s = none_hold
      beside_hold step (CallsTo aim) c before s = if_hold (not (is_known p (f.resolve p.pc aim before))) (gap p why.Call ∷ []) (gaps why.Call)
      beside_hold step (JumpsTo aim) c before s = if_hold (not (f.resolve p.pc aim before).whole) (gap p why.Jump ∷ []) (gaps why.Jump)
      beside_hold step (ReturnsBy x) c before s = if_hold (not (is_ret (cell_at before x))) (gap p why.Jump ∷ []) (gaps why.Jump)

      act_hold : (act : Act) (c : Option Effects) (s : State) → Holds (act_gives f m p act c s)
      act_hold Dead c s = none_hold
      act_hold (Open kind) c s = gaps kind
      act_hold (Acts step way) c s =
          both_hold (act_beside f m p (Acts step way) c s) (act_here f p (Acts step way) c s ++ act_entered f m p (Acts step way) s)
          (both_hold (effects p.sub false false (mask_of step) ∷ []) (pieces_of (f.step step s) (beside f m p step way c s)) (says false false (mask_of step))
          (of_hold (f.step step s) (beside f m p step way c s) (λ u. beside_hold step way c s u)))
          (both_hold (act_here f p (Acts step way) c s) (act_entered f m p (Acts step way) s)
          (of_hold (f.step step s) (here f p step way c s) (λ u. here_hold step way c s u))
          (of_hold (f.step step s) (entered m p step way) (λ u. entered_hold step way u)))

      pub given_hold : (x : Facts) → Holds (gives f m (key.Node p) x)
      given_hold x =
          of_hold (state_in (x (key.Node p))) (node_gives f m p (callee_of p.next x))
          (λ s. of_hold (f.narrow p s) (act_gives f m p (m.act p) (callee_of p.next x)) (λ u. act_hold (m.act p) (callee_of p.next x) u))

-- edges
abbrev Edged : Place → List Piece → Key → Type 0
Edged p others (key.Node q) = Contains others (key.Edge p q, fact.Mark) ⊎ IsEntered p q
Edged p others (key.Edge a b) = (a ≡ p) × (b.sub ≡ p.sub) × ((s : State) × Contains others (key.Node b, fact.State s))
Edged p others (key.Call q t) = Unit {0}
Edged p others (key.Summary sub) = Unit {0}
Edged p others (key.Gap sub pc kind) = Unit {0}

edged_left : (p : Place) (xs ys : List Piece) (k : Key) → Edged p xs k → Edged p (xs ++ ys) k
edged_left p xs ys (key.Node q) (inl has) = inl (Contains-append_left xs ys (key.Edge p q, fact.Mark) has)
edged_left p xs ys (key.Node q) (inr is) = inr is
edged_left p xs ys (key.Edge a b) is = (is.0, is.1, (is.2.0, Contains-append_left xs ys (key.Node b, fact.State is.2.0) is.2.1))
edged_left p xs ys (key.Call q t) is = tt
edged_left p xs ys (key.Summary sub) is = tt
edged_left p xs ys (key.Gap sub pc kind) is = tt

edged_right : (p : Place) (xs ys : List Piece) (k : Key) → Edged p ys k → Edged p (xs ++ ys) k
edged_right p xs ys (key.Node q) (inl has) = inl (Contains-append_right xs ys (key.Edge p q, fact.Mark) has)
edged_right p xs ys (key.Node q) (inr is) = inr is
edged_right p xs ys (key.Edge a b) is = (is.0, is.1, (is.2.0, Contains-append_right xs ys (key.Node b, fact.State is.2.0) is.2.1))
edged_right p xs ys (key.Call q t) is = tt
edged_right p xs ys (key.Summary sub) is = tt
edged_right p xs ys (key.Gap sub pc kind) is = tt

one_of : (P : Piece → Type 0) (piece : Piece) → P piece → All P (piece ∷ [])
one_of P piece is = All-cons P piece [] is (All-nil P)

two_of : (P : Piece → Type 0) (one two : Piece) → P one → P two → All P (one ∷ two ∷ [])
two_of P one two is also = All-cons P one (two ∷ []) is (one_of P two also)

all_edged : (f : Family) (m : Program) (p : Place) (x : Facts) → All (λ piece. Edged p (gives f m (key.Node p) x) piece.0) (gives f m (key.Node p) x)
all_edged f m p x =
    given_hold (λ others piece. Edged p others piece.0) (λ xs ys piece is. edged_left p xs ys piece.0 is) (λ xs ys piece is. edged_right p xs ys piece.0 is) m p
    (λ q s same.
    two_of (λ piece. Edged p (goes p q s) piece.0) (key.Node q, fact.State s) (key.Edge p q, fact.Mark) (inl (1, omega arith, refl))
    (refl, same, (s, (0, omega arith, refl))))
    (λ kind. one_of (λ piece. Edged p (gap p kind ∷ []) piece.0) (gap p kind) tt)
    (λ returns skips written. one_of (λ piece. Edged p (effects p.sub returns skips written ∷ []) piece.0) (effects p.sub returns skips written) tt)
    (λ t depth s is. one_of (λ piece. Edged p ((key.Call p t, fact.Args (arguments depth s)) ∷ []) piece.0) (key.Call p t, fact.Args (arguments depth s)) tt)
    (λ t s is.
    one_of (λ piece. Edged p ((key.Node (entry_of t), fact.State s) ∷ []) piece.0) (key.Node (entry_of t), fact.State s)
    (inr (record { callee = t; calls = is; entry = refl }))) f x

-- a program point gives an edge to each one that it gives, but to the entry of what it calls; and an edge begins at the
-- point that gives it, and leads to one of the same subprogram that it gives too
pub places_have_edges : PlacesHaveEdges
places_have_edges = record { edges = edges; places = places } where
  edges : (f : Family) (m : Program) (p q : Place) (v : Fact) (x : Facts) → Contains (gives f m (key.Node p) x) (key.Node q, v)
      → Contains (gives f m (key.Node p) x) (key.Edge p q, fact.Mark) ⊎ IsEntered p q
  edges f m p q v x has = All-contains (λ piece. Edged p (gives f m (key.Node p) x) piece.0) (gives f m (key.Node p) x) (key.Node q, v) (all_edged f m p x) has

  places : (f : Family) (m : Program) (p a b : Place) (v : Fact) (x : Facts) → Contains (gives f m (key.Node p) x) (key.Edge a b, v) → IsLed f m p a b x
  places f m p a b v x has =
      let is = All-contains (λ piece. Edged p (gives f m (key.Node p) x) piece.0) (gives f m (key.Node p) x) (key.Edge a b, v) (all_edged f m p x) has in
      record { from = is.0; sub = is.1; state = is.2.0; given = is.2.1 }

-- of which subprogram pieces speak
abbrev IsTheirs : Place → Key → Type 0
IsTheirs p k = (sub_of k ≡ p.sub) ⊎ ((t : ℕ) × (p.next ≡ Into t) × (k ≡ key.Node (entry_of t)))

-- what a program point gives speaks of its subprogram, but for the entry of what it calls
pub places_speak_of_theirs : PlacesSpeakOfTheirs
places_speak_of_theirs f m p k v x has =
    All-contains (λ piece. IsTheirs p piece.0) (gives f m (key.Node p) x) (k, v)
    (given_hold (λ others piece. IsTheirs p piece.0) (λ xs ys piece is. is) (λ xs ys piece is. is) m p
    (λ q s same. two_of (λ piece. IsTheirs p piece.0) (key.Node q, fact.State s) (key.Edge p q, fact.Mark) (inl same) (inl refl))
    (λ kind. one_of (λ piece. IsTheirs p piece.0) (gap p kind) (inl refl))
    (λ returns skips written. one_of (λ piece. IsTheirs p piece.0) (effects p.sub returns skips written) (inl refl))
    (λ t depth s is. one_of (λ piece. IsTheirs p piece.0) (key.Call p t, fact.Args (arguments depth s)) (inl refl))
    (λ t s is. one_of (λ piece. IsTheirs p piece.0) (key.Node (entry_of t), fact.State s) (inr (t, is, refl))) f x) has

-- arguments
abbrev HandsNone : Key → Fact → Type 0
HandsNone (key.Call q t) (fact.Args list) = All (λ v. is_ret v ≡ false) list
HandsNone _ _ = Unit {0}

handed_none : (v : Value) → is_ret (handed v) ≡ false
handed_none (Words words) = refl
handed_none (Range lo hi) = refl
handed_none Ret = refl

-- no argument is handed on as the return address, which is that of one frame alone
pub arguments_are_no_return_address : ArgumentsAreNoReturnAddress
arguments_are_no_return_address f m p from t list x has =
    All-contains (λ piece. HandsNone piece.0 piece.1) (gives f m (key.Node p) x) (key.Call from t, fact.Args list)
    (given_hold (λ others piece. HandsNone piece.0 piece.1) (λ xs ys piece is. is) (λ xs ys piece is. is) m p
    (λ q s same. two_of (λ piece. HandsNone piece.0 piece.1) (key.Node q, fact.State s) (key.Edge p q, fact.Mark) tt tt)
    (λ kind. one_of (λ piece. HandsNone piece.0 piece.1) (gap p kind) tt)
    (λ returns skips written. one_of (λ piece. HandsNone piece.0 piece.1) (effects p.sub returns skips written) tt)
    (λ q depth s is.
    one_of (λ piece. HandsNone piece.0 piece.1) (key.Call p q, fact.Args (arguments depth s))
    (All-map (λ v. is_ret v ≡ false) (λ r. handed (cell_at s (cell_of depth r))) argument_registers (λ k d h. handed_none (cell_at s _))))
    (λ q s is. one_of (λ piece. HandsNone piece.0 piece.1) (key.Node (entry_of q), fact.State s) tt) f x) has

-- what holds of what an act gives
module _ (P : Piece → Type 0) where
  all_if : (b : Bool) (ps : List Piece) → (b ≡ true → All P ps) → All P (given_if b ps)
  all_if true ps are = are refl
  all_if false ps are = All-nil P

  all_each : {A : Type 0} (give : A → List Piece) (xs : List A) → ((a : A) → All P (give a)) → All P (flat_map give xs)
  all_each give [] are = All-nil P
  all_each give (x ∷ xs) are = All-append P (give x) (flat_map give xs) (are x) (all_each give xs are)

  all_of : {A : Type 0} (o : Option A) (give : A → List Piece) → ((a : A) → o ≡ Some a → All P (give a)) → All P (pieces_of o give)
  all_of None give are = All-nil P
  all_of (Some a) give are = are a refl

  by_act : (f : Family) (m : Program) (p : Place) (x : Facts) (act : Act) → m.act p ≡ act → ((c : Option Effects) (s : State) → All P (act_gives f m p act c s))
      → All P (gives f m (key.Node p) x)
  by_act f m p x act is are =
      all_of (state_in (x (key.Node p))) (node_gives f m p (callee_of p.next x))
      (λ s found. all_of (f.narrow p s) (act_gives f m p (m.act p) (callee_of p.next x))
      (λ u left. subst (λ (a : Act). All P (act_gives f m p a (callee_of p.next x) u)) (sym is) (are (callee_of p.next x) u)))

-- a program point whose instruction isn't followed gives that gap alone, and one where control doesn't come gives nothing
pub gaps_are_ends : GapsAreEnds
gaps_are_ends = record { unfollowed = opened; unreached = nothing } where
  opened : (f : Family) (m : Program) (p : Place) (kind : GapKind) (k : Key) (v : Fact) (x : Facts) → m.act p ≡ Open kind
      → Contains (gives f m (key.Node p) x) (k, v)
      → k ≡ key.Gap p.sub p.pc kind
  opened f m p kind k v x is has =
      All-contains (λ piece. piece.0 ≡ key.Gap p.sub p.pc kind) (gives f m (key.Node p) x) (k, v)
      (by_act (λ piece. piece.0 ≡ key.Gap p.sub p.pc kind) f m p x (Open kind) is
      (λ c s. one_of (λ piece. piece.0 ≡ key.Gap p.sub p.pc kind) (gap p kind) refl)) has

  nothing : (f : Family) (m : Program) (p : Place) (x : Facts) → m.act p ≡ Dead → gives f m (key.Node p) x ≡ []
  nothing f m p x is =
      empty (gives f m (key.Node p) x) (by_act (λ piece. ⊥) f m p x Dead is (λ c s. All-nil (λ piece. ⊥)))
    where
      empty : (ps : List Piece) → All (λ piece. ⊥) ps → ps ≡ []
      empty [] none = refl
      empty (piece ∷ ps) none = absurd (none 0 piece (omega arith))

-- branches
abbrev LeadsOut : Place → Option Exit → Option Exit → Key → Type 0
LeadsOut p first second (key.Node q) = IsExit p q first ⊎ IsExit p q second
LeadsOut p first second (key.Edge a b) = Unit {0}
LeadsOut p first second (key.Call q t) = Unit {0}
LeadsOut p first second (key.Summary sub) = Unit {0}
LeadsOut p first second (key.Gap sub pc kind) = Unit {0}

-- A branch leads to where its directions lead, and nowhere else. So an annulling branch that is untaken, whose direction
-- is to the address behind the delay instruction, never leads to its delay instruction.
pub branches_lead_to_exits : BranchesLeadToExits
branches_lead_to_exits f m p q step first second v x is has =
    All-contains (λ piece. LeadsOut p first second piece.0) (gives f m (key.Node p) x) (key.Node q, v)
    (by_act (λ piece. LeadsOut p first second piece.0) f m p x (Acts step (Forks first second)) is act) has
  where
    out : (exit : Option Exit) (s : State) → ((r : Place) → IsExit p r exit → IsExit p r first ⊎ IsExit p r second)
        → All (λ piece. LeadsOut p first second piece.0) (exits f p exit s)
    out None s to = All-nil (λ piece. LeadsOut p first second piece.0)
    out (Some exit) s to =
        all_of (λ piece. LeadsOut p first second piece.0) (f.test exit.test s) (goes p (place p exit.pc (At exit.npc) p.depth))
        (λ u left. two_of (λ piece. LeadsOut p first second piece.0) (key.Node (place p exit.pc (At exit.npc) p.depth), fact.State u)
        (key.Edge p (place p exit.pc (At exit.npc) p.depth), fact.Mark)
        (to (place p exit.pc (At exit.npc) p.depth) (record { to = exit; is = refl; place = refl })) tt)

    act : (c : Option Effects) (s : State) → All (λ piece. LeadsOut p first second piece.0) (act_gives f m p (Acts step (Forks first second)) c s)
    act c s =
        All-append (λ piece. LeadsOut p first second piece.0) (act_beside f m p (Acts step (Forks first second)) c s)
        (act_here f p (Acts step (Forks first second)) c s ++ act_entered f m p (Acts step (Forks first second)) s)
        (All-append (λ piece. LeadsOut p first second piece.0) (effects p.sub false false (mask_of step) ∷ [])
        (pieces_of (f.step step s) (beside f m p step (Forks first second) c s))
        (one_of (λ piece. LeadsOut p first second piece.0) (effects p.sub false false (mask_of step)) tt)
        (all_of (λ piece. LeadsOut p first second piece.0) (f.step step s) (beside f m p step (Forks first second) c s)
        (λ u left. All-nil (λ piece. LeadsOut p first second piece.0))))
        (All-append (λ piece. LeadsOut p first second piece.0) (act_here f p (Acts step (Forks first second)) c s)
        (act_entered f m p (Acts step (Forks first second)) s)
        (all_of (λ piece. LeadsOut p first second piece.0) (f.step step s) (here f p step (Forks first second) c s)
        (λ u left. All-append (λ piece. LeadsOut p first second piece.0) (exits f p first u) (exits f p second u) (out first u (λ r exit. inl exit))
        (out second u (λ r exit. inr exit))))
        (all_of (λ piece. LeadsOut p first second piece.0) (f.step step s) (entered m p step (Forks first second))
        (λ u left. All-nil (λ piece. LeadsOut p first second piece.0))))

-- calls
abbrev IsDelay : Place → Place → Type 0
IsDelay p q = (t : ℕ) × (t ≡ behind p.pc 8 → ⊥) × (q ≡ record { sub = p.sub; pc = behind p.pc 4; next = Into t; depth = p.depth })

abbrev EntersDelay : Place → Key → Type 0
EntersDelay p (key.Node q) = IsDelay p q
EntersDelay p (key.Edge a b) = Unit {0}
EntersDelay p (key.Call q t) = Unit {0}
EntersDelay p (key.Summary sub) = Unit {0}
EntersDelay p (key.Gap sub pc kind) = Unit {0}

-- a call leads to its delay instruction, with a target that isn't the address behind that
pub calls_enter_delays : CallsEnterDelays
calls_enter_delays f m p q step aim v x is has =
    All-contains (λ piece. EntersDelay p piece.0) (gives f m (key.Node p) x) (key.Node q, v)
    (by_act (λ piece. EntersDelay p piece.0) f m p x (Acts step (CallsTo aim)) is act) has
  where
    apart : (t : ℕ) → not (is_behind p t) ≡ true → t ≡ behind p.pc 8 → ⊥
    apart t other same = both_ways (is_behind p t) (not-true (is_behind p t) other) (eq-eqb t (behind p.pc 8) same)

    act : (c : Option Effects) (s : State) → All (λ piece. EntersDelay p piece.0) (act_gives f m p (Acts step (CallsTo aim)) c s)
    act c s =
        All-append (λ piece. EntersDelay p piece.0) (act_beside f m p (Acts step (CallsTo aim)) c s)
        (act_here f p (Acts step (CallsTo aim)) c s ++ act_entered f m p (Acts step (CallsTo aim)) s)
        (All-append (λ piece. EntersDelay p piece.0) (effects p.sub false false (mask_of step) ∷ [])
        (pieces_of (f.step step s) (beside f m p step (CallsTo aim) c s))
        (one_of (λ piece. EntersDelay p piece.0) (effects p.sub false false (mask_of step)) tt)
        (all_of (λ piece. EntersDelay p piece.0) (f.step step s) (beside f m p step (CallsTo aim) c s)
        (λ u left. all_if (λ piece. EntersDelay p piece.0) (not (is_known p (f.resolve p.pc aim s))) (gap p why.Call ∷ [])
        (λ open'. one_of (λ piece. EntersDelay p piece.0) (gap p why.Call) tt))))
        (All-append (λ piece. EntersDelay p piece.0) (act_here f p (Acts step (CallsTo aim)) c s) (act_entered f m p (Acts step (CallsTo aim)) s)
        (all_of (λ piece. EntersDelay p piece.0) (f.step step s) (here f p step (CallsTo aim) c s)
        (λ u left. all_each (λ piece. EntersDelay p piece.0) (called_to p u) (f.resolve p.pc aim s).list
        (λ t. all_if (λ piece. EntersDelay p piece.0) (not (is_behind p t)) (goes p (delayed p (Into t)) u)
        (λ other. two_of (λ piece. EntersDelay p piece.0) (key.Node (delayed p (Into t)), fact.State u) (key.Edge p (delayed p (Into t)), fact.Mark)
        (t, apart t other, refl) tt))))
        (all_of (λ piece. EntersDelay p piece.0) (f.step step s) (entered m p step (CallsTo aim)) (λ u left. All-nil (λ piece. EntersDelay p piece.0))))

-- the cells that aren't forgotten
kept_from : (mask c : ℕ) (cells : List Value) (k : ℕ) → has_cell mask (c + k) ≡ false → cell_in (forgotten_from mask c cells) k ≡ cell_in cells k
kept_from mask c [] k free = refl
kept_from mask c (v ∷ vs) zero free = by (has_cell mask c) (ap (λ (n : ℕ). has_cell mask n) same ∙ free) where
  same : c ≡ c + 0
  same = omega arith

  by : (b : Bool) → b ≡ false → (if b then top else v) ≡ v
  by true is = absurd (false≢true (sym is))
  by false is = refl
kept_from mask c (v ∷ vs) (suc k) free = kept_from mask (c + 1) vs k (ap (λ (n : ℕ). has_cell mask n) same ∙ free) where
  same : (c + 1) + k ≡ c + suc k
  same = omega arith

kept_cells : (mask : ℕ) (cells : List Value) (k : ℕ) → has_cell mask k ≡ false → cell_in (forgotten mask cells) k ≡ cell_in cells k
kept_cells mask [] k free = refl
kept_cells mask (v ∷ vs) zero free = refl
kept_cells mask (v ∷ vs) (suc k) free = kept_from mask 1 vs k (ap (λ (n : ℕ). has_cell mask n) same ∙ free) where
  same : 1 + k ≡ suc k
  same = omega arith

abbrev IsBehind : Family → Place → Step → Effects → State → Key → Fact → Type 0
IsBehind f p step there before (key.Node r) (fact.State s) = IsEntered p r ⊎ IsBehindCall f p step there before s
IsBehind f p step there before _ _ = Unit {0}

abbrev Behind : Family → Place → Step → Effects → State → Piece → Type 0
Behind f p step there before piece = IsBehind f p step there before piece.0 piece.1

-- behind a call each cell that the callee may not write is what the delay instruction left, and nothing is known of the
-- condition codes
pub calls_keep_the_rest : CallsKeepTheRest
calls_keep_the_rest f m p q t step there before u x next act found callee has =
    All-contains (Behind f p step there before) (gives f m (key.Node p) x) (key.Node q, fact.State u) given has
  where
    behind_call : (allowed after : State) → f.narrow p before ≡ Some allowed → f.step step allowed ≡ Some after
        → IsBehindCall f p step there before (without after (after_call there.written step.depth))
    behind_call allowed after left stepped =
        record {
          allowed = allowed;
          narrowed = left;
          after = after;
          stepped = stepped;
          kept = λ c free. kept_cells (after_call there.written step.depth) after.cells c free;
          flags = refl;
        }

    goes_on : (r : Place) (s : State) → IsBehindCall f p step there before s → All (Behind f p step there before) (goes p r s)
    goes_on r s is = two_of (Behind f p step there before) (key.Node r, fact.State s) (key.Edge p r, fact.Mark) (inr is) tt

    at_call : (allowed after : State) → f.narrow p before ≡ Some allowed → f.step step allowed ≡ Some after
        → All (Behind f p step there before) (called p step.depth there after)
    at_call allowed after left stepped =
        let is = behind_call allowed after left stepped in
        let s : State = without after (after_call there.written step.depth) in
        All-append (Behind f p step there before) (given_if there.returns (goes p (onward p (behind p.pc 4) step.depth) s))
        (given_if there.skips (goes p (onward p (behind p.pc 8) step.depth) s))
        (all_if (Behind f p step there before) there.returns (goes p (onward p (behind p.pc 4) step.depth) s)
        (λ returns. goes_on (onward p (behind p.pc 4) step.depth) s is))
        (all_if (Behind f p step there before) there.skips (goes p (onward p (behind p.pc 8) step.depth) s)
        (λ skips. goes_on (onward p (behind p.pc 8) step.depth) s is))

    onwards : (allowed : State) → f.narrow p before ≡ Some allowed
        → All (Behind f p step there before) (act_gives f m p (Acts step Onward) (Some there) allowed)
    onwards allowed left =
        All-append (Behind f p step there before) (act_beside f m p (Acts step Onward) (Some there) allowed)
        (act_here f p (Acts step Onward) (Some there) allowed ++ act_entered f m p (Acts step Onward) allowed)
        (All-append (Behind f p step there before) (effects p.sub false false (mask_of step) ∷ [])
        (pieces_of (f.step step allowed) (beside f m p step Onward (Some there) allowed))
        (one_of (Behind f p step there before) (effects p.sub false false (mask_of step)) tt)
        (all_of (Behind f p step there before) (f.step step allowed) (beside f m p step Onward (Some there) allowed)
        (λ after stepped. subst (λ (n : Next). All (Behind f p step there before) (beside_to n m p step.depth (Some there) after)) (sym next)
        (two_of (Behind f p step there before) (key.Call p t, fact.Args (arguments step.depth after))
        (effects p.sub false false (after_call there.written step.depth)) tt tt))))
        (All-append (Behind f p step there before) (act_here f p (Acts step Onward) (Some there) allowed) (act_entered f m p (Acts step Onward) allowed)
        (all_of (Behind f p step there before) (f.step step allowed) (here f p step Onward (Some there) allowed)
        (λ after stepped. subst (λ (n : Next). All (Behind f p step there before) (here_to n p step.depth (Some there) after)) (sym next)
        (at_call allowed after left stepped)))
        (all_of (Behind f p step there before) (f.step step allowed) (entered m p step Onward)
        (λ after stepped. subst (λ (n : Next). All (Behind f p step there before) (entered_to n m step.depth after)) (sym next)
        (all_if (Behind f p step there before) (not (m.is_stub t)) ((key.Node (entry_of t), fact.State (entered_with (arguments step.depth after))) ∷ [])
        (λ followed. one_of (Behind f p step there before) (key.Node (entry_of t), fact.State (entered_with (arguments step.depth after)))
        (inl (record { callee = t; calls = next; entry = refl })))))))

    callee_is : callee_of p.next x ≡ Some there
    callee_is = subst (λ (n : Next). callee_of n x ≡ Some there) (sym next) (ap effects_in callee)

    node : All (Behind f p step there before) (node_gives f m p (Some there) before)
    node =
        all_of (Behind f p step there before) (f.narrow p before) (act_gives f m p (m.act p) (Some there))
        (λ allowed left. subst (λ (a : Act). All (Behind f p step there before) (act_gives f m p a (Some there) allowed)) (sym act) (onwards allowed left))

    given : All (Behind f p step there before) (gives f m (key.Node p) x)
    given =
        subst (λ (o : Option Fact). All (Behind f p step there before) (pieces_of (state_in o) (node_gives f m p (callee_of p.next x)))) (sym found)
        (subst (λ (o : Option Effects). All (Behind f p step there before) (node_gives f m p o before)) (sym callee_is) node)

-- stubs
and_true : (b : Bool) → (b && true) ≡ false → b ≡ false
and_true true is = is
and_true false is = refl

-- the cells of a register of the window that a stub may write, but for the first sixteen registers
stub_test : ℕ → ℕ → Bool
stub_test depth r = has_cell (after_call effects_of_stub.written depth) (cell_of depth r) && not (nat_lt r 16)

stub_at : (depth r : ℕ) → stub_test depth r ≡ false → 16 ≤ r → has_cell (after_call effects_of_stub.written depth) (cell_of depth r) ≡ false
unfolding stub_test
stub_at depth r is from =
    and_true (has_cell (after_call effects_of_stub.written depth) (cell_of depth r))
    (subst (λ (c : Bool). (has_cell (after_call effects_of_stub.written depth) (cell_of depth r) && not c) ≡ false) (le-ltb r 16 from) is)

-- a call of a stub keeps the local and the in registers of the window in which it is made
pub stubs_keep_locals : StubsKeepLocals
unfolding stub_test
stubs_keep_locals zero r low from to = stub_at 0 r (agree_below_at (stub_test 0) (λ n. false) 32 r refl to) from
stubs_keep_locals (suc zero) r low from to = stub_at 1 r (agree_below_at (stub_test 1) (λ n. false) 32 r refl to) from
stubs_keep_locals (suc (suc n)) r low from to = absurd (omega arith)

-- what a step writes is said of its subprogram, also where no run goes on
pub writes_are_said : WritesAreSaid
writes_are_said f m p step way before allowed x act found left =
    let piece : Piece = (key.Summary p.sub, fact.Sum (record { returns = false; skips = false; written = mask_of step })) in
    let c : Option Effects = callee_of p.next x in
    subst (λ (o : Option Fact). Contains (pieces_of (state_in o) (node_gives f m p c)) piece) (sym found)
    (subst (λ (o : Option State). Contains (pieces_of o (act_gives f m p (m.act p) c)) piece) (sym left)
    (subst (λ (a : Act). Contains (act_gives f m p a c allowed) piece) (sym act) (0, omega arith, refl)))
