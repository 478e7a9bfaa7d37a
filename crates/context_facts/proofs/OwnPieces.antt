-- What a place gives where no subprogram is entered: pieces of its own subprogram, and some of all that it gives.
use Rattle.std.proofs.Common.{◌≡◌, ℕ, ◌+◌, ◌<◌, ◌⊎◌, inl, inr, Bool, true, false, List, [], ◌∷◌, ◌++◌, length, Option, Some, None, Contains, refl}
use Rattle.std.proofs.Common.{sym, ap, subst, ◌∙◌, arith}
use Rattle.std.specs.Prelude.{◌==◌, not, if◌then◌else◌}
use Rattle.std.specs.List.{All, flat_map}
use Rattle.std.proofs.lemmas.List.Elements.{All-append, All-cons, All-contains, All-nil, Contains-append_cases, Contains-append_left}
use Rattle.std.proofs.lemmas.List.Elements.{Contains-append_right, Contains-get_or}
use Rattle.call_effects.specs.Mask.{after_call}
use Rattle.call_effects.specs.declared.summary.Summary.{Summary as Effects}
use Rattle.value_lattice.specs.Test.{is_at_most as is_value_at_most}
use Rattle.value_lattice.specs.Value.{is_ret}
use Rattle.value_lattice.specs.declared.value.Value.TheVariants.{Ret}
use Rattle.abs_state.specs.State.{State, cell_at, without}
use Rattle.abs_state.specs.declared.key.GapKind.{GapKind}
use Rattle.abs_state.specs.declared.key.GapKind.TheVariants as why
use Rattle.abs_state.specs.declared.key.Key.{Key}
use Rattle.abs_state.specs.declared.key.Key.TheVariants as key
use Rattle.abs_state.specs.declared.key.Next.{Next}
use Rattle.abs_state.specs.declared.key.Next.TheVariants.{At, Into, Back}
use Rattle.abs_state.specs.declared.key.Place.{Place}
use Rattle.transfer_rules.specs.Fact.{Piece, state_in}
use Rattle.transfer_rules.specs.Family.{Family, Program}
use Rattle.transfer_rules.specs.Give.{Facts, act_beside, act_entered, act_gives, act_here, arguments, behind, beside, beside_to, called}
use Rattle.transfer_rules.specs.Give.{called_effects, called_to, callee_of, delayed, effects, entered, entered_to, exits, gap, given_if, gives, goes}
use Rattle.transfer_rules.specs.Give.{here, here_to, is_behind, is_known, jumped_to, mask_of, node_gives, onward, pieces_of, place}
use Rattle.transfer_rules.specs.Given.{sub_of}
use Rattle.transfer_rules.specs.declared.act.Act.{Act}
use Rattle.transfer_rules.specs.declared.act.Act.TheVariants.{Dead, Open, Acts}
use Rattle.transfer_rules.specs.declared.act.Exit.{Exit}
use Rattle.transfer_rules.specs.declared.act.Way.{Way}
use Rattle.transfer_rules.specs.declared.act.Way.TheVariants.{Onward, Forks, CallsTo, JumpsTo, ReturnsBy}
use Rattle.transfer_rules.specs.declared.fact.Fact.{Fact}
use Rattle.transfer_rules.specs.declared.fact.Fact.TheVariants as fact
use Rattle.transfer_rules.specs.declared.step.Step.{Step}

-- the program in which no subprogram is looked into, and none is a root
abbrev pub closed_off : Program → Program
closed_off m = record { act = m.act; is_stub = λ t. true; skips = m.skips; roots = []; stubs = m.stubs; widest = m.widest }

none_in : (piece : Piece) → Contains {X = Piece} [] piece → ⊥
none_in piece has = let below = has.1 in omega arith

-- no entry is given there
no_entry : (m : Program) (next : Next) (depth : ℕ) (s : State) (piece : Piece) → Contains (entered_to next (closed_off m) depth s) piece → ⊥
no_entry m (At n) depth s piece has = none_in piece has
no_entry m (Into t) depth s piece has = none_in piece has
no_entry m Back depth s piece has = none_in piece has

no_entered : (m : Program) (p : Place) (step : Step) (way : Way) (s : State) (piece : Piece) → Contains (entered (closed_off m) p step way s) piece → ⊥
no_entered m p step Onward s piece has = no_entry m p.next step.depth s piece has
no_entered m p step (Forks one two) s piece has = none_in piece has
no_entered m p step (CallsTo aim) s piece has = none_in piece has
no_entered m p step (JumpsTo aim) s piece has = none_in piece has
no_entered m p step (ReturnsBy c) s piece has = none_in piece has

none_of : {A : Type 0} (o : Option A) (give : A → List Piece) (piece : Piece) → ((a : A) → Contains (give a) piece → ⊥) → Contains (pieces_of o give) piece → ⊥
none_of None give piece none has = none_in piece has
none_of (Some a) give piece none has = none a has

no_act : (f : Family) (m : Program) (p : Place) (act : Act) (s : State) (piece : Piece) → Contains (act_entered f (closed_off m) p act s) piece → ⊥
no_act f m p Dead s piece has = none_in piece has
no_act f m p (Open kind) s piece has = none_in piece has
no_act f m p (Acts step way) s piece has = none_of (f.step step s) (entered (closed_off m) p step way) piece (λ u. no_entered m p step way u piece) has

-- so it is some of all that is given
some_of : {A : Type 0} (o : Option A) (give other : A → List Piece) (piece : Piece) → ((a : A) → Contains (give a) piece → Contains (other a) piece)
    → Contains (pieces_of o give) piece → Contains (pieces_of o other) piece
some_of None give other piece more has = has
some_of (Some a) give other piece more has = more a has

beside_same : (f : Family) (m : Program) (p : Place) (act : Act) (c : Option Effects) (s : State) (piece : Piece)
    → Contains (act_beside f (closed_off m) p act c s) piece
    → Contains (act_beside f m p act c s) piece
beside_same f m p Dead c s piece has = has
beside_same f m p (Open kind) c s piece has = has
beside_same f m p (Acts step Onward) c s piece has = by p.next has where
  by : (next : Next) → Contains (effects p.sub false false (mask_of step) ∷ pieces_of (f.step step s) (beside_to next (closed_off m) p step.depth c)) piece
      → Contains (effects p.sub false false (mask_of step) ∷ pieces_of (f.step step s) (beside_to next m p step.depth c)) piece
  by (At n) these = these
  by (Into t) these = these
  by Back these = these
beside_same f m p (Acts step (Forks one two)) c s piece has = has
beside_same f m p (Acts step (CallsTo aim)) c s piece has = has
beside_same f m p (Acts step (JumpsTo aim)) c s piece has = has
beside_same f m p (Acts step (ReturnsBy x)) c s piece has = has

fewer_act : (f : Family) (m : Program) (p : Place) (act : Act) (c : Option Effects) (s : State) (piece : Piece)
    → Contains (act_gives f (closed_off m) p act c s) piece
    → Contains (act_gives f m p act c s) piece
fewer_act f m p act c s piece has =
    elim (Contains-append_cases (act_beside f (closed_off m) p act c s) (act_here f p act c s ++ act_entered f (closed_off m) p act s) piece has) [
      | inl first ↦
          Contains-append_left (act_beside f m p act c s) (act_here f p act c s ++ act_entered f m p act s) piece (beside_same f m p act c s piece first)
      | inr rest ↦
          elim (Contains-append_cases (act_here f p act c s) (act_entered f (closed_off m) p act s) piece rest) [
            | inl here ↦
                Contains-append_right (act_beside f m p act c s) (act_here f p act c s ++ act_entered f m p act s) piece
                (Contains-append_left (act_here f p act c s) (act_entered f m p act s) piece here)
            | inr entered ↦ absurd (no_act f m p act s piece entered)
          ]
    ]

-- what a place gives without entering is among what it gives
pub fewer_given : (f : Family) (m : Program) (p : Place) (x : Facts) (piece : Piece) → Contains (gives f (closed_off m) (key.Node p) x) piece
    → Contains (gives f m (key.Node p) x) piece
fewer_given f m p x piece has =
    some_of (state_in (x (key.Node p))) (node_gives f (closed_off m) p (callee_of p.next x)) (node_gives f m p (callee_of p.next x)) piece
    (λ s. some_of (f.narrow p s) (act_gives f (closed_off m) p (m.act p) (callee_of p.next x)) (act_gives f m p (m.act p) (callee_of p.next x)) piece
    (λ u. fewer_act f m p (m.act p) (callee_of p.next x) u piece)) has

-- and it speaks of the own subprogram
module _ (f : Family) (m : Program) (p : Place) where
  abbrev Own : Piece → Type 0
  Own piece = sub_of piece.0 ≡ p.sub

  none_own : All Own []
  none_own = All-nil Own

  own_one : (piece : Piece) → Own piece → All Own (piece ∷ [])
  own_one piece is = All-cons Own piece [] is none_own

  own_if : (b : Bool) (ps : List Piece) → All Own ps → All Own (given_if b ps)
  own_if true ps are = are
  own_if false ps are = none_own

  own_each : {A : Type 0} (give : A → List Piece) (xs : List A) → ((a : A) → All Own (give a)) → All Own (flat_map give xs)
  own_each give [] are = none_own
  own_each give (x ∷ xs) are = All-append Own (give x) (flat_map give xs) (are x) (own_each give xs are)

  own_of : {A : Type 0} (o : Option A) (give : A → List Piece) → ((a : A) → All Own (give a)) → All Own (pieces_of o give)
  own_of None give are = none_own
  own_of (Some a) give are = are a

  own_goes : (q : Place) (s : State) → q.sub ≡ p.sub → All Own (goes p q s)
  own_goes q s same = All-cons Own (key.Node q, fact.State s) ((key.Edge p q, fact.Mark) ∷ []) same (own_one (key.Edge p q, fact.Mark) refl)

  own_called : (depth : ℕ) (e : Effects) (s : State) → All Own (called p depth e s)
  own_called depth e s =
      All-append Own (given_if e.returns (goes p (onward p (behind p.pc 4) depth) (without s (after_call e.written depth))))
      (given_if e.skips (goes p (onward p (behind p.pc 8) depth) (without s (after_call e.written depth))))
      (own_if e.returns (goes p (onward p (behind p.pc 4) depth) (without s (after_call e.written depth)))
      (own_goes (onward p (behind p.pc 4) depth) (without s (after_call e.written depth)) refl))
      (own_if e.skips (goes p (onward p (behind p.pc 8) depth) (without s (after_call e.written depth)))
      (own_goes (onward p (behind p.pc 8) depth) (without s (after_call e.written depth)) refl))

  own_here_to : (next : Next) (depth : ℕ) (c : Option Effects) (s : State) → All Own (here_to next p depth c s)
  own_here_to (At n) depth c s = own_goes (onward p n depth) s refl
  own_here_to (Into t) depth c s = own_of c (λ there. called p depth there s) (λ e. own_called depth e s)
  own_here_to Back depth c s = none_own

  own_beside_to : (next : Next) (depth : ℕ) (c : Option Effects) (s : State) → All Own (beside_to next (closed_off m) p depth c s)
  own_beside_to (At n) depth c s = none_own
  own_beside_to (Into t) depth c s =
      All-cons Own (key.Call p t, fact.Args (arguments depth s)) (pieces_of c (called_effects p depth)) refl
      (own_of c (called_effects p depth) (λ e. own_one (effects p.sub false false (after_call e.written depth)) refl))
  own_beside_to Back depth c s = by (depth == 0) where
    by : (b : Bool) → All Own (if b then effects p.sub (not (m.skips p)) (m.skips p) 0 ∷ [] else gap p why.Instr ∷ [])
    by true = own_one (effects p.sub (not (m.skips p)) (m.skips p) 0) refl
    by false = own_one (gap p why.Instr) refl

  own_exits : (exit : Option Exit) (s : State) → All Own (exits f p exit s)
  own_exits None s = none_own
  own_exits (Some exit) s =
      own_of (f.test exit.test s) (goes p (place p exit.pc (At exit.npc) p.depth)) (λ u. own_goes (place p exit.pc (At exit.npc) p.depth) u refl)

  own_here : (step : Step) (way : Way) (c : Option Effects) (before s : State) → All Own (here f p step way c before s)
  own_here step Onward c before s = own_here_to p.next step.depth c s
  own_here step (Forks one two) c before s = All-append Own (exits f p one s) (exits f p two s) (own_exits one s) (own_exits two s)
  own_here step (CallsTo aim) c before s =
      own_each (called_to p s) (f.resolve p.pc aim before).list
      (λ q. own_if (not (is_behind p q)) (goes p (delayed p (Into q)) s) (own_goes (delayed p (Into q)) s refl))
  own_here step (JumpsTo aim) c before s = own_each (jumped_to p s) (f.resolve p.pc aim before).list (λ q. own_goes (delayed p (At q)) s refl)
  own_here step (ReturnsBy x) c before s = own_if (is_value_at_most Ret (cell_at before x)) (goes p (delayed p Back) s) (own_goes (delayed p Back) s refl)

  own_beside : (step : Step) (way : Way) (c : Option Effects) (before s : State) → All Own (beside f (closed_off m) p step way c before s)
  own_beside step Onward c before s = own_beside_to p.next step.depth c s
  own_beside step (Forks one two) c before s = none_own
  own_beside step (CallsTo aim) c before s = own_if (not (is_known p (f.resolve p.pc aim before))) (gap p why.Call ∷ []) (own_one (gap p why.Call) refl)
  own_beside step (JumpsTo aim) c before s = own_if (not (f.resolve p.pc aim before).whole) (gap p why.Jump ∷ []) (own_one (gap p why.Jump) refl)
  own_beside step (ReturnsBy x) c before s = own_if (not (is_ret (cell_at before x))) (gap p why.Jump ∷ []) (own_one (gap p why.Jump) refl)

  own_act : (act : Act) (c : Option Effects) (s : State) → All Own (act_gives f (closed_off m) p act c s)
  own_act Dead c s = none_own
  own_act (Open kind) c s = own_one (gap p kind) refl
  own_act (Acts step way) c s =
      All-append Own (act_beside f (closed_off m) p (Acts step way) c s) (act_here f p (Acts step way) c s ++ act_entered f (closed_off m) p (Acts step way) s)
      (All-cons Own (effects p.sub false false (mask_of step)) (pieces_of (f.step step s) (beside f (closed_off m) p step way c s)) refl
      (own_of (f.step step s) (beside f (closed_off m) p step way c s) (λ u. own_beside step way c s u)))
      (All-append Own (act_here f p (Acts step way) c s) (act_entered f (closed_off m) p (Acts step way) s)
      (own_of (f.step step s) (here f p step way c s) (λ u. own_here step way c s u))
      (λ k d h. absurd (no_act f m p (Acts step way) s _ (Contains-get_or (act_entered f (closed_off m) p (Acts step way) s) k d h))))

  -- what a place gives without entering is of its subprogram
  pub own_given : (x : Facts) (piece : Piece) → Contains (gives f (closed_off m) (key.Node p) x) piece → sub_of piece.0 ≡ p.sub
  own_given x piece has =
      All-contains Own (gives f (closed_off m) (key.Node p) x) piece
      (own_of (state_in (x (key.Node p))) (node_gives f (closed_off m) p (callee_of p.next x))
      (λ s. own_of (f.narrow p s) (act_gives f (closed_off m) p (m.act p) (callee_of p.next x)) (λ u. own_act (m.act p) (callee_of p.next x) u))) has
