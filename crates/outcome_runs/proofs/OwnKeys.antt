-- What program points give: a step comes with the program point to which it leads, and a call with the delay instruction that
-- makes it.
use Rattle.std.proofs.Common.{◌≡◌, ℕ, ◌<◌, Bool, true, false, List, [], ◌∷◌, ◌++◌, length, Option, Some, None, Contains, refl, sym, ap, subst, ◌∙◌, arith}
use Rattle.std.specs.Prelude.{◌==◌, not, if◌then◌else◌}
use Rattle.std.specs.List.{All, flat_map}
use Rattle.std.proofs.lemmas.List.Elements.{All-append, All-cons, All-contains, All-nil, All-weaker, Contains-append_left, Contains-append_right}
use Rattle.call_effects.specs.Mask.{after_call}
use Rattle.call_effects.specs.declared.summary.Summary.{Summary as Effects}
use Rattle.value_lattice.specs.Test.{is_at_most as is_value_at_most}
use Rattle.value_lattice.specs.Value.{is_ret}
use Rattle.value_lattice.specs.declared.value.Value.TheVariants.{Ret}
use Rattle.abs_state.specs.State.{State, cell_at, without}
use Rattle.abs_state.specs.declared.key.GapKind.{GapKind}
use Rattle.abs_state.specs.declared.key.GapKind.TheVariants as why
use Rattle.abs_state.specs.declared.key.Key.{Key}
use Rattle.abs_state.specs.declared.key.Key.TheVariants as key
use Rattle.abs_state.specs.declared.key.Next.{Next}
use Rattle.abs_state.specs.declared.key.Next.TheVariants.{At, Into, Back}
use Rattle.abs_state.specs.declared.key.Place.{Place}
use Rattle.transfer_rules.specs.Closed.{IsTaken}
use Rattle.transfer_rules.specs.Fact.{Piece, state_in}
use Rattle.transfer_rules.specs.Family.{Family, Program}
use Rattle.transfer_rules.specs.Give.{Facts, act_beside, act_entered, act_gives, act_here, arguments, behind, beside, beside_to, called, called_effects, called_to, callee_of, delayed, effects, entered, entered_to, entered_with, entry_of, exits, gap, given_if, gives, goes, here, here_to, is_behind, is_known, jumped_to, mask_of, node_gives, onward, pieces_of, place}
use Rattle.transfer_rules.specs.declared.act.Act.{Act}
use Rattle.transfer_rules.specs.declared.act.Act.TheVariants.{Dead, Open, Acts}
use Rattle.transfer_rules.specs.declared.act.Exit.{Exit}
use Rattle.transfer_rules.specs.declared.act.Way.{Way}
use Rattle.transfer_rules.specs.declared.act.Way.TheVariants.{Onward, Forks, CallsTo, JumpsTo, ReturnsBy}
use Rattle.transfer_rules.specs.declared.fact.Fact.{Fact}
use Rattle.transfer_rules.specs.declared.fact.Fact.TheVariants as fact
use Rattle.transfer_rules.specs.declared.step.Step.{Step}

-- a step begins at the program point, and some pieces have the one to which it leads
pub record IsStepOf (p : Place) (all : List Piece) (a b : Place) : Type 0 where
  pub from : a ≡ p
  pub one : b.sub ≡ p.sub
  pub fact : Fact
  pub has : Contains {X = Piece} all (key.Node b, fact)

-- a call is made at the program point, with the arguments that are there behind the delay instruction
pub record IsCallOf (f : Family) (m : Program) (x : Facts) (p a : Place) (t : ℕ) (v : Fact) : Type 0 where
  pub from : a ≡ p
  pub into : p.next ≡ Into t
  pub step : Step
  pub before : State
  pub after : State
  pub taken : IsTaken f m x p step Onward before after
  pub is : v ≡ fact.Args (arguments step.depth after)

module _ (f : Family) (m : Program) (x : Facts) (p : Place) where
  abbrev pub IsOwn : List Piece → Key → Fact → Type 0
  IsOwn all (key.Node q) v = Unit {0}
  IsOwn all (key.Edge a b) v = IsStepOf p all a b
  IsOwn all (key.Call a t) v = IsCallOf f m x p a t v
  IsOwn all (key.Summary q) v = Unit {0}
  IsOwn all (key.Gap q pc kind) v = Unit {0}

  abbrev pub Own : List Piece → Piece → Type 0
  Own all piece = IsOwn all piece.0 piece.1

  abbrev AllOwn : List Piece → Type 0
  AllOwn ps = All (Own ps) ps

  left_own : (xs ys : List Piece) (k : Key) (v : Fact) → IsOwn xs k v → IsOwn (xs ++ ys) k v
  left_own xs ys (key.Node q) v is = tt
  left_own xs ys (key.Edge a b) v is =
      record { from = is.from; one = is.one; fact = is.fact; has = Contains-append_left xs ys (key.Node b, is.fact) is.has }
  left_own xs ys (key.Call a t) v is = is
  left_own xs ys (key.Summary q) v is = tt
  left_own xs ys (key.Gap q pc kind) v is = tt

  right_own : (xs ys : List Piece) (k : Key) (v : Fact) → IsOwn ys k v → IsOwn (xs ++ ys) k v
  right_own xs ys (key.Node q) v is = tt
  right_own xs ys (key.Edge a b) v is =
      record { from = is.from; one = is.one; fact = is.fact; has = Contains-append_right xs ys (key.Node b, is.fact) is.has }
  right_own xs ys (key.Call a t) v is = is
  right_own xs ys (key.Summary q) v is = tt
  right_own xs ys (key.Gap q pc kind) v is = tt

  none : AllOwn []
  none = All-nil (Own [])

  both : (xs ys : List Piece) → AllOwn xs → AllOwn ys → AllOwn (xs ++ ys)
  both xs ys one two =
      All-append (Own (xs ++ ys)) xs ys (All-weaker (Own xs) (Own (xs ++ ys)) (λ piece. left_own xs ys piece.0 piece.1) xs one)
      (All-weaker (Own ys) (Own (xs ++ ys)) (λ piece. right_own xs ys piece.0 piece.1) ys two)

  single : (piece : Piece) → Own (piece ∷ []) piece → AllOwn (piece ∷ [])
  single piece is = All-cons (Own (piece ∷ [])) piece [] is (All-nil (Own (piece ∷ [])))

  where_so : (b : Bool) (ps : List Piece) → AllOwn ps → AllOwn (given_if b ps)
  where_so true ps are = are
  where_so false ps are = none

  each : {A : Type 0} (give : A → List Piece) (xs : List A) → ((a : A) → AllOwn (give a)) → AllOwn (flat_map give xs)
  each give [] are = none
  each give (a ∷ xs) are = both (give a) (flat_map give xs) (are a) (each give xs are)

  of_some : {A : Type 0} (o : Option A) (give : A → List Piece) → ((a : A) → o ≡ Some a → AllOwn (give a)) → AllOwn (pieces_of o give)
  of_some None give are = none
  of_some (Some a) give are = are a refl

  own_goes : (q : Place) (s : State) → q.sub ≡ p.sub → AllOwn (goes p q s)
  own_goes q s same =
      All-cons (Own (goes p q s)) (key.Node q, fact.State s) ((key.Edge p q, fact.Mark) ∷ []) tt
      (All-cons (Own (goes p q s)) (key.Edge p q, fact.Mark) [] (record { from = refl; one = same; fact = fact.State s; has = (0, omega arith, refl) })
      (All-nil (Own (goes p q s))))

  own_called : (depth : ℕ) (e : Effects) (s : State) → AllOwn (called p depth e s)
  own_called depth e s =
      both (given_if e.returns (goes p (onward p (behind p.pc 4) depth) (without s (after_call e.written depth))))
      (given_if e.skips (goes p (onward p (behind p.pc 8) depth) (without s (after_call e.written depth))))
      (where_so e.returns (goes p (onward p (behind p.pc 4) depth) (without s (after_call e.written depth))) (own_goes (onward p (behind p.pc 4) depth) (without s (after_call e.written depth)) refl))
      (where_so e.skips (goes p (onward p (behind p.pc 8) depth) (without s (after_call e.written depth))) (own_goes (onward p (behind p.pc 8) depth) (without s (after_call e.written depth)) refl))

  own_here_to : (next : Next) (depth : ℕ) (c : Option Effects) (s : State) → AllOwn (here_to next p depth c s)
  own_here_to (At n) depth c s = own_goes (onward p n depth) s refl
  own_here_to (Into t) depth c s = of_some c (λ there. called p depth there s) (λ e same. own_called depth e s)
  own_here_to Back depth c s = none

  own_exits : (exit : Option Exit) (s : State) → AllOwn (exits f p exit s)
  own_exits None s = none
  own_exits (Some exit) s =
      of_some (f.test exit.test s) (goes p (place p exit.pc (At exit.npc) p.depth)) (λ u same. own_goes (place p exit.pc (At exit.npc) p.depth) u refl)

  own_here : (step : Step) (way : Way) (c : Option Effects) (before s : State) → AllOwn (here f p step way c before s)
  own_here step Onward c before s = own_here_to p.next step.depth c s
  own_here step (Forks one two) c before s = both (exits f p one s) (exits f p two s) (own_exits one s) (own_exits two s)
  own_here step (CallsTo aim) c before s =
      each (called_to p s) (f.resolve p.pc aim before).list
      (λ q. where_so (not (is_behind p q)) (goes p (delayed p (Into q)) s) (own_goes (delayed p (Into q)) s refl))
  own_here step (JumpsTo aim) c before s = each (jumped_to p s) (f.resolve p.pc aim before).list (λ q. own_goes (delayed p (At q)) s refl)
  own_here step (ReturnsBy r) c before s = where_so (is_value_at_most Ret (cell_at before r)) (goes p (delayed p Back) s) (own_goes (delayed p Back) s refl)

  own_beside_to : (next : Next) (c : Option Effects) (step : Step) (before after : State) → p.next ≡ next → IsTaken f m x p step Onward before after
      → AllOwn (beside_to next m p step.depth c after)
  own_beside_to (At n) c step before after same taken = none
  own_beside_to (Into t) c step before after same taken =
      both ((key.Call p t, fact.Args (arguments step.depth after)) ∷ []) (pieces_of c (called_effects p step.depth))
      (single (key.Call p t, fact.Args (arguments step.depth after))
      (record { from = refl; into = same; step = step; before = before; after = after; taken = taken; is = refl }))
      (of_some c (called_effects p step.depth) (λ e is. single (effects p.sub false false (after_call e.written step.depth)) tt))
  own_beside_to Back c step before after same taken = by (step.depth == 0) where
    by : (b : Bool) → AllOwn (if b then effects p.sub (not (m.skips p)) (m.skips p) 0 ∷ [] else gap p why.Instr ∷ [])
    by true = single (effects p.sub (not (m.skips p)) (m.skips p) 0) tt
    by false = single (gap p why.Instr) tt

  own_beside : (step : Step) (way : Way) (c : Option Effects) (before after : State) → IsTaken f m x p step way before after
      → AllOwn (beside f m p step way c before after)
  own_beside step Onward c before after taken = own_beside_to p.next c step before after refl taken
  own_beside step (Forks one two) c before after taken = none
  own_beside step (CallsTo aim) c before after taken =
      where_so (not (is_known p (f.resolve p.pc aim before))) (gap p why.Call ∷ []) (single (gap p why.Call) tt)
  own_beside step (JumpsTo aim) c before after taken = where_so (not (f.resolve p.pc aim before).whole) (gap p why.Jump ∷ []) (single (gap p why.Jump) tt)
  own_beside step (ReturnsBy r) c before after taken = where_so (not (is_ret (cell_at before r))) (gap p why.Jump ∷ []) (single (gap p why.Jump) tt)

  own_entered_to : (next : Next) (depth : ℕ) (s : State) → AllOwn (entered_to next m depth s)
  own_entered_to (At n) depth s = none
  own_entered_to (Into t) depth s =
      where_so (not (m.is_stub t)) ((key.Node (entry_of t), fact.State (entered_with (arguments depth s))) ∷ [])
      (single (key.Node (entry_of t), fact.State (entered_with (arguments depth s))) tt)
  own_entered_to Back depth s = none

  own_entered : (step : Step) (way : Way) (s : State) → AllOwn (entered m p step way s)
  own_entered step Onward s = own_entered_to p.next step.depth s
  own_entered step (Forks one two) s = none
  own_entered step (CallsTo aim) s = none
  own_entered step (JumpsTo aim) s = none
  own_entered step (ReturnsBy r) s = none

  own_act : (state before : State) (act : Act) (c : Option Effects) → x (key.Node p) ≡ Some (fact.State state) → f.narrow p state ≡ Some before → m.act p ≡ act
      → AllOwn (act_gives f m p act c before)
  own_act state before Dead c found narrowed is = none
  own_act state before (Open kind) c found narrowed is = single (gap p kind) tt
  own_act state before (Acts step way) c found narrowed is =
      both (act_beside f m p (Acts step way) c before) (act_here f p (Acts step way) c before ++ act_entered f m p (Acts step way) before)
      (both (effects p.sub false false (mask_of step) ∷ []) (pieces_of (f.step step before) (beside f m p step way c before))
      (single (effects p.sub false false (mask_of step)) tt)
      (of_some (f.step step before) (beside f m p step way c before)
      (λ after stepped. own_beside step way c before after
      (record { allowed = record { state = state; found = found; narrowed = narrowed }; act = is; stepped = stepped }))))
      (both (act_here f p (Acts step way) c before) (act_entered f m p (Acts step way) before)
      (of_some (f.step step before) (here f p step way c before) (λ after stepped. own_here step way c before after))
      (of_some (f.step step before) (entered m p step way) (λ after stepped. own_entered step way after)))

  state_found : (o : Option Fact) (s : State) → state_in o ≡ Some s → o ≡ Some (fact.State s)
  state_found None s is = cc
  state_found (Some (fact.State u)) s is = cc
  state_found (Some (fact.Args list)) s is = cc
  state_found (Some (fact.Sum e)) s is = cc
  state_found (Some fact.Mark) s is = cc

  pub own_pieces : (k : Key) (v : Fact) → Contains {X = Piece} (gives f m (key.Node p) x) (k, v) → IsOwn (gives f m (key.Node p) x) k v
  own_pieces k v has =
      All-contains (Own (gives f m (key.Node p) x)) (gives f m (key.Node p) x) (k, v)
      (of_some (state_in (x (key.Node p))) (node_gives f m p (callee_of p.next x))
      (λ state is. of_some (f.narrow p state) (act_gives f m p (m.act p) (callee_of p.next x))
      (λ before narrowed. own_act state before (m.act p) (callee_of p.next x) (state_found (x (key.Node p)) state is) narrowed refl))) has
