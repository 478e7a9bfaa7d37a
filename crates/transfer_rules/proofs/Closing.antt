-- What a closed state has behind an instruction that it has a program point for.
use Rattle.std.proofs.Common.{◌≡◌, ℕ, zero, suc, ◌<◌, Bool, true, false, List, [], ◌∷◌, ◌++◌, length, Option, Some, Contains, refl, sym, ap, subst, ◌∙◌, arith}
use Rattle.std.specs.Prelude.{not, map, slice_index_or, if◌then◌else◌}
use Rattle.std.specs.List.{flat_map}
use Rattle.std.specs.Option.{is_some}
use Rattle.std.proofs.lemmas.Bool.{eq-eqb, false≢true, ne_eqb}
use Rattle.std.proofs.lemmas.List.Elements.{Contains-append_left, Contains-append_right}
use Rattle.call_effects.specs.Mask.{after_call}
use Rattle.call_effects.specs.Summary.{effects_of_stub, is_at_most as are_effects_at_most}
use Rattle.call_effects.specs.declared.summary.Summary.{Summary as Effects}
use Rattle.value_lattice.specs.Height.{are_at_most}
use Rattle.value_lattice.specs.Test.{is_at_most as is_value_at_most}
use Rattle.value_lattice.specs.Value.{is_ret}
use Rattle.value_lattice.specs.declared.value.Value.{Value}
use Rattle.value_lattice.specs.declared.value.Value.TheVariants.{Ret}
use Rattle.abs_state.specs.State.{State, cell_at, entry_state, is_at_most as is_state_at_most, without}
use Rattle.abs_state.specs.declared.key.GapKind.{GapKind}
use Rattle.abs_state.specs.declared.key.GapKind.TheVariants as why
use Rattle.abs_state.specs.declared.key.Key.{Key}
use Rattle.abs_state.specs.declared.key.Key.TheVariants as key
use Rattle.abs_state.specs.declared.key.Next.{Next}
use Rattle.abs_state.specs.declared.key.Next.TheVariants.{At, Into, Back}
use Rattle.abs_state.specs.declared.key.Place.{Place}
use Rattle.flow_system.specs.State.{ContainsPiece, IsClosed}
use Rattle.transfer_rules.specs.Closed.{ClosedCalls, ClosedHasGaps, ClosedHasThree, ClosedLeadsOn, ClosedSays, ClosedStarts, HasCall, HasState}
use Rattle.transfer_rules.specs.Closed.{IsAllowed, IsTaken, LeadsTo, Says}
use Rattle.transfer_rules.specs.Fact.{Piece, effects_in, is_at_most, state_in}
use Rattle.transfer_rules.specs.Family.{Family, Program}
use Rattle.transfer_rules.specs.Give.{Facts, act_beside, act_entered, act_gives, act_here, arguments, behind, beside, beside_to, called}
use Rattle.transfer_rules.specs.Give.{called_effects, called_to, callee_of, delayed, effects, entered, entered_to, entered_with, entry_of, exits, gap}
use Rattle.transfer_rules.specs.Give.{given_if, goes, here, here_to, is_behind, is_known, jumped_to, mask_of, node_gives, onward, pieces_of, place}
use Rattle.transfer_rules.specs.Lawful.{rules_of}
use Rattle.transfer_rules.specs.declared.act.Act.{Act}
use Rattle.transfer_rules.specs.declared.act.Act.TheVariants.{Acts, Open}
use Rattle.transfer_rules.specs.declared.act.Aim.{Aim}
use Rattle.transfer_rules.specs.declared.act.Exit.{Exit}
use Rattle.transfer_rules.specs.declared.act.Way.{Way}
use Rattle.transfer_rules.specs.declared.act.Way.TheVariants.{Onward, Forks, CallsTo, JumpsTo, ReturnsBy}
use Rattle.transfer_rules.specs.declared.fact.Fact.{Fact}
use Rattle.transfer_rules.specs.declared.fact.Fact.TheVariants as fact
use Rattle.transfer_rules.specs.declared.step.Step.{Step}

-- facts above one of a kind
pub state_above : (s : State) (v : Fact) → is_at_most (fact.State s) v ≡ true → (u : State) × (v ≡ fact.State u) × (is_state_at_most s u ≡ true)
state_above s (fact.State u) up = (u, refl, up)
state_above s (fact.Args list) up = absurd (false≢true up)
state_above s (fact.Sum e) up = absurd (false≢true up)
state_above s fact.Mark up = absurd (false≢true up)

args_above : (list : List Value) (v : Fact) → is_at_most (fact.Args list) v ≡ true → (all : List Value) × (v ≡ fact.Args all) × (are_at_most list all ≡ true)
args_above list (fact.State u) up = absurd (false≢true up)
args_above list (fact.Args all) up = (all, refl, up)
args_above list (fact.Sum e) up = absurd (false≢true up)
args_above list fact.Mark up = absurd (false≢true up)

effects_above : (e : Effects) (v : Fact) → is_at_most (fact.Sum e) v ≡ true → (all : Effects) × (v ≡ fact.Sum all) × (are_effects_at_most e all ≡ true)
effects_above e (fact.State u) up = absurd (false≢true up)
effects_above e (fact.Args list) up = absurd (false≢true up)
effects_above e (fact.Sum all) up = (all, refl, up)
effects_above e fact.Mark up = absurd (false≢true up)

mark_above : (v : Fact) → is_at_most fact.Mark v ≡ true → v ≡ fact.Mark
mark_above (fact.State u) up = absurd (false≢true up)
mark_above (fact.Args list) up = absurd (false≢true up)
mark_above (fact.Sum e) up = absurd (false≢true up)
mark_above fact.Mark up = refl

-- a piece of what one of a list gives
in_each : {A : Type 0} (give : A → List Piece) (xs : List A) (a : A) (k : ℕ) → k < length xs → slice_index_or xs k a ≡ a → (piece : Piece)
    → Contains (give a) piece → Contains (flat_map give xs) piece
in_each give [] a k below is piece has = absurd (omega arith)
in_each {A} give (x ∷ xs) a zero below is piece has =
    Contains-append_left (give x) (flat_map give xs) piece (subst (λ (b : A). Contains (give b) piece) (sym is) has)
in_each give (x ∷ xs) a (suc k) below is piece has = Contains-append_right (give x) (flat_map give xs) piece (in_each give xs a k (omega arith) is piece has)

in_map : {A : Type 0} (give : A → Piece) (xs : List A) (a : A) (k : ℕ) → k < length xs → slice_index_or xs k a ≡ a → Contains (map give xs) (give a)
in_map give [] a k below is = absurd (omega arith)
in_map {A} give (x ∷ xs) a zero below is =
    Contains-append_left (give x ∷ []) (map give xs) (give a) (subst (λ (b : A). Contains (give x ∷ []) (give b)) is (0, omega arith, refl))
in_map give (x ∷ xs) a (suc k) below is = Contains-append_right (give x ∷ []) (map give xs) (give a) (in_map give xs a k (omega arith) is)

module _ (t : List ℕ) (f : Family) (m : Program) (x : Facts) (closed : IsClosed (rules_of t f m) x) where
  -- the state has a piece
  abbrev Has : Piece → Type 0
  Has piece = ContainsPiece (rules_of t f m) x piece.0 piece.1

  leads : (p q : Place) (s : State) → ((piece : Piece) → Contains (goes p q s) piece → Has piece) → LeadsTo x p q s
  leads p q s has =
      let node = has (key.Node q, fact.State s) (0, omega arith, refl) in
      let edge = has (key.Edge p q, fact.Mark) (1, omega arith, refl) in
      let state = state_above s node.fact node.above in
      record { state = state.0; found = node.found ∙ ap Some state.1; above = state.2; edge = edge.found ∙ ap Some (mark_above edge.fact edge.above) }

  has_state : (p : Place) (s : State) → Has (key.Node p, fact.State s) → HasState x p s
  has_state p s has = let state = state_above s has.fact has.above in record { state = state.0; found = has.found ∙ ap Some state.1; above = state.2 }

  says : (sub : ℕ) (e : Effects) → Has (key.Summary sub, fact.Sum e) → Says x sub e
  says sub e has = let all = effects_above e has.fact has.above in record { all = all.0; found = has.found ∙ ap Some all.1; above = all.2 }

  marked : (k : Key) → Has (k, fact.Mark) → x k ≡ Some fact.Mark
  marked k has = has.found ∙ ap Some (mark_above has.fact has.above)

  has_allowed : (p : Place) (before : State) (act : Act) → IsAllowed f x p before → m.act p ≡ act → (piece : Piece)
      → Contains (act_gives f m p act (callee_of p.next x) before) piece → Has piece
  has_allowed p before act is acts piece has =
      closed.given (key.Node p) (ap is_some is.found) piece.0 piece.1
      (subst (λ (o : Option Fact). Contains (pieces_of (state_in o) (node_gives f m p (callee_of p.next x))) piece) (sym is.found)
      (subst (λ (o : Option State). Contains (pieces_of o (act_gives f m p (m.act p) (callee_of p.next x))) piece) (sym is.narrowed)
      (subst (λ (a : Act). Contains (act_gives f m p a (callee_of p.next x) before) piece) (sym acts) has)))

  module _ (p : Place) (step : Step) (way : Way) (before after : State) (is : IsTaken f m x p step way before after) where
    act : (piece : Piece) → Contains (act_gives f m p (Acts step way) (callee_of p.next x) before) piece → Has piece
    act piece has = has_allowed p before (Acts step way) is.allowed is.act piece has

    has_beside : (piece : Piece) → Contains (beside f m p step way (callee_of p.next x) before after) piece → Has piece
    has_beside piece has =
        act piece
        (Contains-append_left (act_beside f m p (Acts step way) (callee_of p.next x) before)
        (act_here f p (Acts step way) (callee_of p.next x) before ++ act_entered f m p (Acts step way) before) piece
        (Contains-append_right (effects p.sub false false (mask_of step) ∷ [])
        (pieces_of (f.step step before) (beside f m p step way (callee_of p.next x) before)) piece
        (subst (λ (o : Option State). Contains (pieces_of o (beside f m p step way (callee_of p.next x) before)) piece) (sym is.stepped) has)))

    has_here : (piece : Piece) → Contains (here f p step way (callee_of p.next x) before after) piece → Has piece
    has_here piece has =
        act piece
        (Contains-append_right (act_beside f m p (Acts step way) (callee_of p.next x) before)
        (act_here f p (Acts step way) (callee_of p.next x) before ++ act_entered f m p (Acts step way) before) piece
        (Contains-append_left (act_here f p (Acts step way) (callee_of p.next x) before) (act_entered f m p (Acts step way) before) piece
        (subst (λ (o : Option State). Contains (pieces_of o (here f p step way (callee_of p.next x) before)) piece) (sym is.stepped) has)))

    has_entered : (piece : Piece) → Contains (entered m p step way after) piece → Has piece
    has_entered piece has =
        act piece
        (Contains-append_right (act_beside f m p (Acts step way) (callee_of p.next x) before)
        (act_here f p (Acts step way) (callee_of p.next x) before ++ act_entered f m p (Acts step way) before) piece
        (Contains-append_right (act_here f p (Acts step way) (callee_of p.next x) before) (act_entered f m p (Acts step way) before) piece
        (subst (λ (o : Option State). Contains (pieces_of o (entered m p step way)) piece) (sym is.stepped) has)))

  -- behind a step that goes on
  module _ (p : Place) (step : Step) (before after : State) (is : IsTaken f m x p step Onward before after) where
    at_here : (next : Next) → p.next ≡ next → (piece : Piece) → Contains (here_to next p step.depth (callee_of p.next x) after) piece → Has piece
    at_here next same piece has =
        has_here p step Onward before after is piece
        (subst (λ (n : Next). Contains (here_to n p step.depth (callee_of p.next x) after) piece) (sym same) has)

    at_beside : (next : Next) → p.next ≡ next → (piece : Piece) → Contains (beside_to next m p step.depth (callee_of p.next x) after) piece → Has piece
    at_beside next same piece has =
        has_beside p step Onward before after is piece
        (subst (λ (n : Next). Contains (beside_to n m p step.depth (callee_of p.next x) after) piece) (sym same) has)

    at_entry : (next : Next) → p.next ≡ next → (piece : Piece) → Contains (entered_to next m step.depth after) piece → Has piece
    at_entry next same piece has =
        has_entered p step Onward before after is piece (subst (λ (n : Next). Contains (entered_to n m step.depth after) piece) (sym same) has)

    goes_onward : (n : ℕ) → p.next ≡ At n → LeadsTo x p (onward p n step.depth) after
    goes_onward n same = leads p (onward p n step.depth) after (at_here (At n) same)

    makes_call : (target : ℕ) → p.next ≡ Into target → HasCall x p target (arguments step.depth after)
    makes_call target same =
        let has : Has (key.Call p target, fact.Args (arguments step.depth after)) =
        at_beside (Into target) same (key.Call p target, fact.Args (arguments step.depth after)) (0, omega arith, refl) in
        let all = args_above (arguments step.depth after) has.fact has.above in
        record { all = all.0; found = has.found ∙ ap Some all.1; above = all.2 }

    enters : (target : ℕ) → p.next ≡ Into target → m.is_stub target ≡ false → HasState x (entry_of target) (entered_with (arguments step.depth after))
    enters target same followed =
        has_state (entry_of target) (entered_with (arguments step.depth after))
        (at_entry (Into target) same (key.Node (entry_of target), fact.State (entered_with (arguments step.depth after)))
        (subst (λ (b : Bool). Contains (given_if (not b) ((key.Node (entry_of target), fact.State (entered_with (arguments step.depth after))) ∷ []))
        (key.Node (entry_of target), fact.State (entered_with (arguments step.depth after)))) (sym followed) (0, omega arith, refl)))

    callee_is : (target : ℕ) (there : Effects) → p.next ≡ Into target → x (key.Summary target) ≡ Some (fact.Sum there) → callee_of p.next x ≡ Some there
    callee_is target there same found = subst (λ (n : Next). callee_of n x ≡ Some there) (sym same) (ap effects_in found)

    at_called : (target : ℕ) (there : Effects) → p.next ≡ Into target → x (key.Summary target) ≡ Some (fact.Sum there) → (piece : Piece)
        → Contains (called p step.depth there after) piece → Has piece
    at_called target there same found piece has =
        at_here (Into target) same piece
        (subst (λ (o : Option Effects). Contains (pieces_of o (λ e. called p step.depth e after)) piece) (sym (callee_is target there same found)) has)

    comes_back : (target : ℕ) (there : Effects) → p.next ≡ Into target → x (key.Summary target) ≡ Some (fact.Sum there) → there.returns ≡ true
        → LeadsTo x p (onward p (behind p.pc 4) step.depth) (without after (after_call there.written step.depth))
    comes_back target there same found returns =
        let s : State = without after (after_call there.written step.depth) in
        leads p (onward p (behind p.pc 4) step.depth) s
        (λ piece has. at_called target there same found piece
        (Contains-append_left (given_if there.returns (goes p (onward p (behind p.pc 4) step.depth) s))
        (given_if there.skips (goes p (onward p (behind p.pc 8) step.depth) s)) piece
        (subst (λ (b : Bool). Contains (given_if b (goes p (onward p (behind p.pc 4) step.depth) s)) piece) (sym returns) has)))

    skips_word : (target : ℕ) (there : Effects) → p.next ≡ Into target → x (key.Summary target) ≡ Some (fact.Sum there) → there.skips ≡ true
        → LeadsTo x p (onward p (behind p.pc 8) step.depth) (without after (after_call there.written step.depth))
    skips_word target there same found skips =
        let s : State = without after (after_call there.written step.depth) in
        leads p (onward p (behind p.pc 8) step.depth) s
        (λ piece has. at_called target there same found piece
        (Contains-append_right (given_if there.returns (goes p (onward p (behind p.pc 4) step.depth) s))
        (given_if there.skips (goes p (onward p (behind p.pc 8) step.depth) s)) piece
        (subst (λ (b : Bool). Contains (given_if b (goes p (onward p (behind p.pc 8) step.depth) s)) piece) (sym skips) has)))

    calls_say : (target : ℕ) (there : Effects) → p.next ≡ Into target → x (key.Summary target) ≡ Some (fact.Sum there)
        → Says x p.sub (record { returns = false; skips = false; written = after_call there.written step.depth })
    calls_say target there same found =
        let e : Effects = record { returns = false; skips = false; written = after_call there.written step.depth } in
        says p.sub e
        (at_beside (Into target) same (key.Summary p.sub, fact.Sum e)
        (Contains-append_right ((key.Call p target, fact.Args (arguments step.depth after)) ∷ [])
        (pieces_of (callee_of p.next x) (called_effects p step.depth)) (key.Summary p.sub, fact.Sum e)
        (subst (λ (o : Option Effects). Contains (pieces_of o (called_effects p step.depth)) (key.Summary p.sub, fact.Sum e))
        (sym (callee_is target there same found)) (0, omega arith, refl))))

    goes_back : p.next ≡ Back → step.depth ≡ 0 → Says x p.sub (record { returns = not (m.skips p); skips = m.skips p; written = 0 })
    goes_back same flat =
        let e : Effects = record { returns = not (m.skips p); skips = m.skips p; written = 0 } in
        says p.sub e
        (at_beside Back same (key.Summary p.sub, fact.Sum e)
        (subst (λ (b : Bool). Contains (if b then effects p.sub (not (m.skips p)) (m.skips p) 0 ∷ [] else gap p why.Instr ∷ []) (key.Summary p.sub, fact.Sum e))
        (sym (eq-eqb step.depth 0 flat)) (0, omega arith, refl)))

    too_deep : p.next ≡ Back → (step.depth ≡ 0 → ⊥) → x (key.Gap p.sub p.pc why.Instr) ≡ Some fact.Mark
    too_deep same deep =
        marked (key.Gap p.sub p.pc why.Instr)
        (at_beside Back same (gap p why.Instr)
        (subst (λ (b : Bool). Contains (if b then effects p.sub (not (m.skips p)) (m.skips p) 0 ∷ [] else gap p why.Instr ∷ []) (gap p why.Instr))
        (sym (ne_eqb step.depth 0 deep)) (0, omega arith, refl)))

  -- a direction of a branch
  takes_exit : (p : Place) (exit : Exit) (after s : State) → f.test exit.test after ≡ Some s → (piece : Piece)
      → Contains (goes p (place p exit.pc (At exit.npc) p.depth) s) piece → Contains (exits f p (Some exit) after) piece
  takes_exit p exit after s left piece has =
      subst (λ (o : Option State). Contains (pieces_of o (goes p (place p exit.pc (At exit.npc) p.depth))) piece) (sym left) has

  calls_to : (p : Place) (target : ℕ) (step : Step) (aim : Aim) (before after : State) → IsTaken f m x p step (CallsTo aim) before after
      → Contains (f.resolve p.pc aim before).list target → is_behind p target ≡ false → LeadsTo x p (delayed p (Into target)) after
  calls_to p target step aim before after is listed apart =
      leads p (delayed p (Into target)) after
      (λ piece has. has_here p step (CallsTo aim) before after is piece
      (in_each (called_to p after) (f.resolve p.pc aim before).list target listed.0 listed.1 listed.2 piece
      (subst (λ (b : Bool). Contains (given_if (not b) (goes p (delayed p (Into target)) after)) piece) (sym apart) has)))

  jumps_to : (p : Place) (target : ℕ) (step : Step) (aim : Aim) (before after : State) → IsTaken f m x p step (JumpsTo aim) before after
      → Contains (f.resolve p.pc aim before).list target → LeadsTo x p (delayed p (At target)) after
  jumps_to p target step aim before after is listed =
      leads p (delayed p (At target)) after
      (λ piece has. has_here p step (JumpsTo aim) before after is piece
      (in_each (jumped_to p after) (f.resolve p.pc aim before).list target listed.0 listed.1 listed.2 piece has))

  returns_by : (p : Place) (c : ℕ) (step : Step) (before after : State) → IsTaken f m x p step (ReturnsBy c) before after
      → is_value_at_most Ret (cell_at before c) ≡ true → LeadsTo x p (delayed p Back) after
  returns_by p c step before after is may =
      leads p (delayed p Back) after
      (λ piece has. has_here p step (ReturnsBy c) before after is piece
      (subst (λ (b : Bool). Contains (given_if b (goes p (delayed p Back) after)) piece) (sym may) has))

  -- a gap that is given where something isn't so
  gap_if : (p : Place) (kind : GapKind) (b : Bool) → b ≡ false → Contains (given_if (not b) (gap p kind ∷ [])) (gap p kind)
  gap_if p kind b none = subst (λ (c : Bool). Contains (given_if (not c) (gap p kind ∷ [])) (gap p kind)) (sym none) (0, omega arith, refl)

-- a closed state has what is said beside an instruction, the program points of the same subprogram behind it, and the
-- entries of what it calls
pub closed_has_three : ClosedHasThree
closed_has_three = record {
  beside = λ t f m x p step way before after closed is k v has. has_beside t f m x closed p step way before after is (k, v) has;
  here = λ t f m x p step way before after closed is k v has. has_here t f m x closed p step way before after is (k, v) has;
  entered = λ t f m x p step way before after closed is k v has. has_entered t f m x closed p step way before after is (k, v) has;
}

-- in a closed state an instruction leads on: to where control was to go, in the directions of a branch that are open, and
-- to the delay instruction of a call, a jump or a return
pub closed_leads_on : ClosedLeadsOn
closed_leads_on = record {
  onward = λ t f m x p n step before after closed is same. goes_onward t f m x closed p step before after is n same;
  first = first;
  second = second;
  calls = λ t f m x p target step aim before after closed is listed apart. calls_to t f m x closed p target step aim before after is listed apart;
  jumps = λ t f m x p target step aim before after closed is listed. jumps_to t f m x closed p target step aim before after is listed;
  returns = λ t f m x p c step before after closed is may. returns_by t f m x closed p c step before after is may;
}
  where
    first : (t : List ℕ) (f : Family) (m : Program) (x : Facts) (p : Place) (step : Step) (exit : Exit) (other : Option Exit) (before after s : State)
        → IsClosed (rules_of t f m) x → IsTaken f m x p step (Forks (Some exit) other) before after → f.test exit.test after ≡ Some s
        → LeadsTo x p (place p exit.pc (At exit.npc) p.depth) s
    first t f m x p step exit other before after s closed is left =
        leads t f m x closed p (place p exit.pc (At exit.npc) p.depth) s
        (λ piece has. has_here t f m x closed p step (Forks (Some exit) other) before after is piece
        (Contains-append_left (exits f p (Some exit) after) (exits f p other after) piece (takes_exit t f m x closed p exit after s left piece has)))

    second : (t : List ℕ) (f : Family) (m : Program) (x : Facts) (p : Place) (step : Step) (exit : Exit) (other : Option Exit) (before after s : State)
        → IsClosed (rules_of t f m) x → IsTaken f m x p step (Forks other (Some exit)) before after → f.test exit.test after ≡ Some s
        → LeadsTo x p (place p exit.pc (At exit.npc) p.depth) s
    second t f m x p step exit other before after s closed is left =
        leads t f m x closed p (place p exit.pc (At exit.npc) p.depth) s
        (λ piece has. has_here t f m x closed p step (Forks other (Some exit)) before after is piece
        (Contains-append_right (exits f p other after) (exits f p (Some exit) after) piece (takes_exit t f m x closed p exit after s left piece has)))

-- a closed state has a gap where an instruction isn't followed, where the targets aren't all known, where a return may go
-- elsewhere, and where one is made in the window behind a SAVE
pub closed_has_gaps : ClosedHasGaps
closed_has_gaps = record {
  unfollowed = λ t f m x p kind before closed is acts.
      marked t f m x closed (key.Gap p.sub p.pc kind) (has_allowed t f m x closed p before (Open kind) is acts (gap p kind) (0, omega arith, refl));
  calls = λ t f m x p step aim before after closed is unknown.
      marked t f m x closed (key.Gap p.sub p.pc why.Call)
      (has_beside t f m x closed p step (CallsTo aim) before after is (gap p why.Call)
      (gap_if t f m x closed p why.Call (is_known p (f.resolve p.pc aim before)) unknown));
  jumps = λ t f m x p step aim before after closed is unknown.
      marked t f m x closed (key.Gap p.sub p.pc why.Jump)
      (has_beside t f m x closed p step (JumpsTo aim) before after is (gap p why.Jump)
      (gap_if t f m x closed p why.Jump (f.resolve p.pc aim before).whole unknown));
  returns = λ t f m x p c step before after closed is other.
      marked t f m x closed (key.Gap p.sub p.pc why.Jump)
      (has_beside t f m x closed p step (ReturnsBy c) before after is (gap p why.Jump) (gap_if t f m x closed p why.Jump (is_ret (cell_at before c)) other));
  deep = λ t f m x p step before after closed is same deep. too_deep t f m x closed p step before after is same deep;
}

-- in a closed state the delay instruction of a call makes the call, enters what is called unless that is a stub, and
-- comes back from it where it returns or skips a word
pub closed_calls : ClosedCalls
closed_calls = record {
  call = λ t f m x p target step before after closed is same. makes_call t f m x closed p step before after is target same;
  enters = λ t f m x p target step before after closed is same followed. enters t f m x closed p step before after is target same followed;
  returns = λ t f m x p target step before after there closed is same found returns.
      comes_back t f m x closed p step before after is target there same found returns;
  skips = λ t f m x p target step before after there closed is same found skips. skips_word t f m x closed p step before after is target there same found skips;
}

-- a closed state says of each subprogram what its instructions write, what its calls may write, and how it comes back
pub closed_says : ClosedSays
closed_says = record {
  writes = λ t f m x p step way before closed is acts.
      says t f m x closed p.sub (record { returns = false; skips = false; written = mask_of step })
      (has_allowed t f m x closed p before (Acts step way) is acts (effects p.sub false false (mask_of step)) (0, omega arith, refl));
  calls = λ t f m x p target step before after there closed is same found. calls_say t f m x closed p step before after is target there same found;
  back = λ t f m x p step before after closed is same flat. goes_back t f m x closed p step before after is same flat;
}

-- a closed state has the entries of the roots, and what the stubs may do
pub closed_starts : ClosedStarts
closed_starts = record { roots = roots; stubs = stubs } where
  roots : (t : List ℕ) (f : Family) (m : Program) (x : Facts) (root : ℕ) → IsClosed (rules_of t f m) x → Contains m.roots root
      → HasState x (entry_of root) entry_state
  roots t f m x root closed has =
      has_state t f m x closed (entry_of root) entry_state
      (closed.starts (key.Node (entry_of root)) (fact.State entry_state)
      (Contains-append_left (map (λ r. (key.Node (entry_of r), fact.State entry_state)) m.roots) (map (λ s. (key.Summary s, fact.Sum effects_of_stub)) m.stubs)
      (key.Node (entry_of root), fact.State entry_state)
      (in_map (λ r. (key.Node (entry_of r), fact.State entry_state)) m.roots root has.0 has.1 has.2)))

  stubs : (t : List ℕ) (f : Family) (m : Program) (x : Facts) (stub : ℕ) → IsClosed (rules_of t f m) x → Contains m.stubs stub → Says x stub effects_of_stub
  stubs t f m x stub closed has =
      says t f m x closed stub effects_of_stub
      (closed.starts (key.Summary stub) (fact.Sum effects_of_stub)
      (Contains-append_right (map (λ r. (key.Node (entry_of r), fact.State entry_state)) m.roots) (map (λ s. (key.Summary s, fact.Sum effects_of_stub)) m.stubs)
      (key.Summary stub, fact.Sum effects_of_stub)
      (in_map (λ s. (key.Summary s, fact.Sum effects_of_stub)) m.stubs stub has.0 has.1 has.2)))
