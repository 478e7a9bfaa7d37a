-- Over lesser facts, and over more thresholds, a key gives no more.
use Rattle.std.proofs.Common.{◌≡◌, ℕ, Bool, true, false, List, [], ◌∷◌, ◌++◌, Option, Some, None, refl, sym, ap, subst, ◌∙◌}
use Rattle.std.specs.Prelude.{◌==◌, not, if◌then◌else◌}
use Rattle.std.specs.List.{list_any}
use Rattle.std.proofs.lemmas.Bool.{and_from, and_parts, false≢true}
use Rattle.call_effects.specs.Mask.{after_call}
use Rattle.call_effects.specs.Summary.{is_at_most as are_effects_at_most}
use Rattle.call_effects.specs.declared.summary.Summary.{Summary as Effects}
use Rattle.call_effects.proofs.CallLemmas.{larger_masks_write_more}
use Rattle.call_effects.proofs.SummaryLemmas.{from_up, implies, summaries_are_ordered, up_parts}
use Rattle.value_lattice.proofs.TestLemmas.{the_order_is_one}
use Rattle.value_lattice.specs.Test.{is_at_most as is_value_at_most}
use Rattle.value_lattice.specs.Value.{is_ret}
use Rattle.value_lattice.specs.declared.value.Value.TheVariants.{Ret}
use Rattle.abs_state.proofs.WriteLemmas.{writes_keep_order}
use Rattle.abs_state.specs.State.{State, cell_at, entry_state, is_at_most as is_state_at_most, without}
use Rattle.abs_state.specs.declared.key.GapKind.TheVariants as why
use Rattle.abs_state.specs.declared.key.Key.{Key}
use Rattle.abs_state.specs.declared.key.Key.TheVariants as key
use Rattle.abs_state.specs.declared.key.Next.{Next}
use Rattle.abs_state.specs.declared.key.Next.TheVariants.{At, Into, Back}
use Rattle.abs_state.specs.declared.key.Place.{Place}
use Rattle.transfer_rules.proofs.FactKinds.{fitting}
use Rattle.transfer_rules.proofs.HandedValues.{arguments_up, cell_up, entered_up, under_ret}
use Rattle.transfer_rules.proofs.PieceLists.{AreCovered, IsUnder, any_of_more, both_covered, each_covered, first_covered, gap_covered, given_covered}
use Rattle.transfer_rules.proofs.PieceLists.{none_covered, one_covered, states_covered, step_covered}
use Rattle.transfer_rules.specs.Fact.{Piece, effects_in, fits, is_at_most, is_fact_over, state_in}
use Rattle.transfer_rules.specs.Family.{Family, Program}
use Rattle.transfer_rules.specs.Give.{Facts, act_beside, act_entered, act_gives, act_here, arguments, behind, beside, beside_to, called}
use Rattle.transfer_rules.specs.Give.{called_effects, called_to, callee_of, delayed, effects, entered, entered_to, entered_with, entry_of, exits, gap}
use Rattle.transfer_rules.specs.Give.{given_if, gives, goes, here, here_to, is_behind, is_known, jumped_to, mask_of, node_gives, onward, pieces_of}
use Rattle.transfer_rules.specs.Give.{place}
use Rattle.transfer_rules.specs.Lawful.{IsFinerFamily, IsLawfulFamily, is_less, is_over_or_none}
use Rattle.transfer_rules.specs.declared.act.Act.{Act}
use Rattle.transfer_rules.specs.declared.act.Act.TheVariants.{Dead, Open, Acts}
use Rattle.transfer_rules.specs.declared.act.Aim.{Aim}
use Rattle.transfer_rules.specs.declared.act.Exit.{Exit}
use Rattle.transfer_rules.specs.declared.act.Way.{Way}
use Rattle.transfer_rules.specs.declared.act.Way.TheVariants.{Onward, Forks, CallsTo, JumpsTo, ReturnsBy}
use Rattle.transfer_rules.specs.declared.fact.Fact.{Fact}
use Rattle.transfer_rules.specs.declared.fact.Fact.TheVariants as fact
use Rattle.transfer_rules.specs.declared.step.Step.{Step}

-- what there is in the one says no more than what there is in the other
abbrev pub are_effects_less : Option Effects → Option Effects → Bool
are_effects_less None b = true
are_effects_less (Some a) None = false
are_effects_less (Some a) (Some b) = are_effects_at_most a b

implied : (a b : Bool) → implies a b ≡ true → a ≡ true → b ≡ true
implied true b up is = up
implied false b up is = absurd (false≢true is)

-- a test whose negation goes the other way
turned : (a b : Bool) → (b ≡ true → a ≡ true) → not a ≡ true → not b ≡ true
turned a true more is = absurd (false≢true (sym (ap not (more refl)) ∙ is))
turned a false more is = refl

effects_covered : (o p : Option Effects) (give other : Effects → List Piece) → are_effects_less o p ≡ true
    → ((a b : Effects) → are_effects_at_most a b ≡ true → AreCovered (give a) (other b)) → AreCovered (pieces_of o give) (pieces_of p other)
effects_covered None p give other less are = none_covered (pieces_of p other)
effects_covered (Some a) None give other less are = absurd (false≢true less)
effects_covered (Some a) (Some b) give other less are = are a b less

-- the same effects
same_effects : (sub : ℕ) (returns skips : Bool) (written : ℕ) → AreCovered (effects sub returns skips written ∷ []) (effects sub returns skips written ∷ [])
same_effects sub returns skips written =
    one_covered (key.Summary sub) (fact.Sum (record { returns = returns; skips = skips; written = written }))
    (fact.Sum (record { returns = returns; skips = skips; written = written }))
    (summaries_are_ordered.same (record { returns = returns; skips = skips; written = written }))

module _ (t more : List ℕ) (m : Program) (entry_up : is_state_at_most entry_state entry_state ≡ true) where
  -- behind a call
  called_up : (p : Place) (depth : ℕ) (c d : Effects) (a b : State) → are_effects_at_most c d ≡ true → IsUnder t more a b
      → AreCovered (called p depth c a) (called p depth d b)
  called_up p depth c d a b less under =
      let parts = up_parts c d less in
      let mask = larger_masks_write_more c.written d.written depth parts.written in
      let states = writes_keep_order.forgotten t more a b (after_call c.written depth) (after_call d.written depth) under.lower under.upper under.up mask in
      both_covered (given_if c.returns (goes p (onward p (behind p.pc 4) depth) (without a (after_call c.written depth))))
      (given_if c.skips (goes p (onward p (behind p.pc 8) depth) (without a (after_call c.written depth))))
      (given_if d.returns (goes p (onward p (behind p.pc 4) depth) (without b (after_call d.written depth))))
      (given_if d.skips (goes p (onward p (behind p.pc 8) depth) (without b (after_call d.written depth))))
      (given_covered c.returns d.returns (goes p (onward p (behind p.pc 4) depth) (without a (after_call c.written depth)))
      (goes p (onward p (behind p.pc 4) depth) (without b (after_call d.written depth))) (implied c.returns d.returns parts.returns)
      (step_covered p (onward p (behind p.pc 4) depth) (without a (after_call c.written depth)) (without b (after_call d.written depth)) states))
      (given_covered c.skips d.skips (goes p (onward p (behind p.pc 8) depth) (without a (after_call c.written depth)))
      (goes p (onward p (behind p.pc 8) depth) (without b (after_call d.written depth))) (implied c.skips d.skips parts.skips)
      (step_covered p (onward p (behind p.pc 8) depth) (without a (after_call c.written depth)) (without b (after_call d.written depth)) states))

  called_effects_up : (p : Place) (depth : ℕ) (c d : Effects) → are_effects_at_most c d ≡ true
      → AreCovered (called_effects p depth c) (called_effects p depth d)
  called_effects_up p depth c d less =
      let parts = up_parts c d less in
      let lower : Effects = record { returns = false; skips = false; written = after_call c.written depth } in
      let upper : Effects = record { returns = false; skips = false; written = after_call d.written depth } in
      one_covered (key.Summary p.sub) (fact.Sum lower) (fact.Sum upper)
      (from_up lower upper (record { returns = refl; skips = refl; written = larger_masks_write_more c.written d.written depth parts.written }))

  here_to_up : (next : Next) (p : Place) (depth : ℕ) (c d : Option Effects) (a b : State) → are_effects_less c d ≡ true → IsUnder t more a b
      → AreCovered (here_to next p depth c a) (here_to next p depth d b)
  here_to_up (At n) p depth c d a b less under = step_covered p (onward p n depth) a b under.up
  here_to_up (Into q) p depth c d a b less under =
      effects_covered c d (λ there. called p depth there a) (λ there. called p depth there b) less (λ x y up. called_up p depth x y a b up under)
  here_to_up Back p depth c d a b less under = none_covered []

  beside_to_up : (next : Next) (p : Place) (depth : ℕ) (c d : Option Effects) (a b : State) → are_effects_less c d ≡ true → IsUnder t more a b
      → AreCovered (beside_to next m p depth c a) (beside_to next m p depth d b)
  beside_to_up (At n) p depth c d a b less under = none_covered []
  beside_to_up (Into q) p depth c d a b less under =
      first_covered (key.Call p q) (fact.Args (arguments depth a)) (fact.Args (arguments depth b)) (pieces_of c (called_effects p depth))
      (pieces_of d (called_effects p depth)) (arguments_up t more depth a b under)
      (effects_covered c d (called_effects p depth) (called_effects p depth) less (called_effects_up p depth))
  beside_to_up Back p depth c d a b less under = back (depth == 0) where
    back : (b : Bool) → AreCovered (if b then effects p.sub (not (m.skips p)) (m.skips p) 0 ∷ [] else gap p why.Instr ∷ [])
        (if b then effects p.sub (not (m.skips p)) (m.skips p) 0 ∷ [] else gap p why.Instr ∷ [])
    back true = same_effects p.sub (not (m.skips p)) (m.skips p) 0
    back false = gap_covered p why.Instr

  entered_to_up : (next : Next) (depth : ℕ) (a b : State) → IsUnder t more a b → AreCovered (entered_to next m depth a) (entered_to next m depth b)
  entered_to_up (At n) depth a b under = none_covered []
  entered_to_up (Into q) depth a b under =
      given_covered (not (m.is_stub q)) (not (m.is_stub q)) ((key.Node (entry_of q), fact.State (entered_with (arguments depth a))) ∷ [])
      ((key.Node (entry_of q), fact.State (entered_with (arguments depth b))) ∷ []) (λ is. is)
      (one_covered (key.Node (entry_of q)) (fact.State (entered_with (arguments depth a))) (fact.State (entered_with (arguments depth b)))
      (entered_up (arguments depth a) (arguments depth b) entry_up (arguments_up t more depth a b under)))
  entered_to_up Back depth a b under = none_covered []

  entered_rises : (p : Place) (step : Step) (way : Way) (a b : State) → IsUnder t more a b → AreCovered (entered m p step way a) (entered m p step way b)
  entered_rises p step Onward a b under = entered_to_up p.next step.depth a b under
  entered_rises p step (Forks first second) a b under = none_covered []
  entered_rises p step (CallsTo aim) a b under = none_covered []
  entered_rises p step (JumpsTo aim) a b under = none_covered []
  entered_rises p step (ReturnsBy c) a b under = none_covered []

  module _ (f g : Family) (coarse : IsLawfulFamily t m.widest f) (fine : IsLawfulFamily more m.widest g) (law : IsFinerFamily t more f g) where
    exits_up : (p : Place) (exit : Option Exit) (a b : State) → IsUnder t more a b → AreCovered (exits g p exit a) (exits f p exit b)
    exits_up p None a b under = none_covered []
    exits_up p (Some exit) a b under =
        states_covered t more (g.test exit.test a) (f.test exit.test b) (goes p (place p exit.pc (At exit.npc) p.depth))
        (goes p (place p exit.pc (At exit.npc) p.depth))
        (fine.test exit.test a under.lower) (coarse.test exit.test b under.upper) (law.test exit.test a b under.lower under.upper under.up)
        (λ x y up. step_covered p (place p exit.pc (At exit.npc) p.depth) x y up.up)

    here_rises : (p : Place) (step : Step) (way : Way) (c d : Option Effects) (before after a b : State) → are_effects_less c d ≡ true
        → IsUnder t more before after → IsUnder t more a b
        → AreCovered (here g p step way c before a) (here f p step way d after b)
    here_rises p step Onward c d before after a b less first under = here_to_up p.next p step.depth c d a b less under
    here_rises p step (Forks one two) c d before after a b less first under =
        both_covered (exits g p one a) (exits g p two a) (exits f p one b) (exits f p two b) (exits_up p one a b under) (exits_up p two a b under)
    here_rises p step (CallsTo aim) c d before after a b less first under =
        each_covered (called_to p b) (called_to p a) (g.resolve p.pc aim before).list (f.resolve p.pc aim after).list
        (law.list p.pc aim before after first.lower first.upper first.up)
        (λ q. given_covered (not (is_behind p q)) (not (is_behind p q)) (goes p (delayed p (Into q)) a) (goes p (delayed p (Into q)) b) (λ is. is)
        (step_covered p (delayed p (Into q)) a b under.up))
    here_rises p step (JumpsTo aim) c d before after a b less first under =
        each_covered (jumped_to p b) (jumped_to p a) (g.resolve p.pc aim before).list (f.resolve p.pc aim after).list
        (law.list p.pc aim before after first.lower first.upper first.up)
        (λ q. step_covered p (delayed p (At q)) a b under.up)
    here_rises p step (ReturnsBy x) c d before after a b less first under =
        given_covered (is_value_at_most Ret (cell_at before x)) (is_value_at_most Ret (cell_at after x)) (goes p (delayed p Back) a) (goes p (delayed p Back) b)
        (λ is. the_order_is_one.onward Ret (cell_at before x) (cell_at after x) is (cell_up t more before after x first))
        (step_covered p (delayed p Back) a b under.up)

    known_down : (p : Place) (aim : Aim) (before after : State) → IsUnder t more before after → is_known p (f.resolve p.pc aim after) ≡ true
        → is_known p (g.resolve p.pc aim before) ≡ true
    known_down p aim before after first is =
        let parts = and_parts (f.resolve p.pc aim after).whole (not (list_any (is_behind p) (f.resolve p.pc aim after).list)) is in
        and_from (g.resolve p.pc aim before).whole (not (list_any (is_behind p) (g.resolve p.pc aim before).list))
        (law.whole p.pc aim before after first.lower first.upper first.up parts.0)
        (turned (list_any (is_behind p) (f.resolve p.pc aim after).list) (list_any (is_behind p) (g.resolve p.pc aim before).list)
        (any_of_more (is_behind p) (g.resolve p.pc aim before).list (f.resolve p.pc aim after).list
        (law.list p.pc aim before after first.lower first.upper first.up))
        parts.1)

    beside_rises : (p : Place) (step : Step) (way : Way) (c d : Option Effects) (before after a b : State) → are_effects_less c d ≡ true
        → IsUnder t more before after → IsUnder t more a b
        → AreCovered (beside g m p step way c before a) (beside f m p step way d after b)
    beside_rises p step Onward c d before after a b less first under = beside_to_up p.next p step.depth c d a b less under
    beside_rises p step (Forks one two) c d before after a b less first under = none_covered []
    beside_rises p step (CallsTo aim) c d before after a b less first under =
        given_covered (not (is_known p (g.resolve p.pc aim before))) (not (is_known p (f.resolve p.pc aim after))) (gap p why.Call ∷ []) (gap p why.Call ∷ [])
        (turned (is_known p (g.resolve p.pc aim before)) (is_known p (f.resolve p.pc aim after)) (known_down p aim before after first))
        (gap_covered p why.Call)
    beside_rises p step (JumpsTo aim) c d before after a b less first under =
        given_covered (not (g.resolve p.pc aim before).whole) (not (f.resolve p.pc aim after).whole) (gap p why.Jump ∷ []) (gap p why.Jump ∷ [])
        (turned (g.resolve p.pc aim before).whole (f.resolve p.pc aim after).whole (law.whole p.pc aim before after first.lower first.upper first.up))
        (gap_covered p why.Jump)
    beside_rises p step (ReturnsBy x) c d before after a b less first under =
        given_covered (not (is_ret (cell_at before x))) (not (is_ret (cell_at after x))) (gap p why.Jump ∷ []) (gap p why.Jump ∷ [])
        (turned (is_ret (cell_at before x)) (is_ret (cell_at after x)) (under_ret (cell_at before x) (cell_at after x) (cell_up t more before after x first)))
        (gap_covered p why.Jump)

    act_beside_up : (p : Place) (act : Act) (c d : Option Effects) (a b : State) → are_effects_less c d ≡ true → IsUnder t more a b
        → AreCovered (act_beside g m p act c a) (act_beside f m p act d b)
    act_beside_up p Dead c d a b less under = none_covered []
    act_beside_up p (Open kind) c d a b less under = gap_covered p kind
    act_beside_up p (Acts step way) c d a b less under =
        both_covered (effects p.sub false false (mask_of step) ∷ []) (pieces_of (g.step step a) (beside g m p step way c a))
        (effects p.sub false false (mask_of step) ∷ []) (pieces_of (f.step step b) (beside f m p step way d b))
        (same_effects p.sub false false (mask_of step))
        (states_covered t more (g.step step a) (f.step step b) (beside g m p step way c a) (beside f m p step way d b)
        (fine.step step a under.lower) (coarse.step step b under.upper) (law.step step a b under.lower under.upper under.up)
        (λ x y up. beside_rises p step way c d a b x y less under up))

    act_here_up : (p : Place) (act : Act) (c d : Option Effects) (a b : State) → are_effects_less c d ≡ true → IsUnder t more a b
        → AreCovered (act_here g p act c a) (act_here f p act d b)
    act_here_up p Dead c d a b less under = none_covered []
    act_here_up p (Open kind) c d a b less under = none_covered []
    act_here_up p (Acts step way) c d a b less under =
        states_covered t more (g.step step a) (f.step step b) (here g p step way c a) (here f p step way d b)
        (fine.step step a under.lower) (coarse.step step b under.upper) (law.step step a b under.lower under.upper under.up)
        (λ x y up. here_rises p step way c d a b x y less under up)

    act_entered_up : (p : Place) (act : Act) (a b : State) → IsUnder t more a b → AreCovered (act_entered g m p act a) (act_entered f m p act b)
    act_entered_up p Dead a b under = none_covered []
    act_entered_up p (Open kind) a b under = none_covered []
    act_entered_up p (Acts step way) a b under =
        states_covered t more (g.step step a) (f.step step b) (entered m p step way) (entered m p step way)
        (fine.step step a under.lower) (coarse.step step b under.upper) (law.step step a b under.lower under.upper under.up)
        (λ x y up. entered_rises p step way x y up)

    act_up : (p : Place) (act : Act) (c d : Option Effects) (a b : State) → are_effects_less c d ≡ true → IsUnder t more a b
        → AreCovered (act_gives g m p act c a) (act_gives f m p act d b)
    act_up p act c d a b less under =
        both_covered (act_beside g m p act c a) (act_here g p act c a ++ act_entered g m p act a)
        (act_beside f m p act d b) (act_here f p act d b ++ act_entered f m p act b)
        (act_beside_up p act c d a b less under)
        (both_covered (act_here g p act c a) (act_entered g m p act a) (act_here f p act d b) (act_entered f m p act b)
        (act_here_up p act c d a b less under) (act_entered_up p act a b under))

    node_up : (p : Place) (c d : Option Effects) (a b : State) → are_effects_less c d ≡ true → IsUnder t more a b
        → AreCovered (node_gives g m p c a) (node_gives f m p d b)
    node_up p c d a b less under =
        states_covered t more (g.narrow p a) (f.narrow p b) (act_gives g m p (m.act p) c) (act_gives f m p (m.act p) d)
        (fine.narrow p a under.lower) (coarse.narrow p b under.upper) (law.narrow p a b under.lower under.upper under.up)
        (λ x y up. act_up p (m.act p) c d x y less up)

    -- the fact at a key of lesser facts: the other facts have a greater one there
    pub record IsBelow (x y : Facts) : Type 0 where
      pub fact : (k : Key) (v : Fact) → x k ≡ Some v → (u : Fact) × (y k ≡ Some u) × (is_at_most v u ≡ true)

    state_less : (o p : Option Fact) → ((v : Fact) → o ≡ Some v → (u : Fact) × (p ≡ Some u) × (is_at_most v u ≡ true))
        → is_less (state_in o) (state_in p) ≡ true
    state_less None p more = refl
    state_less (Some v) p more = let u =
        more v refl in subst (λ (q : Option Fact). is_less (state_in (Some v)) (state_in q) ≡ true) (sym u.1) (at v u.0 u.2) where
          at : (v u : Fact) → is_at_most v u ≡ true → is_less (state_in (Some v)) (state_in (Some u)) ≡ true
          at (fact.State a) (fact.State b) up = up
          at (fact.State a) _ up = absurd (false≢true up)
          at _ u up = refl

    effects_less : (o p : Option Fact) → ((v : Fact) → o ≡ Some v → (u : Fact) × (p ≡ Some u) × (is_at_most v u ≡ true))
        → are_effects_less (effects_in o) (effects_in p) ≡ true
    effects_less None p more = refl
    effects_less (Some v) p more = let u =
        more v refl in subst (λ (q : Option Fact). are_effects_less (effects_in (Some v)) (effects_in q) ≡ true) (sym u.1) (at v u.0 u.2) where
          at : (v u : Fact) → is_at_most v u ≡ true → are_effects_less (effects_in (Some v)) (effects_in (Some u)) ≡ true
          at (fact.Sum a) (fact.Sum b) up = up
          at (fact.Sum a) _ up = absurd (false≢true up)
          at _ u up = refl

    pub state_over : (w : List ℕ) (k : Key) (o : Option Fact) → ((v : Fact) → o ≡ Some v → fits w k v ≡ true) → is_over_or_none w (state_in o) ≡ true
    state_over w k None fit = refl
    state_over w k (Some v) fit = at v (fitting w k v (fit v refl)).over where
      at : (v : Fact) → is_fact_over w v ≡ true → is_over_or_none w (state_in (Some v)) ≡ true
      at (fact.State a) over = over
      at _ over = refl

    callee_less : (next : Next) (x y : Facts) → IsBelow x y → are_effects_less (callee_of next x) (callee_of next y) ≡ true
    callee_less (At n) x y below = refl
    callee_less (Into q) x y below = effects_less (x (key.Summary q)) (y (key.Summary q)) (below.fact (key.Summary q))
    callee_less Back x y below = refl

    pub gives_rise : (x y : Facts) → ((k : Key) (v : Fact) → x k ≡ Some v → fits more k v ≡ true) → ((k : Key) (v : Fact) → y k ≡ Some v → fits t k v ≡ true)
        → IsBelow x y → (k : Key) → AreCovered (gives g m k x) (gives f m k y)
    gives_rise x y lower upper below (key.Node p) =
        states_covered t more (state_in (x (key.Node p))) (state_in (y (key.Node p))) (node_gives g m p (callee_of p.next x))
        (node_gives f m p (callee_of p.next y))
        (state_over more (key.Node p) (x (key.Node p)) (lower (key.Node p))) (state_over t (key.Node p) (y (key.Node p)) (upper (key.Node p)))
        (state_less (x (key.Node p)) (y (key.Node p)) (below.fact (key.Node p)))
        (λ a b up. node_up p (callee_of p.next x) (callee_of p.next y) a b (callee_less p.next x y below) up)
    gives_rise x y lower upper below (key.Edge p q) = none_covered []
    gives_rise x y lower upper below (key.Call p q) = none_covered []
    gives_rise x y lower upper below (key.Summary sub) = none_covered []
    gives_rise x y lower upper below (key.Gap sub pc kind) = none_covered []
