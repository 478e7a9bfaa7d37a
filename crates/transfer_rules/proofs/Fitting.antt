-- What a key gives fits the keys that it is given for.
use Rattle.std.proofs.Common.{◌≡◌, ℕ, ◌<◌, ◌&&◌, Bool, true, false, List, [], ◌∷◌, ◌++◌, Option, Some, None, refl, sym, ap, ◌∙◌, arith, inl, inr}
use Rattle.std.specs.Prelude.{◌==◌, not, map, if◌then◌else◌, nat_lt}
use Rattle.std.specs.List.{All, flat_map}
use Rattle.std.proofs.lemmas.Bool.{and_from, and_parts, cases_eq, lt-ltb, ltb-true, false≢true}
use Rattle.std.proofs.lemmas.List.Elements.{All-append, All-cons, All-map, All-nil}
use Rattle.call_effects.specs.Mask.{IsMask, after_call, is_mask, with_cell}
use Rattle.call_effects.specs.declared.summary.Summary.{Summary as Effects}
use Rattle.call_effects.proofs.CallLemmas.{masks_stay_masks}
use Rattle.call_effects.proofs.MaskLemmas.{mask_none, mask-with, test_decides_masks}
use Rattle.value_lattice.specs.Thresholds.{IsThresholds}
use Rattle.value_lattice.specs.Test.{is_at_most as is_value_at_most}
use Rattle.value_lattice.specs.Value.{is_ret}
use Rattle.value_lattice.specs.declared.value.Value.TheVariants.{Ret}
use Rattle.abs_state.proofs.WriteLemmas.{writes_stand}
use Rattle.abs_state.specs.State.{State, cell_at, entry_state, is_state_over, without}
use Rattle.abs_state.specs.declared.key.GapKind.{GapKind}
use Rattle.abs_state.specs.declared.key.GapKind.TheVariants as why
use Rattle.abs_state.specs.declared.key.Key.{Key}
use Rattle.abs_state.specs.declared.key.Key.TheVariants as key
use Rattle.abs_state.specs.declared.key.Next.{Next}
use Rattle.abs_state.specs.declared.key.Next.TheVariants.{At, Into, Back}
use Rattle.abs_state.specs.declared.key.Place.{Place}
use Rattle.transfer_rules.proofs.FactKinds.{fitting}
use Rattle.transfer_rules.proofs.HandedValues.{arguments_fit, entered_over}
use Rattle.transfer_rules.specs.Fact.{Piece, effects_in, fits, is_fact_over, is_shallow, state_in}
use Rattle.transfer_rules.specs.Family.{Family, Program}
use Rattle.transfer_rules.specs.Give.{Facts, act_beside, act_entered, act_gives, act_here, arguments, behind, beside, beside_to, called}
use Rattle.transfer_rules.specs.Give.{called_effects, called_to, callee_of, delayed, effects, entered, entered_to, entry_of, exits, gap, given_if}
use Rattle.transfer_rules.specs.Give.{gives, goes, here, here_to, is_behind, is_known, is_written, jumped_to, mask_of, mask_of_write, node_gives}
use Rattle.transfer_rules.specs.Give.{onward, pieces_of, place, starts}
use Rattle.transfer_rules.specs.Lawful.{IsLawfulFamily, IsLawfulProgram, is_over_or_none}
use Rattle.transfer_rules.specs.declared.act.Act.{Act}
use Rattle.transfer_rules.specs.declared.act.Act.TheVariants.{Dead, Open, Acts}
use Rattle.transfer_rules.specs.declared.act.Exit.{Exit}
use Rattle.transfer_rules.specs.declared.act.Way.{Way}
use Rattle.transfer_rules.specs.declared.act.Way.TheVariants.{Onward, Forks, CallsTo, JumpsTo, ReturnsBy}
use Rattle.transfer_rules.specs.declared.fact.Fact.{Fact}
use Rattle.transfer_rules.specs.declared.fact.Fact.TheVariants as fact
use Rattle.transfer_rules.specs.declared.step.Step.{Step}
use Rattle.transfer_rules.specs.declared.step.Write.{Write}

-- the cells that a step writes are a set of cells
mask_of_one : (w : Option Write) (mask : ℕ) → IsMask mask → IsMask (mask_of_write w mask)
mask_of_one None mask is = is
mask_of_one (Some w) mask is = by (is_written w.cell) refl where
  by : (b : Bool) → is_written w.cell ≡ b → IsMask (if b then with_cell mask w.cell else mask)
  by true written =
      let parts = and_parts (not (w.cell == 0)) (nat_lt w.cell 48) written in
      let below : w.cell < 48 = ltb-true w.cell 48 parts.1 in
      elim (cases_eq w.cell 0) [
        | inl none ↦ absurd (false≢true (sym (ap (λ (c : ℕ). not (c == 0)) none) ∙ parts.0))
        | inr some ↦ mask-with mask w.cell is (omega arith) below
      ]
  by false kept = is

pub step_mask : (step : Step) → is_mask (mask_of step) ≡ true
step_mask step = (test_decides_masks (mask_of step)).1 (mask_of_one step.second (mask_of_write step.first 0) (mask_of_one step.first 0 mask_none))

module _ (t : List ℕ) where
  -- the piece fits its key
  abbrev pub IsFit : Piece → Type 0
  IsFit piece = fits t piece.0 piece.1 ≡ true

  abbrev pub AreFit : List Piece → Type 0
  AreFit pieces = All IsFit pieces

  none_fit : AreFit []
  none_fit = All-nil IsFit

  one_fit : (k : Key) (v : Fact) → fits t k v ≡ true → AreFit ((k, v) ∷ [])
  one_fit k v is = All-cons IsFit (k, v) [] is none_fit

  both_fit : (ps qs : List Piece) → AreFit ps → AreFit qs → AreFit (ps ++ qs)
  both_fit ps qs one two = All-append IsFit ps qs one two

  given_fit : (b : Bool) (ps : List Piece) → AreFit ps → AreFit (given_if b ps)
  given_fit true ps are = are
  given_fit false ps are = none_fit

  each_fit : {A : Type 0} (give : A → List Piece) (xs : List A) → ((a : A) → AreFit (give a)) → AreFit (flat_map give xs)
  each_fit give [] are = none_fit
  each_fit give (x ∷ xs) are = both_fit (give x) (flat_map give xs) (are x) (each_fit give xs are)

  states_fit : (o : Option State) (give : State → List Piece) → is_over_or_none t o ≡ true → ((s : State) → is_state_over t s ≡ true → AreFit (give s))
      → AreFit (pieces_of o give)
  states_fit None give over are = none_fit
  states_fit (Some s) give over are = are s over

  -- the step from one place to another
  step_fits : (p q : Place) (s : State) → is_shallow p ≡ true → is_shallow q ≡ true → is_state_over t s ≡ true → AreFit (goes p q s)
  step_fits p q s from to over =
      All-cons IsFit (key.Node q, fact.State s) ((key.Edge p q, fact.Mark) ∷ []) (and_from (is_shallow q) (is_state_over t s) to over)
      (one_fit (key.Edge p q) fact.Mark (and_from (is_shallow p && is_shallow q) true (and_from (is_shallow p) (is_shallow q) from to) refl))

  gap_fits : (p : Place) (kind : GapKind) → AreFit (gap p kind ∷ [])
  gap_fits p kind = one_fit (key.Gap p.sub p.pc kind) fact.Mark refl

  effects_fit : (sub : ℕ) (returns skips : Bool) (written : ℕ) → is_mask written ≡ true → AreFit (effects sub returns skips written ∷ [])
  effects_fit sub returns skips written is = one_fit (key.Summary sub) (fact.Sum (record { returns = returns; skips = skips; written = written })) is

  effects_or_none : Option Effects → Bool
  effects_or_none None = true
  effects_or_none (Some e) = is_mask e.written

  there_fit : (o : Option Effects) (give : Effects → List Piece) → effects_or_none o ≡ true → ((e : Effects) → is_mask e.written ≡ true → AreFit (give e))
      → AreFit (pieces_of o give)
  unfolding effects_or_none
  there_fit None give is are = none_fit
  there_fit (Some e) give is are = are e is

  after_fits : (mask depth : ℕ) → is_mask mask ≡ true → is_mask (after_call mask depth) ≡ true
  after_fits mask depth is = (test_decides_masks (after_call mask depth)).1 (masks_stay_masks.after_call mask depth ((test_decides_masks mask).0 is))

  module _ (m : Program) (ok : IsThresholds t) where
    called_fit : (p : Place) (depth : ℕ) (e : Effects) (s : State) → is_shallow p ≡ true → nat_lt depth 2 ≡ true → is_state_over t s ≡ true
        → AreFit (called p depth e s)
    called_fit p depth e s from to over =
        both_fit (given_if e.returns (goes p (onward p (behind p.pc 4) depth) (without s (after_call e.written depth))))
        (given_if e.skips (goes p (onward p (behind p.pc 8) depth) (without s (after_call e.written depth))))
        (given_fit e.returns (goes p (onward p (behind p.pc 4) depth) (without s (after_call e.written depth)))
        (step_fits p (onward p (behind p.pc 4) depth) (without s (after_call e.written depth)) from to
        (writes_stand.forgotten t s (after_call e.written depth) ok over)))
        (given_fit e.skips (goes p (onward p (behind p.pc 8) depth) (without s (after_call e.written depth)))
        (step_fits p (onward p (behind p.pc 8) depth) (without s (after_call e.written depth)) from to
        (writes_stand.forgotten t s (after_call e.written depth) ok over)))

    here_to_fits : (next : Next) (p : Place) (depth : ℕ) (c : Option Effects) (s : State) → is_shallow p ≡ true → nat_lt depth 2 ≡ true
        → effects_or_none c ≡ true
        → is_state_over t s ≡ true → AreFit (here_to next p depth c s)
    here_to_fits (At n) p depth c s from to is over = step_fits p (onward p n depth) s from to over
    here_to_fits (Into q) p depth c s from to is over = there_fit c (λ there. called p depth there s) is (λ e e_is. called_fit p depth e s from to over)
    here_to_fits Back p depth c s from to is over = none_fit

    beside_to_fits : (next : Next) (p : Place) (depth : ℕ) (c : Option Effects) (s : State) → is_shallow p ≡ true → effects_or_none c ≡ true
        → is_state_over t s ≡ true → AreFit (beside_to next m p depth c s)
    beside_to_fits (At n) p depth c s from is over = none_fit
    beside_to_fits (Into q) p depth c s from is over =
        All-cons IsFit (key.Call p q, fact.Args (arguments depth s)) (pieces_of c (called_effects p depth))
        (and_from (is_shallow p) (is_fact_over t (fact.Args (arguments depth s))) from (arguments_fit t depth s ok over))
        (there_fit c (called_effects p depth) is (λ e e_is. effects_fit p.sub false false (after_call e.written depth) (after_fits e.written depth e_is)))
    beside_to_fits Back p depth c s from is over = by (depth == 0) where
      by : (b : Bool) → AreFit (if b then effects p.sub (not (m.skips p)) (m.skips p) 0 ∷ [] else gap p why.Instr ∷ [])
      by true = effects_fit p.sub (not (m.skips p)) (m.skips p) 0 refl
      by false = gap_fits p why.Instr

    entered_to_fits : (next : Next) (depth : ℕ) (s : State) → is_state_over t s ≡ true → AreFit (entered_to next m depth s)
    entered_to_fits (At n) depth s over = none_fit
    entered_to_fits (Into q) depth s over =
        given_fit (not (m.is_stub q)) ((key.Node (entry_of q), _) ∷ []) (one_fit (key.Node (entry_of q)) _ (entered_over t depth s ok over))
    entered_to_fits Back depth s over = none_fit

    entered_fits : (p : Place) (step : Step) (way : Way) (s : State) → is_state_over t s ≡ true → AreFit (entered m p step way s)
    entered_fits p step Onward s over = entered_to_fits p.next step.depth s over
    entered_fits p step (Forks one two) s over = none_fit
    entered_fits p step (CallsTo aim) s over = none_fit
    entered_fits p step (JumpsTo aim) s over = none_fit
    entered_fits p step (ReturnsBy x) s over = none_fit

    module _ (f : Family) (family : IsLawfulFamily t m.widest f) (program : IsLawfulProgram m) where
      exits_fit : (p : Place) (exit : Option Exit) (s : State) → is_shallow p ≡ true → is_state_over t s ≡ true → AreFit (exits f p exit s)
      exits_fit p None s from over = none_fit
      exits_fit p (Some exit) s from over =
          states_fit (f.test exit.test s) (goes p (place p exit.pc (At exit.npc) p.depth)) (family.test exit.test s over)
          (λ u up. step_fits p (place p exit.pc (At exit.npc) p.depth) u from from up)

      here_fits : (p : Place) (step : Step) (way : Way) (c : Option Effects) (before s : State) → is_shallow p ≡ true → nat_lt step.depth 2 ≡ true
          → effects_or_none c ≡ true → is_state_over t s ≡ true → AreFit (here f p step way c before s)
      here_fits p step Onward c before s from to is over = here_to_fits p.next p step.depth c s from to is over
      here_fits p step (Forks one two) c before s from to is over =
          both_fit (exits f p one s) (exits f p two s) (exits_fit p one s from over) (exits_fit p two s from over)
      here_fits p step (CallsTo aim) c before s from to is over =
          each_fit (called_to p s) (f.resolve p.pc aim before).list
          (λ q. given_fit (not (is_behind p q)) (goes p (delayed p (Into q)) s) (step_fits p (delayed p (Into q)) s from from over))
      here_fits p step (JumpsTo aim) c before s from to is over =
          each_fit (jumped_to p s) (f.resolve p.pc aim before).list (λ q. step_fits p (delayed p (At q)) s from from over)
      here_fits p step (ReturnsBy x) c before s from to is over =
          given_fit (is_value_at_most Ret (cell_at before x)) (goes p (delayed p Back) s) (step_fits p (delayed p Back) s from from over)

      beside_fits : (p : Place) (step : Step) (way : Way) (c : Option Effects) (before s : State) → is_shallow p ≡ true → effects_or_none c ≡ true
          → is_state_over t s ≡ true → AreFit (beside f m p step way c before s)
      beside_fits p step Onward c before s from is over = beside_to_fits p.next p step.depth c s from is over
      beside_fits p step (Forks one two) c before s from is over = none_fit
      beside_fits p step (CallsTo aim) c before s from is over =
          given_fit (not (is_known p (f.resolve p.pc aim before))) (gap p why.Call ∷ []) (gap_fits p why.Call)
      beside_fits p step (JumpsTo aim) c before s from is over = given_fit (not (f.resolve p.pc aim before).whole) (gap p why.Jump ∷ []) (gap_fits p why.Jump)
      beside_fits p step (ReturnsBy x) c before s from is over = given_fit (not (is_ret (cell_at before x))) (gap p why.Jump ∷ []) (gap_fits p why.Jump)

      act_fits : (p : Place) (act : Act) (c : Option Effects) (s : State) → ((step : Step) (way : Way) → act ≡ Acts step way → step.depth < 2)
          → is_shallow p ≡ true
          → effects_or_none c ≡ true → is_state_over t s ≡ true → AreFit (act_gives f m p act c s)
      act_fits p Dead c s deep from is over = none_fit
      act_fits p (Open kind) c s deep from is over = gap_fits p kind
      act_fits p (Acts step way) c s deep from is over =
          let to = lt-ltb step.depth 2 (deep step way refl) in
          both_fit (act_beside f m p (Acts step way) c s) (act_here f p (Acts step way) c s ++ act_entered f m p (Acts step way) s)
          (both_fit (effects p.sub false false (mask_of step) ∷ []) (pieces_of (f.step step s) (beside f m p step way c s))
          (effects_fit p.sub false false (mask_of step) (step_mask step))
          (states_fit (f.step step s) (beside f m p step way c s) (family.step step s over) (λ u up. beside_fits p step way c s u from is up)))
          (both_fit (act_here f p (Acts step way) c s) (act_entered f m p (Acts step way) s)
          (states_fit (f.step step s) (here f p step way c s) (family.step step s over) (λ u up. here_fits p step way c s u from to is up))
          (states_fit (f.step step s) (entered m p step way) (family.step step s over) (λ u up. entered_fits p step way u up)))

      node_fits : (p : Place) (c : Option Effects) (s : State) → is_shallow p ≡ true → effects_or_none c ≡ true → is_state_over t s ≡ true
          → AreFit (node_gives f m p c s)
      node_fits p c s from is over =
          states_fit (f.narrow p s) (act_gives f m p (m.act p) c) (family.narrow p s over)
          (λ u up. act_fits p (m.act p) c u (λ step way acts. program.depth p step way from acts) from is up)

      -- what stands where facts fit
      callee_fits : (next : Next) (x : Facts) → ((k : Key) (v : Fact) → x k ≡ Some v → fits t k v ≡ true) → effects_or_none (callee_of next x) ≡ true
      unfolding effects_or_none
      callee_fits (At n) x fit = refl
      callee_fits (Into q) x fit = by (x (key.Summary q)) (λ v is. (fitting t (key.Summary q) v (fit (key.Summary q) v is)).over) where
        at : (v : Fact) → is_fact_over t v ≡ true → effects_or_none (effects_in (Some v)) ≡ true
        at (fact.Sum e) over = over
        at _ over = refl

        by : (o : Option Fact) → ((v : Fact) → o ≡ Some v → is_fact_over t v ≡ true) → effects_or_none (effects_in o) ≡ true
        by None over = refl
        by (Some v) over = at v (over v refl)
      callee_fits Back x fit = refl

      -- what a key gives fits
      pub gives_fit : (x : Facts) → ((k : Key) (v : Fact) → x k ≡ Some v → fits t k v ≡ true) → (k : Key) → AreFit (gives f m k x)
      gives_fit x fit (key.Node p) = by (x (key.Node p)) (λ v is. fit (key.Node p) v is) where
        at : (v : Fact) → fits t (key.Node p) v ≡ true → AreFit (pieces_of (state_in (Some v)) (node_gives f m p (callee_of p.next x)))
        at (fact.State s) is = let parts = fitting t (key.Node p) (fact.State s) is in node_fits p (callee_of p.next x) s parts.depths
            (callee_fits p.next x fit) parts.over
        at _ is = none_fit

        by : (o : Option Fact) → ((v : Fact) → o ≡ Some v → fits t (key.Node p) v ≡ true)
            → AreFit (pieces_of (state_in o) (node_gives f m p (callee_of p.next x)))
        by None is = none_fit
        by (Some v) is = at v (is v refl)
      gives_fit x fit (key.Edge p q) = none_fit
      gives_fit x fit (key.Call p q) = none_fit
      gives_fit x fit (key.Summary sub) = none_fit
      gives_fit x fit (key.Gap sub pc kind) = none_fit

    -- the start pieces
    pub starts_fit : AreFit (starts m)
    starts_fit =
        both_fit (map (λ root. (key.Node (entry_of root), fact.State entry_state)) m.roots) (map (λ stub. (key.Summary stub, fact.Sum _)) m.stubs)
        (All-map IsFit (λ root. (key.Node (entry_of root), fact.State entry_state)) m.roots (λ k d h. writes_stand.entry t ok))
        (All-map IsFit (λ stub. (key.Summary stub, fact.Sum _)) m.stubs (λ k d h. refl))
