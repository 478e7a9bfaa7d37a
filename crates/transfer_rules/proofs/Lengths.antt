-- What a key gives is short, and looks only at what is read.
use Rattle.std.proofs.Common.{◌≡◌, ℕ, ◌+◌, ◌*◌, ◌≤◌, Bool, true, false, List, [], ◌∷◌, ◌++◌, length, Option, Some, None, Contains, length-append}
use Rattle.std.proofs.Common.{refl, ap, ◌∙◌, arith}
use Rattle.std.specs.Prelude.{◌==◌, not, if◌then◌else◌}
use Rattle.std.specs.List.{flat_map}
use Rattle.std.proofs.lemmas.Bool.{true≢false}
use Rattle.call_effects.specs.declared.summary.Summary.{Summary as Effects}
use Rattle.value_lattice.specs.Test.{is_at_most as is_value_at_most}
use Rattle.value_lattice.specs.Value.{is_ret}
use Rattle.value_lattice.specs.declared.value.Value.TheVariants.{Ret}
use Rattle.abs_state.specs.State.{State, cell_at, is_state_over, without}
use Rattle.call_effects.specs.Mask.{after_call}
use Rattle.abs_state.specs.declared.key.GapKind.TheVariants as why
use Rattle.abs_state.specs.declared.key.Key.{Key}
use Rattle.abs_state.specs.declared.key.Key.TheVariants as key
use Rattle.abs_state.specs.declared.key.Next.{Next}
use Rattle.abs_state.specs.declared.key.Next.TheVariants.{At, Into, Back}
use Rattle.abs_state.specs.declared.key.Place.{Place}
use Rattle.transfer_rules.proofs.FactKinds.{fitting}
use Rattle.transfer_rules.specs.Fact.{Piece, effects_in, fits, state_in}
use Rattle.transfer_rules.specs.Family.{Family, Program}
use Rattle.transfer_rules.specs.Give.{Facts, act_gives, behind, beside, beside_to, called, called_effects, called_to, callee_key, callee_of, delayed}
use Rattle.transfer_rules.specs.Give.{effects, entered, entered_to, entry_of, exits, gap, given_if, gives, goes, here, here_to, is_behind, is_counted}
use Rattle.transfer_rules.specs.Give.{is_known, jumped_to, mask_of, node_gives, onward, pieces_of, reads}
use Rattle.transfer_rules.specs.Lawful.{IsLawfulFamily, is_over_or_none, most}
use Rattle.transfer_rules.specs.declared.act.Act.{Act}
use Rattle.transfer_rules.specs.declared.act.Act.TheVariants.{Dead, Open, Acts}
use Rattle.transfer_rules.specs.declared.act.Exit.{Exit}
use Rattle.transfer_rules.specs.declared.act.Way.{Way}
use Rattle.transfer_rules.specs.declared.act.Way.TheVariants.{Onward, Forks, CallsTo, JumpsTo, ReturnsBy}
use Rattle.transfer_rules.specs.declared.fact.Fact.{Fact}
use Rattle.transfer_rules.specs.declared.fact.Fact.TheVariants as fact
use Rattle.transfer_rules.specs.declared.step.Step.{Step}

both_short : (ps qs : List Piece) (m n : ℕ) → length ps ≤ m → length qs ≤ n → length (ps ++ qs) ≤ m + n
both_short ps qs m n one two = let e = length-append ps qs in omega arith

given_short : (b : Bool) (ps : List Piece) (n : ℕ) → length ps ≤ n → length (given_if b ps) ≤ n
given_short true ps n short = short
given_short false ps n short = omega arith

each_short : (give : ℕ → List Piece) (xs : List ℕ) → ((a : ℕ) → length (give a) ≤ 2) → length (flat_map give xs) ≤ 2 * length xs
each_short give [] short = omega arith
each_short give (x ∷ xs) short =
    let e = length-append (give x) (flat_map give xs) in
    let first = short x in
    let rest = each_short give xs short in
    omega arith

there_short : {A : Type 0} (o : Option A) (give : A → List Piece) (n : ℕ) → ((a : A) → length (give a) ≤ n) → length (pieces_of o give) ≤ n
there_short None give n short = omega arith
there_short (Some a) give n short = short a

called_short : (p : Place) (depth : ℕ) (e : Effects) (s : State) → length (called p depth e s) ≤ 4
called_short p depth e s =
    both_short (given_if e.returns (goes p (onward p (behind p.pc 4) depth) (without s (after_call e.written depth))))
    (given_if e.skips (goes p (onward p (behind p.pc 8) depth) (without s (after_call e.written depth)))) 2 2
    (given_short e.returns (goes p (onward p (behind p.pc 4) depth) (without s (after_call e.written depth))) 2 (omega arith))
    (given_short e.skips (goes p (onward p (behind p.pc 8) depth) (without s (after_call e.written depth))) 2 (omega arith))

here_to_short : (next : Next) (p : Place) (depth : ℕ) (c : Option Effects) (s : State) → length (here_to next p depth c s) ≤ 4
here_to_short (At n) p depth c s = omega arith
here_to_short (Into q) p depth c s = there_short c (λ there. called p depth there s) 4 (λ e. called_short p depth e s)
here_to_short Back p depth c s = omega arith

beside_to_short : (next : Next) (m : Program) (p : Place) (depth : ℕ) (c : Option Effects) (s : State) → length (beside_to next m p depth c s) ≤ 2
beside_to_short (At n) m p depth c s = omega arith
beside_to_short (Into q) m p depth c s = let rest = there_short c (called_effects p depth) 1 (λ e. omega arith) in omega arith
beside_to_short Back m p depth c s = by (depth == 0) where
  by : (b : Bool) → length (if b then effects p.sub (not (m.skips p)) (m.skips p) 0 ∷ [] else gap p why.Instr ∷ []) ≤ 2
  by true = omega arith
  by false = omega arith

entered_to_short : (next : Next) (m : Program) (depth : ℕ) (s : State) → length (entered_to next m depth s) ≤ 1
entered_to_short (At n) m depth s = omega arith
entered_to_short (Into q) m depth s = given_short (not (m.is_stub q)) ((key.Node (entry_of q), _) ∷ []) 1 (omega arith)
entered_to_short Back m depth s = omega arith

entered_short : (m : Program) (p : Place) (step : Step) (way : Way) (s : State) → length (entered m p step way s) ≤ 1
entered_short m p step Onward s = entered_to_short p.next m step.depth s
entered_short m p step (Forks one two) s = omega arith
entered_short m p step (CallsTo aim) s = omega arith
entered_short m p step (JumpsTo aim) s = omega arith
entered_short m p step (ReturnsBy x) s = omega arith

module _ (t : List ℕ) (m : Program) (f : Family) (family : IsLawfulFamily t m.widest f) where
  states_short : (o : Option State) (give : State → List Piece) (n : ℕ) → is_over_or_none t o ≡ true
      → ((s : State) → is_state_over t s ≡ true → length (give s) ≤ n)
      → length (pieces_of o give) ≤ n
  states_short None give n over short = omega arith
  states_short (Some s) give n over short = short s over

  exits_short : (p : Place) (exit : Option Exit) (s : State) → length (exits f p exit s) ≤ 2
  exits_short p None s = omega arith
  exits_short p (Some exit) s = there_short (f.test exit.test s) (goes p _) 2 (λ u. omega arith)

  here_short : (p : Place) (step : Step) (way : Way) (c : Option Effects) (before s : State) → is_state_over t before ≡ true
      → length (here f p step way c before s) ≤ 4 + 2 * m.widest
  here_short p step Onward c before s over = let n = here_to_short p.next p step.depth c s in omega arith
  here_short p step (Forks one two) c before s over =
      let n = both_short (exits f p one s) (exits f p two s) 2 2 (exits_short p one s) (exits_short p two s) in omega arith
  here_short p step (CallsTo aim) c before s over =
      let n = each_short (called_to p s) (f.resolve p.pc aim before).list
      (λ q. given_short (not (is_behind p q)) (goes p (delayed p (Into q)) s) 2 (omega arith)) in
      let few = family.few p.pc aim before over in
      omega arith
  here_short p step (JumpsTo aim) c before s over =
      let n = each_short (jumped_to p s) (f.resolve p.pc aim before).list (λ q. omega arith) in
      let few = family.few p.pc aim before over in
      omega arith
  here_short p step (ReturnsBy x) c before s over =
      let n = given_short (is_value_at_most Ret (cell_at before x)) (goes p (delayed p Back) s) 2 (omega arith) in omega arith

  beside_short : (p : Place) (step : Step) (way : Way) (c : Option Effects) (before s : State) → length (beside f m p step way c before s) ≤ 2
  beside_short p step Onward c before s = beside_to_short p.next m p step.depth c s
  beside_short p step (Forks one two) c before s = omega arith
  beside_short p step (CallsTo aim) c before s = given_short (not (is_known p (f.resolve p.pc aim before))) (gap p why.Call ∷ []) 2 (omega arith)
  beside_short p step (JumpsTo aim) c before s = given_short (not (f.resolve p.pc aim before).whole) (gap p why.Jump ∷ []) 2 (omega arith)
  beside_short p step (ReturnsBy x) c before s = given_short (not (is_ret (cell_at before x))) (gap p why.Jump ∷ []) 2 (omega arith)

  act_short : (p : Place) (act : Act) (c : Option Effects) (s : State) → is_state_over t s ≡ true → length (act_gives f m p act c s) ≤ most m
  act_short p Dead c s over = omega arith
  act_short p (Open kind) c s over = omega arith
  act_short p (Acts step way) c s over =
      let one = there_short (f.step step s) (beside f m p step way c s) 2 (λ u. beside_short p step way c s u) in
      let two = there_short (f.step step s) (here f p step way c s) (4 + 2 * m.widest) (λ u. here_short p step way c s u over) in
      let three = there_short (f.step step s) (entered m p step way) 1 (λ u. entered_short m p step way u) in
      let inner = length-append (pieces_of (f.step step s) (here f p step way c s)) (pieces_of (f.step step s) (entered m p step way)) in
      let outer = length-append (effects p.sub false false (mask_of step) ∷ pieces_of (f.step step s) (beside f m p step way c s))
      (pieces_of (f.step step s) (here f p step way c s) ++ pieces_of (f.step step s) (entered m p step way)) in
      omega arith

  -- what a key gives is short
  pub gives_short : (x : Facts) → ((k : Key) (v : Fact) → x k ≡ Some v → fits t k v ≡ true) → (k : Key) → length (gives f m k x) ≤ most m
  gives_short x fit (key.Node p) = by (x (key.Node p)) (fit (key.Node p)) where
    node : (c : Option Effects) (s : State) → is_state_over t s ≡ true → length (node_gives f m p c s) ≤ most m
    node c s over = states_short (f.narrow p s) (act_gives f m p (m.act p) c) (most m) (family.narrow p s over) (λ u up. act_short p (m.act p) c u up)

    at : (v : Fact) → fits t (key.Node p) v ≡ true → length (pieces_of (state_in (Some v)) (node_gives f m p (callee_of p.next x))) ≤ most m
    at (fact.State s) is = node (callee_of p.next x) s (fitting t (key.Node p) (fact.State s) is).over
    at _ is = omega arith

    by : (o : Option Fact) → ((v : Fact) → o ≡ Some v → fits t (key.Node p) v ≡ true)
        → length (pieces_of (state_in o) (node_gives f m p (callee_of p.next x))) ≤ most m
    by None is = omega arith
    by (Some v) is = at v (is v refl)
  gives_short x fit (key.Edge p q) = omega arith
  gives_short x fit (key.Call p q) = omega arith
  gives_short x fit (key.Summary sub) = omega arith
  gives_short x fit (key.Gap sub pc kind) = omega arith

-- what a key reads is short
pub reads_short : (m : Program) (k : Key) → length (reads k) ≤ most m
reads_short m (key.Node p) = by p.next where
  by : (next : Next) → length (key.Node p ∷ callee_key next) ≤ most m
  by (At n) = omega arith
  by (Into q) = omega arith
  by Back = omega arith
reads_short m (key.Edge p q) = omega arith
reads_short m (key.Call p q) = omega arith
reads_short m (key.Summary sub) = omega arith
reads_short m (key.Gap sub pc kind) = omega arith

-- the key itself is read
pub reads_itself : (k : Key) → Contains (reads k) k
reads_itself (key.Node p) = (0, omega arith, refl)
reads_itself (key.Edge p q) = (0, omega arith, refl)
reads_itself (key.Call p q) = (0, omega arith, refl)
reads_itself (key.Summary sub) = (0, omega arith, refl)
reads_itself (key.Gap sub pc kind) = (0, omega arith, refl)

-- where facts agree at what is read, the same is given
pub gives_looks : (f : Family) (m : Program) (x y : Facts) (k : Key) → ((j : Key) → Contains (reads k) j → x j ≡ y j) → gives f m k x ≡ gives f m k y
gives_looks f m x y (key.Node p) same =
    let here : x (key.Node p) ≡ y (key.Node p) = same (key.Node p) (0, omega arith, refl) in
    let there : callee_of p.next x ≡ callee_of p.next y = callee p.next (λ q at. same (key.Summary q) (at)) in
    ap (λ (o : Option Fact). pieces_of (state_in o) (node_gives f m p (callee_of p.next x))) here
    ∙ ap (λ (c : Option Effects). pieces_of (state_in (y (key.Node p))) (node_gives f m p c)) there
  where
    callee : (next : Next) → ((q : ℕ) → Contains (key.Node p ∷ callee_key next) (key.Summary q) → x (key.Summary q) ≡ y (key.Summary q))
        → callee_of next x ≡ callee_of next y
    callee (At n) at = refl
    callee (Into q) at = ap effects_in (at q (1, omega arith, refl))
    callee Back at = refl
gives_looks f m x y (key.Edge p q) same = refl
gives_looks f m x y (key.Call p q) same = refl
gives_looks f m x y (key.Summary sub) same = refl
gives_looks f m x y (key.Gap sub pc kind) same = refl

-- only program points give anything
pub counted_gives : (f : Family) (m : Program) (k : Key) (x : Facts) → is_counted k ≡ false → gives f m k x ≡ []
counted_gives f m (key.Node p) x not_counted = absurd (true≢false not_counted)
counted_gives f m (key.Edge p q) x not_counted = refl
counted_gives f m (key.Call p q) x not_counted = refl
counted_gives f m (key.Summary sub) x not_counted = refl
counted_gives f m (key.Gap sub pc kind) x not_counted = refl
