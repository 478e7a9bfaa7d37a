-- What states that cover machines cover behind a step.
use Rattle.std.proofs.Common.{◌≡◌, ℕ, ℤ, pos, negsuc, ◌%◌, ◌^◌, ◌<◌, ◌≤◌, inl, inr, true, false, List, [], ◌∷◌, length, Option, Some, None, Contains}
use Rattle.std.proofs.Common.{refl, sym, ap, subst, ◌∙◌, arith}
use Rattle.std.specs.Prelude.{◌≤ℤ◌, map, IfSome}
use Rattle.std.specs.Int.{w32, cast_signed}
use Rattle.std.proofs.lemmas.Bool.Decides.{nat_tests, eqb_tells}
use Rattle.std.proofs.lemmas.Int.{ints}
use Rattle.abs_state.proofs.OrderLemmas.{stands}
use Rattle.abs_state.proofs.StateLemmas.{entry_is_state}
use Rattle.abs_state.specs.State.{State, cell_at, entry_state, with_cell}
use Rattle.abs_state.specs.declared.flags.Right.{Right}
use Rattle.assert_bind.proofs.SightLemmas.{answers_all}
use Rattle.assert_bind.specs.Binding.{listed, never, range}
use Rattle.assert_bind.specs.Sight.{IsIn, IsAllowed}
use Rattle.assert_bind.specs.declared.body.BoundAssertion.{BoundAssertion}
use Rattle.bt_image.specs.Image.{is_code}
use Rattle.call_effects.proofs.CellLemmas.{cells_tell_registers_apart}
use Rattle.call_effects.specs.Cell.{cell_of}
use Rattle.cell_places.proofs.PlaceLemmas.{registers_hold_contents, with_content-same, with_content-other, with_content-zero}
use Rattle.cell_places.specs.Place.{content_of, window_at, with_content, IsAtDepth}
use Rattle.sparc_machine.specs.Effect.{flags_in}
use Rattle.sparc_machine.specs.Frame.{Frame}
use Rattle.sparc_machine.specs.Machine.{IsMachine, register_of}
use Rattle.sparc_machine.specs.declared.machine.Machine.{Machine}
use Rattle.sparc_runs.specs.Meets.{sight_of}
use Rattle.state_covers.proofs.CoverLemmas.{entries_cover, machines_have_contents, top_has, writes_say}
use Rattle.state_covers.specs.Covers.{AreContents, Says}
use Rattle.step_covers.proofs.SourceLemmas.{have_words}
use Rattle.step_covers.proofs.StateLemmas.{steps_say, tests_say, narrows_say}
use Rattle.step_covers.specs.Covered.{IsCovered, IsCoveredSome, SteppedStatesCover, TestedStatesCover, NarrowedStatesCover, MetAssertionsAreKept}
use Rattle.step_covers.specs.Covered.{EnteredStatesCover, ReturnedStatesCover, AimsAreResolved}
use Rattle.step_covers.specs.Does.{IsSumIn}
use Rattle.step_covers.specs.Says.{IsRight, SaysSome, IsInRange}
use Rattle.transfer_rules.specs.Give.{argument_registers, handed, with_each}
use Rattle.transfer_rules.specs.Lawful.{is_over_or_none}
use Rattle.transfer_rules.specs.declared.act.Aim.TheVariants.{Fixed, Computed}
use Rattle.transfer_rules.specs.declared.act.Candidates.{Candidates}
use Rattle.transfer_values.proofs.CoverLemmas.{targets_cover}
use Rattle.transfer_values.proofs.LawLemmas.{states_stay_over}
use Rattle.transfer_values.proofs.PartLemmas.{value_length}
use Rattle.transfer_values.specs.Narrow.{narrowed}
use Rattle.transfer_values.specs.Resolve.{resolved}
use Rattle.transfer_values.specs.Step.{stepped}
use Rattle.transfer_values.specs.Test.{tested}
use Rattle.value_lattice.specs.Order.{place_of, rank_of}
use Rattle.value_lattice.specs.Value.{Has}
use Rattle.value_lattice.specs.declared.value.Value.{Value}
use Rattle.value_lattice.specs.declared.value.Value.TheVariants.{Words, Range, Ret}
use Rattle.word_ops.specs.declared.arithmetic.Flags.{Flags}

-- a covering state is right about the cells of the frame
pub right_of : (t : List ℕ) (s : State) (depth : ℕ) (F : Frame) (m : Machine) → IsCovered t s depth F m
    → IsRight t s F.caller (content_of m F.start.cwp) (flags_in m)
right_of t s depth F m is =
    record {
      thresholds = is.thresholds;
      over = is.over;
      are = machines_have_contents m F.start.cwp is.machine;
      address = is.word;
      says = is.covers.says;
    }

-- what there is of a state that is right covers the machine
covered_some : (t : List ℕ) (o : Option State) (depth : ℕ) (F : Frame) (m : Machine) (s : State) (old : ℕ) (before : Machine) → IsCovered t s old F before
    → IsMachine m → m.cwp ≡ window_at F.start.cwp depth → is_over_or_none t o ≡ true → SaysSome o F.caller (content_of m F.start.cwp) (flags_in m)
    → IsCoveredSome t o depth F m
covered_some t None depth F m s old before is machine window over says = says
covered_some t (Some r) depth F m s old before is machine window over says =
    record {
      thresholds = is.thresholds;
      over = over;
      machine = machine;
      word = is.word;
      covers = record { window = window; says = says };
    }

-- a state that covers a machine, stepped by the act of its place, covers the next machine, and there is one
pub steps_cover : SteppedStatesCover
steps_cover t image step way s depth F m next is machine does =
    covered_some t (stepped t image step s) step.depth F next s depth m is machine does.follows.window
    ((states_stay_over.stepped) t image step s is.thresholds is.over)
    (steps_say t image step s F.caller (content_of m F.start.cwp) (content_of next F.start.cwp) (flags_in m) (flags_in next) (right_of t s depth F m is)
    (machines_have_contents next F.start.cwp machine) does.follows.follows)

-- a state that covers a machine covers it where a branch takes a direction that the condition codes take
pub tests_cover : TestedStatesCover
tests_cover t test s depth F m is taken =
    covered_some t (tested t test s) depth F m s depth m is is.machine is.covers.window ((states_stay_over.tested) t test s is.thresholds is.over)
    (tests_say t test s F.caller (content_of m F.start.cwp) (flags_in m) (right_of t s depth F m is) taken)

-- a state that covers a machine covers it once it is narrowed by what is asserted, where that holds
pub narrows_cover : NarrowedStatesCover
narrows_cover t list p s F m is keeps =
    covered_some t (narrowed t list p s) p.depth F m s p.depth m is is.machine is.covers.window ((states_stay_over.narrowed) t list p s is.thresholds is.over)
    (narrows_say t list p s F.caller (content_of m F.start.cwp) (flags_in m) (right_of t s p.depth F m is) keeps)

-- ranks are ordered as the numbers with sign are
rank_up : (x y : ℤ) → x ≤ℤ y → rank_of x ≤ rank_of y
rank_up (pos a) (pos b) up = omega (arith, ints)
rank_up (pos a) (negsuc b) up = omega (arith, ints)
rank_up (negsuc a) (pos b) up = omega (arith, ints)
rank_up (negsuc a) (negsuc b) up = omega (arith, ints)

-- the place of a word is the rank of its value with sign
place_is : (w : ℕ) → w < 2 ^ 32 → place_of w ≡ rank_of (cast_signed w32 w)
place_is w within = grind (arith, ints, nat_tests)

in_range : (o : Option (ℤ × ℤ)) (w : ℕ) → w < 2 ^ 32 → IfSome o (λ (lo, hi). IsIn lo hi w) → IsInRange o w
in_range None w within is = tt
in_range (Some (lo, hi)) w within is =
    let at = place_is w within in
    let low = rank_up lo (cast_signed w32 w) is.least in
    let high = rank_up (cast_signed w32 w) hi is.most in
    (omega arith, omega arith)

-- a machine that meets the assertions has in its registers what is asserted at its place, and isn't where none may be
pub assertions_kept : MetAssertionsAreKept
assertions_kept image list p cwp m taken sound here meets =
    record {
      reached = subst (λ (a : ℕ). never list a ≡ false) here.pc allowed.reached;
      ranges = λ r low high.
          (let same = (registers_hold_contents.read) cwp p.depth m r here.at high in
          let word = (machines_have_contents m cwp here.machine).words (cell_of p.depth r) ((cells_tell_registers_apart.within) p.depth r high) in
          in_range (range list p.pc r) (content_of m cwp (cell_of p.depth r)) word
          (subst (λ (w : ℕ). IfSome (range list p.pc r) (λ (lo, hi). IsIn lo hi w)) same
          (subst (λ (a : ℕ). IfSome (range list a r) (λ (lo, hi). IsIn lo hi (register_of m r))) here.pc ((allowed.ranged) r))));
    }
  where
    allowed : IsAllowed list (sight_of image m taken)
    allowed = (answers_all list (sight_of image m taken) sound).0 meets

-- the arguments of a call, written to the state of an entry
module _ (ra : ℕ) (contents : ℕ → ℕ) (f : Flags) (are : AreContents contents) where
  same_there : (c k : ℕ) → with_content contents c (contents c) k ≡ contents k
  same_there c k = elim (eqb_tells k c) [
    | inl here ↦ elim (eqb_tells c 0) [
      | inl none ↦ with_content-zero contents c (contents c) k none.1
      | inr some ↦
          ap (with_content contents c (contents c)) here.1 ∙ with_content-same contents c (contents c) some.1 ∙ sym (ap contents here.1)
    ]
    | inr other ↦ with_content-other contents c (contents c) k other.1
  ]

  -- another value of what a cell holds, written
  valued : (s : State) (c : ℕ) (v : Value) → length s.cells ≡ 48 → Has v (contents c) ra → Says s ra contents f → Says (with_cell s c v) ra contents f
  valued s c v size has says =
      subst (λ (g : ℕ → ℕ). Says (with_cell s c v) ra g f) (λ i k. same_there c k i) ((writes_say.cell) s ra contents f c (contents c) v size has says)

  -- registers of a window
  abbrev AreNear : List ℕ → Type 0
  AreNear [] = Unit {0}
  AreNear (r ∷ rs) = (r < 32) × AreNear rs

  each_says : (give : ℕ → Value) → ((r : ℕ) → r < 32 → Has (give r) (contents r) ra) → (rs : List ℕ) (s : State) → AreNear rs → length s.cells ≡ 48
      → Says s ra contents f → Says (with_each s rs (map give rs)) ra contents f
  each_says give has [] s near size says = says
  each_says give has (r ∷ rs) s near size says =
      each_says give has rs (with_cell s r (give r)) near.1 (value_length s.cells r (give r) ∙ size) (valued s r (give r) size (has r near.0) says)

-- what is handed on has the word in any frame
handed_has : (v : Value) (w ra other : ℕ) → w < 2 ^ 32 → ra < 2 ^ 32 → Has v w ra → Has (handed v) w other
handed_has (Words words) w ra other within address has = has
handed_has (Range lo hi) w ra other within address has = has
handed_has Ret w ra other within address has = top_has w other within

-- the state of a subprogram's entry with the arguments of a call covers the first machine of its frame
pub entered_cover : EnteredStatesCover
entered_cover t s depth F G window shallow is link =
    let entry = entries_cover G is.machine link in
    record {
      window = entry.window;
      says =
          each_says G.caller (content_of G.start G.start.cwp) (flags_in G.start) (machines_have_contents G.start G.start.cwp is.machine)
          (λ r. handed (cell_at s (cell_of depth r))) has argument_registers entry_state near entry_is_state.size entry.says;
    }
  where
    at : IsAtDepth F.start.cwp depth G.start
    at = record { window = window; shallow = shallow; is = is.covers.window; size = is.machine.registers }

    own : IsAtDepth G.start.cwp 0 G.start
    own = let w = is.machine.window in record { window = w; shallow = omega arith; is = omega arith; size = is.machine.registers }

    has : (r : ℕ) → r < 32 → Has (handed (cell_at s (cell_of depth r))) (content_of G.start G.start.cwp r) G.caller
    has r low =
        let here : content_of G.start F.start.cwp (cell_of depth r) ≡ content_of G.start G.start.cwp r =
        sym ((registers_hold_contents.read) F.start.cwp depth G.start r at low) ∙ (registers_hold_contents.read) G.start.cwp 0 G.start r own low in
        subst (λ (w : ℕ). Has (handed (cell_at s (cell_of depth r))) w G.caller) here
        (handed_has (cell_at s (cell_of depth r)) (content_of G.start F.start.cwp (cell_of depth r)) F.caller G.caller
        ((machines_have_contents G.start F.start.cwp is.machine).words (cell_of depth r) ((cells_tell_registers_apart.within) depth r low)) is.word
        ((is.covers.says.cells) (cell_of depth r) ((cells_tell_registers_apart.within) depth r low)))

    near : (8 < 32) × ((9 < 32) × ((10 < 32)
        × ((11 < 32) × ((12 < 32) × ((13 < 32)
        × ((1 < 32) × ((2 < 32) × ((3 < 32) × ((4 < 32) × ((5 < 32) × ((6 < 32) × ((7 < 32) × Unit {0}))))))))))))
    near = (
      omega arith,
      (
        omega arith,
        (
          omega arith,
          (
            omega arith,
            (
              omega arith,
              (
                omega arith,
                (omega arith, (omega arith, (omega arith, (omega arith, (omega arith, (omega arith, (omega arith, tt))))))),
              ),
            ),
          ),
        ),
      ),
    )

-- the state of a call, in which the cells that the callee may write are any word, covers a machine that has come back
pub returned_cover : ReturnedStatesCover
returned_cover t s mask depth F old m is machine same =
    record {
      window = same.window ∙ is.covers.window;
      says =
          (writes_say.forgotten) s F.caller mask (content_of old F.start.cwp) (content_of m F.start.cwp) (flags_in old) (flags_in m) (stands t s is.over).size
          (machines_have_contents m F.start.cwp machine) refl same.kept is.covers.says;
    }

-- a sum that a transfer goes to
sum_resolved : (t image : List ℕ) (list : List BoundAssertion) (pc : ℕ) (left right : Right) (kind : Candidates) (s : State) (depth : ℕ) (F : Frame)
    (m : Machine)
    (target : ℕ) → IsCovered t s depth F m → IsSumIn (content_of m F.start.cwp) left right target
    → IfSome (listed list pc) (λ to. Contains to target × (is_code image target ≡ true))
    → (resolved t image list pc (Computed left right kind) s).whole ≡ true → Contains (resolved t image list pc (Computed left right kind) s).list target
sum_resolved t image list pc left right kind s depth F m target is aims there whole =
    let words =
    have_words t s F.caller (content_of m F.start.cwp) (flags_in m)
    (right_of t s depth F m is) left right aims.first aims.second aims.is_first aims.is_second in
    subst (λ (x : ℕ). Contains (resolved t image list pc (Computed left right kind) s).list x) (sym aims.is)
    (targets_cover t image list pc s left right kind aims.first aims.second F.caller words (ap (λ (x : ℕ). x % 4) (sym aims.is) ∙ aims.aligned)
    (subst (λ (x : ℕ). IfSome (listed list pc) (λ to. Contains to x × (is_code image x ≡ true))) aims.is there) whole)

-- where a transfer goes nowhere else, its targets have the address to which it goes
pub aims_resolved : AimsAreResolved
unfolding resolved
aims_resolved t image list pc (Fixed a) s depth F m target is aims there whole = (0, omega arith, sym aims)
aims_resolved t image list pc (Computed left right kind) s depth F m target is aims there whole =
    sum_resolved t image list pc left right kind s depth F m target is aims there whole
