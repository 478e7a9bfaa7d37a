-- What the functions of the analysis leave of a state that is right.
use Rattle.std.proofs.Common.{◌≡◌, ℕ, ℤ, suc, ◌+◌, ◌%◌, ◌^◌, ◌<◌, ◌≤◌, ◌⊎◌, inl, inr, ◌||◌, Bool, true, false, List, [], ◌∷◌, length, Option, Some}
use Rattle.std.proofs.Common.{None, Contains, refl, sym, ap, subst, ◌∙◌, arith, get_or, eq-eqb}
use Rattle.std.specs.Prelude.{◌==◌, nat_lt, not, slice_set, if◌then◌else◌}
use Rattle.std.specs.List.{range_with_len}
use Rattle.std.specs.Option.{option_map, option_and_then}
use Rattle.std.proofs.lemmas.Bool.{and_from, and_parts, cases_lt, eqb-true, lt-ltb, ltb-true, false≢true}
use Rattle.std.proofs.lemmas.Bool.Decides.{eqb_tells}
use Rattle.std.proofs.lemmas.List.{get_or_past, length-set}
use Rattle.std.proofs.lemmas.List.FromFn.{length-range_with_len, get_or-range_with_len}
use Rattle.abs_state.proofs.FlagsLemmas.{or_cases, or_first, or_second}
use Rattle.abs_state.proofs.OrderLemmas.{stands}
use Rattle.abs_state.specs.Flags.{names, is_right_cell}
use Rattle.abs_state.specs.State.{State, cell_at, with_cell, with_value, may_speak, may_name, may_name_right}
use Rattle.abs_state.specs.declared.flags.Flags.{Flags as Known}
use Rattle.abs_state.specs.declared.flags.Flags.TheVariants.{Unknown, Cmp, Res}
use Rattle.abs_state.specs.declared.flags.Right.{Right}
use Rattle.abs_state.specs.declared.flags.Right.TheVariants.{Cell, Word}
use Rattle.abs_state.specs.declared.key.Place.{Place}
use Rattle.assert_bind.specs.Binding.{range}
use Rattle.assert_bind.specs.declared.body.BoundAssertion.{BoundAssertion}
use Rattle.call_effects.proofs.CellLemmas.{cells_tell_registers_apart}
use Rattle.call_effects.specs.Cell.{cell_of}
use Rattle.cell_places.specs.Place.{with_content}
use Rattle.cell_places.proofs.PlaceLemmas.{with_content-same, with_content-other, with_content-zero}
use Rattle.state_covers.proofs.CoverLemmas.{top_has, writes_say}
use Rattle.state_covers.proofs.FlagLemmas.{mean_same, conditions_are_known}
use Rattle.state_covers.specs.Covers.{AreContents, FlagsMean, Says}
use Rattle.step_covers.proofs.SourceLemmas.{source_has}
use Rattle.step_covers.specs.Follows.{GivesTo, wrote, FlagsFollow}
use Rattle.step_covers.specs.Says.{SaysSome, IsRight, SteppedStatesSay, TestedStatesSay, IsInRange, NarrowedStatesSay}
use Rattle.transfer_rules.specs.declared.act.Test.TheVariants.{Always, When}
use Rattle.transfer_rules.specs.declared.step.Write.{Write}
use Rattle.transfer_values.proofs.CoverLemmas.{sources_cover}
use Rattle.transfer_values.specs.Narrow.{narrowed, narrowed_by, narrowed_to}
use Rattle.transfer_values.specs.Source.{operand, source_value}
use Rattle.transfer_values.specs.Step.{is_writable, put, written, freed, freed_right, freed_for, flagged, stepped}
use Rattle.transfer_values.specs.Test.{left_with, asks_result, spares_right, with_right, refined, tested}
use Rattle.value_lattice.specs.Least.{top}
use Rattle.value_lattice.specs.Order.{rank_of}
use Rattle.value_lattice.specs.Thresholds.{IsThresholds}
use Rattle.value_lattice.specs.Value.{Has, HasSome, is_ret}
use Rattle.value_lattice.specs.declared.value.Value.{Value}
use Rattle.value_lattice.specs.declared.value.Value.TheVariants.{Words}
use Rattle.step_covers.proofs.MirrorLemmas.{mirror_exchanges, or_false}
use Rattle.value_refine.proofs.RefineFunctions.{refine_covers, within_has}
use Rattle.value_refine.specs.Refinement.{refine, within, mirror_of}
use Rattle.word_ops.specs.Condition.{holds_of}
use Rattle.word_ops.specs.Flags.{difference_flags_of}
use Rattle.word_ops.specs.declared.arithmetic.Flags.{Flags}

-- a write keeps the number of cells
value_length : (cells : List Value) (c : ℕ) (v : Value) → length (with_value cells c v) ≡ length cells
value_length cells c v = by (c == 0) where
  by : (b : Bool) → length (if b then cells else slice_set cells c v) ≡ length cells
  by true = refl
  by false = length-set cells c v

-- an element of a list is one of the longer list
later : (y : ℕ) (ys : List ℕ) (a : ℕ) → Contains ys a → Contains (y ∷ ys) a
later y ys a there = (suc there.0, omega (arith, there.1), there.2)

-- flags speak of cells below 48
spoken_right : (s : State) (r : Right) → may_name_right s.cells r ≡ true → (c : ℕ) → is_right_cell r c ≡ true → c < 48
spoken_right s (Cell k) may c same =
    let e : k ≡ c = eqb-true k c same in
    let low : k < 48 = ltb-true k 48 ((and_parts (nat_lt k 48) (not (is_ret (cell_at s k))) may).0) in
    omega arith
spoken_right s (Word w) may c same = absurd (false≢true same)

spoken : (s : State) (known : Known) → may_speak s.cells known ≡ true → (c : ℕ) → names known c ≡ true → c < 48
spoken s Unknown may c named = absurd (false≢true named)
spoken s (Cmp left right) may c named =
    let parts = and_parts (may_name s.cells left) (may_name_right s.cells right) may in
    elim (or_cases (left == c) (is_right_cell right c) named) [
      | inl is ↦
          (let e : left ≡ c = eqb-true left c is in
          let low : left < 48 = ltb-true left 48 ((and_parts (nat_lt left 48) (not (is_ret (cell_at s left))) parts.0).0) in
          omega arith)
      | inr is ↦ spoken_right s right parts.1 c is
    ]
spoken s (Res cell) may c named =
    let e : cell ≡ c = eqb-true cell c named in
    let low : cell < 48 = ltb-true cell 48 ((and_parts (nat_lt cell 48) (not (is_ret (cell_at s cell))) may).0) in
    omega arith

-- a state of 48 cells that is right, and whose flags speak of these alone
record IsSound (s : State) (ra : ℕ) (contents : ℕ → ℕ) (f : Flags) : Type 0 where
  size : length s.cells ≡ 48
  near : (c : ℕ) → names s.flags c ≡ true → c < 48
  says : Says s ra contents f

abbrev IsSoundSome : Option State → ℕ → (ℕ → ℕ) → Flags → Type 0
IsSoundSome None ra contents f = ⊥
IsSoundSome (Some s) ra contents f = IsSound s ra contents f

sound_of : (t : List ℕ) (s : State) (ra : ℕ) (contents : ℕ → ℕ) (f : Flags) → IsRight t s ra contents f → IsSound s ra contents f
sound_of t s ra contents f is = let at = stands t s is.over in record { size = at.size; near = spoken s s.flags at.named; says = is.says }

-- a state is right about the same contents by another name
same_says : (s : State) (ra : ℕ) (old new : ℕ → ℕ) (f : Flags) → ((c : ℕ) → c < 48 → new c ≡ old c) → IsSound s ra old f → IsSound s ra new f
same_says s ra old new f same is =
    record {
      size = is.size;
      near = is.near;
      says =
          record {
            cells = λ c low. subst (λ (w : ℕ). Has (cell_at s c) w ra) (sym (same c low)) ((is.says.cells) c low);
            flags = mean_same s.flags old new f (λ c named. same c ((is.near) c named)) is.says.flags;
          };
    }

-- flags that stay where a cell is written
fewer : (known : Known) (c k : ℕ) (b : Bool) → names (if b then Unknown else known) k ≡ true → names known k ≡ true
fewer known c k true named = absurd (false≢true named)
fewer known c k false named = named

cell_sound : (s : State) (ra : ℕ) (contents : ℕ → ℕ) (f : Flags) (c w : ℕ) (v : Value) → Has v w ra → IsSound s ra contents f
    → IsSound (with_cell s c v) ra (with_content contents c w) f
cell_sound s ra contents f c w v has is =
    record {
      size = value_length s.cells c v ∙ is.size;
      near = λ k named. (is.near) k (fewer s.flags c k (names s.flags c) named);
      says = (writes_say.cell) s ra contents f c w v is.size has is.says;
    }

-- a write that gives a word the value has
put_sound : (c : ℕ) (s : State) (ra : ℕ) (contents : ℕ → ℕ) (f : Flags) (w : ℕ) (o : Option Value) → HasSome o w ra → IsSound s ra contents f
    → IsSoundSome (put c s o) ra (with_content contents c w) f
put_sound c s ra contents f w None has is = has
put_sound c s ra contents f w (Some v) has is = by (is_writable c) refl where
  untouched : is_writable c ≡ false → (k : ℕ) → k < 48 → with_content contents c w k ≡ contents k
  untouched is_so k low = elim (eqb_tells c 0) [
    | inl none ↦ with_content-zero contents c w k none.1
    | inr some ↦ elim (cases_lt c 48) [
      | inl inside ↦
          (let first : nat_lt 0 c ≡ true = lt-ltb 0 c (let e = some.1 in omega arith) in
          absurd (false≢true (sym is_so ∙ and_from (nat_lt 0 c) (nat_lt c 48) first (lt-ltb c 48 inside))))
      | inr past ↦ with_content-other contents c w k (λ same. omega arith)
    ]
  ]

  by : (b : Bool) → is_writable c ≡ b → IsSound (if b then with_cell s c v else s) ra (with_content contents c w) f
  by true is_so = cell_sound s ra contents f c w v has is
  by false is_so = same_says s ra contents (with_content contents c w) f (untouched is_so) is

-- a cell that is the return address becomes any word
freed_sound : (c : ℕ) (s : State) (ra : ℕ) (contents : ℕ → ℕ) (f : Flags) → AreContents contents → c < 48 → IsSound s ra contents f
    → IsSound (freed c s) ra contents f
freed_sound c s ra contents f are low is = by (is_ret (cell_at s c)) where
  same : (k : ℕ) → k < 48 → contents k ≡ with_content contents c (contents c) k
  same k near = elim (eqb_tells k c) [
    | inl here ↦ elim (eqb_tells c 0) [
      | inl none ↦ sym (with_content-zero contents c (contents c) k none.1)
      | inr some ↦ ap contents here.1 ∙ sym (ap (with_content contents c (contents c)) here.1 ∙ with_content-same contents c (contents c) some.1)
    ]
    | inr other ↦ sym (with_content-other contents c (contents c) k other.1)
  ]

  by : (b : Bool) → IsSound (if b then with_cell s c top else s) ra contents f
  by true =
      same_says (with_cell s c top) ra (with_content contents c (contents c)) contents f same
      (cell_sound s ra contents f c (contents c) top (top_has (contents c) ra ((are.words) c low)) is)
  by false = is

-- cells that flags are to speak of, as far as there are such
freed_any : (c : ℕ) (s : State) (ra : ℕ) (contents : ℕ → ℕ) (f : Flags) → AreContents contents → IsSound s ra contents f → IsSound (freed c s) ra contents f
freed_any c s ra contents f are is = elim (cases_lt c 48) [
  | inl low ↦ freed_sound c s ra contents f are low is
  | inr past ↦ (let gone : is_ret (cell_at s c) ≡ false = (let size = is.size in ap is_ret (get_or_past s.cells c top (omega arith))) in rw gone is)
]

freed_right_sound : (r : Right) (s : State) (ra : ℕ) (contents : ℕ → ℕ) (f : Flags) → AreContents contents → IsSound s ra contents f
    → IsSound (freed_right r s) ra contents f
freed_right_sound (Cell c) s ra contents f are is = freed_any c s ra contents f are is
freed_right_sound (Word w) s ra contents f are is = is

freed_for_sound : (known : Known) (s : State) (ra : ℕ) (contents : ℕ → ℕ) (f : Flags) → AreContents contents → IsSound s ra contents f
    → IsSound (freed_for known s) ra contents f
freed_for_sound Unknown s ra contents f are is = is
freed_for_sound (Cmp left right) s ra contents f are is = freed_right_sound right (freed left s) ra contents f are (freed_any left s ra contents f are is)
freed_for_sound (Res cell) s ra contents f are is = freed_any cell s ra contents f are is

-- flags that the new condition codes are
flagged_says : (o : Option Known) (s : State) (ra : ℕ) (contents : ℕ → ℕ) (f next : Flags) → AreContents contents → FlagsFollow o contents f next
    → IsSound s ra contents f → Says (flagged o s) ra contents next
flagged_says None s ra contents f next are follow is = subst (λ (g : Flags). Says s ra contents g) (sym follow) is.says
flagged_says (Some known) s ra contents f next are follow is =
    record { cells = (freed_for_sound known s ra contents f are is).says.cells; flags = by (may_speak (freed_for known s).cells known) } where
      by : (b : Bool) → FlagsMean (if b then known else Unknown) contents next
      by true = follow
      by false = tt

-- a step, taken apart
pub steps_say : SteppedStatesSay
unfolding stepped
steps_say t image step s ra old new f next is are follows = first (written t image s step.first s) (begun step.first follows.gives_first) where
  begun : (o : Option Write) → GivesTo image old o follows.first → IsSoundSome (written t image s o s) ra (wrote o follows.first old) f
  begun None gives = sound_of t s ra old f is
  begun (Some w) gives =
      put_sound w.cell s ra old f follows.first (source_value t image s w.source)
      (source_has t s ra old f is image w.source follows.first sources_cover gives) (sound_of t s ra old f is)

  more : (o : Option Write) (at : State) (contents : ℕ → ℕ) → GivesTo image old o follows.second → IsSound at ra contents f
      → IsSoundSome (written t image s o at) ra (wrote o follows.second contents) f
  more None at contents gives sound = sound
  more (Some w) at contents gives sound =
      put_sound w.cell at ra contents f follows.second (source_value t image s w.source)
      (source_has t s ra old f is image w.source follows.second sources_cover gives) sound

  second : (o : Option State) → IsSoundSome o ra (wrote step.second follows.second (wrote step.first follows.first old)) f
      → SaysSome (option_map (flagged step.flags) o) ra new next
  second None sound = sound
  second (Some at) sound =
      flagged_says step.flags at ra new f next are follows.flags
      (same_says at ra (wrote step.second follows.second (wrote step.first follows.first old)) new f follows.contents sound)

  first : (o : Option State) → IsSoundSome o ra (wrote step.first follows.first old) f
      → SaysSome (option_map (flagged step.flags) (option_and_then (written t image s step.second) o)) ra new next
  first None sound = sound
  first (Some at) sound = second (written t image s step.second at) (more step.second at (wrote step.first follows.first old) follows.gives_second sound)

-- less is left of a cell, and it has what the cell holds
part_says : (c : ℕ) (s : State) (ra : ℕ) (contents : ℕ → ℕ) (f : Flags) (o : Option Value) → length s.cells ≡ 48 → HasSome o (contents c) ra
    → Says s ra contents f → SaysSome (left_with c s o) ra contents f
part_says c s ra contents f None size has says = has
part_says c s ra contents f (Some v) size has says = (writes_say.value) s ra contents f c v size has says

-- and the state keeps its cells
abbrev Has48 : Option State → Type 0
Has48 None = Unit {0}
Has48 (Some s) = length s.cells ≡ 48

part_size : (c : ℕ) (s : State) (o : Option Value) → length s.cells ≡ 48 → Has48 (left_with c s o)
part_size c s None size = tt
part_size c s (Some v) size = value_length s.cells c v ∙ size

then_says : (o : Option State) (next : State → Option State) (ra : ℕ) (contents : ℕ → ℕ) (f : Flags) → Has48 o → SaysSome o ra contents f
    → ((s : State) → length s.cells ≡ 48 → Says s ra contents f → SaysSome (next s) ra contents f) → SaysSome (option_and_then next o) ra contents f
then_says None next ra contents f size says go = says
then_says (Some s) next ra contents f size says go = go s size says

-- the conditions that don't spare the right side have a mirrored one
mirrored : (condition : ℕ) → condition < 16 → spares_right condition ≡ false → condition % 8 < 6
mirrored condition few spares = elim (cases_lt (condition % 8) 6) [
  | inl low ↦ low
  | inr high ↦ absurd (false≢true (sym spares ∙ spared (cases_lt condition 7) (cases_lt condition 8) (cases_lt condition 15) high))
]
  where
    at : (k : ℕ) → condition ≡ k → spares_right k ≡ true → spares_right condition ≡ true
    at k same is = ap spares_right same ∙ is

    spared : (condition < 7) ⊎ (7 ≤ condition) → (condition < 8) ⊎ (8 ≤ condition) → (condition < 15) ⊎ (15 ≤ condition) → 6 ≤ condition % 8
        → spares_right condition ≡ true
    spared (inl six) b c high = at 6 (omega arith) refl
    spared (inr seven) (inl b) c high = at 7 (omega arith) refl
    spared (inr seven) (inr b) (inl c) high = at 14 (omega arith) refl
    spared (inr seven) (inr b) (inr c) high = at 15 (omega arith) refl

module _ (t : List ℕ) (condition : ℕ) (truth : Bool) (s : State) (ra : ℕ) (contents : ℕ → ℕ) (f : Flags) (is : IsRight t s ra contents f)
    (few : condition < 16) (holds : holds_of condition f ≡ truth) where
  -- a comparison of a cell with a word
  left_has : (left : ℕ) (right : Right) (y : ℕ) → left < 48 → y < 2 ^ 32 → Has (operand s right) y ra
      → f ≡ difference_flags_of (contents left) y false → HasSome (refine t condition truth (cell_at s left) (operand s right)) (contents left) ra
  left_has left right y low word has codes =
      refine_covers t condition truth (cell_at s left) (operand s right) (contents left) y ra is.thresholds ((is.are.words) left low) word is.address
      ((is.says.cells) left low) has (sym (ap (λ (g : Flags). holds_of condition g) codes) ∙ holds)

  right_says : (left c : ℕ) (at : State) → left < 48 → c < 48 → f ≡ difference_flags_of (contents left) (contents c) false → length at.cells ≡ 48
      → Says at ra contents f → SaysSome (with_right t condition truth s left (Cell c) at) ra contents f
  right_says left c at low lower codes size says = by (spares_right condition || (c == left)) refl where
    by : (b : Bool) → (spares_right condition || (c == left)) ≡ b
        → SaysSome (if b then Some at else left_with c at (refine t (mirror_of condition) truth (cell_at s c) (cell_at s left))) ra contents f
    by true is_so = says
    by false is_so =
        let spares : spares_right condition ≡ false = or_false (spares_right condition) (c == left) is_so in
        let turned : holds_of (mirror_of condition) (difference_flags_of (contents c) (contents left) false) ≡ truth =
        sym (mirror_exchanges condition (contents left) (contents c) few (mirrored condition few spares) ((is.are.words) left low) ((is.are.words) c lower))
        ∙ (sym (ap (λ (g : Flags). holds_of condition g) codes) ∙ holds) in
        part_says c at ra contents f (refine t (mirror_of condition) truth (cell_at s c) (cell_at s left)) size
        (refine_covers t (mirror_of condition) truth (cell_at s c) (cell_at s left) (contents c) (contents left) ra is.thresholds ((is.are.words) c lower)
        ((is.are.words) left low) is.address ((is.says.cells) c lower) ((is.says.cells) left low) turned) says

  compared : (left : ℕ) (right : Right) → may_speak s.cells (Cmp left right) ≡ true → FlagsMean (Cmp left right) contents f
      → SaysSome (refined t condition truth s (Cmp left right)) ra contents f
  compared left (Cell c) may means =
      let low : left < 48 = spoken s (Cmp left (Cell c)) may left (or_first (left == left) (c == left) (eq-eqb left left refl)) in
      let lower : c < 48 = spoken s (Cmp left (Cell c)) may c (or_second (left == c) (c == c) (eq-eqb c c refl)) in
      let size = (stands t s is.over).size in
      then_says (left_with left s (refine t condition truth (cell_at s left) (cell_at s c))) (with_right t condition truth s left (Cell c)) ra contents f
      (part_size left s (refine t condition truth (cell_at s left) (cell_at s c)) size)
      (part_says left s ra contents f (refine t condition truth (cell_at s left) (cell_at s c)) size
      (left_has left (Cell c) (contents c) low ((is.are.words) c lower) ((is.says.cells) c lower) means) is.says)
      (λ at size says. right_says left c at low lower means size says)
  compared left (Word w) may means =
      let low : left < 48 = spoken s (Cmp left (Word w)) may left (or_first (left == left) false (eq-eqb left left refl)) in
      let word : w < 2 ^ 32 = ltb-true w (2 ^ 32) ((and_parts (may_name s.cells left) (nat_lt w (2 ^ 32)) may).1) in
      let same : w ≡ w % 2 ^ 32 = omega arith in
      let size = (stands t s is.over).size in
      then_says (left_with left s (refine t condition truth (cell_at s left) (operand s (Word w)))) (with_right t condition truth s left (Word w)) ra contents f
      (part_size left s (refine t condition truth (cell_at s left) (operand s (Word w))) size)
      (part_says left s ra contents f (refine t condition truth (cell_at s left) (operand s (Word w))) size
      (left_has left (Word w) w low word (0, omega arith, sym same) means) is.says)
      (λ at size says. says)

  result : (cell : ℕ) → may_speak s.cells (Res cell) ≡ true → FlagsMean (Res cell) contents f → SaysSome (refined t condition truth s (Res cell)) ra contents f
  result cell may means = by (asks_result condition) refl where
    low : cell < 48
    low = spoken s (Res cell) may cell (eq-eqb cell cell refl)

    by : (b : Bool) → asks_result condition ≡ b
        → SaysSome (if b then left_with cell s (refine t condition truth (cell_at s cell) (Words (0 ∷ []))) else Some s) ra contents f
    by true asks =
        part_says cell s ra contents f (refine t condition truth (cell_at s cell) (Words (0 ∷ []))) (stands t s is.over).size
        (refine_covers t condition truth (cell_at s cell) (Words (0 ∷ [])) (contents cell) 0 ra is.thresholds ((is.are.words) cell low) (omega arith) is.address
        ((is.says.cells) cell low) (0, omega arith, refl)
        (sym ((conditions_are_known.result) cell condition contents f few asks ((is.are.words) cell low) means) ∙ holds)) is.says
    by false asks = is.says

  refined_says : (known : Known) → may_speak s.cells known ≡ true → FlagsMean known contents f → SaysSome (refined t condition truth s known) ra contents f
  refined_says Unknown may means = is.says
  refined_says (Cmp left right) may means = compared left right may means
  refined_says (Res cell) may means = result cell may means

-- a state that is right is right where a branch takes a direction that the condition codes take
pub tests_say : TestedStatesSay
unfolding tested
tests_say t Always s ra contents f is taken = is.says
tests_say t (When condition truth) s ra contents f is taken =
    let same : condition % 16 ≡ condition = (let few = taken.0 in omega arith) in
    subst (λ (k : ℕ). SaysSome (refined t k truth s s.flags) ra contents f) (sym same)
    (refined_says t condition truth s ra contents f is taken.0 taken.1 s.flags (stands t s is.over).named is.says.flags)

-- what is asserted of one register, and of each of a list
range_says : (t : List ℕ) (o : Option (ℤ × ℤ)) (c : ℕ) (s : State) (ra : ℕ) (contents : ℕ → ℕ) (f : Flags) → IsThresholds t → AreContents contents
    → ra < 2 ^ 32 → c < 48 → length s.cells ≡ 48 → IsInRange o (contents c) → Says s ra contents f
    → Has48 (narrowed_to t o c s) × SaysSome (narrowed_to t o c s) ra contents f
range_says t None c s ra contents f is are address low size within says = (size, says)
range_says t (Some (lo, hi)) c s ra contents f is are address low size inside says =
    let has = within_has t (cell_at s c) (rank_of lo) (rank_of hi) (contents c) ra is ((are.words) c low) address ((says.cells) c low) inside in (
      part_size c s (within t (cell_at s c) (rank_of lo) (rank_of hi)) size,
      part_says c s ra contents f (within t (cell_at s c) (rank_of lo) (rank_of hi)) size has says,
    )

ranges_say : (t : List ℕ) (list : List BoundAssertion) (p : Place) (rs : List ℕ) (s : State) (ra : ℕ) (contents : ℕ → ℕ) (f : Flags) → IsThresholds t
    → AreContents contents → ra < 2 ^ 32 → ((r : ℕ) → Contains rs r → (r < 32) × IsInRange (range list p.pc r) (contents (cell_of p.depth r)))
    → length s.cells ≡ 48 → Says s ra contents f → SaysSome (narrowed_by t list p rs s) ra contents f
ranges_say t list p [] s ra contents f is are address each size says = says
ranges_say t list p (r ∷ rest) s ra contents f is are address each size says =
    let here = each r (0, omega arith, refl) in
    let now = range_says t (range list p.pc r) (cell_of p.depth r) s ra contents f is are address
    ((cells_tell_registers_apart.within) p.depth r here.0) size here.1 says in
    then_says (narrowed_to t (range list p.pc r) (cell_of p.depth r) s) (narrowed_by t list p rest) ra contents f now.0 now.1
    (λ at size_at says_at. ranges_say t list p rest at ra contents f is are address (λ k there. each k (later r rest k there)) size_at says_at)

-- a state that is right is right once it is narrowed by what is asserted, where that holds
pub narrows_say : NarrowedStatesSay
unfolding narrowed
narrows_say t list p s ra contents f is keeps =
    ranges_say t list p (range_with_len 1 31) s ra contents f is.thresholds is.are is.address each (stands t s is.over).size is.says where
      each : (r : ℕ) → Contains (range_with_len 1 31) r → (r < 32) × IsInRange (range list p.pc r) (contents (cell_of p.depth r))
      each r there =
          let long = length-range_with_len 1 31 in
          let inside : there.0 < 31 = omega (arith, there.1) in
          let at : get_or (range_with_len 1 31) there.0 r ≡ r = there.2 in
          let e : 1 + there.0 ≡ r = sym (get_or-range_with_len 1 31 there.0 r inside) ∙ at in
          (omega arith, keeps r (omega arith) (omega arith))
