-- The state behind a step: it may stand where the state before may, and of less, and over more thresholds, it is at most
-- what it was.
use Rattle.std.proofs.Common.{◌≡◌, ℕ, ◌^◌, ◌<◌, ◌&&◌, Bool, true, false, List, length, Option, Some, None, refl, sym, ap, subst, ◌∙◌, arith, ⊎_elim}
use Rattle.std.specs.Prelude.{◌==◌, nat_lt, not, if◌then◌else◌, slice_set}
use Rattle.std.specs.Option.{option_map, option_and_then}
use Rattle.std.proofs.lemmas.Bool.{and_parts, and_from, eqb-true, lt-ltb, ltb-true, true≢false}
use Rattle.std.proofs.lemmas.List.{get_or-set_same}
use Rattle.value_lattice.proofs.MayLemmas.{zero_is}
use Rattle.value_lattice.proofs.TestLemmas.{value_decides}
use Rattle.value_lattice.specs.Height.{are_at_most}
use Rattle.value_lattice.specs.Laws.{AreMore}
use Rattle.value_lattice.specs.Least.{top}
use Rattle.value_lattice.specs.Test.{is_value, is_inside, is_over_or_none, is_less as is_value_less, is_at_most as is_value_at_most}
use Rattle.value_lattice.specs.Thresholds.{IsThresholds}
use Rattle.value_lattice.specs.Value.{is_ret, is_zero}
use Rattle.value_lattice.specs.declared.value.Value.{Value}
use Rattle.value_lattice.specs.declared.value.Value.TheVariants.{Words, Range, Ret}
use Rattle.abs_state.proofs.CellsLemmas.{set_up}
use Rattle.abs_state.proofs.FlagsLemmas.{up_same, up_unknown}
use Rattle.abs_state.proofs.OrderLemmas.{stands}
use Rattle.abs_state.proofs.StateLemmas.{top_is_value}
use Rattle.abs_state.proofs.WriteLemmas.{writes_keep_order, writes_stand}
use Rattle.abs_state.specs.Flags.{flags_at_most}
use Rattle.abs_state.specs.State.{State, cell_in, cell_at, is_state_over, is_at_most, with_value, with_cell, with_flags, may_name, may_name_right, may_speak}
use Rattle.abs_state.specs.declared.flags.Flags.{Flags}
use Rattle.abs_state.specs.declared.flags.Flags.TheVariants.{Unknown, Cmp, Res}
use Rattle.abs_state.specs.declared.flags.Right.{Right}
use Rattle.abs_state.specs.declared.flags.Right.TheVariants.{Cell, Word}
use Rattle.transfer_rules.specs.declared.step.Step.{Step}
use Rattle.transfer_rules.specs.declared.step.Write.{Write}
use Rattle.transfer_rules.specs.Lawful.{is_over_or_none as is_left_over, is_less}
use Rattle.transfer_values.specs.Source.{source_value}
use Rattle.transfer_values.specs.Step.{is_writable, put, written, freed, freed_right, freed_for, with_spoken, flagged, stepped}
use Rattle.transfer_values.proofs.PartLemmas.{top_over, same_value, any_cell_up, value_length, first_value, written_cases, same_written, then_over, then_falls}
use Rattle.transfer_values.proofs.SourceLemmas.{inside, source_over, source_falls}

-- a write
put_over : (t : List ℕ) (c : ℕ) (s : State) (r : Option Value) → is_state_over t s ≡ true → is_over_or_none t r ≡ true → is_left_over t (put c s r) ≡ true
put_over t c s None fits over = refl
put_over t c s (Some v) fits over = by_test (is_writable c) where
  by_test : (b : Bool) → is_state_over t (if b then with_cell s c v else s) ≡ true
  by_test true = writes_stand.cell t s c v fits over
  by_test false = fits

put_falls : (c : ℕ) (a b : State) (q r : Option Value) → is_at_most a b ≡ true → is_value_less q r ≡ true → is_less (put c a q) (put c b r) ≡ true
put_falls c a b None r up less = refl
put_falls c a b (Some v) None up less = less
put_falls c a b (Some v) (Some u) up less = by_test (is_writable c) where
  by_test : (w : Bool) → is_at_most (if w then with_cell a c v else a) (if w then with_cell b c u else b) ≡ true
  by_test true = writes_keep_order.cell a b c v u up less
  by_test false = up

written_over : (t image : List ℕ) (before : State) (w : Option Write) (s : State) → IsThresholds t → is_state_over t before ≡ true → is_state_over t s ≡ true
    → is_left_over t (written t image before w s) ≡ true
written_over t image before None s is first fits = fits
written_over t image before (Some w) s is first fits =
    put_over t w.cell s (source_value t image before w.source) fits (source_over t image before w.source is first)

written_falls : (t more image : List ℕ) (c d : State) (w : Option Write) (a b : State) → IsThresholds t → IsThresholds more → AreMore t more
    → is_state_over more c ≡ true → is_state_over t d ≡ true → is_at_most c d ≡ true → is_at_most a b ≡ true
    → is_less (written more image c w a) (written t image d w b) ≡ true
written_falls t more image c d None a b is is_more in_more lesser greater before up = up
written_falls t more image c d (Some w) a b is is_more in_more lesser greater before up =
    put_falls w.cell a b (source_value more image c w.source) (source_value t image d w.source) up
    (source_falls t more image c d w.source is is_more in_more lesser greater before)

-- a cell of which flags are to speak
freed_over : (t : List ℕ) (c : ℕ) (s : State) → IsThresholds t → is_state_over t s ≡ true → is_state_over t (freed c s) ≡ true
freed_over t c s is fits = by_test (is_ret (cell_at s c)) where
  by_test : (b : Bool) → is_state_over t (if b then with_cell s c top else s) ≡ true
  by_test true = writes_stand.cell t s c top fits (top_over t is)
  by_test false = fits

right_over : (t : List ℕ) (r : Right) (s : State) → IsThresholds t → is_state_over t s ≡ true → is_state_over t (freed_right r s) ≡ true
right_over t (Cell c) s is fits = freed_over t c s is fits
right_over t (Word n) s is fits = fits

for_over : (t : List ℕ) (f : Flags) (s : State) → IsThresholds t → is_state_over t s ≡ true → is_state_over t (freed_for f s) ≡ true
for_over t Unknown s is fits = fits
for_over t (Cmp left right) s is fits = right_over t right (freed left s) is (freed_over t left s is fits)
for_over t (Res cell) s is fits = freed_over t cell s is fits

spoken_over : (t : List ℕ) (f : Flags) (s : State) → is_state_over t s ≡ true → is_state_over t (with_spoken f s) ≡ true
spoken_over t f s fits = by_test (may_speak s.cells f) refl where
  by_test : (b : Bool) → may_speak s.cells f ≡ b → is_state_over t (with_flags s (if b then f else Unknown)) ≡ true
  by_test true may = writes_stand.flags t s f fits may
  by_test false none = writes_stand.flags t s Unknown fits refl

flagged_over : (t : List ℕ) (f : Option Flags) (s : State) → IsThresholds t → is_state_over t s ≡ true → is_state_over t (flagged f s) ≡ true
flagged_over t None s is fits = fits
flagged_over t (Some f) s is fits = spoken_over t f (freed_for f s) (for_over t f s is fits)

values_up : (vs us : List Value) (c : ℕ) (v u : Value) → are_at_most vs us ≡ true → is_value_at_most v u ≡ true
    → are_at_most (with_value vs c v) (with_value us c u) ≡ true
values_up vs us c v u up here = by_test (c == 0) where
  by_test : (b : Bool) → are_at_most (if b then vs else slice_set vs c v) (if b then us else slice_set us c u) ≡ true
  by_test true = up
  by_test false = set_up vs us c v u up here

-- only the return address and any word are at least the return address, and only it is at most itself
ret_below : (u : Value) → is_value_at_most Ret u ≡ true → is_ret u ≡ false → is_value_at_most top u ≡ true
unfolding is_value_at_most
ret_below (Words words) up other = absurd (true≢false (sym (inside Ret (Words words) up)))
ret_below (Range lo hi) up other = and_from (is_value top) (is_value (Range lo hi) && is_inside top (Range lo hi))
    ((value_decides top).1 top_is_value) (and_parts (is_value Ret) (is_value (Range lo hi) && is_inside Ret (Range lo hi)) up).1
ret_below Ret up other = absurd (true≢false other)

ret_is : (v : Value) → is_ret v ≡ true → v ≡ Ret
ret_is (Words words) is = absurd (true≢false (sym is))
ret_is (Range lo hi) is = absurd (true≢false (sym is))
ret_is Ret is = refl

below_ret : (v : Value) → is_value_at_most v Ret ≡ true → is_ret v ≡ false → ⊥
below_ret (Words words) up other = true≢false (sym (inside (Words words) Ret up))
below_ret (Range lo hi) up other = true≢false (sym (inside (Range lo hi) Ret up))
below_ret Ret up other = true≢false other

freed_up : (t : List ℕ) (c : ℕ) (a b : State) → IsThresholds t → are_at_most a.cells b.cells ≡ true → are_at_most (freed c a).cells (freed c b).cells ≡ true
freed_up t c a b is up = by_tests (is_ret (cell_at a c)) refl (is_ret (cell_at b c)) refl where
  here : is_value_at_most (cell_at a c) (cell_at b c) ≡ true
  here = any_cell_up t a.cells b.cells c is up

  by_tests : (p : Bool) → is_ret (cell_at a c) ≡ p → (q : Bool) → is_ret (cell_at b c) ≡ q
      → are_at_most (if p then with_cell a c top else a).cells (if q then with_cell b c top else b).cells ≡ true
  by_tests true left true right = values_up a.cells b.cells c top top up (same_value t top (top_over t is))
  by_tests true left false right =
      subst (λ (cells : List Value). are_at_most (with_value a.cells c top) cells ≡ true) (same_written b.cells c)
      (values_up a.cells b.cells c top (cell_at b c) up
      (ret_below (cell_at b c) (subst (λ (v : Value). is_value_at_most v (cell_at b c) ≡ true) (ret_is (cell_at a c) left) here) right))
  by_tests false left true right =
      absurd (below_ret (cell_at a c) (subst (λ (v : Value). is_value_at_most (cell_at a c) v ≡ true) (ret_is (cell_at b c) right) here) left)
  by_tests false left false right = up

right_up : (t : List ℕ) (r : Right) (a b : State) → IsThresholds t → are_at_most a.cells b.cells ≡ true
    → are_at_most (freed_right r a).cells (freed_right r b).cells ≡ true
right_up t (Cell c) a b is up = freed_up t c a b is up
right_up t (Word n) a b is up = up

for_up : (t : List ℕ) (f : Flags) (a b : State) → IsThresholds t → are_at_most a.cells b.cells ≡ true
    → are_at_most (freed_for f a).cells (freed_for f b).cells ≡ true
for_up t Unknown a b is up = up
for_up t (Cmp left right) a b is up = right_up t right (freed left a) (freed left b) is (freed_up t left a b is up)
for_up t (Res cell) a b is up = freed_up t cell a b is up

-- then flags may speak of a cell, if there is such a cell
freed-length : (c : ℕ) (s : State) → length (freed c s).cells ≡ length s.cells
freed-length c s = by_test (is_ret (cell_at s c)) where
  by_test : (b : Bool) → length (if b then with_cell s c top else s).cells ≡ length s.cells
  by_test true = value_length s.cells c top
  by_test false = refl

zero_is_no_ret : (v : Value) → is_zero v ≡ true → is_ret v ≡ true → ⊥
zero_is_no_ret v zero_cell ret = true≢false (sym ret ∙ ap is_ret (zero_is v zero_cell))

freed_words : (c : ℕ) (s : State) → length s.cells ≡ 48 → is_zero (cell_at s 0) ≡ true → c < 48 → is_ret (cell_at (freed c s) c) ≡ false
freed_words c s size zero_cell low = by_test (is_ret (cell_at s c)) refl where
  within : c < length s.cells
  within = omega arith

  by_zero : (z : Bool) → (c == 0) ≡ z → is_ret (cell_at s c) ≡ true → is_ret (cell_in (if z then s.cells else slice_set s.cells c top) c) ≡ false
  by_zero true first ret = absurd (zero_is_no_ret (cell_at s 0) zero_cell (subst (λ (n : ℕ). is_ret (cell_at s n) ≡ true) (eqb-true c 0 first) ret))
  by_zero false other ret = ap is_ret (get_or-set_same s.cells c top top within)

  by_test : (b : Bool) → is_ret (cell_at s c) ≡ b → is_ret (cell_at (if b then with_cell s c top else s) c) ≡ false
  by_test true ret = by_zero (c == 0) refl ret
  by_test false words = words

freed_keeps : (c k : ℕ) (s : State) → length s.cells ≡ 48 → k < 48 → is_ret (cell_at s k) ≡ false → is_ret (cell_at (freed c s) k) ≡ false
freed_keeps c k s size low words = by_test (is_ret (cell_at s c)) where
  by_test : (b : Bool) → is_ret (cell_at (if b then with_cell s c top else s) k) ≡ false
  by_test true = ⊎_elim (λ new. ap is_ret new) (λ old. ap is_ret old ∙ words) (written_cases s.cells c k top (omega arith))
  by_test false = words

freed_zero : (c : ℕ) (s : State) → is_zero (cell_at s 0) ≡ true → is_zero (cell_at (freed c s) 0) ≡ true
freed_zero c s zero_cell = by_test (is_ret (cell_at s c)) where
  by_test : (b : Bool) → is_zero (cell_at (if b then with_cell s c top else s) 0) ≡ true
  by_test true = ap is_zero (first_value s.cells c top) ∙ zero_cell
  by_test false = zero_cell

named : (cells : List Value) (k : ℕ) → k < 48 → is_ret (cell_in cells k) ≡ false → may_name cells k ≡ true
named cells k low words = and_from (nat_lt k 48) (not (is_ret (cell_in cells k))) (lt-ltb k 48 low) (ap not words)

below : (cells : List Value) (k : ℕ) → may_name cells k ≡ true → k < 48
below cells k may = ltb-true k 48 (and_parts (nat_lt k 48) (not (is_ret (cell_in cells k))) may).0

pub may_when_freed : (f : Flags) (s : State) (cells : List Value) → length s.cells ≡ 48 → is_zero (cell_at s 0) ≡ true → may_speak cells f ≡ true
    → may_speak (freed_for f s).cells f ≡ true
may_when_freed Unknown s cells size zero_cell may = refl
may_when_freed (Res c) s cells size zero_cell may =
    named (freed c s).cells c (below cells c may) (freed_words c s size zero_cell (below cells c may))
may_when_freed (Cmp left right) s cells size zero_cell may =
    let parts = and_parts (may_name cells left) (may_name_right cells right) may in
    by_right right parts.1 (below cells left parts.0)
  where
    by_right : (r : Right) → may_name_right cells r ≡ true → left < 48 → may_speak (freed_right r (freed left s)).cells (Cmp left r) ≡ true
    by_right (Cell k) there low =
        let long = freed-length left s ∙ size in
        and_from (may_name (freed k (freed left s)).cells left) (may_name (freed k (freed left s)).cells k)
        (named (freed k (freed left s)).cells left low (freed_keeps k left (freed left s) long low (freed_words left s size zero_cell low)))
        (named (freed k (freed left s)).cells k (below cells k there) (freed_words k (freed left s) long (freed_zero left s zero_cell) (below cells k there)))
    by_right (Word n) there low =
        and_from (may_name (freed left s).cells left) (nat_lt n (2 ^ 32)) (named (freed left s).cells left low (freed_words left s size zero_cell low)) there

spoken_up : (f : Flags) (a b : State) → are_at_most a.cells b.cells ≡ true → (may_speak b.cells f ≡ true → may_speak a.cells f ≡ true)
    → is_at_most (with_spoken f a) (with_spoken f b) ≡ true
spoken_up f a b up also = and_from (are_at_most a.cells b.cells) (flags_at_most (with_spoken f a).flags (with_spoken f b).flags) up
    (by_test (may_speak b.cells f) refl)
  where
    by_both : (p : Bool) → may_speak a.cells f ≡ p → p ≡ true → flags_at_most (if p then f else Unknown) f ≡ true
    by_both true may is = up_same f f refl
    by_both false may is = absurd (true≢false (sym is))

    by_test : (q : Bool) → may_speak b.cells f ≡ q → flags_at_most (with_spoken f a).flags (if q then f else Unknown) ≡ true
    by_test true may = by_both (may_speak a.cells f) refl (also may)
    by_test false none = up_unknown (with_spoken f a).flags Unknown refl

flagged_up : (t more : List ℕ) (f : Option Flags) (a b : State) → IsThresholds t → is_state_over more a ≡ true → is_at_most a b ≡ true
    → is_at_most (flagged f a) (flagged f b) ≡ true
flagged_up t more None a b is lesser up = up
flagged_up t more (Some f) a b is lesser up =
    let parts = and_parts (are_at_most a.cells b.cells) (flags_at_most a.flags b.flags) up in
    let s = stands more a lesser in
    spoken_up f (freed_for f a) (freed_for f b) (for_up t f a b is parts.0) (λ may. may_when_freed f a (freed_for f b).cells s.size s.zero_cell may)

mapped_over : (t : List ℕ) (o : Option State) (f : State → State) → is_left_over t o ≡ true
    → ((s : State) → is_state_over t s ≡ true → is_state_over t (f s) ≡ true)
    → is_left_over t (option_map f o) ≡ true
mapped_over t None f over each = refl
mapped_over t (Some s) f over each = each s over

mapped_falls : (more : List ℕ) (o p : Option State) (f : State → State) → is_left_over more o ≡ true → is_less o p ≡ true
    → ((a b : State) → is_state_over more a ≡ true → is_at_most a b ≡ true → is_at_most (f a) (f b) ≡ true) → is_less (option_map f o) (option_map f p) ≡ true
mapped_falls more None p f over less each = refl
mapped_falls more (Some a) None f over less each = absurd (true≢false (sym less))
mapped_falls more (Some a) (Some b) f over less each = each a b over less

-- the step whole
both_over : (t image : List ℕ) (step : Step) (s : State) → IsThresholds t → is_state_over t s ≡ true
    → is_left_over t (option_and_then (written t image s step.second) (written t image s step.first s)) ≡ true
both_over t image step s is fits =
    then_over t (written t image s step.first s) (written t image s step.second) (written_over t image s step.first s is fits fits)
    (λ u made over. written_over t image s step.second u is fits over)

-- what a step leaves may stand where the state may
pub stepped_over : (t image : List ℕ) (step : Step) (s : State) → IsThresholds t → is_state_over t s ≡ true → is_left_over t (stepped t image step s) ≡ true
unfolding stepped
stepped_over t image step s is fits =
    mapped_over t (option_and_then (written t image s step.second) (written t image s step.first s)) (flagged step.flags) (both_over t image step s is fits)
    (λ u over. flagged_over t step.flags u is over)

-- of a lesser state, over more thresholds, a step leaves less
pub stepped_falls : (t more image : List ℕ) (step : Step) (a b : State) → IsThresholds t → IsThresholds more → AreMore t more
    → is_state_over more a ≡ true → is_state_over t b ≡ true → is_at_most a b ≡ true → is_less (stepped more image step a) (stepped t image step b) ≡ true
unfolding stepped
stepped_falls t more image step a b is is_more in_more lesser greater up =
    mapped_falls more (option_and_then (written more image a step.second) (written more image a step.first a))
    (option_and_then (written t image b step.second) (written t image b step.first b)) (flagged step.flags) (both_over more image step a is_more lesser)
    (then_falls (written more image a step.first a) (written t image b step.first b) (written more image a step.second) (written t image b step.second)
    (written_falls t more image a b step.first a b is is_more in_more lesser greater up up)
    (λ c d left right less. written_falls t more image a b step.second c d is is_more in_more lesser greater up less))
    (λ c d over less. flagged_up t more step.flags c d is over less)
