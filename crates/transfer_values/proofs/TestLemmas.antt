-- What a branch's direction leaves of a state: it may stand where the state may, and of less, and over more thresholds, it
-- is at most what it was, also where less is known of the condition codes.
use Rattle.std.proofs.Common.{◌≡◌, ℕ, ◌%◌, ◌||◌, inl, inr, Bool, true, false, List, [], ◌∷◌, Option, Some, None, refl, sym, ap, subst}
use Rattle.std.specs.Prelude.{◌==◌, nat_lt, not, if◌then◌else◌}
use Rattle.std.proofs.lemmas.Bool.{and_parts, true≢false}
use Rattle.value_lattice.proofs.TestLemmas.{the_order_is_one}
use Rattle.value_lattice.specs.Height.{are_at_most}
use Rattle.value_lattice.specs.Laws.{AreMore}
use Rattle.value_lattice.specs.Test.{is_over, is_less as is_value_less, is_at_most as is_value_at_most}
use Rattle.value_lattice.specs.Thresholds.{IsThresholds}
use Rattle.value_lattice.specs.Value.{is_ret}
use Rattle.value_lattice.specs.declared.value.Value.{Value}
use Rattle.value_lattice.specs.declared.value.Value.TheVariants.{Words}
use Rattle.value_refine.proofs.RefineFunctions.{refine_over, refine_left, refine_address, refine_falls}
use Rattle.value_refine.specs.Refinement.{refine, mirror_of}
use Rattle.abs_state.proofs.FlagsLemmas.{up_cases}
use Rattle.abs_state.proofs.OrderLemmas.{stands}
use Rattle.abs_state.specs.Flags.{flags_at_most}
use Rattle.abs_state.specs.State.{State, cell_in, cell_at, is_state_over, is_at_most, may_name, may_name_right, may_speak}
use Rattle.abs_state.specs.declared.flags.Flags.{Flags}
use Rattle.abs_state.specs.declared.flags.Flags.TheVariants.{Unknown, Cmp, Res}
use Rattle.abs_state.specs.declared.flags.Right.{Right}
use Rattle.abs_state.specs.declared.flags.Right.TheVariants.{Cell, Word}
use Rattle.transfer_rules.specs.declared.act.Test.{Test}
use Rattle.transfer_rules.specs.declared.act.Test.TheVariants.{Always, When}
use Rattle.transfer_rules.specs.Lawful.{is_over_or_none as is_left_over, is_less}
use Rattle.transfer_values.specs.Source.{operand}
use Rattle.transfer_values.specs.Test.{left_with, asks_result, spares_right, with_right, refined, tested}
use Rattle.transfer_values.proofs.PartLemmas.{same_value, cell_over, cell_up, left_over, left_falls, left_under, then_over, then_falls, then_under}
use Rattle.transfer_values.proofs.SourceLemmas.{word_over, operand_over, operand_up}

-- a cell that flags speak of isn't the return address
pub words_named : (cells : List Value) (k : ℕ) → may_name cells k ≡ true → is_ret (cell_in cells k) ≡ false
words_named cells k may = by_test (is_ret (cell_in cells k)) (and_parts (nat_lt k 48) (not (is_ret (cell_in cells k))) may).1 where
  by_test : (b : Bool) → not b ≡ true → b ≡ false
  by_test true none = absurd (true≢false (sym none))
  by_test false none = refl

zero_over : (t : List ℕ) → is_over t (Words (0 ∷ [])) ≡ true
zero_over t = word_over t 0

-- less of a value that is at most another
less_onward : (q : Option Value) (v u : Value) → is_value_less q (Some v) ≡ true → is_value_at_most v u ≡ true → is_value_less q (Some u) ≡ true
less_onward None v u less up = refl
less_onward (Some w) v u less up = the_order_is_one.onward w v u less up

module _ (t : List ℕ) (condition : ℕ) (truth : Bool) (is : IsThresholds t) where
  right_over : (s : State) (left : ℕ) (r : Right) (u : State) → is_state_over t s ≡ true → may_name_right s.cells r ≡ true → is_state_over t u ≡ true
      → is_left_over t (with_right t condition truth s left r u) ≡ true
  right_over s left (Word n) u fits may over = over
  right_over s left (Cell k) u fits may over = by_test (spares_right condition || (k == left)) where
    by_test : (b : Bool) → is_left_over t (if b then Some u else left_with k u (refine t (mirror_of condition) truth (cell_at s k) (cell_at s left))) ≡ true
    by_test true = over
    by_test false =
        left_over t u k (refine t (mirror_of condition) truth (cell_at s k) (cell_at s left)) over
        (refine_over t (mirror_of condition) truth (cell_at s k) (cell_at s left) is (cell_over t s k is fits))
        (refine_address t (mirror_of condition) truth (cell_at s k) (cell_at s left) (words_named s.cells k may))

  refined_over : (s : State) (f : Flags) → is_state_over t s ≡ true → may_speak s.cells f ≡ true → is_left_over t (refined t condition truth s f) ≡ true
  refined_over s Unknown fits may = fits
  refined_over s (Cmp left r) fits may =
      let parts = and_parts (may_name s.cells left) (may_name_right s.cells r) may in
      then_over t (left_with left s (refine t condition truth (cell_at s left) (operand s r))) (with_right t condition truth s left r)
      (left_over t s left (refine t condition truth (cell_at s left) (operand s r)) fits
      (refine_over t condition truth (cell_at s left) (operand s r) is (cell_over t s left is fits))
      (refine_address t condition truth (cell_at s left) (operand s r) (words_named s.cells left parts.0)))
      (λ u made over. right_over s left r u fits parts.1 over)
  refined_over s (Res cell) fits may = by_test (asks_result condition) where
    by_test : (b : Bool) → is_left_over t (if b then left_with cell s (refine t condition truth (cell_at s cell) (Words (0 ∷ []))) else Some s) ≡ true
    by_test true =
        left_over t s cell (refine t condition truth (cell_at s cell) (Words (0 ∷ []))) fits
        (refine_over t condition truth (cell_at s cell) (Words (0 ∷ [])) is (cell_over t s cell is fits))
        (refine_address t condition truth (cell_at s cell) (Words (0 ∷ [])) (words_named s.cells cell may))
    by_test false = fits

-- what a direction of a branch leaves may stand where the state may
pub tested_over : (t : List ℕ) (test : Test) (s : State) → IsThresholds t → is_state_over t s ≡ true → is_left_over t (tested t test s) ≡ true
unfolding tested
tested_over t Always s is fits = fits
tested_over t (When condition truth) s is fits = refined_over t (condition % 16) truth is s s.flags fits (stands t s fits).named

module _ (t more : List ℕ) (condition : ℕ) (truth : Bool) (a b : State) (is : IsThresholds t) (is_more : IsThresholds more) (in_more : AreMore t more)
    (lesser : is_state_over more a ≡ true) (greater : is_state_over t b ≡ true) (up : is_at_most a b ≡ true) where
  -- the same is known of the condition codes
  right_falls : (left : ℕ) (r : Right) (c d : State) → may_name_right b.cells r ≡ true → is_at_most c d ≡ true
      → is_less (with_right more condition truth a left r c) (with_right t condition truth b left r d) ≡ true
  right_falls left (Word n) c d may less = less
  right_falls left (Cell k) c d may less = by_test (spares_right condition || (k == left)) where
    by_test : (z : Bool) → is_less (if z then Some c else left_with k c (refine more (mirror_of condition) truth (cell_at a k) (cell_at a left)))
        (if z then Some d else left_with k d (refine t (mirror_of condition) truth (cell_at b k) (cell_at b left))) ≡ true
    by_test true = less
    by_test false =
        left_falls c d k (refine more (mirror_of condition) truth (cell_at a k) (cell_at a left))
        (refine t (mirror_of condition) truth (cell_at b k) (cell_at b left)) less
        (refine_falls t more (mirror_of condition) truth (cell_at b k) (cell_at b left) (cell_at a k) (cell_at a left) is is_more in_more
        (cell_over t b k is greater) (cell_over t b left is greater) (cell_over more a k is_more lesser) (cell_over more a left is_more lesser)
        (words_named b.cells k may) (cell_up t a b k is up) (cell_up t a b left is up))

  refined_falls : (f : Flags) → may_speak b.cells f ≡ true → is_less (refined more condition truth a f) (refined t condition truth b f) ≡ true
  refined_falls Unknown may = up
  refined_falls (Cmp left r) may =
      let parts = and_parts (may_name b.cells left) (may_name_right b.cells r) may in
      then_falls (left_with left a (refine more condition truth (cell_at a left) (operand a r)))
      (left_with left b (refine t condition truth (cell_at b left) (operand b r)))
      (with_right more condition truth a left r) (with_right t condition truth b left r)
      (left_falls a b left (refine more condition truth (cell_at a left) (operand a r)) (refine t condition truth (cell_at b left) (operand b r)) up
      (refine_falls t more condition truth (cell_at b left) (operand b r) (cell_at a left) (operand a r) is is_more in_more
      (cell_over t b left is greater) (operand_over t b r is greater) (cell_over more a left is_more lesser) (operand_over more a r is_more lesser)
      (words_named b.cells left parts.0) (cell_up t a b left is up) (operand_up t a b r is up)))
      (λ c d made also less. right_falls left r c d parts.1 less)
  refined_falls (Res cell) may = by_test (asks_result condition) where
    by_test : (z : Bool) → is_less (if z then left_with cell a (refine more condition truth (cell_at a cell) (Words (0 ∷ []))) else Some a)
        (if z then left_with cell b (refine t condition truth (cell_at b cell) (Words (0 ∷ []))) else Some b) ≡ true
    by_test true =
        left_falls a b cell (refine more condition truth (cell_at a cell) (Words (0 ∷ []))) (refine t condition truth (cell_at b cell) (Words (0 ∷ []))) up
        (refine_falls t more condition truth (cell_at b cell) (Words (0 ∷ [])) (cell_at a cell) (Words (0 ∷ [])) is is_more in_more
        (cell_over t b cell is greater) (zero_over t) (cell_over more a cell is_more lesser) (zero_over more)
        (words_named b.cells cell may) (cell_up t a b cell is up) (same_value t (Words (0 ∷ [])) (zero_over t)))
    by_test false = up

  -- nothing is known of them in the greater state
  right_under : (left : ℕ) (r : Right) (c : State) → may_name_right a.cells r ≡ true → is_at_most c b ≡ true
      → is_less (with_right more condition truth a left r c) (Some b) ≡ true
  right_under left (Word n) c may less = less
  right_under left (Cell k) c may less = by_test (spares_right condition || (k == left)) where
    by_test : (z : Bool) → is_less (if z then Some c else left_with k c (refine more (mirror_of condition) truth (cell_at a k) (cell_at a left)))
        (Some b) ≡ true
    by_test true = less
    by_test false =
        left_under c b k (refine more (mirror_of condition) truth (cell_at a k) (cell_at a left)) less
        (less_onward (refine more (mirror_of condition) truth (cell_at a k) (cell_at a left)) (cell_at a k) (cell_at b k)
        (refine_left more (mirror_of condition) truth (cell_at a k) (cell_at a left) is_more (cell_over more a k is_more lesser) (words_named a.cells k may))
        (cell_up t a b k is up))

  refined_under : (f : Flags) → may_speak a.cells f ≡ true → is_less (refined more condition truth a f) (Some b) ≡ true
  refined_under Unknown may = up
  refined_under (Cmp left r) may =
      let parts = and_parts (may_name a.cells left) (may_name_right a.cells r) may in
      then_under (left_with left a (refine more condition truth (cell_at a left) (operand a r))) b (with_right more condition truth a left r)
      (left_under a b left (refine more condition truth (cell_at a left) (operand a r)) up
      (less_onward (refine more condition truth (cell_at a left) (operand a r)) (cell_at a left) (cell_at b left)
      (refine_left more condition truth (cell_at a left) (operand a r) is_more (cell_over more a left is_more lesser) (words_named a.cells left parts.0))
      (cell_up t a b left is up)))
      (λ c made less. right_under left r c parts.1 less)
  refined_under (Res cell) may = by_test (asks_result condition) where
    by_test : (z : Bool) → is_less (if z then left_with cell a (refine more condition truth (cell_at a cell) (Words (0 ∷ []))) else Some a) (Some b) ≡ true
    by_test true =
        left_under a b cell (refine more condition truth (cell_at a cell) (Words (0 ∷ []))) up
        (less_onward (refine more condition truth (cell_at a cell) (Words (0 ∷ []))) (cell_at a cell) (cell_at b cell)
        (refine_left more condition truth (cell_at a cell) (Words (0 ∷ [])) is_more (cell_over more a cell is_more lesser) (words_named a.cells cell may))
        (cell_up t a b cell is up))
    by_test false = up

-- of a lesser state, over more thresholds, a direction of a branch leaves less
pub tested_falls : (t more : List ℕ) (test : Test) (a b : State) → IsThresholds t → IsThresholds more → AreMore t more
    → is_state_over more a ≡ true → is_state_over t b ≡ true → is_at_most a b ≡ true → is_less (tested more test a) (tested t test b) ≡ true
unfolding tested
tested_falls t more Always a b is is_more in_more lesser greater up = up
tested_falls t more (When condition truth) a b is is_more in_more lesser greater up =
    let parts = and_parts (are_at_most a.cells b.cells) (flags_at_most a.flags b.flags) up in
    elim (up_cases a.flags b.flags parts.1) [
      | inl same ↦
          subst (λ (f : Flags). is_less (refined more (condition % 16) truth a f) (refined t (condition % 16) truth b b.flags) ≡ true) (sym same)
          (refined_falls t more (condition % 16) truth a b is is_more in_more lesser greater up b.flags (stands t b greater).named)
      | inr none ↦
          subst (λ (f : Flags). is_less (refined more (condition % 16) truth a a.flags) (refined t (condition % 16) truth b f) ≡ true) (sym none)
          (refined_under t more (condition % 16) truth a b is is_more in_more lesser greater up a.flags (stands more a lesser).named)
    ]

-- what the code tests
pub always_is : (t : List ℕ) (test : Test) (s : State) → test ≡ Always → Some s ≡ tested t test s
unfolding tested
always_is t test s is = ap (λ (x : Test). tested t x s) (sym is)

-- a tested direction is refined by its condition and the flags
pub when_is : (t : List ℕ) (test : Test) (condition : ℕ) (truth : Bool) (s : State) → test ≡ When condition truth
    → refined t (condition % 16) truth s s.flags ≡ tested t test s
unfolding tested
when_is t test condition truth s is = ap (λ (x : Test). tested t x s) (sym is)
