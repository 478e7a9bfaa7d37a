-- The value of a source has each word that the source gives.
use Rattle.std.proofs.Common.{◌≡◌, ℕ, ◌^◌, ◌<◌, List, [], ◌∷◌, refl, sym, subst, arith}
use Rattle.abs_state.specs.State.{State, cell_at}
use Rattle.abs_state.specs.declared.flags.Right.{Right}
use Rattle.abs_state.specs.declared.flags.Right.TheVariants.{Cell, Word}
use Rattle.step_covers.specs.Follows.{IsOperandIn, Gives}
use Rattle.step_covers.specs.Says.{IsRight}
use Rattle.transfer_rules.specs.declared.step.Source.{Source}
use Rattle.transfer_rules.specs.declared.step.Source.TheVariants.{Anything, Exactly, Ranged, Applied, Loaded}
use Rattle.transfer_values.specs.Cover.{HaveWords, SourcesCover}
use Rattle.transfer_values.specs.Source.{word_of, operand, source_value}
use Rattle.value_lattice.specs.Value.{Has, HasSome}
use Rattle.value_lattice.specs.declared.value.Value.TheVariants.{Words}
use Rattle.word_ops.specs.declared.arithmetic.Flags.{Flags}

-- one word has itself
only : (n : ℕ) (ra : ℕ) → Has (Words (n ∷ [])) n ra
only n ra = (0, omega arith, refl)

module _ (t : List ℕ) (s : State) (ra : ℕ) (old : ℕ → ℕ) (f : Flags) (is : IsRight t s ra old f) where
  -- an operand's value has what the operand comes to
  pub operand_has : (r : Right) (w : ℕ) → IsOperandIn old r w → Has (operand s r) w ra
  operand_has (Cell c) w at = subst (λ (x : ℕ). Has (cell_at s c) x ra) (sym at.1) ((is.says.cells) c at.0)
  operand_has (Word n) w at = subst (λ (x : ℕ). Has (Words (word_of n ∷ [])) x ra) (sym at) (only (word_of n) ra)

  -- and that is a word
  pub operand_word : (r : Right) (w : ℕ) → IsOperandIn old r w → w < 2 ^ 32
  operand_word (Cell c) w at = subst (λ (x : ℕ). x < 2 ^ 32) (sym at.1) ((is.are.words) c at.0)
  operand_word (Word n) w at = omega arith

  -- what two operands come to
  pub have_words : (left right : Right) (x y : ℕ) → IsOperandIn old left x → IsOperandIn old right y → HaveWords t s left right x y ra
  have_words left right x y first second =
      record {
        thresholds = is.thresholds;
        over = is.over;
        first = operand_word left x first;
        second = operand_word right y second;
        address = is.address;
        has_left = operand_has left x first;
        has_right = operand_has right y second;
      }

  -- a source's value has what the source gives
  pub source_has : (image : List ℕ) (source : Source) (w : ℕ) → SourcesCover → Gives image old source w → HasSome (source_value t image s source) w ra
  source_has image Anything w cover gives = (cover.anything) t image s w ra gives.word
  source_has image (Exactly n) w cover gives =
      subst (λ (x : ℕ). HasSome (source_value t image s (Exactly n)) x ra) (sym gives.may) ((cover.exactly) t image s n ra)
  source_has image (Ranged lo hi) w cover gives = (cover.ranged) t image s lo hi w ra is.thresholds gives.word is.address gives.may
  source_has image (Applied op left right) w cover gives =
      let by = gives.may in
      subst (λ (x : ℕ). HasSome (source_value t image s (Applied op left right)) x ra) (sym by.is)
      ((cover.applied) t image s op left right by.carry by.first by.second ra (have_words left right by.first by.second by.is_first by.is_second))
  source_has image (Loaded left right) w cover gives =
      let at = gives.may in
      let within = gives.word in
      (cover.loaded) t image s left right at.first at.second w ra (have_words left right at.first at.second at.is_first at.is_second) at.aligned gives.word
      (λ v stands. (let same : w ≡ v = at.read v stands in omega arith))
