-- What a step writes has the word that is written, and targets that are whole have the address to which a transfer goes.
use Rattle.std.proofs.Common.{◌≡◌, ℕ, ◌%◌, ◌^◌, ◌<◌, Bool, true, false, List, [], ◌∷◌, Option, Some, None, Contains, refl, sym, subst, arith, eq-eqb, ⊎_elim}
use Rattle.std.specs.Prelude.{ℤ, filter, int_le, IfSome, if◌then◌else◌}
use Rattle.bt_image.specs.Image.{word, is_code}
use Rattle.assert_bind.specs.Binding.{listed}
use Rattle.jump_resolve.proofs.TargetLemmas.{kept_by, is_in_list, targets_are_exact}
use Rattle.value_lattice.proofs.FunctionLemmas.{cover_is_least, span_is_least}
use Rattle.value_lattice.proofs.MayLemmas.{may_from_has}
use Rattle.value_lattice.proofs.SetLemmas.{place_of_below}
use Rattle.value_lattice.specs.Least.{top, span}
use Rattle.value_lattice.specs.Order.{rank_of}
use Rattle.value_lattice.specs.Thresholds.{IsThresholds}
use Rattle.value_lattice.specs.Value.{Has, HasSome, IsBetween}
use Rattle.value_lattice.specs.declared.value.Value.{Value}
use Rattle.value_lattice.specs.declared.value.Value.TheVariants.{Words, Range, Ret}
use Rattle.value_ops.proofs.ApplyLemmas.{apply_covers}
use Rattle.value_ops.specs.Operation.{apply, result_of}
use Rattle.value_ops.specs.declared.op.Op.{Op}
use Rattle.value_ops.specs.declared.op.Op.TheVariants.{Add}
use Rattle.word_ops.specs.Word.{sum_of}
use Rattle.abs_state.specs.State.{State}
use Rattle.abs_state.specs.declared.flags.Right.{Right}
use Rattle.transfer_rules.specs.declared.step.Source.TheVariants.{Ranged}
use Rattle.transfer_values.specs.Cover.{HaveWords, SourcesCover, TargetsCover}
use Rattle.transfer_values.specs.Resolve.{candidates, targets_among, resolved}
use Rattle.transfer_values.specs.Source.{word_of, operand, is_aligned, words_at, covered, loaded_from, loaded, source_value}
use Rattle.transfer_values.proofs.SourceLemmas.{operand_over, IsRead, are_read}

top_has : (w ra : ℕ) → Has top w ra
top_has w ra = (omega arith, omega (arith, place_of_below w))

-- what is loaded
covered_has : (t image addresses : List ℕ) (a w ra : ℕ) (p : Option (List ℕ)) → IsThresholds t → w < 2 ^ 32 → ra < 2 ^ 32 → words_at image addresses ≡ p
    → Contains addresses a → ((v : ℕ) → word image a ≡ Some v → w ≡ word_of v) → Has (covered t p) w ra
covered_has t image addresses a w ra None is fits address are there reads = top_has w ra
covered_has t image addresses a w ra (Some words) is fits address are there reads =
    let r : IsRead image words a = are_read image addresses words are a there in
    let has : Contains words w = subst (Contains words) (sym (reads r.read r.stands)) r.there in
    (cover_is_least t words w is fits has).each.words w ra fits address has

from_has : (t image addresses : List ℕ) (a w ra : ℕ) → IsThresholds t → w < 2 ^ 32 → ra < 2 ^ 32
    → Contains addresses a → ((v : ℕ) → word image a ≡ Some v → w ≡ word_of v) → HasSome (loaded_from t image addresses) w ra
from_has t image [] a w ra is fits address there reads = absurd (omega (arith, there.1))
from_has t image (b ∷ rest) a w ra is fits address there reads =
    covered_has t image (b ∷ rest) a w ra (words_at image (b ∷ rest)) is fits address refl there reads

pub loaded_has : (t image : List ℕ) (v : Value) (a w ra : ℕ) → IsThresholds t → w < 2 ^ 32 → ra < 2 ^ 32 → Has v a ra → a % 4 ≡ 0
    → ((u : ℕ) → word image a ≡ Some u → w ≡ word_of u) → HasSome (loaded t image v) w ra
unfolding loaded
loaded_has t image (Words addresses) a w ra is fits address has aligned reads =
    from_has t image (filter is_aligned addresses) a w ra is fits address (kept_by is_aligned addresses a has (eq-eqb (a % 4) 0 aligned)) reads
loaded_has t image (Range lo hi) a w ra is fits address has aligned reads = top_has w ra
loaded_has t image Ret a w ra is fits address has aligned reads = top_has w ra

-- the result of an operation on two operands
sum_has : (t : List ℕ) (s : State) (op : Op) (left right : Right) (carry : Bool) (x y ra : ℕ) → HaveWords t s left right x y ra
    → Has (apply t op (operand s left) (operand s right)) (result_of op carry x y) ra
sum_has t s op left right carry x y ra have =
    apply_covers t op (operand s left) (operand s right) carry x y ra have.thresholds (operand_over t s left have.thresholds have.over)
    (operand_over t s right have.thresholds have.over) have.first have.second have.address have.has_left have.has_right

between : (t image : List ℕ) (s : State) (lo hi : ℤ) (w ra : ℕ) → IsThresholds t → w < 2 ^ 32 → ra < 2 ^ 32 → IsBetween (rank_of lo) (rank_of hi) w
    → HasSome (source_value t image s (Ranged lo hi)) w ra
unfolding source_value
between t image s lo hi w ra is fits address in_range = by_test (int_le lo hi) where
  by_test : (b : Bool) → Has (if b then span t (rank_of lo) (rank_of hi) else top) w ra
  by_test true =
      (span_is_least t (rank_of lo) (rank_of hi) is (omega (arith, in_range.0, in_range.1)) (omega (arith, in_range.0, place_of_below w))).each.words
      w ra fits address in_range
  by_test false = top_has w ra

-- what is written has the word that is written
pub sources_cover : SourcesCover
unfolding source_value
sources_cover = record {
  anything = λ t image s w ra fits. top_has w ra;
  exactly = λ t image s n ra. (0, omega arith, refl);
  ranged = between;
  applied = λ t image s op left right carry x y ra have. sum_has t s op left right carry x y ra have;
  loaded = λ t image s left right x y w ra have aligned fits reads.
      loaded_has t image (apply t Add (operand s left) (operand s right)) (sum_of x y false) w ra have.thresholds fits have.address
      (sum_has t s Add left right false x y ra have) aligned reads;
}

-- where a transfer goes
among_has : (image : List ℕ) (v : Value) (o : Option (List ℕ)) (others : List ℕ) (a ra : ℕ) → a < 2 ^ 32 → ra < 2 ^ 32 → Has v a ra → a % 4 ≡ 0
    → IfSome o (λ to. Contains to a × (is_code image a ≡ true)) → (targets_among image v o others).whole ≡ true
    → Contains (targets_among image v o others).list a
among_has image v (Some to) others a ra fits address has aligned listed_there whole =
    is_in_list image v to a (record { word = fits; candidate = listed_there.0; code = listed_there.1; may = may_from_has v a ra address has })
among_has image v None others a ra fits address has aligned none whole =
    ⊎_elim (λ no. cc) (λ each. each a fits aligned (may_from_has v a ra address has)) ((targets_are_exact.whole image v others false).0 whole)

-- where a computed transfer goes nowhere else, its targets have the address to which it goes
pub targets_cover : TargetsCover
unfolding resolved
targets_cover t image list pc s left right kind x y ra have aligned listed_there whole =
    among_has image (apply t Add (operand s left) (operand s right)) (listed list pc) (candidates image pc kind) (sum_of x y false) ra
    (omega arith) have.address (sum_has t s Add left right false x y ra have) aligned listed_there whole
