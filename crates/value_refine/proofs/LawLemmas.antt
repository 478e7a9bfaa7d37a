-- Refinement covers, is monotone, and is one.
use Rattle.value_lattice.proofs.MayLemmas.{some_word_of, may_from_has, may_have_more, least_or_none_of_same, only_word, least_is_one, less_from_least}
use Rattle.value_lattice.proofs.MayLemmas.{covered_some, zero_is, zero_below, has_any, all_is_left}
use Rattle.std.proofs.Common.{◌≡◌, ℕ, ◌%◌, ◌^◌, ◌<◌, ◌⊎◌, ◌↔◌, Bool, true, false, not, List, [], ◌∷◌, Option, Some, None, refl, sym, ap}
use Rattle.std.proofs.Common.{subst, ◌∙◌, inl, inr, Contains}
use Rattle.std.specs.Prelude.{◌==◌}
use Rattle.std.proofs.lemmas.Bool.{both_ways, cases_Bool, false≢true, true≢false}
use Rattle.value_lattice.specs.Laws.{AreMore}
use Rattle.value_lattice.specs.Value.{Has, AtMost, IsValue, IsOver, IsBetween, HasSome, IsLess, MayHave, IsLeastOrNone, is_zero}
use Rattle.value_lattice.specs.declared.value.Value.{Value}
use Rattle.value_lattice.specs.declared.value.Value.TheVariants.{Words, Ret}
use Rattle.value_lattice.proofs.ValueLemmas.{over_more}
use Rattle.value_refine.specs.Refinement.{IsPossible, IsWithin, IsRefined, is_left_alone}
use Rattle.word_ops.specs.Condition.{holds_of}
use Rattle.word_ops.specs.Flags.{difference_flags_of}

-- words that make the condition so are in what is left
pub refined_covers : (t : List ℕ) (condition : ℕ) (truth : Bool) (a b : Value) (r : Option Value) (x y ra : ℕ) → IsRefined t condition truth a b r
    → x < 2 ^ 32 → y < 2 ^ 32 → ra < 2 ^ 32 → Has a x ra → Has b y ra → holds_of condition (difference_flags_of x y false) ≡ truth → HasSome r x ra
refined_covers t condition truth a b r x y ra refined xw yw address has_x has_y holds =
    elim (cases_Bool (is_left_alone condition b)) [
      | inl alone ↦ subst (λ (s : Option Value). HasSome s x ra) (sym (refined.alone alone)) has_x
      | inr rest ↦ covered_some t (IsPossible condition truth a b) r x ra (refined.rest rest) xw address
          (record { has = may_from_has a x ra address has_x; other = y; fits = yw; there = may_from_has b y ra address has_y; is = holds })
    ]

-- what is left is one
pub refined_is_one : (t : List ℕ) (condition : ℕ) (truth : Bool) (a b : Value) (r s : Option Value) → IsRefined t condition truth a b r
    → IsRefined t condition truth a b s → r ≡ s
refined_is_one t condition truth a b r s one other =
    elim (cases_Bool (is_left_alone condition b)) [
      | inl alone ↦ one.alone alone ∙ sym (other.alone alone)
      | inr rest ↦ least_is_one t (IsPossible condition truth a b) r s (one.rest rest) (other.rest rest)
    ]

-- a side that is left alone against less is left alone against more
alone_above : (condition : ℕ) (d b : Value) → IsValue d → AtMost d b → is_left_alone condition d ≡ true → is_left_alone condition b ≡ true
alone_above condition d b value up alone =
    elim (cases_Bool (condition % 8 == 7)) [
      | inl seven ↦ rw seven refl
      | inr others ↦ elim (cases_Bool (condition % 8 == 6)) [
        | inl six ↦
            elim (cases_Bool (is_zero b)) [
              | inl none ↦ let below : is_zero d ≡ true = zero_below d b value up none in absurd (false≢true (rw (others, six, below) at alone))
              | inr some ↦ rw (others, six, some) refl
            ]
        | inr not_six ↦ absurd (false≢true (rw (others, not_six) at alone))
      ]
    ]

rest_is_less : (t more : List ℕ) (condition : ℕ) (truth : Bool) (a c d : Value) (s : Option Value) → AreMore t more → IsOver t a → (a ≡ Ret → ⊥) → AtMost c a
    → IsLeastOrNone more (IsPossible condition truth c d) s → IsLess s (Some a)
rest_is_less t more condition truth a c d None in_more over no_ret left none = tt
rest_is_less t more condition truth a c d (Some u) in_more over no_ret left least =
    least.least a (over_more t more a in_more.thresholds over)
    (record { words = λ w ra word address is. has_any a w ra no_ret (may_have_more c a w word left is.has) })

-- of less, over more thresholds, less is left of what isn't the return address
pub refined_is_monotone : (t more : List ℕ) (condition : ℕ) (truth : Bool) (a b c d : Value) (r s : Option Value) → AreMore t more → IsOver t a → IsOver t b
    → IsOver more c → IsOver more d → (a ≡ Ret → ⊥) → AtMost c a → AtMost d b → IsRefined t condition truth a b r → IsRefined more condition truth c d s
    → IsLess s r
refined_is_monotone t more condition truth a b c d r s in_more oa ob oc od no_ret left right wide narrow =
    elim (cases_Bool (is_left_alone condition d)) [
      | inl alone ↦ rw (wide.alone (alone_above condition d b od.value right alone), narrow.alone alone) left
      | inr rest ↦
          elim (cases_Bool (is_left_alone condition b)) [
            | inl alone ↦ rw (wide.alone alone) (rest_is_less t more condition truth a c d s in_more oa no_ret left (narrow.rest rest))
            | inr wide_rest ↦
                less_from_least t more (IsPossible condition truth c d) (IsPossible condition truth a b) r s in_more
                (λ w word is. record {
                  has = may_have_more c a w word left is.has;
                  other = is.other;
                  fits = is.fits;
                  there = may_have_more d b is.other
                      is.fits right is.there;
                  is = is.is;
                })
                (wide.rest wide_rest) (narrow.rest rest)
          ]
    ]

-- of less, over more thresholds, less is left between two places
pub within_monotone : (t more : List ℕ) (low high : ℕ) (a c : Value) (r s : Option Value) → AreMore t more → AtMost c a
    → IsLeastOrNone t (IsWithin a low high) r → IsLeastOrNone more (IsWithin c low high) s → IsLess s r
within_monotone t more low high a c r s in_more left wide narrow =
    less_from_least t more (IsWithin c low high) (IsWithin a low high) r s in_more
    (λ w word is. record { has = may_have_more c a w word left is.has; between = is.between }) wide narrow

all_possible : (t : List ℕ) (condition : ℕ) (truth : Bool) (a b : Value) (r : Option Value) → IsOver t a → IsOver t b → (a ≡ Ret → ⊥)
    → is_left_alone condition b ≡ false → ((x y : ℕ) → holds_of condition (difference_flags_of x y false) ≡ truth) → IsRefined t condition truth a b r
    → r ≡ Some a
all_possible t condition truth a b r oa ob no_ret rest always refined =
    let one = some_word_of b ob.value in
    least_is_one t (MayHave a) r (Some a)
    (least_or_none_of_same t (IsPossible condition truth a b) (MayHave a) r (λ w word is. is.has)
    (λ w word may. record {
      has = may;
      other = one.word;
      fits = one.fits;
      there = may_from_has b one.word one.word one.fits one.has;
      is = always w
          one.word;
    }) (refined.rest rest))
    (all_is_left t a oa no_ret)

none_possible : (t : List ℕ) (condition : ℕ) (truth : Bool) (a b : Value) (r : Option Value) → is_left_alone condition b ≡ false
    → ((x y : ℕ) → holds_of condition (difference_flags_of x y false) ≡ truth → ⊥) → IsRefined t condition truth a b r → r ≡ None
none_possible t condition truth a b r rest never refined =
    least_is_one t (IsPossible condition truth a b) r None (refined.rest rest) (λ w word is. never w is.other is.is)

-- a condition that always holds leaves what isn't the return address as it is
pub always_keeps : (t : List ℕ) (a b : Value) (r : Option Value) → IsOver t a → IsOver t b → (a ≡ Ret → ⊥)
    → (IsRefined t 8 true a b r ⊎ IsRefined t 0 false a b r) → r ≡ Some a
always_keeps t a b r oa ob no_ret (inl refined) = all_possible t 8 true a b r oa ob no_ret refl (λ x y. refl) refined
always_keeps t a b r oa ob no_ret (inr refined) = all_possible t 0 false a b r oa ob no_ret refl (λ x y. refl) refined

-- a condition that never holds leaves nothing
pub never_keeps : (t : List ℕ) (a b : Value) (r : Option Value) → (IsRefined t 8 false a b r ⊎ IsRefined t 0 true a b r) → r ≡ None
never_keeps t a b r (inl refined) = none_possible t 8 false a b r refl (λ x y is. true≢false is) refined
never_keeps t a b r (inr refined) = none_possible t 0 true a b r refl (λ x y is. false≢true is) refined

-- where the sign of a difference refines, what is subtracted is 0
pub sign_is_of_zero : (condition : ℕ) (right : Value) (y : ℕ) → is_left_alone condition right ≡ false → MayHave right y → condition % 8 ≡ 6 → y ≡ 0
sign_is_of_zero condition right y rest may six =
    elim (cases_Bool (is_zero right)) [
      | inl none ↦
          let here : MayHave (Words (0 ∷ [])) y = subst (λ (v : Value). MayHave v y) (zero_is right none) may in
          only_word 0 y here.has
      | inr some ↦ absurd (true≢false (rw (six, some) at rest))
    ]

-- a word of a value between two places is in what is left
pub within_covers : (t : List ℕ) (low high : ℕ) (a : Value) (r : Option Value) (x ra : ℕ) → IsLeastOrNone t (IsWithin a low high) r → x < 2 ^ 32 → ra < 2 ^ 32
    → Has a x ra → IsBetween low high x → HasSome r x ra
within_covers t low high a r x ra least word address has between = covered_some t (IsWithin a low high) r x ra least word address
    (record { has = may_from_has a x ra address has; between = between })

-- conditions that are the same for the words of the two sides leave the same
same_refined : (t : List ℕ) (condition other : ℕ) (truth : Bool) (a b : Value) (r : Option Value) → is_left_alone condition b ≡ false
    → is_left_alone other b ≡ false
    → ((x y : ℕ) → x < 2 ^ 32 → MayHave b y → holds_of condition (difference_flags_of x y false) ≡ holds_of other (difference_flags_of x y false))
    → IsRefined t condition truth a b r → IsRefined t other truth a b r
same_refined t condition other truth a b r rest other_rest same refined = record {
  alone = λ alone. absurd (both_ways (is_left_alone other b) other_rest alone);
  rest = λ unused.
      least_or_none_of_same t (IsPossible condition truth a b) (IsPossible other truth a b) r
      (λ w word is. record { has = is.has; other = is.other; fits = is.fits; there = is.there; is = sym (same w is.other word is.there) ∙ is.is })
      (λ w word is. record { has = is.has; other = is.other; fits = is.fits; there = is.there; is = same w is.other word is.there ∙ is.is })
      (refined.rest rest);
}

-- against 0 the condition on the sign leaves what that on the order does
pub sign_is_order_against_zero : ((x y : ℕ) → x < 2 ^ 32 → y ≡ 0 → holds_of 6 (difference_flags_of x y false) ≡ holds_of 3 (difference_flags_of x y false))
    → (t : List ℕ) (truth : Bool) (a : Value) (r : Option Value)
    → (IsRefined t 6 truth a (Words (0 ∷ [])) r ↔ IsRefined t 3 truth a (Words (0 ∷ [])) r) ×
    (IsRefined t 14 truth a (Words (0 ∷ [])) r ↔ IsRefined t 11 truth a (Words (0 ∷ [])) r)
sign_is_order_against_zero sign t truth a r =
    let zero : Value = Words (0 ∷ []) in (
      (
        same_refined t 6 3 truth a zero r refl refl (λ x y word may. less x y word may.has),
        same_refined t 3 6 truth a zero r refl refl
            (λ x y word may. sym (less x y word may.has)),
      ),
      (
        same_refined t 14 11 truth a zero r refl refl (λ x y word may. ap not (less x y word may.has)),
        same_refined t 11 14 truth a zero r refl refl
            (λ x y word may. ap not (sym (less x y word may.has))),
      ),
    ) where
      less : (x y : ℕ) → x < 2 ^ 32 → Contains (0 ∷ []) y → holds_of 6 (difference_flags_of x y false) ≡ holds_of 3 (difference_flags_of x y false)
      less x y word has = sign x y word (only_word 0 y has)
