-- What the conditions over the flags of a difference say of its sources.
use Rattle.std.proofs.Common.{◌≡◌, ℕ, ◌-◌, ◌%◌, ◌^◌, ◌<◌, ◌↔◌, Bool, true, false, not, refl, sym, ap, subst, ◌∙◌, inl, inr, arith}
use Rattle.std.specs.Prelude.{nat_lt, nat_le, ltb, ◌==◌}
use Rattle.std.proofs.lemmas.Bool.{lt-ltb, le-ltb, le-leb, lt-leb, cases_lt}
use Rattle.std.proofs.lemmas.Bool.Decides.{nat_tests}
use mathlib.Core.Bool.{beq}
use Rattle.value_lattice.specs.Order.{place_of}
use Rattle.value_refine.specs.Comparison.{relates, IsTest, IsAsked}
use Rattle.value_refine.specs.Laws.{IsMirrored}
use Rattle.value_refine.specs.declared.comparison.Relation.{Relation}
use Rattle.value_refine.specs.declared.comparison.Relation.TheVariants.{Less}
use Rattle.value_refine.specs.Refinement.{mirror_of}
use Rattle.word_ops.specs.Condition.{first_eight, holds_of, ComparisonIsSignedOrder, ComparisonIsUnsignedOrder, ComparisonIsEquality}
use Rattle.word_ops.specs.Flags.{difference_flags_of}
use Rattle.word_ops.specs.Word.{key, difference_of}
use Rattle.word_ops.specs.declared.arithmetic.Flags.{Flags}

-- a word less 0 is negative where the word is less than 0
pub negative_is_less : (x y : ℕ) → x < 2 ^ 32 → y ≡ 0 → nat_le (2 ^ 31) (difference_of x y false) ≡ nat_lt (place_of x) (place_of y)
negative_is_less x y word none =
    elim (cases_lt x (2 ^ 31)) [
      | inl small ↦ lt-leb (2 ^ 31) (difference_of x y false) (omega arith) ∙ sym (le-ltb (place_of x) (place_of y) (omega arith))
      | inr large ↦ le-leb (2 ^ 31) (difference_of x y false) (omega arith) ∙ sym (lt-ltb (place_of x) (place_of y) (omega arith))
    ]

not_lt : (m n : ℕ) → not (nat_lt m n) ≡ nat_le n m
not_lt m n = grind (arith, nat_tests)

not_le : (m n : ℕ) → not (nat_le m n) ≡ nat_lt n m
not_le m n = grind (arith, nat_tests)

flip_eq : (m n : ℕ) → (m == n) ≡ (n == m)
flip_eq m n = grind (arith, nat_tests)

-- what holds of the conditions that have a mirrored one
by_condition : (P : ℕ → Type 0) → P 0 → P 1 → P 2 → P 3 → P 4 → P 5 → P 8 → P 9 → P 10 → P 11 → P 12 → P 13 → (k : ℕ) → k < 16 → k % 8 < 6 → P k
by_condition P p0 p1 p2 p3 p4 p5 p8 p9 p10 p11 p12 p13 k below small =
    elim (cases_lt k 1) [
      | inl h ↦ let e : 0 ≡ k = omega arith in subst P e p0
      | inr h0 ↦
          elim (cases_lt k 2) [
            | inl h ↦ let e : 1 ≡ k = omega arith in subst P e p1
            | inr h1 ↦
                elim (cases_lt k 3) [
                  | inl h ↦ let e : 2 ≡ k = omega arith in subst P e p2
                  | inr h2 ↦
                      elim (cases_lt k 4) [
                        | inl h ↦ let e : 3 ≡ k = omega arith in subst P e p3
                        | inr h3 ↦
                            elim (cases_lt k 5) [
                              | inl h ↦ let e : 4 ≡ k = omega arith in subst P e p4
                              | inr h4 ↦
                                  elim (cases_lt k 6) [
                                    | inl h ↦ let e : 5 ≡ k = omega arith in subst P e p5
                                    | inr h5 ↦
                                        elim (cases_lt k 9) [
                                          | inl h ↦ let e : 8 ≡ k = omega arith in subst P e p8
                                          | inr h8 ↦
                                              elim (cases_lt k 10) [
                                                | inl h ↦ let e : 9 ≡ k = omega arith in subst P e p9
                                                | inr h9 ↦
                                                    elim (cases_lt k 11) [
                                                      | inl h ↦ let e : 10 ≡ k = omega arith in subst P e p10
                                                      | inr h10 ↦
                                                          elim (cases_lt k 12) [
                                                            | inl h ↦ let e : 11 ≡ k = omega arith in subst P e p11
                                                            | inr h11 ↦
                                                                elim (cases_lt k 13) [
                                                                  | inl h ↦ let e : 12 ≡ k = omega arith in subst P e p12
                                                                  | inr h12 ↦
                                                                      let e : 13 ≡ k = omega arith in subst P e p13
                                                                ]
                                                          ]
                                                    ]
                                              ]
                                        ]
                                  ]
                            ]
                      ]
                ]
          ]
    ]

-- the mirrored condition over the flags of the difference the other way round
pub mirror_is : ComparisonIsEquality → ComparisonIsSignedOrder → ComparisonIsUnsignedOrder → (x y : ℕ) → x < 2 ^ 32 → y < 2 ^ 32 → (condition : ℕ)
    → condition < 16 → IsMirrored condition
    → holds_of condition (difference_flags_of x y false) ≡ holds_of (mirror_of condition) (difference_flags_of y x false)
mirror_is equality signed unsigned x y xw yw =
    by_condition (λ k. holds_of k (difference_flags_of x y false) ≡ holds_of (mirror_of k) (difference_flags_of y x false))
    refl same le lt leu lu refl (ap not same) (back _ _ le) (back _ _ lt) (back _ _ leu) (back _ _ lu) where
      same : holds_of 1 (difference_flags_of x y false) ≡ holds_of 1 (difference_flags_of y x false)
      same = equality x y xw yw ∙ flip_eq x y ∙ sym (equality y x yw xw)

      lt : holds_of 3 (difference_flags_of x y false) ≡ not (holds_of 2 (difference_flags_of y x false))
      lt = (signed x y xw yw).0 ∙ sym (not_le (key y) (key x)) ∙ ap not (sym (signed y x yw xw).1)

      le : holds_of 2 (difference_flags_of x y false) ≡ not (holds_of 3 (difference_flags_of y x false))
      le = (signed x y xw yw).1 ∙ sym (not_lt (key y) (key x)) ∙ ap not (sym (signed y x yw xw).0)

      lu : holds_of 5 (difference_flags_of x y false) ≡ not (holds_of 4 (difference_flags_of y x false))
      lu = (unsigned x y xw yw).0 ∙ sym (not_le y x) ∙ ap not (sym (unsigned y x yw xw).1)

      leu : holds_of 4 (difference_flags_of x y false) ≡ not (holds_of 5 (difference_flags_of y x false))
      leu = (unsigned x y xw yw).1 ∙ sym (not_lt y x) ∙ ap not (sym (unsigned y x yw xw).0)

      back : (b c : Bool) → b ≡ not c → not b ≡ c
      back true true h = sym h
      back true false h = refl
      back false true h = refl
      back false false h = sym h

-- condition 6 tests whether the first is less
pub sign_is_less : (condition : ℕ) → condition ≡ 6 → IsTest condition Less
sign_is_less condition six = record { is = λ x y xw yw none. rw six (negative_is_less x y xw (none six)) }

-- a condition from 8 on is the negation of the one 8 below
asked_of : (condition : ℕ) (truth b : Bool) (f : Flags) → condition < 16 → first_eight (condition % 8) f ≡ b
    → (holds_of condition f ≡ truth) ↔ (b ≡ beq truth (ltb condition 8))
asked_of condition truth b f below is =
    elim (cases_lt condition 8) [
      | inl low ↦
          let same : condition % 8 ≡ condition = omega arith in
          let holds : holds_of condition f ≡ b = rw (lt-ltb condition 8 low) (subst (λ (n : ℕ). first_eight n f ≡ b) same is) in
          rw (holds, lt-ltb condition 8 low) (agree b truth)
      | inr high ↦
          let same : condition % 8 ≡ condition - 8 = omega arith in
          let holds : holds_of condition f ≡ not b = rw (le-ltb condition 8 high) (ap not (subst (λ (n : ℕ). first_eight n f ≡ b) same is)) in
          rw (holds, le-ltb condition 8 high) (disagree b truth)
    ] where
      agree : (b truth : Bool) → (b ≡ truth) ↔ (b ≡ beq truth true)
      agree true true = (λ h. h, λ h. h)
      agree true false = (λ h. h, λ h. h)
      agree false true = (λ h. h, λ h. h)
      agree false false = (λ h. h, λ h. h)

      disagree : (b truth : Bool) → (not b ≡ truth) ↔ (b ≡ beq truth false)
      disagree true true = (λ h. sym h, λ h. sym h)
      disagree true false = (λ h. refl, λ h. refl)
      disagree false true = (λ h. refl, λ h. refl)
      disagree false false = (λ h. sym h, λ h. sym h)

-- what a condition asks is its relation, or that it doesn't hold
pub asked : (condition : ℕ) (truth : Bool) (relation : Relation) → condition < 16 → IsTest (condition % 8) relation
    → IsAsked condition truth (record { relation = relation; holds = beq truth (ltb condition 8) })
asked condition truth relation below test = record {
  is = λ x y xw yw none. asked_of condition truth (relates relation x y) (difference_flags_of x y false)
      below (test.is x y xw yw none);
}

-- against 0 the sign of the difference is the order with sign
pub sign_is_less_than_zero : ComparisonIsSignedOrder → (x y : ℕ) → x < 2 ^ 32 → y ≡ 0
    → holds_of 6 (difference_flags_of x y false) ≡ holds_of 3 (difference_flags_of x y false)
sign_is_less_than_zero signed x y word none = negative_is_less x y word none ∙ sym (signed x y word (omega arith)).0
