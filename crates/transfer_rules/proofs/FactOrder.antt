-- The order, the join and the ranks of facts.
use Rattle.std.proofs.Common.{◌≡◌, ℕ, ◌+◌, ◌*◌, ◌<◌, ◌≤◌, ◌⊎◌, inl, inr, Bool, true, false, List, length, refl, sym, ap, subst, ◌∙◌, arith}
use Rattle.std.specs.Prelude.{◌==◌}
use Rattle.std.specs.List.{list_all}
use Rattle.std.proofs.lemmas.Bool.{and_from, and_parts, both_ways, cases_eq, eq-eqb, eqb-true, false≢true}
use Rattle.call_effects.specs.declared.summary.Summary.{Summary}
use Rattle.call_effects.specs.Mask.{is_within, union}
use Rattle.call_effects.specs.Summary.{is_at_most as are_effects_at_most}
use Rattle.call_effects.proofs.MaskLemmas.{mask-union, test_decides_masks, within_rises}
use Rattle.call_effects.proofs.SummaryLemmas.{implies, summaries_are_joined, summaries_are_ordered, up_parts}
use Rattle.value_lattice.proofs.RankLemmas.{heights_bound, heights_rise, lists_are_same}
use Rattle.value_lattice.specs.Height.{are_at_most, heights}
use Rattle.value_lattice.specs.Test.{is_over}
use Rattle.value_lattice.specs.Thresholds.{IsThresholds}
use Rattle.value_lattice.specs.declared.value.Value.{Value}
use Rattle.abs_state.proofs.CellsLemmas.{cells_first, cells_least, cells_onward, cells_same, cells_second, joined-length, joined_over}
use Rattle.abs_state.proofs.JoinLemmas.{states_are_joined}
use Rattle.abs_state.proofs.OrderLemmas.{states_are_ordered, states_rise}
use Rattle.abs_state.specs.State.{joined_cells}
use Rattle.abs_state.specs.declared.key.Key.{Key}
use Rattle.transfer_rules.proofs.FactKinds.{are_alike, fit_alike, fitting, from_fitting}
use Rattle.transfer_rules.specs.Fact.{Kind, bit_of, fits, is_at_most, is_fact_over, is_kind, joined, kind_at, rank, top_rank}
use Rattle.transfer_rules.specs.declared.fact.Fact.{Fact}
use Rattle.transfer_rules.specs.declared.fact.Fact.TheVariants.{State, Args, Sum, Mark}

-- the values of arguments over the thresholds, in parts
pub record AreArguments (t : List ℕ) (list : List Value) : Type 0 where
  pub size : length list ≡ 13
  pub over : list_all (is_over t) list ≡ true

-- a fact of arguments over the thresholds is thirteen values over them
pub arguments_in : (t : List ℕ) (list : List Value) → is_fact_over t (Args list) ≡ true → AreArguments t list
arguments_in t list is = let parts = and_parts (length list == 13)
    (list_all (is_over t) list) is in record { size = eqb-true (length list) 13 parts.0; over = parts.1 }

-- thirteen values over the thresholds are a fact over them
pub from_arguments : (t : List ℕ) (list : List Value) → AreArguments t list → is_fact_over t (Args list) ≡ true
from_arguments t list is = and_from (length list == 13) (list_all (is_over t) list) (eq-eqb (length list) 13 is.size) is.over

-- a fact is at most itself
pub same_fact : (t : List ℕ) (a : Fact) → is_fact_over t a ≡ true → is_at_most a a ≡ true
same_fact t (State s) over = states_are_ordered.same t s over
same_fact t (Args list) over = cells_same t list (arguments_in t list over).over
same_fact t (Sum effects) over = summaries_are_ordered.same effects
same_fact t Mark over = refl

pub up_alike : (a b : Fact) → is_at_most a b ≡ true → are_alike a b ≡ true
up_alike (State a) (State b) up = refl
up_alike (Args a) (Args b) up = refl
up_alike (Sum a) (Sum b) up = refl
up_alike Mark Mark up = refl
up_alike _ _ up = absurd (false≢true up)

alike_onward : (a b c : Fact) → are_alike a b ≡ true → are_alike b c ≡ true → is_at_most a b ≡ true → is_at_most b c ≡ true → is_at_most a c ≡ true
alike_onward (State a) (State b) (State c) x y one two = states_are_ordered.onward a b c one two
alike_onward (State a) (State b) _ x y one two = absurd (false≢true y)
alike_onward (Args a) (Args b) (Args c) x y one two = cells_onward a b c one two
alike_onward (Args a) (Args b) _ x y one two = absurd (false≢true y)
alike_onward (Sum a) (Sum b) (Sum c) x y one two = summaries_are_ordered.onward a b c one two
alike_onward (Sum a) (Sum b) _ x y one two = absurd (false≢true y)
alike_onward Mark Mark Mark x y one two = refl
alike_onward Mark Mark _ x y one two = absurd (false≢true y)
alike_onward _ _ c x y one two = absurd (false≢true x)

-- the order of facts goes on from one to the next
pub facts_onward : (a b c : Fact) → is_at_most a b ≡ true → is_at_most b c ≡ true → is_at_most a c ≡ true
facts_onward a b c one two = alike_onward a b c (up_alike a b one) (up_alike b c two) one two

alike_both : (a b : Fact) → are_alike a b ≡ true → is_at_most a b ≡ true → is_at_most b a ≡ true → a ≡ b
alike_both (State a) (State b) x one two = ap State (states_are_ordered.both a b one two)
alike_both (Args a) (Args b) x one two = ap Args (lists_are_same a b one two)
alike_both (Sum a) (Sum b) x one two = ap Sum (summaries_are_ordered.both a b one two)
alike_both Mark Mark x one two = refl
alike_both _ _ x one two = absurd (false≢true x)

-- facts that are at most each other are one
pub facts_both : (a b : Fact) → is_at_most a b ≡ true → is_at_most b a ≡ true → a ≡ b
facts_both a b one two = alike_both a b (up_alike a b one) one two

-- what is joined of one kind
module _ (t : List ℕ) (is : IsThresholds t) where
  first_up : (a b : Fact) → are_alike a b ≡ true → is_fact_over t a ≡ true → is_fact_over t b ≡ true → is_at_most a (joined t a b) ≡ true
  first_up (State a) (State b) x one two = states_are_joined.first t a b is one two
  first_up (Args a) (Args b) x one two =
      let left = arguments_in t a one in
      let right = arguments_in t b two in
      cells_first t a b is (left.size ∙ sym right.size) left.over right.over
  first_up (Sum a) (Sum b) x one two = summaries_are_joined.first a b
  first_up Mark Mark x one two = refl
  first_up _ _ x one two = absurd (false≢true x)

  second_up : (a b : Fact) → are_alike a b ≡ true → is_fact_over t a ≡ true → is_fact_over t b ≡ true → is_at_most b (joined t a b) ≡ true
  second_up (State a) (State b) x one two = states_are_joined.second t a b is one two
  second_up (Args a) (Args b) x one two =
      let left = arguments_in t a one in
      let right = arguments_in t b two in
      cells_second t a b is (left.size ∙ sym right.size) left.over right.over
  second_up (Sum a) (Sum b) x one two = summaries_are_joined.second a b
  second_up Mark Mark x one two = refl
  second_up _ _ x one two = absurd (false≢true x)

  least_up : (a b c : Fact) → are_alike a b ≡ true → are_alike b c ≡ true → is_fact_over t a ≡ true → is_fact_over t b ≡ true → is_fact_over t c ≡ true
      → is_at_most a c ≡ true → is_at_most b c ≡ true → is_at_most (joined t a b) c ≡ true
  least_up (State a) (State b) (State c) x y one two three up also = states_are_joined.least t a b c is one two three up also
  least_up (State a) (State b) _ x y one two three up also = absurd (false≢true y)
  least_up (Args a) (Args b) (Args c) x y one two three up also =
      cells_least t a b c is (arguments_in t a one).over (arguments_in t b two).over (arguments_in t c three).over up also
  least_up (Args a) (Args b) _ x y one two three up also = absurd (false≢true y)
  least_up (Sum a) (Sum b) (Sum c) x y one two three up also = summaries_are_joined.least a b c up also
  least_up (Sum a) (Sum b) _ x y one two three up also = absurd (false≢true y)
  least_up Mark Mark Mark x y one two three up also = refl
  least_up Mark Mark _ x y one two three up also = absurd (false≢true y)
  least_up _ _ c x y one two three up also = absurd (false≢true x)

  over_up : (a b : Fact) → are_alike a b ≡ true → is_fact_over t a ≡ true → is_fact_over t b ≡ true → is_fact_over t (joined t a b) ≡ true
  over_up (State a) (State b) x one two = states_are_joined.stands t a b is one two
  over_up (Args a) (Args b) x one two =
      let left = arguments_in t a one in
      let right = arguments_in t b two in
      from_arguments t (joined_cells t a b)
      (record { size = joined-length t a b (left.size ∙ sym right.size) ∙ left.size; over = joined_over t a b is left.over right.over })
  over_up (Sum a) (Sum b) x one two =
      (test_decides_masks (union a.written b.written)).1
      (mask-union a.written b.written ((test_decides_masks a.written).0 one) ((test_decides_masks b.written).0 two))
  over_up Mark Mark x one two = refl
  over_up _ _ x one two = absurd (false≢true x)

  kind_up : (kind : Kind) (a b : Fact) → is_kind a kind ≡ true → are_alike a b ≡ true → is_kind (joined t a b) kind ≡ true
  kind_up kind (State a) (State b) one x = one
  kind_up kind (Args a) (Args b) one x = one
  kind_up kind (Sum a) (Sum b) one x = one
  kind_up kind Mark Mark one x = one
  kind_up kind _ _ one x = absurd (false≢true x)

  -- the join of facts fits where both do
  pub join_fits : (k : Key) (a b : Fact) → fits t k a ≡ true → fits t k b ≡ true → fits t k (joined t a b) ≡ true
  join_fits k a b one two =
      let left = fitting t k a one in
      let right = fitting t k b two in
      let same = fit_alike t k a b one two in
      from_fitting t k (joined t a b) (record
      { kind = kind_up (kind_at k) a b left.kind same; depths = left.depths; over = over_up a b same left.over right.over })

  -- the first fact is at most the join
  pub join_first : (k : Key) (a b : Fact) → fits t k a ≡ true → fits t k b ≡ true → is_at_most a (joined t a b) ≡ true
  join_first k a b one two = first_up a b (fit_alike t k a b one two) (fitting t k a one).over (fitting t k b two).over

  -- the second fact is at most the join
  pub join_second : (k : Key) (a b : Fact) → fits t k a ≡ true → fits t k b ≡ true → is_at_most b (joined t a b) ≡ true
  join_second k a b one two = second_up a b (fit_alike t k a b one two) (fitting t k a one).over (fitting t k b two).over

  -- the join of facts is at most what both are at most
  pub join_least : (k : Key) (a b c : Fact) → fits t k a ≡ true → fits t k b ≡ true → fits t k c ≡ true → is_at_most a c ≡ true → is_at_most b c ≡ true
      → is_at_most (joined t a b) c ≡ true
  join_least k a b c one two three up also =
      least_up a b c (fit_alike t k a b one two) (fit_alike t k b c two three) (fitting t k a one).over (fitting t k b two).over
      (fitting t k c three).over up also

-- the ranks of summaries
bits_up : (a b : Bool) → implies a b ≡ true → (bit_of a < bit_of b) ⊎ (a ≡ b)
bits_up true true up = inr refl
bits_up true false up = absurd (false≢true up)
bits_up false true up = inl (omega arith)
bits_up false false up = inr refl

masks_up : (a b : ℕ) → is_within a b ≡ true → (a < b) ⊎ (a ≡ b)
masks_up a b up = elim (cases_eq a b) [ inl same ↦ inr same | inr apart ↦ inl (within_rises a b up apart) ]

effects_rank : Summary → ℕ
effects_rank e = bit_of e.returns + (bit_of e.skips + e.written)

bit_most : (b : Bool) → bit_of b ≤ 1
bit_most true = omega arith
bit_most false = omega arith

effects_rise : (a b : Summary) → are_effects_at_most a b ≡ true → (effects_rank a < effects_rank b) ⊎ (a ≡ b)
unfolding effects_rank
effects_rise a b up =
    let parts = up_parts a b up in
    by (bits_up a.returns b.returns parts.returns) (bits_up a.skips b.skips parts.skips) (masks_up a.written b.written parts.written)
  where
    same_bits : (x y : Bool) → x ≡ y → bit_of x ≡ bit_of y
    same_bits x y e = ap bit_of e

    by : (bit_of a.returns < bit_of b.returns) ⊎ (a.returns ≡ b.returns) → (bit_of a.skips < bit_of b.skips) ⊎ (a.skips ≡ b.skips)
        → (a.written < b.written) ⊎ (a.written ≡ b.written) → (effects_rank a < effects_rank b) ⊎ (a ≡ b)
    by (inl x) (inl y) (inl z) = inl (omega arith)
    by (inl x) (inl y) (inr z) = inl (omega arith)
    by (inl x) (inr y) (inl z) = inl (let e = same_bits a.skips b.skips y in omega arith)
    by (inl x) (inr y) (inr z) = inl (let e = same_bits a.skips b.skips y in omega arith)
    by (inr x) (inl y) (inl z) = inl (let e = same_bits a.returns b.returns x in omega arith)
    by (inr x) (inl y) (inr z) = inl (let e = same_bits a.returns b.returns x in omega arith)
    by (inr x) (inr y) (inl z) = inl (let e = same_bits a.returns b.returns x in let f = same_bits a.skips b.skips y in omega arith)
    by (inr x) (inr y) (inr z) = inr (λ i. record { returns = x i; skips = y i; written = z i })

alike_rises : (t : List ℕ) (a b : Fact) → are_alike a b ≡ true → is_fact_over t a ≡ true → is_fact_over t b ≡ true → is_at_most a b ≡ true
    → is_at_most b a ≡ false → rank t a < rank t b
unfolding effects_rank
alike_rises t (State a) (State b) x one two up down = states_rise.rises t a b one two up down
alike_rises t (Args a) (Args b) x one two up down =
    elim (heights_rise t a b (arguments_in t a one).over (arguments_in t b two).over up) [
      | inl more ↦ more
      | inr back ↦ absurd (both_ways (are_at_most b a) down back)
    ]
alike_rises t (Sum a) (Sum b) x one two up down =
    elim (effects_rise a b up) [
      | inl more ↦ more
      | inr same ↦
          absurd (both_ways (are_effects_at_most b a) down (subst (λ (e : Summary). are_effects_at_most b e ≡ true) (sym same) (summaries_are_ordered.same b)))
    ]
alike_rises t Mark Mark x one two up down = absurd (false≢true (sym down))
alike_rises t _ _ x one two up down = absurd (false≢true x)

-- the rank of a greater fact is greater
pub facts_rise : (t : List ℕ) (k : Key) (a b : Fact) → fits t k a ≡ true → fits t k b ≡ true → is_at_most a b ≡ true → is_at_most b a ≡ false
    → rank t a < rank t b
facts_rise t k a b one two up down = alike_rises t a b (up_alike a b up) (fitting t k a one).over (fitting t k b two).over up down

-- no rank is greater than the thresholds allow
rank_most : (t : List ℕ) (a : Fact) → is_fact_over t a ≡ true → rank t a ≤ top_rank t
rank_most t (State s) over = let m = states_rise.limit t s over in omega arith
rank_most t (Args list) over =
    let is = arguments_in t list over in
    let m : heights t list ≤ 13 * (128 + length t) = subst (λ (n : ℕ). heights t list ≤ n * (128 + length t)) is.size (heights_bound t list is.over) in
    omega arith
rank_most t (Sum e) over =
    let is = (test_decides_masks e.written).0 over in
    let below = is.below in
    let r = bit_most e.returns in
    let s = bit_most e.skips in
    omega arith
rank_most t Mark over = omega arith

-- no rank of a fact is above the greatest
pub facts_limit : (t : List ℕ) (k : Key) (a : Fact) → fits t k a ≡ true → rank t a ≤ top_rank t
facts_limit t k a is = rank_most t a (fitting t k a is).over
