-- Which words some word of a value compares with so: the ends of the value decide.
pub use Rattle.value_lattice.proofs.CompareLemmas.{iff_trans}
use Rattle.value_lattice.proofs.MayLemmas.{some_word_of}
use Rattle.std.proofs.Common.{◌≡◌, ℕ, ◌-◌, ◌^◌, ◌<◌, ◌≤◌, ◌↔◌, Bool, true, false, List, length, get_or, refl, sym, ap, subst, ◌∙◌, inl, inr, ⊎_elim, arith}
use Rattle.std.specs.Prelude.{ℤ, eqb}
use Rattle.std.proofs.lemmas.Bool.{ltb-true, ltb-false, leb-true, leb-false, lt-ltb, le-ltb, le-leb, lt-leb, cases_lt, eqb-true, eq-eqb, ne_eqb, both_ways}
use Rattle.std.proofs.lemmas.List.Elements.{All-contains, Contains-get_or}
use Rattle.value_lattice.specs.Ends.{AreEnds}
use Rattle.value_lattice.specs.Order.{place_of, word_at, rank_of}
use Rattle.value_lattice.specs.Set.{IsSet}
use Rattle.value_lattice.specs.Value.{IsValue, IsBetween, MayHave}
use Rattle.value_lattice.specs.declared.value.Value.{Value}
use Rattle.value_lattice.specs.declared.value.Value.TheVariants.{Words, Range}
use Rattle.value_lattice.proofs.JoinLemmas.{between_ends}
use Rattle.value_lattice.proofs.SetLemmas.{place_of-word_at, word_at_below}
use Rattle.value_lattice.proofs.ThresholdLemmas.{non_decreasing, at_zero}
use Rattle.value_refine.specs.Comparison.{orders, relates, IsReached, HasAt, AreEndsBy, AreWordEnds, IsOrdered, by_place, by_word}
use Rattle.value_refine.specs.Interval.{IsIn}
use Rattle.value_refine.specs.declared.comparison.Comparison.{Comparison}
use Rattle.value_refine.specs.declared.comparison.Relation.{Relation}
use Rattle.value_refine.specs.declared.comparison.Relation.TheVariants.{Never, Equal, LessOrEqual, Less, LessOrEqualUnsigned, LessUnsigned}
use Rattle.value_refine.specs.declared.interval.Interval.{Interval}
use Rattle.value_refine.proofs.RefineLemmas.{least_place, greatest_place}

-- the four orders, by the ends
pub less_than_some : (i : Interval) (k : ℕ) → i.low ≤ i.high → (k < i.high) ↔ IsOrdered true true i k
less_than_some i k up = (λ below. inr (lt-ltb k i.high below), λ some. ⊎_elim (λ h. omega (arith, ltb-true k i.low h)) (λ h. ltb-true k i.high h) some)

-- what is at least the lower end of an interval isn't less than each of it
pub not_less_than_some : (i : Interval) (k : ℕ) → i.low ≤ i.high → (i.low ≤ k) ↔ IsOrdered true false i k
not_less_than_some i k up = (λ above. inl (le-ltb k i.low above), λ some. ⊎_elim (λ h. ltb-false k i.low h) (λ h. omega (arith, ltb-false k i.high h)) some)

-- what is at most the upper end of an interval is at most one of it
pub at_most_some : (i : Interval) (k : ℕ) → i.low ≤ i.high → (k ≤ i.high) ↔ IsOrdered false true i k
at_most_some i k up = (λ below. inr (le-leb k i.high below), λ some. ⊎_elim (λ h. omega (arith, leb-true k i.low h)) (λ h. leb-true k i.high h) some)

-- what is above the lower end of an interval isn't at most each of it
pub above_some : (i : Interval) (k : ℕ) → i.low ≤ i.high → (i.low < k) ↔ IsOrdered false false i k
above_some i k up = (λ above. inl (lt-leb k i.low above), λ some. ⊎_elim (λ h. leb-false k i.low h) (λ h. omega (arith, leb-false k i.high h)) some)

-- a number ordered so with one between the ends is ordered so with one of the ends
ends_order : (strict holds : Bool) (i : Interval) (k m : ℕ) → IsIn i m → orders strict k m ≡ holds → IsOrdered strict holds i k
ends_order true true i k m inside is = inr (lt-ltb k i.high (omega (arith, ltb-true k m is, inside)))
ends_order true false i k m inside is = inl (le-ltb k i.low (omega (arith, ltb-false k m is, inside)))
ends_order false true i k m inside is = inr (le-leb k i.high (omega (arith, leb-true k m is, inside)))
ends_order false false i k m inside is = inl (lt-leb k i.low (omega (arith, leb-false k m is, inside)))

-- a word is ordered so with some word of a value exactly where its number is so with one of the ends
pub record IsOrderedWith (reading : ℕ → ℕ) (strict holds : Bool) (v : Value) (x : ℕ) : Type 0 where
  pub other : ℕ
  pub fits : other < 2 ^ 32
  pub there : MayHave v other
  pub is : orders strict (reading x) (reading other) ≡ holds

-- what is ordered with some word of a value is so with its ends
pub ordered_by_ends : (reading : ℕ → ℕ) (strict holds : Bool) (v : Value) (i : Interval) (x : ℕ) → AreEndsBy reading v i
    → IsOrdered strict holds i (reading x) ↔ IsOrderedWith reading strict holds v x
ordered_by_ends reading strict holds v i x ends =
    (there, λ some. ends_order strict holds i (reading x) (reading some.other) (ends.inside some.other some.fits some.there) some.is) where
      at : (k : ℕ) → HasAt reading v k → orders strict (reading x) k ≡ holds → IsOrderedWith reading strict holds v x
      at k has is = record { other = has.word; fits = has.fits; there = has.has; is = subst (λ (n : ℕ). orders strict (reading x) n ≡ holds) (sym has.at) is }

      there : IsOrdered strict holds i (reading x) → IsOrderedWith reading strict holds v x
      there some = ⊎_elim (λ here. at i.low ends.least here) (λ here. at i.high ends.greatest here) some

-- the four relations that are orders
pub reached_less : (holds : Bool) (v : Value) (x : ℕ) → IsOrderedWith by_place true holds v x ↔ IsReached (record { relation = Less; holds = holds }) v x
reached_less holds v x =
    (λ o. record { other = o.other; fits = o.fits; there = o.there; is = o.is }, λ o. record { other = o.other; fits = o.fits; there = o.there; is = o.is })

-- what reaches a value by at most, with sign
pub reached_less_or_equal : (holds : Bool) (v : Value) (x : ℕ)
    → IsOrderedWith by_place false holds v x ↔ IsReached (record { relation = LessOrEqual; holds = holds }) v x
reached_less_or_equal holds v x =
    (λ o. record { other = o.other; fits = o.fits; there = o.there; is = o.is }, λ o. record { other = o.other; fits = o.fits; there = o.there; is = o.is })

-- what reaches a value by less, without sign
pub reached_less_unsigned : (holds : Bool) (v : Value) (x : ℕ)
    → IsOrderedWith by_word true holds v x ↔ IsReached (record { relation = LessUnsigned; holds = holds }) v x
reached_less_unsigned holds v x =
    (λ o. record { other = o.other; fits = o.fits; there = o.there; is = o.is }, λ o. record { other = o.other; fits = o.fits; there = o.there; is = o.is })

-- what reaches a value by at most, without sign
pub reached_less_or_equal_unsigned : (holds : Bool) (v : Value) (x : ℕ)
    → IsOrderedWith by_word false holds v x ↔ IsReached (record { relation = LessOrEqualUnsigned; holds = holds }) v x
reached_less_or_equal_unsigned holds v x =
    (λ o. record { other = o.other; fits = o.fits; there = o.there; is = o.is }, λ o. record { other = o.other; fits = o.fits; there = o.there; is = o.is })

-- the same comparison by the name of its relation
pub reached_as : (c : Comparison) (relation : Relation) (v : Value) (x : ℕ) → c.relation ≡ relation
    → IsReached (record { relation = relation; holds = c.holds }) v x ↔ IsReached c v x
reached_as c relation v x is = (
  λ r. record { other = r.other; fits = r.fits; there = r.there; is = subst (λ (q : Relation). relates q x r.other ≡ c.holds) (sym is) r.is },
  λ r. record
      { other = r.other; fits = r.fits; there = r.there; is = subst (λ (q : Relation). relates q x r.other ≡ c.holds) is r.is },
)

-- a relation that never holds
pub reached_unless : (c : Comparison) (v : Value) (x : ℕ) → c.relation ≡ Never → c.holds ≡ false → IsValue v → IsReached c v x
reached_unless c v x never fails value =
    let one = some_word_of v value in
    record {
      other = one.word;
      fits = one.fits;
      there = record { address = one.word; fits = one.fits; has = one.has };
      is = subst
          (λ (q : Relation). relates q x one.word ≡ c.holds) (sym never) (sym fails);
    }

-- two words differ from any
pub differs_from_one_of : (v : Value) (i : Interval) (x : ℕ) → AreEndsBy by_place v i → i.low < i.high
    → IsReached (record { relation = Equal; holds = false }) v x
differs_from_one_of v i x ends far =
    elim (cases_lt (place_of x) i.high) [
      | inl below ↦ record {
        other = ends.greatest.word;
        fits = ends.greatest.fits;
        there = ends.greatest.has;
        is = ne_eqb x ends.greatest.word
            (λ same. omega (arith, ends.greatest.at, ap by_place same));
      }
      | inr above ↦ record {
        other = ends.least.word;
        fits = ends.least.fits;
        there = ends.least.has;
        is = ne_eqb x ends.least.word
            (λ same. omega (arith, ends.least.at, ap by_place same));
      }
    ]

-- one word differs from any other
pub differs_from_the_one : (v : Value) (i : Interval) (x : ℕ) → x < 2 ^ 32 → AreEndsBy by_place v i → i.high ≤ i.low
    → (place_of x ≡ i.low → ⊥) ↔ IsReached (record { relation = Equal; holds = false }) v x
differs_from_the_one v i x word ends near = (there, back) where
  there : (place_of x ≡ i.low → ⊥) → IsReached (record { relation = Equal; holds = false }) v x
  there apart = record {
    other = ends.least.word;
    fits = ends.least.fits;
    there = ends.least.has;
    is = ne_eqb x ends.least.word
        (λ same. apart (ap by_place same ∙ ends.least.at));
  }

  back : IsReached (record { relation = Equal; holds = false }) v x → place_of x ≡ i.low → ⊥
  back reached same =
      let inside : IsIn i (by_place reached.other) = ends.inside reached.other reached.fits reached.there in
      let one : x ≡ reached.other = omega (arith, inside, reached.fits) in
      both_ways (eqb x reached.other) reached.is (eq-eqb x reached.other one)

-- the ends of a value by its places
pub ends_by_place : (v : Value) (i : Interval) → IsValue v → AreEnds v i.low i.high → i.low < 2 ^ 32 → i.high < 2 ^ 32 → AreEndsBy by_place v i
ends_by_place v i value ends low_fits high_fits = record {
  inside = λ w word may. between_ends v i.low i.high w may.address ends word may.has;
  least = record {
    word = word_at i.low;
    fits = word_at_below i.low;
    has = least_place v i.low i.high value ends low_fits;
    at = place_of-word_at i.low
        low_fits;
  };
  greatest = record {
    word = word_at i.high;
    fits = word_at_below i.high;
    has = greatest_place v i.low i.high value ends high_fits;
    at = place_of-word_at
        i.high high_fits;
  };
}

-- the first and the last of rising words are the least and the greatest
pub ends_of_set : (words : List ℕ) (i : Interval) → IsSet words → i.low ≡ get_or words 0 0 → i.high ≡ get_or words (length words - 1) 0
    → AreEndsBy by_word (Words words) i
ends_of_set words i set low_is high_is = record {
  inside = λ w word may. (
    omega (arith, non_decreasing words set.rising 0 may.has.0 (omega arith) may.has.1, at_zero words w may.has),
    omega
        (arith, non_decreasing words set.rising may.has.0 (length words - 1) (omega (arith, may.has.1)) (omega (arith, set.some)), at_zero words w may.has),
  );
  least = at i.low 0 set.some low_is;
  greatest = at i.high (length words - 1) (omega (arith, set.some)) high_is;
} where
  at : (k j : ℕ) → j < length words → k ≡ get_or words j 0 → HasAt by_word (Words words) k
  at k j within is = record {
    word = get_or words j 0;
    fits = All-contains (λ w. w < 2 ^ 32) words (get_or words j 0) set.fits (Contains-get_or words j 0 within);
    has = record { address = 0; fits = omega arith; has = Contains-get_or words j 0 within };
    at = sym is;
  }

-- all words
pub ends_of_all : (v : Value) (i : Interval) → ((w : ℕ) → w < 2 ^ 32 → IsIn i w) → MayHave v 0 → MayHave v 4294967295 → i.low ≡ 0 → i.high ≡ 4294967295
    → AreEndsBy by_word v i
ends_of_all v i all least greatest low_is high_is = record {
  inside = λ w word may. all w word;
  least = record { word = 0; fits = omega arith; has = least; at = sym low_is };
  greatest = record { word = 4294967295; fits = omega arith; has = greatest; at = sym high_is };
}

-- the ends of a range as words are read without sign
pub ends_of_range : (lo hi : ℤ) (places i : Interval) → AreEnds (Range lo hi) places.low places.high → AreWordEnds places i → i.low < 2 ^ 32 → i.high < 2 ^ 32
    → AreEndsBy by_word (Range lo hi) i
ends_of_range lo hi places i ends words low_fits high_fits = record {
  inside = λ w word may. let has : IsBetween (rank_of lo) (rank_of hi) w = may.has in words.inside w word (omega (arith, ends, has), omega (arith, ends, has));
  least = record {
    word = i.low;
    fits = low_fits;
    has = record {
      address = 0;
      fits = omega arith;
      has =
          (omega (arith, ends, words.least), omega (arith, ends, words.least));
    };
    at = refl;
  };
  greatest = record {
    word = i.high;
    fits = high_fits;
    has = record
        { address = 0; fits = omega arith; has = (omega (arith, ends, words.greatest), omega (arith, ends, words.greatest)) };
    at = refl;
  };
}

-- what is equal to some word of a value is a word of it
pub shared_is_reached : (c : Comparison) (right : Value) (x : ℕ) → c.relation ≡ Equal → c.holds ≡ true → x < 2 ^ 32 → MayHave right x ↔ IsReached c right x
shared_is_reached c right x equal holds word = (there, back) where
  there : MayHave right x → IsReached c right x
  there may = record { other = x; fits = word; there = may; is = subst (λ (q : Relation). relates q x x ≡ c.holds) (sym equal) (eq-eqb x x refl ∙ sym holds) }

  back : IsReached c right x → MayHave right x
  back r =
      let same : eqb x r.other ≡ true = subst (λ (q : Relation). relates q x r.other ≡ c.holds) equal r.is ∙ holds in
      subst (MayHave right) (sym (eqb-true x r.other same)) r.there
