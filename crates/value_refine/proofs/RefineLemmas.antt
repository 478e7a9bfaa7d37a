-- Words that values may have, and what is least of them.
use Rattle.value_lattice.proofs.MayLemmas.{least_or_none_of_same}
use Rattle.std.proofs.Common.{◌≡◌, ℕ, ◌+◌, ◌^◌, ◌<◌, ◌≤◌, ◌⊎◌, ◌↔◌, List, [], ◌∷◌, length, get_or, ◌++◌, Option, Result, IfOk, refl, sym, subst}
use Rattle.std.proofs.Common.{inl, inr, ⊎_elim, arith, Contains}
use Rattle.std.specs.Prelude.{ℤ}
use Rattle.std.proofs.lemmas.List.Elements.{Contains-get_or, Contains-append_left, Contains-push, Contains-push_cases}
use Rattle.std.proofs.lemmas.Bool.{cases_lt}
use Rattle.std.proofs.lemmas.Result.{IfOk-weaker}
use Rattle.std.proofs.lemmas.List.{get_or_default}
use Rattle.value_lattice.specs.Ends.{AreEnds}
use Rattle.value_lattice.specs.Order.{place_of, word_at}
use Rattle.value_lattice.specs.Value.{IsValue, IsLeast, IsJoin, MayHave, IsLeastOrNone}
use Rattle.value_lattice.specs.declared.value.Value.{Value}
use Rattle.value_lattice.specs.declared.value.Value.TheVariants.{Words, Range, Ret}
use Rattle.value_lattice.proofs.SetLemmas.{place_of-word_at, word_at_below}
use Rattle.value_refine.specs.Interval.{IsIn}
use Rattle.value_refine.specs.Region.{IsInRegion}
use Rattle.value_refine.specs.Restriction.{IsRestricted}
use Rattle.value_refine.specs.declared.interval.Interval.{Interval}
use Rattle.value_refine.specs.declared.region.Region.{Region}

-- the join of what is least of two kinds is least of both
pub least_of_either : (t : List ℕ) (first second : ℕ → Type 0) (a b v : Value) → IsLeast t first a → IsLeast t second b → IsJoin t a b v
    → IsLeast t (λ w. first w ⊎ second w) v
least_of_either t first second a b v one other join = record {
  over = join.over;
  each = record {
    words = λ w ra word address is. ⊎_elim (λ here. join.left.words w ra word address (one.each.words w ra word address here))
        (λ there. join.right.words w ra word address (other.each.words w ra word address there)) is;
  };
  least = λ u over each. join.least u over
      (one.least u over (record { words = λ w ra word address here. each.words w ra word address (inl here) }))
      (other.least u over (record { words = λ w ra word address there. each.words w ra word address (inr there) }));
}

-- each end of a value is the place of a word that it may have
pub least_place : (v : Value) (low high : ℕ) → IsValue v → AreEnds v low high → low < 2 ^ 32 → MayHave v (word_at low)
least_place (Words words) low high value ends fits = record { address = 0; fits = omega arith; has = ends.least }
least_place (Range lo hi) low high value ends fits =
    let at : place_of (word_at low) ≡ low = place_of-word_at low fits in
    record { address = 0; fits = omega arith; has = (omega (arith, ends), omega (arith, ends, value)) }
least_place Ret low high value ends fits = record { address = word_at low; fits = word_at_below low; has = refl }

-- a value may have the word at its upper end
pub greatest_place : (v : Value) (low high : ℕ) → IsValue v → AreEnds v low high → high < 2 ^ 32 → MayHave v (word_at high)
greatest_place (Words words) low high value ends fits = record { address = 0; fits = omega arith; has = ends.greatest }
greatest_place (Range lo hi) low high value ends fits =
    let at : place_of (word_at high) ≡ high = place_of-word_at high fits in
    record { address = 0; fits = omega arith; has = (omega (arith, ends, value), omega (arith, ends)) }
greatest_place Ret low high value ends fits = record { address = word_at high; fits = word_at_below high; has = refl }

-- of the first words of a list those of a kind were chosen
pub record IsChosen (kind : ℕ → Type 0) (words kept : List ℕ) (i : ℕ) : Type 0 where
  pub listed : (w : ℕ) → Contains kept w → Contains words w
  pub fit : (w : ℕ) → Contains kept w → kind w
  pub all : (k d : ℕ) → k < i → kind (get_or words k d) → Contains kept (get_or words k d)

pub chosen_none : (kind : ℕ → Type 0) (words : List ℕ) → IsChosen kind words [] 0
chosen_none kind words = record {
  listed = λ w has. absurd (omega (arith, has.1));
  fit = λ w has. absurd (omega (arith, has.1));
  all = λ k d below. absurd (omega arith);
}

-- one word more is kept
pub chosen_more : (kind : ℕ → Type 0) (words kept : List ℕ) (i : ℕ) → i < length words → kind (get_or words i 0) → IsChosen kind words kept i
    → IsChosen kind words (kept ++ get_or words i 0 ∷ []) (i + 1)
chosen_more kind words kept i within is chosen = record {
  listed = λ w has. ⊎_elim (λ old. chosen.listed w old) (λ same. subst (Contains words) same (Contains-get_or words i 0 within))
      (Contains-push_cases kept (get_or words i 0) w has);
  fit = λ w has. ⊎_elim (λ old. chosen.fit w old) (λ same. subst kind same is) (Contains-push_cases kept (get_or words i 0) w has);
  all = λ k d below kind_k.
      elim (cases_lt k i) [
        | inl old ↦ Contains-append_left kept (get_or words i 0 ∷ []) (get_or words k d) (chosen.all k d old kind_k)
        | inr new ↦ let same : i ≡ k = omega arith in
            subst (λ (n : ℕ). Contains (kept ++ get_or words i 0 ∷ []) (get_or words n d)) same
            (subst (Contains (kept ++ get_or words i 0 ∷ [])) (get_or_default words i 0 d within) (Contains-push kept (get_or words i 0)))
      ];
}

-- one word more is left out
pub chosen_less : (kind : ℕ → Type 0) (words kept : List ℕ) (i : ℕ) → i < length words → (kind (get_or words i 0) → ⊥) → IsChosen kind words kept i
    → IsChosen kind words kept (i + 1)
chosen_less kind words kept i within isnt chosen = record {
  listed = chosen.listed;
  fit = chosen.fit;
  all = λ k d below kind_k.
      elim (cases_lt k i) [
        | inl old ↦ chosen.all k d old kind_k
        | inr new ↦ let same : k ≡ i = omega arith in
            let here : kind (get_or words i d) = subst (λ (n : ℕ). kind (get_or words n d)) same kind_k in
            absurd (isnt (subst kind (get_or_default words i d 0 within) here))
      ];
}

pub chosen_all : (kind : ℕ → Type 0) (words kept : List ℕ) (i w : ℕ) → length words ≤ i → IsChosen kind words kept i
    → Contains kept w ↔ (Contains words w × kind w)
chosen_all kind words kept i w past chosen = (
  λ has. (chosen.listed w has, chosen.fit w has),
  λ both. subst (Contains kept) both.0.2
      (chosen.all both.0.0 w (omega (arith, both.0.1)) (subst kind (sym both.0.2) both.1)),
)

-- the same for what a call answers
pub answer_of_same : {E : Type 0} (t : List ℕ) (kind other : ℕ → Type 0) (r : Result (Option Value) E) → ((w : ℕ) → w < 2 ^ 32 → kind w → other w)
    → ((w : ℕ) → w < 2 ^ 32 → other w → kind w) → IfOk r (IsLeastOrNone t kind) → IfOk r (IsLeastOrNone t other)
answer_of_same t kind other r there back answer = IfOk-weaker r (IsLeastOrNone t kind) (IsLeastOrNone t other)
    (λ o. least_or_none_of_same t kind other o there back) answer

-- a range within a region is the region between its ends
pub restricted_range : (lo hi : ℤ) (region both : Region) (places : Interval) (w : ℕ) → AreEnds (Range lo hi) places.low places.high
    → IsInRegion both w ↔ (IsInRegion region w × IsIn places (place_of w)) → IsInRegion both w → IsRestricted (Range lo hi) region w
restricted_range lo hi region both places w ends is_both is =
    let parts = is_both.0 is in
    record { has = record { address = 0; fits = omega arith; has = (omega (arith, ends, parts.1), omega (arith, ends, parts.1)) }; within = parts.0 }
