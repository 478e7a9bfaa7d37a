-- The thresholds of a context: they are more than those of the program, the rules over them are lawful, and its arguments are
-- over them.
use Rattle.std.proofs.Common.{◌≡◌, ℕ, ◌^◌, ◌<◌, true, eqb, ℤ, List, [], ◌∷◌, ◌++◌, Contains, inl, inr, refl, arith}
use Rattle.std.specs.Prelude.{map}
use Rattle.std.specs.List.{flat_map, list_all}
use Rattle.std.specs.Set.{is_member}
use Rattle.std.proofs.lemmas.Bool.{and_from, and_parts, false≢true, or_cases, or_left, or_right}
use Rattle.std.proofs.lemmas.List.Elements.{All-contains}
use Rattle.context_facts.specs.Context.{AreLawful}
use Rattle.context_outcomes.specs.Arguments.{numbers_in, thresholds_with}
use Rattle.context_outcomes.specs.Setting.{Setting, program_of}
use Rattle.transfer_acts.proofs.Depths.{programs_are_lawful}
use Rattle.transfer_rules.specs.Lawful.{IsLawfulFamily}
use Rattle.transfer_values.proofs.LawLemmas.{families_are_lawful}
use Rattle.transfer_values.specs.Family.{family}
use Rattle.transfer_values.specs.Resolve.{widest}
use Rattle.value_lattice.proofs.TestLemmas.{member_decides, value_decides}
use Rattle.value_lattice.proofs.ValueLemmas.{rank_below}
use Rattle.value_lattice.proofs.WordsBelowLemmas.{passing_is_there, words_fit, words_rise}
use Rattle.value_lattice.specs.Laws.{AreMore}
use Rattle.value_lattice.specs.Order.{rank_of}
use Rattle.value_lattice.specs.Passing.{words_below}
use Rattle.value_lattice.specs.Test.{has_ends_in, is_over, is_value}
use Rattle.value_lattice.specs.Thresholds.{IsThresholds, is_widened, widen}
use Rattle.value_lattice.specs.Value.{IsValue}
use Rattle.value_lattice.specs.declared.value.Value.{Value}
use Rattle.value_lattice.specs.declared.value.Value.TheVariants.{Words, Range, Ret}

-- thresholds to which numbers are added stay
keeps_old : (old : List ℕ) (list : List ℤ) → IsThresholds old → (k : ℕ) → Contains old k → Contains (widen old list) k
unfolding widen
keeps_old old list is k there =
    passing_is_there (2 ^ 32) (is_widened old list) k (All-contains (λ v. v < 2 ^ 32) old k is.places there)
    (or_left (is_member eqb old k) (is_member eqb (map rank_of list) k) ((member_decides old k).1 there))

-- and are thresholds
widened_are : (old : List ℕ) (list : List ℤ) → IsThresholds old → IsThresholds (widen old list)
unfolding widen
widened_are old list is = record {
  rising = words_rise (2 ^ 32) (is_widened old list);
  places = words_fit (2 ^ 32) (is_widened old list);
  least = keeps_old old list is 0 is.least;
  greatest = keeps_old old list is 4294967295 is.greatest;
}

-- the place of a number that is added is one of them
adds_new : (old : List ℕ) (list : List ℤ) (k : ℕ) → k < 2 ^ 32 → is_member eqb (map rank_of list) k ≡ true → is_member eqb (widen old list) k ≡ true
unfolding widen
adds_new old list k fits there =
    (member_decides (words_below (2 ^ 32) (is_widened old list)) k).1
    (passing_is_there (2 ^ 32) (is_widened old list) k fits (or_right (is_member eqb old k) (is_member eqb (map rank_of list) k) there))

-- a place among those of numbers stays where others stand behind them
place_front : (xs ys : List ℤ) (k : ℕ) → is_member eqb (map rank_of xs) k ≡ true → is_member eqb (map rank_of (xs ++ ys)) k ≡ true
place_front [] ys k there = absurd (false≢true there)
place_front (x ∷ xs) ys k there = elim (or_cases (eqb k (rank_of x)) (is_member eqb (map rank_of xs) k) there) [
  | inl here ↦ or_left (eqb k (rank_of x)) (is_member eqb (map rank_of (xs ++ ys)) k) here
  | inr later ↦ or_right (eqb k (rank_of x)) (is_member eqb (map rank_of (xs ++ ys)) k) (place_front xs ys k later)
]

-- and so it does where they stand before them
place_back : (xs ys : List ℤ) (k : ℕ) → is_member eqb (map rank_of ys) k ≡ true → is_member eqb (map rank_of (xs ++ ys)) k ≡ true
place_back [] ys k there = there
place_back (x ∷ xs) ys k there =
    or_right (eqb k (rank_of x)) (is_member eqb (map rank_of (xs ++ ys)) k) (place_back xs ys k there)

-- a place is among those of numbers
abbrev IsPlaced : List ℤ → ℕ → Type 0
IsPlaced list k = is_member eqb (map rank_of list) k ≡ true

-- a value is over thresholds to which its numbers are added
one_over : (old : List ℕ) (list : List ℤ) (v : Value) → ((k : ℕ) → IsPlaced (numbers_in v) k → IsPlaced list k) → is_value v ≡ true
    → is_over (widen old list) v ≡ true
unfolding is_over
one_over old list (Words ws) placed is = and_from (is_value (Words ws)) true is refl
one_over old list (Range lo hi) placed is =
    let value : IsValue (Range lo hi) = (value_decides (Range lo hi)).0 is in
    and_from (is_value (Range lo hi)) (has_ends_in (widen old list) (Range lo hi)) is
    (and_from (is_member eqb (widen old list) (rank_of lo)) (is_member eqb (widen old list) (rank_of hi))
    (adds_new old list (rank_of lo) (rank_below lo value.0) (placed (rank_of lo) (first lo hi)))
    (adds_new old list (rank_of hi) (rank_below hi value.1) (placed (rank_of hi) (second lo hi))))
  where
    first : (lo hi : ℤ) → IsPlaced (lo ∷ hi ∷ []) (rank_of lo)
    first lo hi = (member_decides (rank_of lo ∷ rank_of hi ∷ []) (rank_of lo)).1 (0, omega arith, refl)

    second : (lo hi : ℤ) → IsPlaced (lo ∷ hi ∷ []) (rank_of hi)
    second lo hi = (member_decides (rank_of lo ∷ rank_of hi ∷ []) (rank_of hi)).1 (1, omega arith, refl)
one_over old list Ret placed is = and_from (is_value Ret) true is refl

-- so are values, each
all_over : (old : List ℕ) (list : List ℤ) (vs : List Value) → ((k : ℕ) → IsPlaced (flat_map numbers_in vs) k → IsPlaced list k)
    → list_all is_value vs ≡ true → list_all (is_over (widen old list)) vs ≡ true
all_over old list [] placed are = refl
all_over old list (v ∷ vs) placed are =
    let parts = and_parts (is_value v) (list_all is_value vs) are in
    and_from (is_over (widen old list) v) (list_all (is_over (widen old list)) vs)
    (one_over old list v (λ k there. placed k (place_front (numbers_in v) (flat_map numbers_in vs) k there)) parts.0)
    (all_over old list vs (λ k there. placed k (place_back (numbers_in v) (flat_map numbers_in vs) k there)) parts.1)

-- the arguments of a context are over its thresholds
pub arguments_over : (S : Setting) (args : List Value) → list_all is_value args ≡ true → list_all (is_over (thresholds_with S args)) args ≡ true
arguments_over S args are = all_over S.thresholds (flat_map numbers_in args) args (λ k there. there) are

-- its thresholds are some
pub wide : (S : Setting) (args : List Value) → IsThresholds S.thresholds → IsThresholds (thresholds_with S args)
wide S args is = widened_are S.thresholds (flat_map numbers_in args) is

-- and more than those of the program
pub more : (S : Setting) (args : List Value) → IsThresholds S.thresholds → AreMore S.thresholds (thresholds_with S args)
more S args is = record { thresholds = keeps_old S.thresholds (flat_map numbers_in args) is }

-- the functions over the thresholds of the program are lawful
pub coarse : (S : Setting) → IsThresholds S.thresholds → IsLawfulFamily S.thresholds (program_of S).widest (family S.thresholds S.image S.binding)
coarse S is = families_are_lawful.lawful S.thresholds S.image S.binding is

-- and those over the thresholds of a context give no more
pub lawful : (S : Setting) (args : List Value) → IsThresholds S.thresholds
    → AreLawful S.thresholds (thresholds_with S args) (family S.thresholds S.image S.binding) (family (thresholds_with S args) S.image S.binding) (program_of S)
lawful S args is = record {
  coarse = coarse S is;
  fine = families_are_lawful.lawful (thresholds_with S args) S.image S.binding (wide S args is);
  finer = families_are_lawful.finer S.thresholds (thresholds_with S args) S.image S.binding is (wide S args is) (more S args is);
  program = programs_are_lawful S.image S.binding S.eight (widest S.image S.binding);
}
