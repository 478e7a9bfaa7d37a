-- The words below a number that a test passes.
use Rattle.std.proofs.Common.{◌≡◌, ℕ, ◌+◌, ◌^◌, ◌<◌, Bool, true, eqb, List, length, get_or, ap, ◌∙◌, arith, All, Contains, filter}
use Rattle.std.proofs.lemmas.Bool.{and_from, eqb-true, lt-ltb, ltb-true}
use Rattle.std.proofs.lemmas.Bool.Decides.{Decides-eqb}
use Rattle.std.proofs.lemmas.List.Elements.{Contains-get_or, All-contains, All-filter, All-from_get_or, filter_passes}
use Rattle.std.proofs.lemmas.List.FromFn.{length-range_with_len, get_or-range_with_len}
use Rattle.std.proofs.lemmas.List.Kept.{IsStrictlyIncreasing-filter}
use Rattle.std.proofs.lemmas.Map.Made.{is_member-filter, is_member-Decides}
use Rattle.std.specs.Cmp.{nat_eq_equiv}
use Rattle.std.specs.List.{range_with_len}
use Rattle.std.specs.List.Sorted.{IsStrictlyIncreasing}
use Rattle.std.specs.Set.{is_member}
use Rattle.value_lattice.specs.Passing.{words_below, passes_some}

numbers_fit : (n : ℕ) → All (λ v. v < n) (range_with_len 0 n)
numbers_fit n =
    All-from_get_or (λ v. v < n) (range_with_len 0 n) 0
    (λ i within. let inside : i < n = omega (arith, within, length-range_with_len 0 n) in omega (arith, inside, get_or-range_with_len 0 n i 0 inside))

numbers_rise : (n : ℕ) → IsStrictlyIncreasing (range_with_len 0 n)
numbers_rise n k within =
    let inside : k + 1 < n = omega (arith, within, length-range_with_len 0 n) in
    omega (arith, get_or-range_with_len 0 n k 0 (omega arith), get_or-range_with_len 0 n (k + 1) 0 inside)

is_number : (n w : ℕ) → w < n → Contains (range_with_len 0 n) w
is_number n w inside = (w, omega (arith, inside, length-range_with_len 0 n), get_or-range_with_len 0 n w w inside ∙ omega arith)

-- what a filter keeps
is_kept : (test : ℕ → Bool) (xs : List ℕ) (w : ℕ) → Contains xs w → test w ≡ true → Contains (filter test xs) w
is_kept test xs w has passes =
    let member : is_member eqb xs w ≡ true = (is_member-Decides Decides-eqb xs w).1 has in
    let kept : is_member eqb (filter test xs) w ≡ true =
    is_member-filter nat_eq_equiv test w (λ x same. ap test (eqb-true w x same)) xs ∙ and_from (is_member eqb xs w) (test w) member passes in
    (is_member-Decides Decides-eqb (filter test xs) w).0 kept

-- the words of a test rise
pub words_rise : (n : ℕ) (test : ℕ → Bool) → IsStrictlyIncreasing (words_below n test)
unfolding words_below
words_rise n test = IsStrictlyIncreasing-filter test (range_with_len 0 n) (numbers_rise n)

-- the words below a number are below it
pub words_fit : (n : ℕ) (test : ℕ → Bool) → All (λ w. w < n) (words_below n test)
unfolding words_below
words_fit n test = All-filter test (λ v. v < n) (range_with_len 0 n) (numbers_fit n)

-- the words of a test pass it
pub words_pass : (n : ℕ) (test : ℕ → Bool) (w : ℕ) → Contains (words_below n test) w → test w ≡ true
unfolding words_below
words_pass n test w has = All-contains (λ v. test v ≡ true) (filter test (range_with_len 0 n)) w (filter_passes test (range_with_len 0 n)) has

-- what passes a test is among its words
pub passing_is_there : (n : ℕ) (test : ℕ → Bool) (w : ℕ) → w < n → test w ≡ true → Contains (words_below n test) w
unfolding words_below
passing_is_there n test w inside passes = is_kept test (range_with_len 0 n) w (is_number n w inside) passes

-- a word that a test passes
pub record IsPassed (test : ℕ → Bool) : Type 0 where
  pub word : ℕ
  pub fits : word < 2 ^ 32
  pub passes : test word ≡ true

-- a test that passes some word has one that passes
pub passed : (test : ℕ → Bool) → passes_some test ≡ true → IsPassed test
unfolding passes_some
passed test some =
    let longer : 0 < length (words_below (2 ^ 32) test) = ltb-true 0 (length (words_below (2 ^ 32) test)) some in
    let first : Contains (words_below (2 ^ 32) test) (get_or (words_below (2 ^ 32) test) 0 0) = Contains-get_or (words_below (2 ^ 32) test) 0 0 longer in
    record {
      word = get_or (words_below (2 ^ 32) test) 0 0;
      fits = All-contains (λ w. w < 2 ^ 32) (words_below (2 ^ 32) test) (get_or (words_below (2 ^ 32) test) 0 0) (words_fit (2 ^ 32) test) first;
      passes = words_pass (2 ^ 32) test (get_or (words_below (2 ^ 32) test) 0 0) first;
    }

-- a word that passes shows that some does
pub passes_from : (test : ℕ → Bool) (w : ℕ) → w < 2 ^ 32 → test w ≡ true → passes_some test ≡ true
unfolding passes_some
passes_from test w word passes =
    let there : Contains (words_below (2 ^ 32) test) w = passing_is_there (2 ^ 32) test w word passes in
    lt-ltb 0 (length (words_below (2 ^ 32) test)) (omega (arith, there.1))
