-- Subprograms that return are listed by rising entries, since the keys of what is said of them rise.
use Rattle.std.proofs.Common.{◌≡◌, ℕ, Bool, true, false, List, [], ◌∷◌, ◌++◌, ◌||◌, cond, Option, Some, None}
use Rattle.std.proofs.lemmas.Map.Keys.{IsStrictlyIncreasing-from_sorted}
use Rattle.std.specs.List.{flat_map, AllByRecursion}
use Rattle.std.specs.List.Sorted.{IsStrictlyIncreasing, IsStrictlySortedBy}
use Rattle.std.specs.Ordering.{nat_cmp}
use Rattle.std.specs.declared.cmp.Ordering.TheVariants.{Less}
use Rattle.abs_state.specs.Key.{compare}
use Rattle.abs_state.specs.declared.key.Key.{Key}
use Rattle.abs_state.specs.declared.key.Key.TheVariants.{Node, Edge, Call, Summary, Gap}
use Rattle.bound_task.specs.Returning.{returning_at, returning_by}
use Rattle.transfer_rules.specs.declared.fact.Fact.{Fact}
use Rattle.transfer_rules.specs.declared.fact.Fact.TheVariants as fact

-- each of a list is above a number
abbrev Above : ℕ → List ℕ → Type 0
Above n list = AllByRecursion (λ m. nat_cmp n m ≡ Less) list

above-append : (n : ℕ) (xs ys : List ℕ) → Above n xs → Above n ys → Above n (xs ++ ys)
above-append n [] ys one other = other
above-append n (x ∷ xs) ys one other = (one.0, above-append n xs ys one.1 other)

one_or_none : (n sub : ℕ) (b : Bool) → nat_cmp n sub ≡ Less → Above n (cond b (sub ∷ []) [])
one_or_none n sub true less = (less, tt)
one_or_none n sub false less = tt

above_by : (n sub : ℕ) (o : Option Fact) → nat_cmp n sub ≡ Less → Above n (returning_by sub o)
above_by n sub None less = tt
above_by n sub (Some (fact.State s)) less = tt
above_by n sub (Some (fact.Args a)) less = tt
above_by n sub (Some (fact.Sum e)) less = one_or_none n sub (e.returns || e.skips) less
above_by n sub (Some fact.Mark) less = tt

module _ (facts : Key → Option Fact) where
  above_at : (n : ℕ) (l : Key) → compare (Summary n) l ≡ Less → Above n (returning_at facts l)
  above_at n (Node p) less = tt
  above_at n (Edge from to) less = tt
  above_at n (Call from callee) less = tt
  above_at n (Summary sub) less = above_by n sub (facts (Summary sub)) less
  above_at n (Gap sub pc why) less = tt

  above_all : (n : ℕ) (keys : List Key) → AllByRecursion (λ l. compare (Summary n) l ≡ Less) keys → Above n (flat_map (returning_at facts) keys)
  above_all n [] less = tt
  above_all n (l ∷ ls) less = above-append n (returning_at facts l) (flat_map (returning_at facts) ls) (above_at n l less.0) (above_all n ls less.1)

  first_or_none : (sub : ℕ) (b : Bool) (rest : List ℕ) → Above sub rest → IsStrictlySortedBy nat_cmp rest → IsStrictlySortedBy nat_cmp (cond b (sub ∷ []) [] ++ rest)
  unfolding IsStrictlySortedBy
  first_or_none sub true rest above rise = (above, rise)
  first_or_none sub false rest above rise = rise

  first_by : (sub : ℕ) (o : Option Fact) (rest : List ℕ) → Above sub rest → IsStrictlySortedBy nat_cmp rest → IsStrictlySortedBy nat_cmp (returning_by sub o ++ rest)
  first_by sub None rest above rise = rise
  first_by sub (Some (fact.State s)) rest above rise = rise
  first_by sub (Some (fact.Args a)) rest above rise = rise
  first_by sub (Some (fact.Sum e)) rest above rise = first_or_none sub (e.returns || e.skips) rest above rise
  first_by sub (Some fact.Mark) rest above rise = rise

  rises : (keys : List Key) → IsStrictlySortedBy compare keys → IsStrictlySortedBy nat_cmp (flat_map (returning_at facts) keys)
  unfolding IsStrictlySortedBy
  rises [] rise = tt
  rises (Node p ∷ ks) rise = rises ks rise.1
  rises (Edge from to ∷ ks) rise = rises ks rise.1
  rises (Call from callee ∷ ks) rise = rises ks rise.1
  rises (Summary sub ∷ ks) rise =
      first_by sub (facts (Summary sub)) (flat_map (returning_at facts) ks) (above_all sub ks rise.0) (rises ks rise.1)
  rises (Gap sub pc why ∷ ks) rise = rises ks rise.1

  pub increases : (keys : List Key) → IsStrictlySortedBy compare keys → IsStrictlyIncreasing (flat_map (returning_at facts) keys)
  increases keys rise = IsStrictlyIncreasing-from_sorted (flat_map (returning_at facts) keys) (rises keys rise)
