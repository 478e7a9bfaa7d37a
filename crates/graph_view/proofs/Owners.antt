-- What is of keys that rise is by rising subprograms.
use Rattle.std.proofs.Common.{◌≡◌, ℕ, zero, suc, ◌<◌, ◌≤◌, List, [], ◌∷◌, ◌++◌, length, get_or, refl, ap, sym, subst, arith}
use Rattle.std.specs.Cmp.{ranks}
use Rattle.std.specs.List.{flat_map, AllByRecursion}
use Rattle.std.specs.List.Sorted.{IsNonDecreasingBy, IsStrictlySortedBy}
use Rattle.std.specs.Ordering.{nat_cmp, ordering_then, MatchOrdering}
use Rattle.std.specs.declared.cmp.Ordering.{Ordering}
use Rattle.std.specs.declared.cmp.Ordering.TheVariants.{Less, Equal, Greater}
use Rattle.abs_state.specs.Key.{compare}
use Rattle.abs_state.specs.declared.key.Key.{Key}
use Rattle.abs_state.specs.declared.key.Key.TheVariants.{Node, Edge, Call, Summary, Gap}
use Rattle.graph_view.specs.Laws.{AreOwned, KeysAreOwned}
use Rattle.graph_view.specs.Lists.{place_in, step_in, calling_in, open_in, AreOfKeys}
use Rattle.graph_view.specs.Subs.{place_sub, step_sub, calling_sub, open_sub, AreByOwner}
use Rattle.graph_view.specs.declared.lists.KeyLists.{KeyLists}

-- lists by rising numbers, for recursion

abbrev Floor : {X : Type 0} → (X → ℕ) → ℕ → List X → Type 0
Floor owner n [] = Unit {0}
Floor owner n (y ∷ ys) = (n ≤ owner y) × Floor owner n ys

abbrev Climbs : {X : Type 0} → (X → ℕ) → List X → Type 0
Climbs owner [] = Unit {0}
Climbs owner (x ∷ xs) = Floor owner (owner x) xs × Climbs owner xs

-- each of some has all of others at or above it
abbrev Under : {X : Type 0} → (X → ℕ) → List X → List X → Type 0
Under owner [] ys = Unit {0}
Under owner (x ∷ xs) ys = Floor owner (owner x) ys × Under owner xs ys

floor_at : {X : Type 0} (owner : X → ℕ) (n : ℕ) (xs : List X) → Floor owner n xs → (k : ℕ) (d : X) → k < length xs → n ≤ owner (get_or xs k d)
floor_at owner n [] floor k d less = absurd (omega (arith, less))
floor_at owner n (y ∷ ys) floor zero d less = floor.0
floor_at owner n (y ∷ ys) floor (suc k) d less = floor_at owner n ys floor.1 k d (omega (arith, less))

climbs_at : {X : Type 0} (owner : X → ℕ) (xs : List X) → Climbs owner xs → IsNonDecreasingBy owner xs
climbs_at owner [] up i j d low less = absurd (omega (arith, less))
climbs_at owner (x ∷ xs) up zero zero d low less = omega arith
climbs_at owner (x ∷ xs) up zero (suc j) d low less = floor_at owner (owner x) xs up.0 j d (omega (arith, less))
climbs_at owner (x ∷ xs) up (suc i) zero d low less = absurd (omega (arith, low))
climbs_at owner (x ∷ xs) up (suc i) (suc j) d low less = climbs_at owner xs up.1 i j d (omega (arith, low)) (omega (arith, less))

floor-append : {X : Type 0} (owner : X → ℕ) (n : ℕ) (xs ys : List X) → Floor owner n xs → Floor owner n ys → Floor owner n (xs ++ ys)
floor-append owner n [] ys one other = other
floor-append owner n (x ∷ xs) ys one other = (one.0, floor-append owner n xs ys one.1 other)

climbs-append : {X : Type 0} (owner : X → ℕ) (xs ys : List X) → Climbs owner xs → Climbs owner ys → Under owner xs ys → Climbs owner (xs ++ ys)
climbs-append owner [] ys one other under = other
climbs-append owner (x ∷ xs) ys one other under =
    (floor-append owner (owner x) xs ys one.0 under.0, climbs-append owner xs ys one.1 other under.1)

under-append : {X : Type 0} (owner : X → ℕ) (xs ys zs : List X) → Under owner xs ys → Under owner xs zs → Under owner xs (ys ++ zs)
under-append owner [] ys zs one other = tt
under-append owner (x ∷ xs) ys zs one other =
    (floor-append owner (owner x) ys zs one.0 other.0, under-append owner xs ys zs one.1 other.1)

under_none : {X : Type 0} (owner : X → ℕ) (xs : List X) → Under owner xs []
under_none owner [] = tt
under_none owner (x ∷ xs) = (tt, under_none owner xs)

-- what the keys behind a key have is at or above what it has
under_all : {X : Type 0} (owner : X → ℕ) (f : Key → List X) → ((k l : Key) → compare k l ≡ Less → Under owner (f k) (f l)) → (k : Key) (keys : List Key)
    → AllByRecursion (λ l. compare k l ≡ Less) keys → Under owner (f k) (flat_map f keys)
under_all owner f down k [] later = under_none owner (f k)
under_all owner f down k (l ∷ ls) later =
    under-append owner (f k) (f l) (flat_map f ls) (down k l later.0) (under_all owner f down k ls later.1)

climbs_all : {X : Type 0} (owner : X → ℕ) (f : Key → List X) → ((k l : Key) → compare k l ≡ Less → Under owner (f k) (f l))
    → ((k : Key) → Climbs owner (f k)) → (keys : List Key) → IsStrictlySortedBy compare keys → Climbs owner (flat_map f keys)
unfolding IsStrictlySortedBy
climbs_all owner f down own [] rise = tt
climbs_all owner f down own (k ∷ ks) rise =
    climbs-append owner (f k) (flat_map f ks) (own k) (climbs_all owner f down own ks rise.1) (under_all owner f down k ks rise.0)

-- what comes first in an order decides

not_greater : (a b : Ordering) → ordering_then a b ≡ Less → a ≡ Greater → ⊥
not_greater Less b less wrong = cc
not_greater Equal b less wrong = cc
not_greater Greater b less wrong = let both : Greater ≡ Less = less in cc

at_most_by : (x y : ℕ) (r : Ordering) → MatchOrdering r (x < y) (x ≡ y) (y < x) → (r ≡ Greater → ⊥) → x ≤ y
at_most_by x y Less holds other = omega (arith, holds)
at_most_by x y Equal holds other = omega (arith, holds)
at_most_by x y Greater holds other = absurd (other refl)

at_most : (x y : ℕ) → (nat_cmp x y ≡ Greater → ⊥) → x ≤ y
at_most x y other = at_most_by x y (nat_cmp x y) (ranks x y) other

first_of_one : (x y : ℕ) (b : Ordering) → ordering_then (nat_cmp x y) b ≡ Less → x ≤ y
first_of_one x y b less = at_most x y (not_greater (nat_cmp x y) b less)

first_of_two : (x y : ℕ) (b c : Ordering) → ordering_then (ordering_then (nat_cmp x y) b) c ≡ Less → x ≤ y
first_of_two x y b c less =
    at_most x y (λ (wrong : nat_cmp x y ≡ Greater). not_greater (ordering_then (nat_cmp x y) b) c less (ap (λ o. ordering_then o b) wrong))

-- each kind of key

place_down : (k l : Key) → compare k l ≡ Less → Under place_sub (place_in k) (place_in l)
place_down (Node p) (Node q) less = ((first_of_one p.sub q.sub _ less, tt), tt)
place_down (Node p) (Edge from to) less = (tt, tt)
place_down (Node p) (Call from callee) less = (tt, tt)
place_down (Node p) (Summary sub) less = (tt, tt)
place_down (Node p) (Gap sub pc why) less = (tt, tt)
place_down (Edge from to) l less = tt
place_down (Call from callee) l less = tt
place_down (Summary sub) l less = tt
place_down (Gap sub pc why) l less = tt

place_own : (k : Key) → Climbs place_sub (place_in k)
place_own (Node p) = (tt, tt)
place_own (Edge from to) = tt
place_own (Call from callee) = tt
place_own (Summary sub) = tt
place_own (Gap sub pc why) = tt

step_down : (k l : Key) → compare k l ≡ Less → Under step_sub (step_in k) (step_in l)
step_down (Edge p q) (Edge r s) less = ((first_of_two p.sub r.sub _ _ less, tt), tt)
step_down (Edge p q) (Node r) less = (tt, tt)
step_down (Edge p q) (Call from callee) less = (tt, tt)
step_down (Edge p q) (Summary sub) less = (tt, tt)
step_down (Edge p q) (Gap sub pc why) less = (tt, tt)
step_down (Node p) l less = tt
step_down (Call from callee) l less = tt
step_down (Summary sub) l less = tt
step_down (Gap sub pc why) l less = tt

step_own : (k : Key) → Climbs step_sub (step_in k)
step_own (Node p) = tt
step_own (Edge from to) = (tt, tt)
step_own (Call from callee) = tt
step_own (Summary sub) = tt
step_own (Gap sub pc why) = tt

calling_down : (k l : Key) → compare k l ≡ Less → Under calling_sub (calling_in k) (calling_in l)
calling_down (Call p s) (Call q t) less = ((first_of_two p.sub q.sub _ _ less, tt), tt)
calling_down (Call p s) (Node r) less = (tt, tt)
calling_down (Call p s) (Edge from to) less = (tt, tt)
calling_down (Call p s) (Summary sub) less = (tt, tt)
calling_down (Call p s) (Gap sub pc why) less = (tt, tt)
calling_down (Node p) l less = tt
calling_down (Edge from to) l less = tt
calling_down (Summary sub) l less = tt
calling_down (Gap sub pc why) l less = tt

calling_own : (k : Key) → Climbs calling_sub (calling_in k)
calling_own (Node p) = tt
calling_own (Edge from to) = tt
calling_own (Call from callee) = (tt, tt)
calling_own (Summary sub) = tt
calling_own (Gap sub pc why) = tt

open_down : (k l : Key) → compare k l ≡ Less → Under open_sub (open_in k) (open_in l)
open_down (Gap s p v) (Gap t q w) less = ((first_of_one s t _ less, tt), tt)
open_down (Gap s p v) (Node r) less = (tt, tt)
open_down (Gap s p v) (Edge from to) less = (tt, tt)
open_down (Gap s p v) (Call from callee) less = (tt, tt)
open_down (Gap s p v) (Summary sub) less = (tt, tt)
open_down (Node p) l less = tt
open_down (Edge from to) l less = tt
open_down (Call from callee) l less = tt
open_down (Summary sub) l less = tt

open_own : (k : Key) → Climbs open_sub (open_in k)
open_own (Node p) = tt
open_own (Edge from to) = tt
open_own (Call from callee) = tt
open_own (Summary sub) = tt
open_own (Gap sub pc why) = (tt, tt)

-- what is of keys that rise is by rising subprograms
pub keys_are_owned : KeysAreOwned
keys_are_owned keys rise = record {
  places = climbs_at place_sub (flat_map place_in keys) (climbs_all place_sub place_in place_down place_own keys rise);
  steps = climbs_at step_sub (flat_map step_in keys) (climbs_all step_sub step_in step_down step_own keys rise);
  callings = climbs_at calling_sub (flat_map calling_in keys) (climbs_all calling_sub calling_in calling_down calling_own keys rise);
  opens = climbs_at open_sub (flat_map open_in keys) (climbs_all open_sub open_in open_down open_own keys rise);
}

-- so are the lists of these keys
pub by_owner_from : (keys : List Key) (lists : KeyLists) → IsStrictlySortedBy compare keys → AreOfKeys keys lists → AreByOwner lists
by_owner_from keys lists rise are =
    let owned : AreOwned keys = keys_are_owned keys rise in record {
      places = subst (λ list. IsNonDecreasingBy place_sub list) (sym are.places) owned.places;
      steps = subst (λ list. IsNonDecreasingBy step_sub list) (sym are.steps) owned.steps;
      callings = subst (λ list. IsNonDecreasingBy calling_sub list) (sym are.callings) owned.callings;
      opens = subst (λ list. IsNonDecreasingBy open_sub list) (sym are.opens) owned.opens;
    }
