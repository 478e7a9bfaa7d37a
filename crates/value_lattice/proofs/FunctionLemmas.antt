-- What covers a list, what spans two places and what joins two values: the functions are least, and fall with more thresholds.
use Rattle.std.proofs.Common.{◌≡◌, ℕ, ◌^◌, ◌<◌, ◌≤◌, ◌&&◌, Bool, true, false, eqb, List, [], ◌∷◌, length, get_or, Option, Some, None, cond, refl}
use Rattle.std.proofs.Common.{ap, subst, ⊎_elim, arith, Contains, nat_le}
use Rattle.std.proofs.lemmas.Bool.{false≢true, or_cases, or_left, or_right}
use Rattle.std.specs.Prelude.{ℤ, pos, negsuc}
use Rattle.std.specs.Set.{is_member}
use Rattle.value_lattice.specs.Laws.{AreMore}
use Rattle.value_lattice.specs.Least.{hull_of, value_of, least_of, top, or_top, cover, span, in_either, join, FunctionsAreLeast}
use Rattle.value_lattice.specs.Passing.{words_below}
use Rattle.value_lattice.specs.Order.{place_of, word_at, rank_of}
use Rattle.value_lattice.specs.Rounding.{IsRoundedDown, IsRoundedUp}
use Rattle.value_lattice.specs.Test.{is_placed, is_over, is_at_most, is_less, may_have}
use Rattle.value_lattice.specs.Thresholds.{IsThresholds}
use Rattle.value_lattice.specs.Value.{IsValue, IsOver, IsLeast, IsLeastOrNone, IsJoin, IsBetween, is_ret, is_some_ret}
use Rattle.value_lattice.specs.declared.value.Value.{Value}
use Rattle.value_lattice.specs.declared.value.Value.TheVariants.{Words, Range, Ret}
use Rattle.value_lattice.proofs.JoinLemmas.{join_flip, join_of_ret}
use Rattle.value_lattice.proofs.LeastLemmas.{least_exists}
use Rattle.value_lattice.proofs.MayLemmas.{one_set, HasOne, some_word_of, may_from_has, has_any, least_or_none_of_same, less_from_least}
use Rattle.value_lattice.proofs.OrderLemmas.{join_is_monotone}
use Rattle.value_lattice.proofs.SetLemmas.{place_of-word_at, word_at_below}
use Rattle.value_lattice.proofs.TestLemmas.{over_decides, may_have_decides, member_decides, placed_decides, ordered, at_most_from, less_decides}
use Rattle.value_lattice.proofs.ValueLemmas.{least_is_monotone, no_set_in_ret, no_range_in_ret, range_is_least, set_is_least, same_value}

-- what is least is one
pub least_value_is_one : (t : List ℕ) (kind : ℕ → Type 0) (v u : Value) → IsLeast t kind v → IsLeast t kind u → v ≡ u
least_value_is_one t kind v u one other = same_value v u one.over.value other.over.value (one.least u other.over other.each) (other.least v one.over one.each)

pub join_is_one : (t : List ℕ) (a b v u : Value) → IsJoin t a b v → IsJoin t a b u → v ≡ u
join_is_one t a b v u one other = same_value v u one.over.value other.over.value (one.least u other.over other.left other.right)
    (other.least v one.over one.left one.right)

or_top_is_least : (t : List ℕ) (kind : ℕ → Type 0) (r : Option Value) (w : ℕ) → IsLeastOrNone t kind r → w < 2 ^ 32 → kind w → IsLeast t kind (or_top r)
or_top_is_least t kind None w none word is = absurd (none w word is)
or_top_is_least t kind (Some v) w least word is = least

-- the least value of the words that a test passes, where the test decides a kind
pub least_of_kind : (t : List ℕ) (test : ℕ → Bool) (kind : ℕ → Type 0) → IsThresholds t → ((w : ℕ) → w < 2 ^ 32 → test w ≡ true → kind w)
    → ((w : ℕ) → w < 2 ^ 32 → kind w → test w ≡ true) → IsLeastOrNone t kind (least_of t test)
least_of_kind t test kind is there back = least_or_none_of_same t (λ w. test w ≡ true) kind (least_of t test) there back (least_exists t test is)

-- a list has all that it covers
pub cover_is_least : (t list : List ℕ) (w : ℕ) → IsThresholds t → w < 2 ^ 32 → Contains list w → IsLeast t (Contains list) (cover t list)
unfolding cover
cover_is_least t list w is word has =
    or_top_is_least t (Contains list) (least_of t (is_member eqb list)) w
    (least_of_kind t (is_member eqb list) (Contains list) is (λ v fits passes. (member_decides list v).0 passes)
    (λ v fits there. (member_decides list v).1 there)) word has

-- what spans two places is the least value with all words between them
pub span_is_least : (t : List ℕ) (low high : ℕ) → IsThresholds t → low ≤ high → low < 2 ^ 32 → IsLeast t (IsBetween low high) (span t low high)
unfolding span
span_is_least t low high is up fits =
    let at : place_of (word_at low) ≡ low = place_of-word_at low fits in
    or_top_is_least t (IsBetween low high) (least_of t (is_placed low high)) (word_at low)
    (least_of_kind t (is_placed low high) (IsBetween low high) is (λ v fits passes. (placed_decides low high v).0 passes)
    (λ v fits there. (placed_decides low high v).1 there)) (word_at_below low) (omega arith, omega arith)

-- any word, as what is between all places
exact_down : (t : List ℕ) → IsThresholds t → IsRoundedDown t 0 (rank_of (negsuc 2147483647))
exact_down t is = record { threshold = is.least; outward = omega arith; nearest = λ k has low. omega (arith, low) }

exact_up : (t : List ℕ) → IsThresholds t → IsRoundedUp t 4294967295 (rank_of (pos 2147483647))
exact_up t is = record { threshold = is.greatest; outward = omega arith; nearest = λ k has high. omega (arith, high) }

-- any word is the least value with all words
pub top_is_least : (t : List ℕ) → IsThresholds t → IsLeast t (IsBetween 0 4294967295) top
top_is_least t is = range_is_least t 0 4294967295 (negsuc 2147483647) (pos 2147483647) (omega arith) (omega arith) (record { sfits = omega arith })
    (record { sfits = omega arith }) (exact_down t is) (exact_up t is)

-- the join of two values other than the return address has the words of both
join_of_either : (t : List ℕ) (a b : Value) (w : ℕ) → IsThresholds t → (a ≡ Ret → ⊥) → (b ≡ Ret → ⊥) → w < 2 ^ 32 → in_either a b w ≡ true
    → IsJoin t a b (or_top (least_of t (in_either a b)))
join_of_either t a b w is not_a not_b word some = record {
  over = least.over;
  left = record {
    words = λ x ra xw address has. least.each.words x ra xw address
        (or_left (may_have a x) (may_have b x) ((may_have_decides a x xw).1 (may_from_has a x ra address has)));
  };
  right = record {
    words = λ x ra xw address has. least.each.words x ra xw address
        (or_right (may_have a x) (may_have b x) ((may_have_decides b x xw).1 (may_from_has b x ra address has)));
  };
  least = λ u over left right.
      least.least u over (record {
        words = λ x ra xw address passes.
            ⊎_elim (λ here. left.words x ra xw address (has_any a x ra not_a ((may_have_decides a x xw).0 here)))
            (λ there. right.words x ra xw address (has_any b x ra not_b ((may_have_decides b x xw).0 there)))
            (or_cases (may_have a x) (may_have b x) passes);
      });
} where
  least : IsLeast t (λ v. in_either a b v ≡ true) (or_top (least_of t (in_either a b)))
  least = or_top_is_least t (λ v. in_either a b v ≡ true) (least_of t (in_either a b)) w (least_exists t (in_either a b) is) word some

some_in_either : (t : List ℕ) (a b : Value) → IsThresholds t → IsOver t a → (a ≡ Ret → ⊥) → (b ≡ Ret → ⊥) → IsJoin t a b (or_top (least_of t (in_either a b)))
some_in_either t a b is over not_a not_b =
    let one : HasOne a = some_word_of a over.value in
    join_of_either t a b one.word is not_a not_b one.fits
    (or_left (may_have a one.word) (may_have b one.word) ((may_have_decides a one.word one.fits).1 (may_from_has a one.word one.word one.fits one.has)))

set_is_not_ret : (words : List ℕ) → Words words ≡ Ret → ⊥
set_is_not_ret words same = false≢true (ap is_ret same)

range_is_not_ret : (lo hi : ℤ) → Range lo hi ≡ Ret → ⊥
range_is_not_ret lo hi same = false≢true (ap is_ret same)

pub join_is_join : (t : List ℕ) (a b : Value) → IsThresholds t → IsOver t a → IsOver t b → IsJoin t a b (join t a b)
unfolding join
join_is_join t (Words xs) (Words ys) is a b = some_in_either t (Words xs) (Words ys) is a (set_is_not_ret xs) (set_is_not_ret ys)
join_is_join t (Words xs) (Range lo hi) is a b = some_in_either t (Words xs) (Range lo hi) is a (set_is_not_ret xs) (range_is_not_ret lo hi)
join_is_join t (Words xs) Ret is a b = join_flip t Ret (Words xs) top (join_of_ret t (Words xs) top (no_set_in_ret xs a.value) (top_is_least t is))
join_is_join t (Range lo hi) (Words ys) is a b = some_in_either t (Range lo hi) (Words ys) is a (range_is_not_ret lo hi) (set_is_not_ret ys)
join_is_join t (Range lo hi) (Range first last) is a b = some_in_either t (Range lo hi) (Range first last) is a (range_is_not_ret lo hi)
    (range_is_not_ret first last)
join_is_join t (Range lo hi) Ret is a b = join_flip t Ret (Range lo hi) top
    (join_of_ret t (Range lo hi) top (no_range_in_ret lo hi a.value) (top_is_least t is))
join_is_join t Ret (Words ys) is a b = join_of_ret t (Words ys) top (no_set_in_ret ys b.value) (top_is_least t is)
join_is_join t Ret (Range lo hi) is a b = join_of_ret t (Range lo hi) top (no_range_in_ret lo hi b.value) (top_is_least t is)
join_is_join t Ret Ret is a b = record {
  over = a;
  left = record { words = λ w ra word address has. has };
  right = record
      { words = λ w ra word address has. has };
  least = λ u over left right. left;
}

-- `cover`, `span` and `join` as functions of the thresholds and their arguments are the least values
pub functions_are_least : FunctionsAreLeast
functions_are_least = record {
  cover = cover_is_least;
  span = span_is_least;
  join = λ t a b is over_a over_b. join_is_join t a b is ((over_decides t a).0 over_a) ((over_decides t b).0 over_b);
}

-- the return address

hull_is_no_ret : (t words : List ℕ) (few : Bool) → is_ret (cond few (Words words) (hull_of t words)) ≡ false
hull_is_no_ret t words true = refl
hull_is_no_ret t words false = refl

value_is_no_ret : (t words : List ℕ) → is_some_ret (value_of t words) ≡ false
value_is_no_ret t [] = refl
value_is_no_ret t (w ∷ ws) = hull_is_no_ret t (w ∷ ws) (nat_le (length (w ∷ ws)) 128)

-- the least value of a test is never the return address
pub least_is_no_ret : (t : List ℕ) (test : ℕ → Bool) → is_some_ret (least_of t test) ≡ false
unfolding least_of
least_is_no_ret t test = value_is_no_ret t (words_below (2 ^ 32) test)

or_top_is_no_ret : (r : Option Value) → is_some_ret r ≡ false → is_ret (or_top r) ≡ false
or_top_is_no_ret None words = refl
or_top_is_no_ret (Some v) words = words

either_is_no_ret : (t : List ℕ) (test : ℕ → Bool) → is_ret (or_top (least_of t test)) ≡ false
either_is_no_ret t test = or_top_is_no_ret (least_of t test) (least_is_no_ret t test)

-- a join is the return address exactly where both values are
pub join_is_ret : (t : List ℕ) (a b : Value) → is_ret (join t a b) ≡ (is_ret a && is_ret b)
unfolding join
join_is_ret t (Words xs) (Words ys) = either_is_no_ret t (in_either (Words xs) (Words ys))
join_is_ret t (Words xs) (Range lo hi) = either_is_no_ret t (in_either (Words xs) (Range lo hi))
join_is_ret t (Words xs) Ret = refl
join_is_ret t (Range lo hi) (Words ys) = either_is_no_ret t (in_either (Range lo hi) (Words ys))
join_is_ret t (Range lo hi) (Range first last) = either_is_no_ret t (in_either (Range lo hi) (Range first last))
join_is_ret t (Range lo hi) Ret = refl
join_is_ret t Ret (Words ys) = refl
join_is_ret t Ret (Range lo hi) = refl
join_is_ret t Ret Ret = refl

-- the join, by tests

-- the join of values over thresholds is over them
pub join_over : (t : List ℕ) (a b : Value) → IsThresholds t → is_over t a ≡ true → is_over t b ≡ true → is_over t (join t a b) ≡ true
join_over t a b is over_a over_b = (over_decides t (join t a b)).1 (functions_are_least.join t a b is over_a over_b).over

-- the left value is at most the join
pub join_left : (t : List ℕ) (a b : Value) → IsThresholds t → is_over t a ≡ true → is_over t b ≡ true → is_at_most a (join t a b) ≡ true
join_left t a b is over_a over_b =
    let joined : IsJoin t a b (join t a b) = functions_are_least.join t a b is over_a over_b in
    at_most_from a (join t a b) ((over_decides t a).0 over_a).value joined.over.value joined.left

-- the right value is at most the join
pub join_right : (t : List ℕ) (a b : Value) → IsThresholds t → is_over t a ≡ true → is_over t b ≡ true → is_at_most b (join t a b) ≡ true
join_right t a b is over_a over_b =
    let joined : IsJoin t a b (join t a b) = functions_are_least.join t a b is over_a over_b in
    at_most_from b (join t a b) ((over_decides t b).0 over_b).value joined.over.value joined.right

-- the join is at most what both are at most
pub join_least : (t : List ℕ) (a b u : Value) → IsThresholds t → is_over t a ≡ true → is_over t b ≡ true → is_over t u ≡ true → is_at_most a u ≡ true
    → is_at_most b u ≡ true → is_at_most (join t a b) u ≡ true
join_least t a b u is over_a over_b over_u left right =
    let joined : IsJoin t a b (join t a b) = functions_are_least.join t a b is over_a over_b in
    let over : IsOver t u = (over_decides t u).0 over_u in
    at_most_from (join t a b) u joined.over.value over.value (joined.least u over (ordered a u left).up (ordered b u right).up)

-- over more thresholds

some_is_value : (t : List ℕ) (kind : ℕ → Type 0) (r : Option Value) (v : Value) → IsLeastOrNone t kind r → r ≡ Some v → IsValue v
some_is_value t kind r v least is = let found : IsLeast t kind v = subst (IsLeastOrNone t kind) is least in found.over.value

-- the least values of two kinds, over fewer and over more thresholds
pub is_less_from_least : (t more : List ℕ) (kind wider : ℕ → Type 0) (r s : Option Value) → AreMore t more → ((w : ℕ) → w < 2 ^ 32 → kind w → wider w)
    → IsLeastOrNone t wider r → IsLeastOrNone more kind s → is_less s r ≡ true
is_less_from_least t more kind wider r s in_more in_wider wide narrow =
    less_decides s r (λ v is. some_is_value more kind s v narrow is) (λ v is. some_is_value t wider r v wide is)
    (less_from_least t more kind wider r s in_more in_wider wide narrow)

-- a test that passes fewer words has a lesser value over more thresholds
pub least_of_falls : (t more : List ℕ) (narrow wide : ℕ → Bool) → IsThresholds t → IsThresholds more → AreMore t more
    → ((w : ℕ) → w < 2 ^ 32 → narrow w ≡ true → wide w ≡ true) → is_less (least_of more narrow) (least_of t wide) ≡ true
least_of_falls t more narrow wide is is_more in_more in_wide =
    is_less_from_least t more (λ w. narrow w ≡ true) (λ w. wide w ≡ true) (least_of t wide) (least_of more narrow) in_more in_wide (least_exists t wide is)
    (least_exists more narrow is_more)

falls : (t more : List ℕ) (kind wider : ℕ → Type 0) (v u : Value) → AreMore t more → ((w : ℕ) → w < 2 ^ 32 → kind w → wider w) → IsLeast more kind v
    → IsLeast t wider u → is_at_most v u ≡ true
falls t more kind wider v u in_more in_wider narrow wide = at_most_from v u narrow.over.value wide.over.value
    (least_is_monotone t more kind wider v u in_more.thresholds in_wider narrow wide)

-- a part of a list over more thresholds has a lesser cover
pub cover_falls : (t more list wider : List ℕ) (w : ℕ) → IsThresholds t → IsThresholds more → AreMore t more → w < 2 ^ 32 → Contains list w
    → ((v : ℕ) → Contains list v → Contains wider v) → is_at_most (cover more list) (cover t wider) ≡ true
cover_falls t more list wider w is is_more in_more word has in_wider =
    falls t more (Contains list) (Contains wider) (cover more list) (cover t wider) in_more (λ v fits there. in_wider v there)
    (cover_is_least more list w is_more word has) (cover_is_least t wider w is word (in_wider w has))

-- places between others over more thresholds have a lesser span
pub span_falls : (t more : List ℕ) (low high lower higher : ℕ) → IsThresholds t → IsThresholds more → AreMore t more → low ≤ high → low < 2 ^ 32 → lower ≤ low
    → high ≤ higher → is_at_most (span more low high) (span t lower higher) ≡ true
span_falls t more low high lower higher is is_more in_more up fits down over =
    falls t more (IsBetween low high) (IsBetween lower higher) (span more low high) (span t lower higher) in_more
    (λ v word between. (omega (arith, between, down), omega (arith, between, over)))
    (span_is_least more low high is_more up fits) (span_is_least t lower higher is (omega arith) (omega arith))

-- lesser values over more thresholds have a lesser join
pub join_falls : (t more : List ℕ) (a b c d : Value) → IsThresholds t → IsThresholds more → AreMore t more → is_over t a ≡ true → is_over t b ≡ true
    → is_over more c ≡ true → is_over more d ≡ true → is_at_most c a ≡ true → is_at_most d b ≡ true → is_at_most (join more c d) (join t a b) ≡ true
join_falls t more a b c d is is_more in_more over_a over_b over_c over_d left right =
    let wide : IsJoin t a b (join t a b) = functions_are_least.join t a b is over_a over_b in
    let narrow : IsJoin more c d (join more c d) = functions_are_least.join more c d is_more over_c over_d in
    at_most_from (join more c d) (join t a b) narrow.over.value wide.over.value
    (join_is_monotone t more a b c d (join t a b) (join more c d) in_more (ordered c a left).up (ordered d b right).up wide narrow)

-- what is computed is what the functions give

-- what covers a list as the least value is what the function gives
pub is_cover : (t list : List ℕ) (w : ℕ) (v : Value) → IsThresholds t → w < 2 ^ 32 → Contains list w → IsLeast t (Contains list) v → v ≡ cover t list
is_cover t list w v is word has least = least_value_is_one t (Contains list) v (cover t list) least (cover_is_least t list w is word has)

-- a list of one word is covered by it
pub only_is_cover : (t list : List ℕ) → IsThresholds t → length list ≡ 1 → get_or list 0 0 < 2 ^ 32 → Words (get_or list 0 0 ∷ []) ≡ cover t list
only_is_cover t [] is one word = absurd (omega (arith, one))
only_is_cover t (x ∷ []) is one word = is_cover t (x ∷ []) x (Words (x ∷ [])) is word (0, omega arith, refl) (set_is_least t (x ∷ []) (one_set x word))
only_is_cover t (x ∷ y ∷ rest) is one word = absurd (omega (arith, one))

-- what is least between two places is what the function gives
pub is_span : (t : List ℕ) (low high : ℕ) (v : Value) → IsThresholds t → low ≤ high → low < 2 ^ 32 → IsLeast t (IsBetween low high) v → v ≡ span t low high
is_span t low high v is up fits least = least_value_is_one t (IsBetween low high) v (span t low high) least (span_is_least t low high is up fits)

-- what is a join is what the function gives
pub is_join : (t : List ℕ) (a b v : Value) → IsThresholds t → IsOver t a → IsOver t b → IsJoin t a b v → v ≡ join t a b
is_join t a b v is over_a over_b joined = join_is_one t a b v (join t a b) joined (join_is_join t a b is over_a over_b)
