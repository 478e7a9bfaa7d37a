-- What a step writes: it is over the thresholds, and of less, and over more thresholds, at most what it was.
use Rattle.std.proofs.Common.{◌≡◌, ℕ, suc, ◌^◌, ◌<◌, ◌&&◌, inl, inr, Bool, true, false, eqb, List, [], ◌∷◌, length, get_or, Option, Some, None}
use Rattle.std.proofs.Common.{Contains, refl, sym, ap, subst, ◌∙◌, arith, ⊎_elim}
use Rattle.std.specs.Prelude.{filter, int_le, if◌then◌else◌}
use Rattle.std.specs.Option.{option_map, option_and_then}
use Rattle.std.specs.Set.{is_member}
use Rattle.std.proofs.lemmas.Bool.{and_parts, true≢false}
use Rattle.std.proofs.lemmas.List.Elements.{All-contains, Contains-get_or}
use Rattle.bt_image.specs.Image.{word}
use Rattle.jump_resolve.proofs.TargetLemmas.{kept_by, kept_from, kept_passes}
use Rattle.value_lattice.proofs.FunctionLemmas.{cover_falls, least_of_falls}
use Rattle.value_lattice.proofs.LeastLemmas.{head_or_tail, least_exists}
use Rattle.value_lattice.proofs.MayLemmas.{one_set, least_has_some}
use Rattle.value_lattice.proofs.TestLemmas.{over_decides, ordered}
use Rattle.value_lattice.specs.Laws.{AreMore}
use Rattle.value_lattice.specs.Least.{top, or_top, least_of, cover, span}
use Rattle.value_lattice.specs.Order.{rank_of}
use Rattle.value_lattice.specs.Test.{is_over, is_over_or_none, is_at_most, is_less, is_value, is_inside, is_placed, AreOrdered}
use Rattle.value_lattice.specs.Thresholds.{IsThresholds}
use Rattle.value_lattice.specs.Value.{IsLeastOrNone}
use Rattle.value_lattice.specs.declared.value.Value.{Value}
use Rattle.value_lattice.specs.declared.value.Value.TheVariants.{Words, Range, Ret}
use Rattle.value_ops.proofs.ApplyLemmas.{apply_over, apply_falls}
use Rattle.value_ops.specs.Operation.{apply}
use Rattle.value_ops.specs.declared.op.Op.TheVariants.{Add}
use Rattle.abs_state.specs.State.{State, is_state_over, is_at_most as is_state_at_most}
use Rattle.abs_state.specs.declared.flags.Right.{Right}
use Rattle.abs_state.specs.declared.flags.Right.TheVariants.{Cell, Word}
use Rattle.transfer_rules.specs.declared.step.Source.{Source}
use Rattle.transfer_rules.specs.declared.step.Source.TheVariants.{Anything, Exactly, Ranged, Applied, Loaded}
use Rattle.transfer_values.specs.Source.{word_of, operand, is_aligned, words_at, covered, loaded_from, loaded, source_value}
use Rattle.transfer_values.proofs.PartLemmas.{top_over, same_value, under_top, cell_over, cell_up}

-- one word
pub word_over : (t : List ℕ) (n : ℕ) → is_over t (Words (word_of n ∷ [])) ≡ true
word_over t n = (over_decides t (Words (word_of n ∷ []))).1 (record { value = one_set (word_of n) (omega arith); ends = tt })

-- operands
pub operand_over : (t : List ℕ) (s : State) (r : Right) → IsThresholds t → is_state_over t s ≡ true → is_over t (operand s r) ≡ true
operand_over t s (Cell c) is fits = cell_over t s c is fits
operand_over t s (Word n) is fits = word_over t n

-- a greater state has greater operands
pub operand_up : (t : List ℕ) (a b : State) (r : Right) → IsThresholds t → is_state_at_most a b ≡ true → is_at_most (operand a r) (operand b r) ≡ true
operand_up t a b (Cell c) is up = cell_up t a b c is up
operand_up t a b (Word n) is up = same_value t (Words (word_of n ∷ [])) (word_over t n)

-- the least value of a test, or any word where no word passes it
or_over : (t : List ℕ) (kind : ℕ → Type 0) (r : Option Value) → IsThresholds t → IsLeastOrNone t kind r → is_over t (or_top r) ≡ true
or_over t kind None is none = top_over t is
or_over t kind (Some v) is least = (over_decides t v).1 least.over

pub test_over : (t : List ℕ) (test : ℕ → Bool) → IsThresholds t → is_over t (or_top (least_of t test)) ≡ true
test_over t test is = or_over t (λ w. test w ≡ true) (least_of t test) is (least_exists t test is)

or_falls : (t more : List ℕ) (kind : ℕ → Type 0) (s r : Option Value) → IsThresholds t → IsLeastOrNone more kind s → IsLeastOrNone t kind r
    → is_less s r ≡ true → is_at_most (or_top s) (or_top r) ≡ true
or_falls t more kind None None is none other less = same_value t top (top_over t is)
or_falls t more kind None (Some v) is none least less = absurd (least_has_some t kind v none least)
or_falls t more kind (Some u) None is least none less = absurd (true≢false (sym less))
or_falls t more kind (Some u) (Some v) is least other less = less

pub test_falls : (t more : List ℕ) (test : ℕ → Bool) → IsThresholds t → IsThresholds more → AreMore t more
    → is_at_most (or_top (least_of more test)) (or_top (least_of t test)) ≡ true
test_falls t more test is is_more in_more =
    or_falls t more (λ w. test w ≡ true) (least_of more test) (least_of t test) is (least_exists more test is_more) (least_exists t test is)
    (least_of_falls t more test test is is_more in_more (λ w fits passes. passes))

pub cover_over : (t list : List ℕ) → IsThresholds t → is_over t (cover t list) ≡ true
unfolding cover
cover_over t list is = test_over t (is_member eqb list) is

pub span_over : (t : List ℕ) (low high : ℕ) → IsThresholds t → is_over t (span t low high) ≡ true
unfolding span
span_over t low high is = test_over t (is_placed low high) is

pub same_span_falls : (t more : List ℕ) (low high : ℕ) → IsThresholds t → IsThresholds more → AreMore t more
    → is_at_most (span more low high) (span t low high) ≡ true
unfolding span
same_span_falls t more low high is is_more in_more = test_falls t more (is_placed low high) is is_more in_more

-- the words at addresses
pub record IsRead (image : List ℕ) (words : List ℕ) (a : ℕ) : Type 0 where
  pub read : ℕ
  pub stands : word image a ≡ Some read
  pub there : Contains words (word_of read)

later : (y : ℕ) (ys : List ℕ) (a : ℕ) → Contains ys a → Contains (y ∷ ys) a
later y ys a there = (suc there.0, omega (arith, there.1), there.2)

first : (y : ℕ) (ys : List ℕ) → Contains (y ∷ ys) y
first y ys = (0, omega arith, refl)

read_by : (image rest words : List ℕ) (b a : ℕ) (o : Option ℕ) (p : Option (List ℕ)) → word image b ≡ o
    → ((ws : List ℕ) → p ≡ Some ws → Contains rest a → IsRead image ws a)
    → option_and_then (λ w. option_map (λ ws. word_of w ∷ ws) p) o ≡ Some words → Contains (b ∷ rest) a → IsRead image words a
read_by image rest words b a None p here more is there = cc
read_by image rest words b a (Some w) None here more is there = cc
read_by image rest words b a (Some w) (Some ws) here more is there =
    let same : word_of w ∷ ws ≡ words = cc in
    elim (head_or_tail b rest a there) [
      | inl now ↦ (record {
        read = w;
        stands = ap (word image) now ∙ here;
        there = subst (λ (xs : List ℕ). Contains xs (word_of w)) same (first (word_of w) ws);
      })
      | inr after ↦
          (let r : IsRead image ws a = more ws refl after in
          record {
            read = r.read;
            stands = r.stands;
            there = subst (λ (xs : List ℕ). Contains xs (word_of r.read)) same (later (word_of w) ws (word_of r.read) r.there);
          })
    ]

-- words that are found at addresses are read there
pub are_read : (image addresses words : List ℕ) → words_at image addresses ≡ Some words → (a : ℕ) → Contains addresses a → IsRead image words a
are_read image [] words are a there = absurd (omega (arith, there.1))
are_read image (b ∷ rest) words are a there =
    read_by image rest words b a (word image b) (words_at image rest) refl (λ ws more also. are_read image rest ws more a also) are there

-- what is read of addresses whose words are among some
pub record AreReadIn (image addresses words : List ℕ) : Type 0 where
  pub read : List ℕ
  pub are : words_at image addresses ≡ Some read
  pub among : (w : ℕ) → Contains read w → Contains words w
  pub fit : (w : ℕ) → Contains read w → w < 2 ^ 32
  pub many : length read ≡ length addresses

-- words that are read at each address are those of all
pub read_in : (image addresses words : List ℕ) → ((a : ℕ) → Contains addresses a → IsRead image words a) → AreReadIn image addresses words
read_in image [] words each = record {
  read = [];
  are = refl;
  among = λ w there. absurd (omega (arith, there.1));
  fit = λ w there. absurd (omega (arith, there.1));
  many = refl;
}
read_in image (b ∷ rest) words each =
    let r : AreReadIn image rest words = read_in image rest words (λ a there. each a (later b rest a there)) in
    let h : IsRead image words b = each b (first b rest) in
    record {
      read = word_of h.read ∷ r.read;
      are =
          ap (λ (o : Option ℕ). option_and_then (λ w. option_map (λ ws. word_of w ∷ ws) (words_at image rest)) o) h.stands
          ∙ ap (λ (p : Option (List ℕ)). option_map (λ ws. word_of h.read ∷ ws) p) r.are;
      among = λ w there. ⊎_elim (λ now. subst (Contains words) (sym now) h.there) (λ after. r.among w after) (head_or_tail (word_of h.read) r.read w there);
      fit = λ w there. ⊎_elim (λ now. omega (arith, now)) (λ after. r.fit w after) (head_or_tail (word_of h.read) r.read w there);
      many = ap suc r.many;
    }

-- what covers the words
pub covered_over : (t : List ℕ) (p : Option (List ℕ)) → IsThresholds t → is_over t (covered t p) ≡ true
covered_over t None is = top_over t is
covered_over t (Some words) is = cover_over t words is

from_over : (t image addresses : List ℕ) → IsThresholds t → is_over_or_none t (loaded_from t image addresses) ≡ true
from_over t image [] is = refl
from_over t image (a ∷ rest) is = covered_over t (words_at image (a ∷ rest)) is

pub loaded_over : (t image : List ℕ) (v : Value) → IsThresholds t → is_over_or_none t (loaded t image v) ≡ true
unfolding loaded
loaded_over t image (Words addresses) is = from_over t image (filter is_aligned addresses) is
loaded_over t image (Range lo hi) is = top_over t is
loaded_over t image Ret is = top_over t is

covered_falls : (t more image : List ℕ) (a b : ℕ) (xs ys : List ℕ) (p : Option (List ℕ)) → IsThresholds t → IsThresholds more → AreMore t more
    → ((w : ℕ) → Contains (a ∷ xs) w → Contains (b ∷ ys) w) → words_at image (b ∷ ys) ≡ p
    → is_at_most (covered more (words_at image (a ∷ xs))) (covered t p) ≡ true
covered_falls t more image a b xs ys None is is_more in_more part are =
    under_top more (covered more (words_at image (a ∷ xs))) (covered_over more (words_at image (a ∷ xs)) is_more)
covered_falls t more image a b xs ys (Some words) is is_more in_more part are =
    let r : AreReadIn image (a ∷ xs) words = read_in image (a ∷ xs) words (λ c there. are_read image (b ∷ ys) words are c (part c there)) in
    let some : 0 < length r.read = omega (arith, r.many) in
    let has : Contains r.read (get_or r.read 0 0) = Contains-get_or r.read 0 0 some in
    subst (λ (q : Option (List ℕ)). is_at_most (covered more q) (cover t words) ≡ true) (sym r.are)
    (cover_falls t more r.read words (get_or r.read 0 0) is is_more in_more (r.fit (get_or r.read 0 0) has) has r.among)

from_falls : (t more image xs ys : List ℕ) → IsThresholds t → IsThresholds more → AreMore t more → ((w : ℕ) → Contains xs w → Contains ys w)
    → is_less (loaded_from more image xs) (loaded_from t image ys) ≡ true
from_falls t more image [] ys is is_more in_more part = refl
from_falls t more image (a ∷ xs) [] is is_more in_more part = absurd (let h = part a (first a xs) in omega (arith, h.1))
from_falls t more image (a ∷ xs) (b ∷ ys) is is_more in_more part =
    covered_falls t more image a b xs ys (words_at image (b ∷ ys)) is is_more in_more part refl

less_than_top : (t : List ℕ) (r : Option Value) → is_over_or_none t r ≡ true → is_less r (Some top) ≡ true
less_than_top t None over = refl
less_than_top t (Some v) over = under_top t v over

-- an ordered value has its words inside the other
pub inside : (a b : Value) → is_at_most a b ≡ true → is_inside a b ≡ true
unfolding is_at_most
inside a b up = (and_parts (is_value b) (is_inside a b) (and_parts (is_value a) (is_value b && is_inside a b) up).1).1

pub loaded_falls : (t more image : List ℕ) (v u : Value) → IsThresholds t → IsThresholds more → AreMore t more → is_at_most v u ≡ true
    → is_less (loaded more image v) (loaded t image u) ≡ true
unfolding loaded
loaded_falls t more image v (Range lo hi) is is_more in_more up = less_than_top more (loaded more image v) (loaded_over more image v is_more)
loaded_falls t more image v Ret is is_more in_more up = less_than_top more (loaded more image v) (loaded_over more image v is_more)
loaded_falls t more image (Range lo hi) (Words us) is is_more in_more up = absurd (true≢false (sym (inside (Range lo hi) (Words us) up)))
loaded_falls t more image Ret (Words us) is is_more in_more up = absurd (true≢false (sym (inside Ret (Words us) up)))
loaded_falls t more image (Words vs) (Words us) is is_more in_more up =
    let o : AreOrdered (Words vs) (Words us) = ordered (Words vs) (Words us) up in
    from_falls t more image (filter is_aligned vs) (filter is_aligned us) is is_more in_more
    (λ w there.
    let has = kept_from is_aligned vs w there in
    let fits : w < 2 ^ 32 = All-contains (λ x. x < 2 ^ 32) vs w o.left.fits has in
    kept_by is_aligned us w (o.up.words w 0 fits (omega arith) has) (kept_passes is_aligned vs w there))

-- what a source writes
pub source_over : (t image : List ℕ) (s : State) (source : Source) → IsThresholds t → is_state_over t s ≡ true
    → is_over_or_none t (source_value t image s source) ≡ true
unfolding source_value
source_over t image s Anything is fits = top_over t is
source_over t image s (Exactly n) is fits = word_over t n
source_over t image s (Ranged lo hi) is fits = by_test (int_le lo hi) where
  by_test : (b : Bool) → is_over t (if b then span t (rank_of lo) (rank_of hi) else top) ≡ true
  by_test true = span_over t (rank_of lo) (rank_of hi) is
  by_test false = top_over t is
source_over t image s (Applied op left right) is fits =
    apply_over t op (operand s left) (operand s right) is (operand_over t s left is fits) (operand_over t s right is fits)
source_over t image s (Loaded left right) is fits = loaded_over t image (apply t Add (operand s left) (operand s right)) is

-- of a lesser state, over more thresholds, less is written
pub source_falls : (t more image : List ℕ) (a b : State) (source : Source) → IsThresholds t → IsThresholds more → AreMore t more
    → is_state_over more a ≡ true → is_state_over t b ≡ true → is_state_at_most a b ≡ true
    → is_less (source_value more image a source) (source_value t image b source) ≡ true
unfolding source_value
source_falls t more image a b Anything is is_more in_more lesser greater up = same_value t top (top_over t is)
source_falls t more image a b (Exactly n) is is_more in_more lesser greater up = same_value t (Words (word_of n ∷ [])) (word_over t n)
source_falls t more image a b (Ranged lo hi) is is_more in_more lesser greater up = by_test (int_le lo hi) where
  by_test : (c : Bool) → is_at_most (if c then span more (rank_of lo) (rank_of hi) else top) (if c then span t (rank_of lo) (rank_of hi) else top) ≡ true
  by_test true = same_span_falls t more (rank_of lo) (rank_of hi) is is_more in_more
  by_test false = same_value t top (top_over t is)
source_falls t more image a b (Applied op left right) is is_more in_more lesser greater up =
    apply_falls t more op (operand b left) (operand b right) (operand a left) (operand a right) is is_more in_more
    (operand_over t b left is greater) (operand_over t b right is greater) (operand_over more a left is_more lesser) (operand_over more a right is_more lesser)
    (operand_up t a b left is up) (operand_up t a b right is up)
source_falls t more image a b (Loaded left right) is is_more in_more lesser greater up =
    loaded_falls t more image (apply more Add (operand a left) (operand a right)) (apply t Add (operand b left) (operand b right)) is is_more in_more
    (apply_falls t more Add (operand b left) (operand b right) (operand a left) (operand a right) is is_more in_more
    (operand_over t b left is greater) (operand_over t b right is greater) (operand_over more a left is_more lesser) (operand_over more a right is_more lesser)
    (operand_up t a b left is up) (operand_up t a b right is up))
