-- Words that values may have, and what is least of them.
use Rattle.std.proofs.Common.{◌≡◌, ℕ, zero, suc, ◌^◌, ◌<◌, ◌≤◌, ◌+◌, ◌↔◌, true, List, [], ◌∷◌, get_or, Option, Some, None, refl, sym}
use Rattle.std.proofs.Common.{ap, subst, ◌∙◌, arith, All, Contains}
use Rattle.std.proofs.lemmas.Bool.{false≢true, eqb-true}
use Rattle.std.proofs.lemmas.List.Elements.{All-contains, Contains-get_or}
use Rattle.std.specs.List.Sorted.{IsStrictlyIncreasing}
use Rattle.value_lattice.specs.Laws.{AreMore}
use Rattle.value_lattice.specs.Order.{place_of, word_at, rank_of}
use Rattle.value_lattice.specs.Set.{IsSet}
use Rattle.value_lattice.specs.Value.{Has, AtMost, IsValue, IsOver, IsLeast, MayHave, IsLeastOrNone, HasSome, IsLess, is_zero}
use Rattle.value_lattice.specs.declared.value.Value.{Value}
use Rattle.value_lattice.specs.declared.value.Value.TheVariants.{Words, Range, Ret}
use Rattle.value_lattice.proofs.JoinLemmas.{no_ret_in_set}
use Rattle.value_lattice.proofs.SetLemmas.{place_of-word_at, word_at_below}
use Rattle.value_lattice.proofs.ValueLemmas.{least_of_same, least_is_monotone, no_range_in_set, rank_below, same_value}

-- a value has each word that it may have where that word is the return address
pub has_itself : (v : Value) (w : ℕ) → MayHave v w → Has v w w
has_itself (Words words) w may = may.has
has_itself (Range lo hi) w may = may.has
has_itself Ret w may = refl

-- what a value has with some return address it may have
pub may_from_has : (v : Value) (w ra : ℕ) → ra < 2 ^ 32 → Has v w ra → MayHave v w
may_from_has v w ra address has = record { address = ra; fits = address; has = has }

-- a value may have a word exactly where it has it with that word as the return address
pub may_have_itself : (v : Value) (w : ℕ) → w < 2 ^ 32 → Has v w w ↔ MayHave v w
may_have_itself v w word = (may_from_has v w w word, has_itself v w)

-- what is at most another has no other words
pub may_have_more : (a b : Value) (w : ℕ) → w < 2 ^ 32 → AtMost a b → MayHave a w → MayHave b w
may_have_more a b w word up may = record { address = may.address; fits = may.fits; has = up.words w may.address word may.fits may.has }

-- where a kind has the same words, the same is least
pub least_or_none_of_same : (t : List ℕ) (kind other : ℕ → Type 0) (r : Option Value) → ((w : ℕ) → w < 2 ^ 32 → kind w → other w)
    → ((w : ℕ) → w < 2 ^ 32 → other w → kind w) → IsLeastOrNone t kind r → IsLeastOrNone t other r
least_or_none_of_same t kind other None there back none = λ w word is. none w word (back w word is)
least_or_none_of_same t kind other (Some v) there back least = least_of_same t kind other v there back least

-- a value that is there is the least of its kind
pub some_least : (t : List ℕ) (kind : ℕ → Type 0) (r : Option Value) (v : Value) → r ≡ Some v → IsLeastOrNone t kind r → IsLeast t kind v
some_least t kind r v is least = subst (IsLeastOrNone t kind) is least

-- the return address may be any word
pub may_be_any : (w : ℕ) → w < 2 ^ 32 → MayHave Ret w
may_be_any w word = record { address = w; fits = word; has = refl }

-- a value has some word
pub record HasOne (v : Value) : Type 0 where
  pub word : ℕ
  pub fits : word < 2 ^ 32
  pub has : Has v word word

-- each value has a word
pub some_word_of : (v : Value) → IsValue v → HasOne v
some_word_of (Words words) value =
    let first : Contains words (get_or words 0 0) = Contains-get_or words 0 0 value.some in
    record { word = get_or words 0 0; fits = All-contains (λ w. w < 2 ^ 32) words (get_or words 0 0) value.fits first; has = first }
some_word_of (Range lo hi) value =
    let fits : rank_of hi < 2 ^ 32 = rank_below hi value.1 in
    let far : rank_of lo + 128 ≤ rank_of hi = value.2 in
    let at : place_of (word_at (rank_of lo)) ≡ rank_of lo = place_of-word_at (rank_of lo) (omega arith) in
    record { word = word_at (rank_of lo); fits = word_at_below (rank_of lo); has = (omega arith, omega arith) }
some_word_of Ret value = record { word = 0; fits = omega arith; has = refl }

-- a word alone is a set
pub one_set : (w : ℕ) → w < 2 ^ 32 → IsSet (w ∷ [])
one_set w word = record { some = omega arith; few = omega arith; rising = rises; fits = fit } where
  rises : IsStrictlyIncreasing (w ∷ [])
  rises k within = absurd (omega arith)

  fit : All (λ v. v < 2 ^ 32) (w ∷ [])
  fit zero d within = word
  fit (suc k) d within = absurd (omega arith)

-- a list of one word contains that alone
pub only_word : (w v : ℕ) → Contains (w ∷ []) v → v ≡ w
only_word w v (zero, within, is) = sym is
only_word w v (suc k, within, is) = absurd (omega arith)

-- nothing is least where there is no word
pub least_has_some : (t : List ℕ) (kind : ℕ → Type 0) (v : Value) → ((w : ℕ) → w < 2 ^ 32 → kind w → ⊥) → IsLeast t kind v → ⊥
least_has_some t kind v none least =
    let one = some_word_of v least.over.value in
    let zero_is : one.word ≡ 0 = only_word 0 one.word ((below 0 (omega arith)).words one.word one.word one.fits one.fits one.has) in
    let one_is : one.word ≡ 1 = only_word 1 one.word ((below 1 (omega arith)).words one.word one.word one.fits one.fits one.has) in
    omega arith where
      below : (w : ℕ) → w < 2 ^ 32 → AtMost v (Words (w ∷ []))
      below w word = least.least (Words (w ∷ [])) (record { value = one_set w word; ends = tt })
          (record { words = λ x ra x_word address is. absurd (none x x_word is) })

-- there is one least value of a kind, or none
pub least_is_one : (t : List ℕ) (kind : ℕ → Type 0) (r s : Option Value) → IsLeastOrNone t kind r → IsLeastOrNone t kind s → r ≡ s
least_is_one t kind None None none other = refl
least_is_one t kind None (Some v) none least = absurd (least_has_some t kind v none least)
least_is_one t kind (Some u) None least none = absurd (least_has_some t kind u none least)
least_is_one t kind (Some u) (Some v) one other =
    ap (λ (x : Value). Some x) (same_value u v one.over.value other.over.value (one.least v other.over other.each) (other.least u one.over one.each))

-- of fewer words, over more thresholds, the least value is at most what it was
pub less_from_least : (t more : List ℕ) (kind wider : ℕ → Type 0) (r s : Option Value) → AreMore t more → ((w : ℕ) → w < 2 ^ 32 → kind w → wider w)
    → IsLeastOrNone t wider r → IsLeastOrNone more kind s → IsLess s r
less_from_least t more kind wider r None in_more in_wider wide narrow = tt
less_from_least t more kind wider None (Some u) in_more in_wider wide narrow = absurd
    (least_has_some more kind u (λ w word is. wide w word (in_wider w word is)) narrow)
less_from_least t more kind wider (Some v)
    (Some u) in_more in_wider wide narrow = least_is_monotone t more kind wider u v in_more.thresholds in_wider narrow wide

-- what is left has each word that is possible
pub covered_some : (t : List ℕ) (kind : ℕ → Type 0) (r : Option Value) (x ra : ℕ) → IsLeastOrNone t kind r → x < 2 ^ 32 → ra < 2 ^ 32 → kind x → HasSome r x ra
covered_some t kind None x ra none word address is = none x word is
covered_some t kind (Some v) x ra least word address is = least.each.words x ra word address is

-- a value below one that is exactly 0 is exactly 0
pub zero_is : (v : Value) → is_zero v ≡ true → v ≡ Words (0 ∷ [])
zero_is (Words []) is = absurd (false≢true is)
zero_is (Words (w ∷ [])) is = ap (λ (n : ℕ). Words (n ∷ [])) (eqb-true w 0 is)
zero_is (Words (w ∷ v ∷ rest)) is = absurd (false≢true is)
zero_is (Range lo hi) is = absurd (false≢true is)
zero_is Ret is = absurd (false≢true is)

-- what is at most the word 0 is the word 0
pub below_zero : (d : Value) → IsValue d → AtMost d (Words (0 ∷ [])) → d ≡ Words (0 ∷ [])
below_zero (Words words) value up =
    let first : Contains words (get_or words 0 0) = Contains-get_or words 0 0 value.some in
    let word : get_or words 0 0 < 2 ^ 32 = All-contains (λ w. w < 2 ^ 32) words (get_or words 0 0) value.fits first in
    let none : get_or words 0 0 ≡ 0 = only_word 0 (get_or words 0 0) (up.words (get_or words 0 0) 0 word (omega arith) first) in
    same_value (Words words) (Words (0 ∷ [])) value (one_set 0 (omega arith)) up
    (record { words = λ w ra w_word address has. subst (Contains words) (none ∙ sym (only_word 0 w has)) first })
below_zero (Range lo hi) value up = absurd (no_range_in_set lo hi (0 ∷ []) value (one_set 0 (omega arith)) up)
below_zero Ret value up = absurd (no_ret_in_set (0 ∷ []) (one_set 0 (omega arith)) up)

-- what is at most a value that is 0 is 0
pub zero_below : (d b : Value) → IsValue d → AtMost d b → is_zero b ≡ true → is_zero d ≡ true
zero_below d b value up is =
    let same : d ≡ Words (0 ∷ []) = below_zero d value (subst (λ (v : Value). AtMost d v) (zero_is b is) up) in
    subst (λ (v : Value). is_zero v ≡ true) (sym same) refl

-- a word that a value may have is one that it has, where the value isn't the return address
pub has_any : (v : Value) (w ra : ℕ) → (v ≡ Ret → ⊥) → MayHave v w → Has v w ra
has_any (Words words) w ra no_ret may = may.has
has_any (Range lo hi) w ra no_ret may = may.has
has_any Ret w ra no_ret may = absurd (no_ret refl)

-- the words that a value may have are those that it is least of
pub all_is_left : (t : List ℕ) (a : Value) → IsOver t a → (a ≡ Ret → ⊥) → IsLeast t (MayHave a) a
all_is_left t a over no_ret = record {
  over = over;
  each = record { words = λ w ra word address may. has_any a w ra no_ret may };
  least = λ u over_u each. record { words = λ w ra word address has. each.words w ra word address (may_from_has a w ra address has) };
}
