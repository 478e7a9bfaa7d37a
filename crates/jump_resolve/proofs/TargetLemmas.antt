-- Targets: what the list has, and when it is whole.
use Rattle.std.proofs.Common.{◌≡◌, ℕ, suc, ◌+◌, ◌*◌, ◌/◌, ◌%◌, ◌^◌, ◌<◌, ◌≤◌, ◌⊎◌, inl, inr, ◌&&◌, ◌||◌, Bool, true, false, eqb, cond, List, [], ◌∷◌}
use Rattle.std.proofs.Common.{refl, sym, ap, subst, ◌∙◌, arith, Decides, Contains, eq-eqb, ⊎_elim}
use Rattle.std.specs.Prelude.{◌==◌, ◌↔◌, ℤ, not, filter}
use Rattle.std.specs.Bool.{one_answer}
use Rattle.std.specs.List.{All}
use Rattle.std.specs.List.Sorted.{IsStrictlyIncreasing}
use Rattle.std.specs.Set.{is_member}
use Rattle.std.proofs.lemmas.Bool.{and_parts, and_from, cases_Bool, cases_lt, eqb-true, false≢true, both_ways}
use Rattle.std.proofs.lemmas.List.Elements.{All-contains, All-contains_itself, All-filter, filter_passes}
use Rattle.bt_image.specs.Image.{is_code}
use Rattle.value_lattice.proofs.LeastLemmas.{head_or_tail}
use Rattle.value_lattice.proofs.MayLemmas.{may_have_more, may_be_any}
use Rattle.bt_base.proofs.RisingLists.{same_rising}
use Rattle.value_lattice.proofs.SetLemmas.{place_of_below, length_rising_in}
use Rattle.value_lattice.proofs.TestLemmas.{member_decides, may_have_decides, ordered}
use Rattle.value_lattice.proofs.WordsBelowLemmas.{words_rise, words_fit, words_pass, passing_is_there, passed, passes_from, IsPassed}
use Rattle.value_lattice.specs.Order.{place_of, word_at, rank_of}
use Rattle.value_lattice.specs.Passing.{words_below, passes_some}
use Rattle.value_lattice.specs.Test.{may_have, is_at_most, AreOrdered}
use Rattle.value_lattice.specs.Value.{MayHave}
use Rattle.value_lattice.specs.declared.value.Value.{Value}
use Rattle.value_lattice.specs.declared.value.Value.TheVariants.{Words, Range, Ret}
use Rattle.jump_resolve.specs.Law.{IsTarget, HasEach, TargetsAreExact, TargetsRise, TargetsAreFew}
use Rattle.jump_resolve.specs.Target.{may_go, is_target, target_list, is_other, is_whole, targets}

-- what a filter keeps, in terms of what a list has
later : (y : ℕ) (ys : List ℕ) (a : ℕ) → Contains ys a → Contains (y ∷ ys) a
later y ys a there = (suc there.0, omega (arith, there.1), there.2)

-- what is in the list and passes is kept
pub kept_by : (p : ℕ → Bool) (xs : List ℕ) (a : ℕ) → Contains xs a → p a ≡ true → Contains (filter p xs) a
kept_by p [] a there passes = absurd (omega (arith, there.1))
kept_by p (x ∷ xs) a there passes = ⊎_elim first (λ more. chosen (p x) (kept_by p xs a more passes)) (head_or_tail x xs a there) where
  first : a ≡ x → Contains (filter p (x ∷ xs)) a
  first same = let t : p x ≡ true = sym (ap p same) ∙ passes in rw t (0, omega arith, sym same)

  chosen : (b : Bool) → Contains (filter p xs) a → Contains (cond b (x ∷ filter p xs) (filter p xs)) a
  chosen true more = later x (filter p xs) a more
  chosen false more = more

-- what a filter keeps is in the list
pub kept_from : (p : ℕ → Bool) (xs : List ℕ) (a : ℕ) → Contains (filter p xs) a → Contains xs a
kept_from p xs a there = All-contains (Contains xs) (filter p xs) a (All-filter p (Contains xs) xs (All-contains_itself xs)) there

-- what a filter keeps passes
pub kept_passes : (p : ℕ → Bool) (xs : List ℕ) (a : ℕ) → Contains (filter p xs) a → p a ≡ true
kept_passes p xs a there = All-contains (λ x. p x ≡ true) (filter p xs) a (filter_passes p xs) there

-- the list rises
pub list_rises : (image : List ℕ) (v : Value) (candidates : List ℕ) → IsStrictlyIncreasing (target_list image v candidates)
unfolding target_list
list_rises image v candidates = words_rise (2 ^ 32) (is_target image v candidates)

-- what is in the list is a target, and the other way round
pub in_list : (image : List ℕ) (v : Value) (candidates : List ℕ) (a : ℕ) → Contains (target_list image v candidates) a → IsTarget image v candidates a
unfolding target_list
in_list image v candidates a there =
    let below : a < 2 ^ 32 = All-contains (λ w. w < 2 ^ 32) (words_below (2 ^ 32) (is_target image v candidates)) a
    (words_fit (2 ^ 32) (is_target image v candidates)) there in
    let parts = and_parts (is_member eqb candidates a) (may_go image v a) (words_pass (2 ^ 32) (is_target image v candidates) a there) in
    let goes = and_parts (may_have v a) (is_code image a) parts.1 in
    record { word = below; candidate = (member_decides candidates a).0 parts.0; code = goes.1; may = (may_have_decides v a below).0 goes.0 }

-- a target is in the list of targets
pub is_in_list : (image : List ℕ) (v : Value) (candidates : List ℕ) (a : ℕ) → IsTarget image v candidates a → Contains (target_list image v candidates) a
unfolding target_list
is_in_list image v candidates a is =
    passing_is_there (2 ^ 32) (is_target image v candidates) a is.word
    (and_from (is_member eqb candidates a) (may_go image v a) ((member_decides candidates a).1 is.candidate)
    (and_from (may_have v a) (is_code image a) ((may_have_decides v a is.word).1 is.may) is.code))

not_true : (b : Bool) → not b ≡ true → b ≡ false
not_true true e = absurd (false≢true e)
not_true false e = refl

not_from : (b : Bool) → (b ≡ true → ⊥) → not b ≡ true
not_from true e = absurd (e refl)
not_from false e = refl

-- the list is whole exactly where it has each multiple of 4 that the value may be
pub whole_decides : (v : Value) (list : List ℕ) → Decides (is_whole v list) (HasEach v list)
unfolding is_whole
whole_decides v list = (there, back) where
  there : not (passes_some (is_other v list)) ≡ true → HasEach v list
  there whole a below aligned may =
      elim (cases_Bool (is_member eqb list a)) [
        | inl has ↦ (member_decides list a).0 has
        | inr lacks ↦ absurd (both_ways (passes_some (is_other v list)) (not_true (passes_some (is_other v list)) whole)
            (passes_from (is_other v list) a below
            (and_from (a % 4 == 0) (may_have v a && not (is_member eqb list a)) (eq-eqb (a % 4) 0 aligned)
            (and_from (may_have v a) (not (is_member eqb list a)) ((may_have_decides v a below).1 may) (ap not lacks)))))
      ]

  back : HasEach v list → not (passes_some (is_other v list)) ≡ true
  back each = not_from (passes_some (is_other v list)) (λ some.
      let p : IsPassed (is_other v list) = passed (is_other v list) some in
      let one = and_parts (p.word % 4 == 0) (may_have v p.word && not (is_member eqb list p.word)) p.passes in
      let two = and_parts (may_have v p.word) (not (is_member eqb list p.word)) one.1 in
      both_ways (is_member eqb list p.word) (not_true (is_member eqb list p.word) two.1)
      ((member_decides list p.word).1 (each p.word p.fits (eqb-true (p.word % 4) 0 one.0) ((may_have_decides v p.word p.fits).0 two.0))))

-- the list has exactly the candidates that the value may be and that are code, rising, and it is whole exactly where it
-- is asserted or has each multiple of 4 that the value may be
pub targets_are_exact : TargetsAreExact
targets_are_exact = record {
  rising = λ image v candidates asserted. list_rises image v candidates;
  list = λ image v candidates asserted a. (in_list image v candidates a, is_in_list image v candidates a);
  whole = whole;
} where
  whole : (image : List ℕ) (v : Value) (candidates : List ℕ) (asserted : Bool)
      → ((targets image v candidates asserted).whole ≡ true) ↔ ((asserted ≡ true) ⊎ HasEach v (targets image v candidates asserted).list)
  whole image v candidates true = (λ e. inl refl, λ e. refl)
  whole image v candidates false = (
    λ e. inr ((whole_decides v (target_list image v candidates)).0 e),
    λ either. ⊎_elim (λ no. absurd (false≢true no)) (λ each. (whole_decides v (target_list image v candidates)).1 each) either,
  )

more : (v u : Value) (a : ℕ) → a < 2 ^ 32 → is_at_most v u ≡ true → MayHave v a → MayHave u a
more v u a below up may = let there : AreOrdered v u = ordered v u up in may_have_more v u a below there.up may

-- a value that may be more goes to more targets, and is whole no sooner
pub targets_rise : TargetsRise
targets_rise = record { list = list; whole = whole } where
  list : (image : List ℕ) (v u : Value) (candidates : List ℕ) (asserted : Bool) (a : ℕ) → is_at_most v u ≡ true
      → Contains (targets image v candidates asserted).list a → Contains (targets image u candidates asserted).list a
  list image v u candidates asserted a up there =
      let is = in_list image v candidates a there in
      is_in_list image u candidates a (record { word = is.word; candidate = is.candidate; code = is.code; may = more v u a is.word up is.may })

  whole : (image : List ℕ) (v u : Value) (candidates : List ℕ) (asserted : Bool) → is_at_most v u ≡ true
      → (targets image u candidates asserted).whole ≡ true → (targets image v candidates asserted).whole ≡ true
  whole image v u candidates true up e = refl
  whole image v u candidates false up e =
      let each = (whole_decides u (target_list image u candidates)).0 e in
      (whole_decides v (target_list image v candidates)).1 (λ a below aligned may.
      let is = in_list image u candidates a (each a below aligned (more v u a below up may)) in
      is_in_list image v candidates a (record { word = below; candidate = is.candidate; code = is.code; may = may }))

-- there are no more targets than candidates
pub targets_are_few : TargetsAreFew
targets_are_few image v candidates asserted =
    length_rising_in (target_list image v candidates) candidates (list_rises image v candidates) (λ a there. (in_list image v candidates a there).candidate)

-- the list that the code makes
pub made_list : (image : List ℕ) (v : Value) (candidates list : List ℕ) → All (λ a. a < 2 ^ 32) candidates → IsStrictlyIncreasing list
    → ((a : ℕ) → Contains (filter (may_go image v) candidates) a → Contains list a)
    → ((a : ℕ) → Contains list a → Contains (filter (may_go image v) candidates) a) → list ≡ target_list image v candidates
made_list image v candidates list fits rising keeps adds =
    same_rising list (target_list image v candidates) rising (list_rises image v candidates)
    (λ a there.
    let kept = adds a there in
    let c = kept_from (may_go image v) candidates a kept in
    let below = All-contains (λ x. x < 2 ^ 32) candidates a fits c in
    let goes = and_parts (may_have v a) (is_code image a) (kept_passes (may_go image v) candidates a kept) in
    is_in_list image v candidates a (record { word = below; candidate = c; code = goes.1; may = (may_have_decides v a below).0 goes.0 }))
    (λ a there.
    let is = in_list image v candidates a there in
    keeps a (kept_by (may_go image v) candidates a is.candidate (and_from (may_have v a) (is_code image a) ((may_have_decides v a is.word).1 is.may) is.code)))

-- the code's questions are the same as whether the list is whole
pub whole_words : (words list : List ℕ) (r : Bool) → All (λ w. w < 2 ^ 32) words
    → Decides r ((w : ℕ) → Contains words w → w % 4 ≡ 0 → Contains list w) → r ≡ is_whole (Words words) list
whole_words words list r fits decides =
    one_answer r (is_whole (Words words) list) decides (
      λ e w there aligned. (whole_decides (Words words) list).0 e w (All-contains (λ x. x < 2 ^ 32) words w fits there) aligned
          (record { address = 0; fits = omega arith; has = there }),
      λ each. (whole_decides (Words words) list).1 (λ a below aligned may. each a may.has aligned),
    )

module _ (list : List ℕ) (r : Bool) where
  quarter : (a : ℕ) → a < 2 ^ 32 → a % 4 ≡ 0 → word_at (4 * (place_of a / 4)) ≡ a
  quarter a below aligned = omega arith

  -- a list with each multiple of 4 between the ends is whole for the range
  pub whole_range : (lo hi : ℤ) → rank_of hi < 2 ^ 32
      → Decides r ((q : ℕ) → rank_of lo ≤ 4 * q → 4 * q ≤ rank_of hi → Contains list (word_at (4 * q))) → r ≡ is_whole (Range lo hi) list
  whole_range lo hi fits decides =
      one_answer r (is_whole (Range lo hi) list) decides (
        λ e q low high.
            let word : word_at (4 * q) < 2 ^ 32 = omega arith in
            let at : place_of (word_at (4 * q)) ≡ 4 * q = omega arith in
            let aligned : word_at (4 * q) % 4 ≡ 0 = omega arith in
            (whole_decides (Range lo hi) list).0 e (word_at (4 * q)) word aligned
            (record { address = 0; fits = omega arith; has = (omega arith, omega arith) }),
        λ each. (whole_decides (Range lo hi) list).1 (λ a below aligned may.
            let has = may.has in
            let four : 4 * (place_of a / 4) ≡ place_of a = omega arith in
            subst (Contains list) (quarter a below aligned) (each (place_of a / 4) (omega arith) (omega arith))),
      )

  -- a list with each multiple of 4 is whole for the return address
  pub whole_any : Decides r ((q : ℕ) → 0 ≤ 4 * q → 4 * q ≤ 4294967295 → Contains list (word_at (4 * q))) → r ≡ is_whole Ret list
  whole_any decides =
      one_answer r (is_whole Ret list) decides (
        λ e q low high.
            let word : word_at (4 * q) < 2 ^ 32 = omega arith in
            let aligned : word_at (4 * q) % 4 ≡ 0 = omega arith in
            (whole_decides Ret list).0 e (word_at (4 * q)) word aligned (may_be_any (word_at (4 * q)) word),
        λ each. (whole_decides Ret list).1 (λ a below aligned may.
            subst (Contains list) (quarter a below aligned) (each (place_of a / 4) (omega arith) (omega arith))),
      )

-- a list that lacks one doesn't have each
pub lacks : (list : List ℕ) (low high q : ℕ) (r : Bool) → r ≡ false → Decides r (Contains list (word_at (4 * q))) → low ≤ 4 * q → 4 * q ≤ high
    → Decides false ((k : ℕ) → low ≤ 4 * k → 4 * k ≤ high → Contains list (word_at (4 * k)))
lacks list low high q r none decides above below = (λ e. absurd (false≢true e), λ each. absurd (both_ways r none (decides.1 (each q above below))))

-- a list that has one more
pub one_more : (list : List ℕ) (low q : ℕ) (r : Bool) → r ≡ true → Decides r (Contains list (word_at (4 * q)))
    → ((k : ℕ) → low ≤ 4 * k → k < q → Contains list (word_at (4 * k))) → (k : ℕ) → low ≤ 4 * k → k < q + 1 → Contains list (word_at (4 * k))
one_more list low q r some decides before k above below =
    elim (cases_lt k q) [
      | inl lt ↦ before k above lt
      | inr ge ↦ (let same : q ≡ k = omega arith in subst (λ (j : ℕ). Contains list (word_at (4 * j))) same (decides.0 some))
    ]
