-- Outcomes of the contexts of a list, one after the other.
use Rattle.std.proofs.Common.{◌≡◌, ℕ, zero, suc, ◌+◌, ◌<◌, ◌⊎◌, List, [], ◌∷◌, ◌++◌, Contains, length, Some, inl, inr, refl, sym, ap, subst, ◌∙◌, arith}
use Rattle.std.specs.Prelude.{slice_get}
use Rattle.std.proofs.lemmas.List.{length-append}
use Rattle.std.proofs.lemmas.Option.{get_or_from_slice_get, slice_get-get_or, slice_get_within}
use Rattle.callee_context.proofs.Growing.{get_end, get_kept, get_last}
use Rattle.callee_context.specs.Told.{AreSome, IsToldOf, outcome_with}
use Rattle.context_answers.specs.declared.answer.Answer.{Answer}
use Rattle.context_list.specs.Numbered.{One}
use Rattle.wcet_report.specs.declared.outcome.Outcome.{Outcome}

-- what stands at a place of a list
pub some_at : {X : Type 0} (xs : List X) (k : ℕ) → k < length xs → (x : X) × (slice_get xs k ≡ Some x)
some_at [] k less = absurd (omega (arith, less))
some_at (x ∷ xs) zero less = (x, refl)
some_at (x ∷ xs) (suc k) less = some_at xs k (omega (arith, less))

-- and is among it
pub place_in : {X : Type 0} (xs : List X) (x : X) → (has : Contains xs x) → slice_get xs has.0 ≡ Some x
place_in xs x has = slice_get-get_or xs has.0 x has.1 ∙ ap (λ y. Some y) has.2

pub in_list : {X : Type 0} (xs : List X) (n : ℕ) (x : X) → slice_get xs n ≡ Some x → Contains xs x
in_list xs n x at = (n, slice_get_within xs n x at, get_or_from_slice_get xs n x x at)

-- the answers that are left are as they were
abbrev pub AreLeft : List Answer → List Answer → Type 0
AreLeft all left = (n : ℕ) (x : Answer) → slice_get left n ≡ Some x → slice_get all n ≡ Some x

module _ (list : List One) (all old new : List Answer) (answer : Answer) (popped : old ≡ new ++ answer ∷ []) (left : AreLeft all old) where
  pub left_on : AreLeft all new
  left_on n x at = left n x (subst (λ (xs : List Answer). slice_get xs n ≡ Some x) (sym popped) (get_kept new answer x n at))

  pub last_is : slice_get all (length new) ≡ Some answer
  last_is = left (length new) answer (subst (λ (xs : List Answer). slice_get xs (length new) ≡ Some answer) (sym popped) (get_end new answer))

  module _ (outcomes : List Outcome) (count : length outcomes + length old ≡ length all) (are : AreSome list all outcomes) (many : length all ≡ length list)
      (outcome : Outcome) (is : (one : One) → slice_get list (length new) ≡ Some one → outcome ≡ outcome_with one answer) where
    pub count_on : length (outcomes ++ outcome ∷ []) + length new ≡ length all
    count_on =
        let more = length-append outcomes (outcome ∷ []) in
        let less : length old ≡ length new + 1 = ap (λ (xs : List Answer). length xs) popped ∙ length-append new (answer ∷ []) in
        omega (arith, more, less, count)

    told_last : IsToldOf list all (length outcomes) outcome
    told_last =
        let less : length old ≡ length new + 1 = ap (λ (xs : List Answer). length xs) popped ∙ length-append new (answer ∷ []) in
        let one = some_at list (length new) (omega (arith, less, count, many)) in
        record {
          number = length new;
          before = omega (arith, less, count);
          one = one.0;
          at = one.1;
          answer = answer;
          answered = last_is;
          is = is one.0 one.1;
        }

    told_each : (place : ℕ) (other : Outcome) → (slice_get outcomes place ≡ Some other) ⊎ ((place ≡ length outcomes) × (outcome ≡ other))
        → IsToldOf list all place other
    told_each place other (inl at) = are place other at
    told_each place other (inr last) =
        subst (λ (o : Outcome). IsToldOf list all place o) last.1 (subst (λ (n : ℕ). IsToldOf list all n outcome) (sym last.0) told_last)

    pub told_on : AreSome list all (outcomes ++ outcome ∷ [])
    told_on place other at = told_each place other (get_last outcomes outcome other place at)
