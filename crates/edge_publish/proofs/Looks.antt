-- What a whole look gives: the law above the meaning of its single step.
use Rattle.std.proofs.Common.{◌≡◌, ℕ, suc, ◌≤◌, Some, List, [], ◌∷◌, refl, sym, ◌∙◌, subst, inl, inr, arith}
use Rattle.std.proofs.lemmas.Bool.{cases_lt}
use Rattle.std.specs.Iterator.{Drains}
use Rattle.edge_publish.specs.Look.{Sight, IsStep, GivesNext, GivesPair}
use Rattle.edge_publish.specs.Receipt.{Shown, index_of}

module _ {K X : Type 0} (holds : K → Type 0) (read : X → K) (own : Shown K) where
  -- what a look gave is given by one that began a step earlier
  later : (pair : ℕ × X) (pairs : List (ℕ × X)) → GivesPair read own pairs → GivesPair read own (pair ∷ pairs)
  later pair pairs a = (suc a.0, a.1, omega (arith, a.2), a.3, a.4)

  -- the first pair is the own receipt's where its index is
  first : (old new : Sight K) (pair : ℕ × X) (pairs : List (ℕ × X)) → GivesNext holds old new pair.0 (read pair.1) → old.own ≡ Some own
      → pair.0 ≡ index_of own → GivesPair read own (pair ∷ pairs)
  first old new pair pairs gives given same =
      (0, pair, omega arith, refl, (same, sym gives.shown.1 ∙ gives.next.read.own_key own given (gives.shown.0 ∙ same)))

  -- a look that was gone over to its end gave the pair of its receipt, if it began at most at the receipt's index
  pub looks_give_own : (pairs : List (ℕ × X)) (look : Sight K) → Drains (IsStep holds read) look pairs → look.own ≡ Some own
      → look.next ≤ index_of own → GivesPair read own pairs
  looks_give_own [] look (u, (t, same, step)) given before =
      let P : Sight K → Type 0 = λ s. (s.own ≡ Some own) × (s.next ≤ index_of own) in
      let here = subst P same (given, before) in
      absurd (omega (arith, here.1, step.2.over own here.0))
  looks_give_own (pair ∷ pairs) look (u, (t, (j, step, more), last)) given before =
      let gives = step.1 in
      let at = gives.shown.0 in
      let passes = gives.next.passes_none own given before in
      elim (cases_lt pair.0 (index_of own)) [
        | inl below ↦ later pair pairs (looks_give_own pairs j (u, (t, more, last)) (step.0.own ∙ given) (omega (arith, gives.behind, below)))
        | inr reached ↦ first look j pair pairs gives given (omega (arith, reached, at, passes))
      ]
