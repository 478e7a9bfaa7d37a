-- Before any turn is taken.
use Rattle.std.proofs.Common.{◌≡◌, ℕ, inl, inr, Option, None, List, length, map, replicate, get_or, ap, ◌∙◌, arith}
use Rattle.std.proofs.lemmas.Bool.{cases_lt}
use Rattle.std.proofs.lemmas.List.{get_or-replicate, get_or_past, length-replicate}
use Rattle.loop_nest.specs.declared.natural_loop.Loop.{Loop}
use Rattle.path_bound.specs.declared.choosing.Label.{Label}
use Rattle.path_bound.specs.declared.long_walk.Turn.{Turn}
use Rattle.path_bound.specs.Choosing.{label_at}
use Rattle.path_bound.specs.Exact.{Task}
use Rattle.path_bound.specs.Turned.{AreTurnedUpTo}
use Rattle.path_bound.specs.Turning.{NoLabels}

-- what is the same everywhere is read so
pub all_same : {A : Type 0} (count : ℕ) (a : A) (n : ℕ) → get_or (replicate count a) n a ≡ a
all_same count a n = elim (cases_lt n count) [
  | inl l ↦ get_or-replicate count n a a l
  | inr l ↦ let s : length (replicate count a) ≡ count = length-replicate count a in get_or_past (replicate count a) n a (omega (arith, s, l))
]

-- a list of none has no labels
pub no_labels_yet : (count : ℕ) (labels : List (Option Label)) → labels ≡ replicate count None → NoLabels labels
no_labels_yet count labels e n = ap (λ (l : List (Option Label)). label_at l n) e ∙ all_same count None n

-- no turn is settled yet
pub turned_none : (t : Task) (loops : List Loop) (order : List ℕ) (count : ℕ) (laps : List ℕ) (turns : List Turn) → laps ≡ replicate count 0
    → map (λ (one : Turn). one.head) turns ≡ map (λ (one : Loop). one.head) loops → AreTurnedUpTo t loops order 0 laps turns
turned_none t loops order count laps turns e heads = record {
  heads = heads;
  others = λ n h. ap (λ (l : List ℕ). get_or l n 0) e ∙ all_same count 0 n;
  each = λ h a b. cc;
}
