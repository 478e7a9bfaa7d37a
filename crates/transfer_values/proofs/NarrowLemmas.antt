-- What assertions leave of a state: it may stand where the state may, and of less, and over more thresholds, it is at most
-- what it was.
use Rattle.std.proofs.Common.{◌≡◌, ℕ, true, List, [], ◌∷◌, Option, Some, None}
use Rattle.std.specs.Prelude.{ℤ}
use Rattle.std.specs.List.{range_with_len}
use Rattle.assert_bind.specs.Binding.{range}
use Rattle.assert_bind.specs.declared.body.BoundAssertion.{BoundAssertion}
use Rattle.call_effects.specs.Cell.{cell_of}
use Rattle.value_lattice.specs.Laws.{AreMore}
use Rattle.value_lattice.specs.Order.{rank_of}
use Rattle.value_lattice.specs.Thresholds.{IsThresholds}
use Rattle.value_refine.proofs.RefineFunctions.{within_over, within_address, within_falls}
use Rattle.value_refine.specs.Refinement.{within}
use Rattle.abs_state.specs.State.{State, cell_at, is_state_over, is_at_most}
use Rattle.abs_state.specs.declared.key.Place.{Place}
use Rattle.transfer_rules.specs.Lawful.{is_over_or_none as is_left_over, is_less}
use Rattle.transfer_values.specs.Narrow.{narrowed_to, narrowed_by, narrowed}
use Rattle.transfer_values.proofs.PartLemmas.{cell_up, left_over, left_falls, then_over, then_falls}

to_over : (t : List ℕ) (o : Option (ℤ × ℤ)) (c : ℕ) (s : State) → IsThresholds t → is_state_over t s ≡ true → is_left_over t (narrowed_to t o c s) ≡ true
to_over t None c s is fits = fits
to_over t (Some (lo, hi)) c s is fits =
    left_over t s c (within t (cell_at s c) (rank_of lo) (rank_of hi)) fits (within_over t (cell_at s c) (rank_of lo) (rank_of hi) is)
    (within_address t (cell_at s c) (rank_of lo) (rank_of hi))

to_falls : (t more : List ℕ) (o : Option (ℤ × ℤ)) (c : ℕ) (a b : State) → IsThresholds t → IsThresholds more → AreMore t more → is_at_most a b ≡ true
    → is_less (narrowed_to more o c a) (narrowed_to t o c b) ≡ true
to_falls t more None c a b is is_more in_more up = up
to_falls t more (Some (lo, hi)) c a b is is_more in_more up =
    left_falls a b c (within more (cell_at a c) (rank_of lo) (rank_of hi)) (within t (cell_at b c) (rank_of lo) (rank_of hi)) up
    (within_falls t more (cell_at b c) (cell_at a c) (rank_of lo) (rank_of hi) is is_more in_more (cell_up t a b c is up))

by_over : (t : List ℕ) (list : List BoundAssertion) (p : Place) (registers : List ℕ) (s : State) → IsThresholds t → is_state_over t s ≡ true
    → is_left_over t (narrowed_by t list p registers s) ≡ true
by_over t list p [] s is fits = fits
by_over t list p (r ∷ rest) s is fits =
    then_over t (narrowed_to t (range list p.pc r) (cell_of p.depth r) s) (narrowed_by t list p rest)
    (to_over t (range list p.pc r) (cell_of p.depth r) s is fits)
    (λ u made over. by_over t list p rest u is over)

by_falls : (t more : List ℕ) (list : List BoundAssertion) (p : Place) (registers : List ℕ) (a b : State) → IsThresholds t → IsThresholds more → AreMore t more
    → is_at_most a b ≡ true → is_less (narrowed_by more list p registers a) (narrowed_by t list p registers b) ≡ true
by_falls t more list p [] a b is is_more in_more up = up
by_falls t more list p (r ∷ rest) a b is is_more in_more up =
    then_falls (narrowed_to more (range list p.pc r) (cell_of p.depth r) a) (narrowed_to t (range list p.pc r) (cell_of p.depth r) b)
    (narrowed_by more list p rest) (narrowed_by t list p rest)
    (to_falls t more (range list p.pc r) (cell_of p.depth r) a b is is_more in_more up)
    (λ c d made also less. by_falls t more list p rest c d is is_more in_more less)

-- what assertions leave may stand where the state may
pub narrowed_over : (t : List ℕ) (list : List BoundAssertion) (p : Place) (s : State) → IsThresholds t → is_state_over t s ≡ true
    → is_left_over t (narrowed t list p s) ≡ true
unfolding narrowed
narrowed_over t list p s is fits = by_over t list p (range_with_len 1 31) s is fits

-- of a lesser state, over more thresholds, assertions leave less
pub narrowed_falls : (t more : List ℕ) (list : List BoundAssertion) (p : Place) (a b : State) → IsThresholds t → IsThresholds more → AreMore t more
    → is_at_most a b ≡ true → is_less (narrowed more list p a) (narrowed t list p b) ≡ true
unfolding narrowed
narrowed_falls t more list p a b is is_more in_more up = by_falls t more list p (range_with_len 1 31) a b is is_more in_more up
