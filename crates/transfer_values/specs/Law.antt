-- Laws of the functions that compute with states: what they give stands where the state does, and of less, and over more
-- thresholds, they give no more.
use Rattle.std.specs.Prelude.{◌≡◌, ℕ, ◌≤◌, true, List, length, Contains}
use Rattle.assert_bind.specs.declared.body.BoundAssertion.{BoundAssertion}
use Rattle.value_lattice.specs.Laws.{AreMore}
use Rattle.value_lattice.specs.Thresholds.{IsThresholds}
use Rattle.abs_state.specs.State.{State, is_state_over, is_at_most}
use Rattle.abs_state.specs.declared.key.Place.{Place}
use Rattle.transfer_rules.specs.Lawful.{IsLawfulFamily, IsFinerFamily, is_over_or_none, is_less}
use Rattle.transfer_rules.specs.declared.act.Aim.{Aim}
use Rattle.transfer_rules.specs.declared.act.Test.{Test}
use Rattle.transfer_rules.specs.declared.step.Step.{Step}
use Rattle.transfer_values.specs.Family.{family}
use Rattle.transfer_values.specs.Narrow.{narrowed}
use Rattle.transfer_values.specs.Resolve.{resolved, widest}
use Rattle.transfer_values.specs.Step.{stepped}
use Rattle.transfer_values.specs.Test.{tested}

-- what is made of a state that may stand there may stand there
pub record StatesStayOver : Type 0 where
  pub narrowed : (t : List ℕ) (list : List BoundAssertion) (p : Place) (s : State) → IsThresholds t → is_state_over t s ≡ true
      → is_over_or_none t (narrowed t list p s) ≡ true
  pub stepped : (t image : List ℕ) (step : Step) (s : State) → IsThresholds t → is_state_over t s ≡ true → is_over_or_none t (stepped t image step s) ≡ true
  pub tested : (t : List ℕ) (test : Test) (s : State) → IsThresholds t → is_state_over t s ≡ true → is_over_or_none t (tested t test s) ≡ true

-- of a lesser state, and over more thresholds, what is made of it is at most what it was
pub record StatesFall : Type 0 where
  pub narrowed : (t more : List ℕ) (list : List BoundAssertion) (p : Place) (a b : State) → IsThresholds t → IsThresholds more → AreMore t more
      → is_state_over more a ≡ true → is_state_over t b ≡ true → is_at_most a b ≡ true → is_less (narrowed more list p a) (narrowed t list p b) ≡ true
  pub stepped : (t more image : List ℕ) (step : Step) (a b : State) → IsThresholds t → IsThresholds more → AreMore t more
      → is_state_over more a ≡ true → is_state_over t b ≡ true → is_at_most a b ≡ true → is_less (stepped more image step a) (stepped t image step b) ≡ true
  pub tested : (t more : List ℕ) (test : Test) (a b : State) → IsThresholds t → IsThresholds more → AreMore t more
      → is_state_over more a ≡ true → is_state_over t b ≡ true → is_at_most a b ≡ true → is_less (tested more test a) (tested t test b) ≡ true

-- a lesser state goes to fewer targets, and is known sooner to go nowhere else; no transfer has more than the widest one
pub record TargetsFall : Type 0 where
  pub list : (t more image : List ℕ) (list : List BoundAssertion) (pc : ℕ) (aim : Aim) (a b : State) → IsThresholds t → IsThresholds more → AreMore t more
      → is_state_over more a ≡ true → is_state_over t b ≡ true → is_at_most a b ≡ true
      → (x : ℕ) → Contains (resolved more image list pc aim a).list x → Contains (resolved t image list pc aim b).list x
  pub whole : (t more image : List ℕ) (list : List BoundAssertion) (pc : ℕ) (aim : Aim) (a b : State) → IsThresholds t → IsThresholds more → AreMore t more
      → is_state_over more a ≡ true → is_state_over t b ≡ true → is_at_most a b ≡ true
      → (resolved t image list pc aim b).whole ≡ true → (resolved more image list pc aim a).whole ≡ true
  pub few : (t image : List ℕ) (list : List BoundAssertion) (pc : ℕ) (aim : Aim) (s : State) → length (resolved t image list pc aim s).list ≤ widest image list

-- the functions over thresholds, of an image and assertions, are lawful, and over more thresholds they give no more
pub record FamiliesAreLawful : Type 0 where
  pub lawful : (t image : List ℕ) (list : List BoundAssertion) → IsThresholds t → IsLawfulFamily t (widest image list) (family t image list)
  pub finer : (t more image : List ℕ) (list : List BoundAssertion) → IsThresholds t → IsThresholds more → AreMore t more
      → IsFinerFamily t more (family t image list) (family more image list)
