-- What the functions of a family, and what is read off a program, have to keep; and the rules as those of a system.
use Rattle.std.specs.Prelude.{◌≡◌, ℕ, ◌+◌, ◌*◌, ◌<◌, ◌≤◌, Bool, true, false, List, length, Option, Some, None, Contains}
use Rattle.value_lattice.specs.Laws.{AreMore}
use Rattle.value_lattice.specs.Thresholds.{IsThresholds}
use Rattle.abs_state.specs.Key.{compare}
use Rattle.abs_state.specs.State.{State, is_state_over, is_at_most as is_state_at_most}
use Rattle.abs_state.specs.declared.key.Key.{Key}
use Rattle.abs_state.specs.declared.key.Place.{Place}
use Rattle.flow_system.specs.Due.{IsFiner}
use Rattle.flow_system.specs.Laws.{IsLawful}
use Rattle.flow_system.specs.Rules.{Rules}
use Rattle.transfer_rules.specs.Fact.{fits, is_at_most, is_shallow, joined, rank, top_rank}
use Rattle.transfer_rules.specs.Family.{Family, Program}
use Rattle.transfer_rules.specs.Give.{gives, reads, is_counted, starts}
use Rattle.transfer_rules.specs.declared.act.Act.TheVariants.{Acts}
use Rattle.transfer_rules.specs.declared.act.Aim.{Aim}
use Rattle.transfer_rules.specs.declared.act.Test.{Test}
use Rattle.transfer_rules.specs.declared.act.Way.{Way}
use Rattle.transfer_rules.specs.declared.fact.Fact.{Fact}
use Rattle.transfer_rules.specs.declared.step.Step.{Step}

-- there is no state, or one over the thresholds
abbrev pub is_over_or_none : List ℕ → Option State → Bool
is_over_or_none t None = true
is_over_or_none t (Some s) = is_state_over t s

-- what there is in the one is at most what there is in the other
abbrev pub is_less : Option State → Option State → Bool
is_less None b = true
is_less (Some a) None = false
is_less (Some a) (Some b) = is_state_at_most a b

-- of states over thresholds the functions give such states, and no more targets than a number
pub record IsLawfulFamily (t : List ℕ) (widest : ℕ) (f : Family) : Type 0 where
  pub thresholds : IsThresholds t
  pub narrow : (p : Place) (s : State) → is_state_over t s ≡ true → is_over_or_none t (f.narrow p s) ≡ true
  pub step : (step : Step) (s : State) → is_state_over t s ≡ true → is_over_or_none t (f.step step s) ≡ true
  pub test : (test : Test) (s : State) → is_state_over t s ≡ true → is_over_or_none t (f.test test s) ≡ true
  pub few : (pc : ℕ) (aim : Aim) (s : State) → is_state_over t s ≡ true → length (f.resolve pc aim s).list ≤ widest

-- of lesser states, over more thresholds, the functions of the second family give no more than those of the first
pub record IsFinerFamily (t more : List ℕ) (f g : Family) : Type 0 where
  pub thresholds : AreMore t more
  pub narrow : (p : Place) (a b : State) → is_state_over more a ≡ true → is_state_over t b ≡ true → is_state_at_most a b ≡ true
      → is_less (g.narrow p a) (f.narrow p b) ≡ true
  pub step : (step : Step) (a b : State) → is_state_over more a ≡ true → is_state_over t b ≡ true → is_state_at_most a b ≡ true
      → is_less (g.step step a) (f.step step b) ≡ true
  pub test : (test : Test) (a b : State) → is_state_over more a ≡ true → is_state_over t b ≡ true → is_state_at_most a b ≡ true
      → is_less (g.test test a) (f.test test b) ≡ true
  pub list : (pc : ℕ) (aim : Aim) (a b : State) → is_state_over more a ≡ true → is_state_over t b ≡ true → is_state_at_most a b ≡ true
      → (target : ℕ) → Contains (g.resolve pc aim a).list target → Contains (f.resolve pc aim b).list target
  pub whole : (pc : ℕ) (aim : Aim) (a b : State) → is_state_over more a ≡ true → is_state_over t b ≡ true → is_state_at_most a b ≡ true
      → (f.resolve pc aim b).whole ≡ true → (g.resolve pc aim a).whole ≡ true

-- the steps at depths below 2 lead to such depths
pub record IsLawfulProgram (m : Program) : Type 0 where
  pub depth : (p : Place) (step : Step) (way : Way) → is_shallow p ≡ true → m.act p ≡ Acts step way → step.depth < 2

-- the greatest length of what is read and given
abbrev pub most : Program → ℕ
most m = 8 + 2 * m.widest

-- the rules of a program as those of a system, over functions with thresholds
abbrev pub rules_of : List ℕ → Family → Program → Rules Key Fact
rules_of t f m = record {
  starts = starts m;
  reads = reads;
  gives = gives f m;
  join = joined t;
  at_most = is_at_most;
  counted = is_counted;
  fits = fits t;
  rank = rank t;
  top = top_rank t;
  most = most m;
}

-- lawful functions make the rules of a lawful program a lawful system
abbrev pub RulesAreLawful : Type 0
RulesAreLawful =
    (t : List ℕ) (f : Family) (m : Program) → IsLawfulFamily t m.widest f → IsFinerFamily t t f f → IsLawfulProgram m
    → IsLawful compare (rules_of t f m)

-- the rules over more thresholds give no more
abbrev pub MoreThresholdsAreFiner : Type 0
MoreThresholdsAreFiner =
    (t more : List ℕ) (f g : Family) (m : Program) → IsLawfulFamily t m.widest f → IsLawfulFamily more m.widest g → IsFinerFamily t more f g → IsLawfulProgram m
    → IsFiner (rules_of more g m) (rules_of t f m)
