-- The laws of the system of an image and of assertions, over any thresholds.
use Rattle.std.proofs.Common.{ℕ, Bool, List}
use Rattle.std.proofs.Props.{props}
use Rattle.std.specs.List.Sorted.{IsStrictlySortedBy-prop}
use Rattle.abs_state.specs.Key.{compare}
use Rattle.assert_bind.specs.declared.body.BoundAssertion.{BoundAssertion}
use Rattle.flow_system.specs.Due.{IsFiner}
use Rattle.flow_system.specs.Laws.{IsLawful}
use Rattle.value_lattice.specs.Laws.{AreMore}
use Rattle.value_lattice.proofs.TestLemmas.{member_decides}
use Rattle.value_lattice.specs.Thresholds.{IsThresholds}
use Rattle.transfer_acts.proofs.Depths.{programs_are_lawful}
use Rattle.transfer_fns.specs.Numbers.{AreNumbers}
use Rattle.transfer_fns.specs.Setting.{program_in, rules_over}
use Rattle.transfer_rules.proofs.System.{rules_are_lawful, more_thresholds_are_finer}
use Rattle.transfer_values.proofs.LawLemmas.{families_are_lawful}
use Rattle.transfer_values.specs.Family.{family}
use Rattle.transfer_values.specs.Resolve.{widest}

pub AreNumbers-prop : (t : List ℕ) → IsProp (AreNumbers t)
AreNumbers-prop t = hlevel (props, IsStrictlySortedBy-prop)

thresholds_are : (t : List ℕ) → AreNumbers t → IsThresholds t
thresholds_are t are = record {
  rising = are.rising;
  places = are.places;
  least = (member_decides t 0).0 are.least;
  greatest = (member_decides t 4294967295).0 are.greatest;
}

pub numbers_are : (t : List ℕ) → IsThresholds t → AreNumbers t
numbers_are t is = record {
  rising = is.rising;
  places = is.places;
  least = (member_decides t 0).1 is.least;
  greatest = (member_decides t 4294967295).1 is.greatest;
}

-- the rules over thresholds are a lawful system
pub lawful_over : (t image : List ℕ) (binding : List BoundAssertion) (eight : Bool) → AreNumbers t → IsLawful compare (rules_over t image binding eight)
lawful_over t image binding eight are =
    let is = thresholds_are t are in
    rules_are_lawful t (family t image binding) (program_in image binding eight)
    (families_are_lawful.lawful t image binding is)
    (families_are_lawful.finer t t image binding is is (record { thresholds = λ k h. h }))
    (programs_are_lawful image binding eight (widest image binding))

-- and over more thresholds they give no more
pub finer_over : (t more image : List ℕ) (binding : List BoundAssertion) (eight : Bool) → AreNumbers t → AreNumbers more → AreMore t more
    → IsFiner (rules_over more image binding eight) (rules_over t image binding eight)
finer_over t more image binding eight are are_more in_more =
    let is = thresholds_are t are in
    let is_more = thresholds_are more are_more in
    more_thresholds_are_finer t more (family t image binding) (family more image binding) (program_in image binding eight)
    (families_are_lawful.lawful t image binding is)
    (families_are_lawful.lawful more image binding is_more)
    (families_are_lawful.finer t more image binding is is_more in_more)
    (programs_are_lawful image binding eight (widest image binding))
