-- Program points whose addresses are multiples of 4.
use Rattle.std.specs.Prelude.{◌≡◌, ℕ, ◌%◌, Bool, List, Contains}
use Rattle.abs_state.specs.declared.key.Key.TheVariants as key
use Rattle.abs_state.specs.declared.key.Next.{Next}
use Rattle.abs_state.specs.declared.key.Next.TheVariants.{At, Into, Back}
use Rattle.abs_state.specs.declared.key.Place.{Place}
use Rattle.assert_bind.specs.declared.body.BoundAssertion.{BoundAssertion}
use Rattle.transfer_acts.specs.Program.{program_of}
use Rattle.transfer_rules.specs.Give.{Facts, gives}
use Rattle.transfer_rules.specs.declared.fact.Fact.{Fact}
use Rattle.transfer_values.specs.Family.{family}

-- the address that control goes to is a multiple of 4; where it goes back to a caller, nothing is said
abbrev pub IsAlignedNext : Next → Type 0
IsAlignedNext (At n) = n % 4 ≡ 0
IsAlignedNext (Into t) = t % 4 ≡ 0
IsAlignedNext Back = Unit {0}

-- so is a program point's own address
pub record IsAligned (p : Place) : Type 0 where
  pub pc : p.pc % 4 ≡ 0
  pub aimed : IsAlignedNext p.next

-- so it is of each program point that it gives, over any facts, image and assertions
abbrev pub PlacesStayAligned : Type 0
PlacesStayAligned =
    (t image : List ℕ) (list : List BoundAssertion) (eight : Bool) (widest : ℕ) (p q : Place) (v : Fact) (x : Facts) → IsAligned p
    → Contains (gives (family t image list) (program_of image list eight widest) (key.Node p) x) (key.Node q, v) → IsAligned q
