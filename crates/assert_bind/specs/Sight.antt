-- What it means that a run meets the assertions that speak of single instructions. It is said of what a machine shows
-- and not of the machine, so that it holds for each kind of machine that shows this.
use Rattle.std.specs.Prelude.{◌≡◌, ◌≢◌, ℕ, ℤ, ◌≤ℤ◌, false, List, Option, IfSome, All, Contains, ◌↔◌}
use Rattle.std.specs.Int.{w32, cast_signed}
use Rattle.assert_bind.specs.Binding.{never, range, listed}
use Rattle.assert_bind.specs.Index.{IsSound}
use Rattle.assert_bind.specs.declared.body.BoundAssertion.{BoundAssertion}
use Rattle.assert_bind.specs.declared.body.BoundBody.{BoundBody}
use Rattle.assert_bind.specs.declared.body.BoundBody.TheVariants as body

-- what a machine shows before a step: its program counter, the content of each register of its window, and where the
-- step jumps to if its instruction is a jump or a call by registers and the run takes the step
pub record Sight : Type 0 where
  pub pc : ℕ
  pub register : ℕ → ℕ
  pub target : Option ℕ

-- a word, read with sign, is in a range
pub record IsIn (lo hi : ℤ) (word : ℕ) : Type 0 where
  pub least : lo ≤ℤ cast_signed w32 word
  pub most : cast_signed w32 word ≤ℤ hi

-- what is shown meets an assertion: a `never` where another instruction is executed; an `at` where another one is, or
-- the register's content is in the range; a `jump` or a `call` where another one is, or it goes to a listed address.
-- A `loop` and a `stub` speak of whole activations, and nothing is asked of single instructions
abbrev pub IsMetBy : BoundBody → Sight → Type 0
IsMetBy (body.Root entry) sight = Unit {0}
IsMetBy (body.Never pc) sight = sight.pc ≢ pc
IsMetBy (body.At pc reg lo hi) sight = sight.pc ≡ pc → IsIn lo hi (sight.register reg)
IsMetBy (body.Jump pc to) sight = sight.pc ≡ pc → IfSome sight.target (Contains to)
IsMetBy (body.CallTo pc to) sight = sight.pc ≡ pc → IfSome sight.target (Contains to)
IsMetBy (body.Loop pc count) sight = Unit {0}
IsMetBy (body.Stub entry time) sight = Unit {0}

-- what is shown meets each assertion of a list
abbrev pub MeetsEach : List BoundAssertion → Sight → Type 0
MeetsEach list sight = All (λ assertion. IsMetBy assertion.body sight) list

-- all that a run shows meets each assertion of a list
abbrev pub AllMeetEach : List BoundAssertion → List Sight → Type 0
AllMeetEach list sights = All (MeetsEach list) sights

-- the same by what a binding is asked: the instruction may be reached, each register with a range is in it, and a jump
-- or call with a list goes to a listed address
pub record IsAllowed (list : List BoundAssertion) (sight : Sight) : Type 0 where
  pub reached : never list sight.pc ≡ false
  pub ranged : (reg : ℕ) → IfSome (range list sight.pc reg) (λ (lo, hi). IsIn lo hi (sight.register reg))
  pub listed : IfSome (listed list sight.pc) (λ to. IfSome sight.target (Contains to))

-- what a binding answers of an instruction is all that its assertions ask of it
abbrev pub AnswersAreAll : Type 0
AnswersAreAll = (list : List BoundAssertion) (sight : Sight) → IsSound list → MeetsEach list sight ↔ IsAllowed list sight
