-- What the numbers of a statement keep to.
use Rattle.std.specs.Prelude.{ℕ, ◌≤◌}
use Rattle.assert_lang.specs.declared.assertion.Assertion.{Assertion}
use Rattle.assert_lang.specs.declared.assertion.Body.{Body}
use Rattle.assert_lang.specs.declared.assertion.Body.TheVariants.{Root, Never, At, Jump, CallTo, Loop, Stub}

-- a number from 1 to 2^62 - 1
pub record IsCount (count : ℕ) : Type 0 where
  pub some : 1 ≤ count
  pub most : count ≤ 4611686018427387903

-- a register other than `%g0`
pub record IsRegister (register : ℕ) : Type 0 where
  pub some : 1 ≤ register
  pub most : register ≤ 31

-- each count and time is one, and each register too
abbrev pub IsWithin : Body → Type 0
IsWithin (Root spot) = Unit {0}
IsWithin (Never spot) = Unit {0}
IsWithin (At spot reg lo hi) = IsRegister reg
IsWithin (Jump spot to) = Unit {0}
IsWithin (CallTo spot to) = Unit {0}
IsWithin (Loop spot count) = IsCount count
IsWithin (Stub spot time) = IsCount time

-- the same of each statement of a list
abbrev pub AssertsWithin : Assertion → Type 0
AssertsWithin assertion = IsWithin assertion.body
