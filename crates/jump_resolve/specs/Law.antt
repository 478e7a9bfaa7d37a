-- Laws of targets.
use Rattle.std.specs.Prelude.{◌≡◌, ℕ, ◌%◌, ◌^◌, ◌<◌, ◌≤◌, ◌⊎◌, ◌↔◌, Bool, true, List, length, Contains}
use Rattle.std.specs.List.Sorted.{IsStrictlyIncreasing}
use Rattle.bt_image.specs.Image.{is_code}
use Rattle.value_lattice.specs.Test.{is_at_most}
use Rattle.value_lattice.specs.Value.{MayHave}
use Rattle.value_lattice.specs.declared.value.Value.{Value}
use Rattle.jump_resolve.specs.Target.{targets}

-- an address is one of the candidates, code, and one that the value may be
pub record IsTarget (image : List ℕ) (v : Value) (candidates : List ℕ) (a : ℕ) : Type 0 where
  pub word : a < 2 ^ 32
  pub candidate : Contains candidates a
  pub code : is_code image a ≡ true
  pub may : MayHave v a

-- a list has each multiple of 4 that a value may be
abbrev pub HasEach : Value → List ℕ → Type 0
HasEach v list = (a : ℕ) → a < 2 ^ 32 → a % 4 ≡ 0 → MayHave v a → Contains list a

-- what the targets are, and when they are whole
pub record TargetsAreExact : Type 0 where
  pub rising : (image : List ℕ) (v : Value) (candidates : List ℕ) (asserted : Bool) → IsStrictlyIncreasing (targets image v candidates asserted).list
  pub list : (image : List ℕ) (v : Value) (candidates : List ℕ) (asserted : Bool) (a : ℕ)
      → Contains (targets image v candidates asserted).list a ↔ IsTarget image v candidates a
  pub whole : (image : List ℕ) (v : Value) (candidates : List ℕ) (asserted : Bool)
      → ((targets image v candidates asserted).whole ≡ true) ↔ ((asserted ≡ true) ⊎ HasEach v (targets image v candidates asserted).list)

-- a value that may be more has more targets, and where these are whole, the others are
pub record TargetsRise : Type 0 where
  pub list : (image : List ℕ) (v u : Value) (candidates : List ℕ) (asserted : Bool) (a : ℕ) → is_at_most v u ≡ true
      → Contains (targets image v candidates asserted).list a → Contains (targets image u candidates asserted).list a
  pub whole : (image : List ℕ) (v u : Value) (candidates : List ℕ) (asserted : Bool) → is_at_most v u ≡ true
      → (targets image u candidates asserted).whole ≡ true → (targets image v candidates asserted).whole ≡ true

-- there are no more targets than candidates
abbrev pub TargetsAreFew : Type 0
TargetsAreFew = (image : List ℕ) (v : Value) (candidates : List ℕ) (asserted : Bool) → length (targets image v candidates asserted).list ≤ length candidates
