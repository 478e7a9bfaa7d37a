-- A worked run and assertions that it meets, and machines that break each of them.
use Rattle.std.specs.Prelude.{ℕ, ◌==◌, pos, neg_ℤ, List, [], ◌∷◌, Some, None, if◌then◌else◌, All}
use Rattle.assert_bind.specs.Sight.{Sight, AllMeetEach, MeetsEach}
use Rattle.assert_bind.specs.declared.body.BoundAssertion.{BoundAssertion}
use Rattle.assert_bind.specs.declared.body.BoundBody.TheVariants as body

-- the registers hold 0, but for this one
abbrev pub alone : ℕ → ℕ → ℕ → ℕ
alone reg word r = if r == reg then word else 0

-- at 4096 r8 is from -3 to 5; the jump at 4100 goes to 4096 or 4112; 4104 isn't reached; the call at 4112 calls 8192
abbrev pub worked : List BoundAssertion
worked =
    record { line = 1; body = body.Root 4096 }
    ∷ record { line = 2; body = body.At 4096 8 (neg_ℤ (pos 3)) (pos 5) }
    ∷ record { line = 3; body = body.Jump 4100 (4096 ∷ 4112 ∷ []) }
    ∷ record { line = 4; body = body.Never 4104 }
    ∷ record { line = 5; body = body.CallTo 4112 (8192 ∷ []) }
    ∷ []

-- r8 holds -2, then the jump to 4112 is taken, and there the call of 8192
abbrev pub kept : List Sight
kept =
    record { pc = 4096; register = alone 8 4294967294; target = None }
    ∷ record { pc = 4100; register = alone 8 7; target = Some 4112 }
    ∷ record { pc = 4112; register = alone 8 7; target = Some 8192 }
    ∷ []

-- r8 holds 6; r8 holds -4; the jump goes elsewhere; the instruction is reached; the call calls another
abbrev pub breaking : List Sight
breaking =
    record { pc = 4096; register = alone 8 6; target = None }
    ∷ record { pc = 4096; register = alone 8 4294967292; target = None }
    ∷ record { pc = 4100; register = alone 8 0; target = Some 4116 }
    ∷ record { pc = 4104; register = alone 8 0; target = None }
    ∷ record { pc = 4112; register = alone 8 0; target = Some 8196 }
    ∷ []

-- the assertions are met by the run, and by none of the others
pub record CanBeMetAndBroken : Type 0 where
  pub met : AllMeetEach worked kept
  pub broken : All (λ sight. ¬ MeetsEach worked sight) breaking
