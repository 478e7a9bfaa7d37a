-- The worked assertions are met by the run that keeps them, and by none of the machines that break them.
use Rattle.std.proofs.Common.{◌≡◌, ℕ, zero, suc, pos, neg_ℤ, false, [], ◌∷◌, Some, None, All, Contains, refl, sym, ◌∙◌, arith, eq-eqb}
use Rattle.std.specs.Prelude.{◌==◌}
use Rattle.std.specs.Int.Signed.{le_z_yes}
use Rattle.std.proofs.lemmas.Bool.{false≢true}
use Rattle.assert_bind.specs.Sight.{Sight, IsMetBy, MeetsEach}
use Rattle.assert_bind.specs.Worked.{CanBeMetAndBroken, alone, worked, kept, breaking}
use Rattle.assert_bind.specs.declared.body.BoundAssertion.{BoundAssertion}
use Rattle.assert_bind.specs.declared.body.BoundBody.TheVariants as body

-- numbers that differ aren't equal
other : {P : Type 0} (a b : ℕ) → (a == b) ≡ false → a ≡ b → P
other a b differ same = absurd (false≢true (sym differ ∙ eq-eqb a b same))

-- one assertion after the other is met
met_each : (sight : Sight) → IsMetBy (body.At 4096 8 (neg_ℤ (pos 3)) (pos 5)) sight
    → IsMetBy (body.Jump 4100 (4096 ∷ 4112 ∷ [])) sight → IsMetBy (body.Never 4104) sight
    → IsMetBy (body.CallTo 4112 (8192 ∷ [])) sight
    → MeetsEach worked sight
met_each sight a b c e zero d less = tt
met_each sight a b c e (suc zero) d less = a
met_each sight a b c e (suc (suc zero)) d less = b
met_each sight a b c e (suc (suc (suc zero))) d less = c
met_each sight a b c e (suc (suc (suc (suc zero)))) d less = e
met_each sight a b c e (suc (suc (suc (suc (suc k))))) d less = absurd (omega (arith, less))

met : All (MeetsEach worked) kept
met zero d less =
    met_each (record { pc = 4096; register = alone 8 4294967294; target = None })
    (λ at. record { least = le_z_yes tt; most = le_z_yes tt }) (other 4096 4100 refl) (other 4096 4104 refl) (other 4096 4112 refl)
met (suc zero) d less =
    met_each (record { pc = 4100; register = alone 8 7; target = Some 4112 })
    (other 4100 4096 refl) (λ at. (1, omega arith, refl)) (other 4100 4104 refl) (other 4100 4112 refl)
met (suc (suc zero)) d less =
    met_each (record { pc = 4112; register = alone 8 7; target = Some 8192 })
    (other 4112 4096 refl) (other 4112 4100 refl) (other 4112 4104 refl) (λ at. (0, omega arith, refl))
met (suc (suc (suc k))) d less = absurd (omega (arith, less))

-- addresses that aren't listed
no_target : Contains {X = ℕ} (4096 ∷ 4112 ∷ []) 4116 → ⊥
no_target (zero, less, is) = other 4096 4116 refl is
no_target (suc zero, less, is) = other 4112 4116 refl is
no_target (suc (suc k), less, is) = absurd (omega (arith, less))

no_callee : Contains {X = ℕ} (8192 ∷ []) 8196 → ⊥
no_callee (zero, less, is) = other 8192 8196 refl is
no_callee (suc k, less, is) = absurd (omega (arith, less))

any : BoundAssertion
any = record { line = 0; body = body.Root 0 }

broken : All (λ sight. ¬ MeetsEach worked sight) breaking
broken zero d less = λ meets. absurd (((meets 1 any (omega arith)) refl).most.le)
broken (suc zero) d less = λ meets. absurd (((meets 1 any (omega arith)) refl).least.le)
broken (suc (suc zero)) d less = λ meets. no_target ((meets 2 any (omega arith)) refl)
broken (suc (suc (suc zero))) d less = λ meets. (meets 3 any (omega arith)) refl
broken (suc (suc (suc (suc zero)))) d less = λ meets. no_callee ((meets 4 any (omega arith)) refl)
broken (suc (suc (suc (suc (suc k))))) d less = absurd (omega (arith, less))

-- each kind of statement can be met and broken
pub can_be_both : CanBeMetAndBroken
can_be_both = record { met = met; broken = broken }
