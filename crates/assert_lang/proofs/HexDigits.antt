-- The size of the value of hexadecimal digits.
use Rattle.std.proofs.Common.{◌≡◌, ℕ, ◌+◌, ◌*◌, ◌^◌, ◌<◌, ◌≤◌, List, length, IsTrue, lit<, arith}
use Rattle.assert_lang.specs.Number.{is_hex}
use Rattle.std.proofs.Math.Nat.{pow-le-pow_right}
use Rattle.std.proofs.lemmas.Grind.{pow_more}

-- before the eighth digit a value has at most 28 bits
pub small_power : (k : ℕ) → k < 8 → 16 ^ k ≤ 268435456
small_power k within = pow-le-pow_right {n = 16} (lit< tt) {i = k} {j = 7} (omega arith)

-- one more digit
pub next_power : (value digit k : ℕ) → value < 16 ^ k → digit < 16 → value * 16 + digit < 16 ^ (k + 1)
next_power value digit k small within = let more : 16 ^ (k + 1) ≡ 16 ^ k * 16 = pow_more 16 k in omega arith

-- there are at most eight
pub eight : (digits : List ℕ) → IsTrue (is_hex digits) → length digits ≤ 8
eight digits hex = grind arith
