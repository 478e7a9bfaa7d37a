use Rattle.std.proofs.Common.{◌≡◌, ℕ, ◌<◌, ◌≤◌, false, arith, sym, ◌∙◌, ap, subst}
use Rattle.std.specs.Prelude.{◌==◌, nat_lt}
use Rattle.std.specs.Int.{bit_at}
use Rattle.std.proofs.lemmas.Bool.Decides.{nat_tests}
use Rattle.std.proofs.lemmas.Nat.Bits.{bit_at_above}
use Rattle.call_effects.specs.Mask.{IsMask, has_cell}
use Rattle.call_effects.proofs.mask.Mask.has.Goals as goal

-- no cell from 48 on is in a mask
beyond : (mask c : ℕ) → IsMask mask → 48 ≤ c → nat_lt c 48 ≡ has_cell mask c
beyond mask c is high =
    let none = bit_at_above mask 48 c is.below high in
    let t : nat_lt c 48 ≡ false = grind (arith, nat_tests) in
    t ∙ sym (ap (λ (b : ℕ). b == 1) none)

pub returns-else-c-lt48-clause-cell : goal.returns-else-c-lt48-clause-cell
returns-else-c-lt48-clause-cell c = beyond c.args.self c.args.c (subst IsMask c.self.view_is c.self.invariant) c.if-c-lt48.false
