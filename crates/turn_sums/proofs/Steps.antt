-- Steps of turns: there is one at most, and it bounds the passes.
use Rattle.std.proofs.Common.{◌≡◌, ap, arith}
use Rattle.graph_laws.proofs.Counters.{rising_passes, falling_passes}
use Rattle.turn_sums.specs.declared.step.TurnStep.TheVariants.{Rises, Falls}
use Rattle.turn_sums.specs.Step.{StepIsOne, StepBoundsPasses}

-- the turns of a loop change a cell by at most one step
pub one_step : StepIsOne
one_step edge body head changes (Rises a) (Rises b) s t =
    let l = s.rise t.between t.turn in
    let m = t.rise s.between s.turn in
    let i = s.is in let j = t.is in
    ap Rises (let e : a ≡ b = omega (arith, l, m, i, j) in e)
one_step edge body head changes (Falls a) (Falls b) s t =
    let l = s.fall t.between t.turn in
    let m = t.fall s.between s.turn in
    let i = s.is in let j = t.is in
    ap Falls (let e : a ≡ b = omega (arith, l, m, i, j) in e)
one_step edge body head changes (Rises a) (Falls b) s t =
    let l = s.rise t.between t.turn in let j = t.is in let o = s.one in absurd (omega (arith, l, j, o))
one_step edge body head changes (Falls a) (Rises b) s t =
    let l = s.fall t.between t.turn in let j = t.is in let o = s.one in absurd (omega (arith, l, j, o))

-- a cell that counts by a step, within a range at the head, bounds how often the head is passed
pub step_bounds : StepBoundsPasses
step_bounds edge body head changes lo hi (Rises by) stretch s counted = rising_passes edge body head changes lo hi by stretch s.one counted s.rise
step_bounds edge body head changes lo hi (Falls by) stretch s counted = falling_passes edge body head changes lo hi by stretch s.one counted s.fall
