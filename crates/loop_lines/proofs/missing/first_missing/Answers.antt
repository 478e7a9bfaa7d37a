use Rattle.std.proofs.Common.{◌≤◌, ◌+◌, ℕ, List, length, take, Option, Some, sym, ap, subst, ◌∙◌, arith}
use Rattle.std.proofs.lemmas.Bool.{false≢true}
use Rattle.std.proofs.lemmas.List.{take_all}
use Rattle.assert_bind.specs.declared.body.LoopLine.{LoopLine}
use Rattle.loop_lines.proofs.LeastLines.{next_missing, next_there}
use Rattle.loop_lines.proofs.missing.first_missing.Goals as goal
use Rattle.loop_lines.proofs.missing.first_missing.Goals.{then-not-has, else-not-has}
use Rattle.loop_lines.specs.Lines.{IsFirstMissingOrNone}

pub loop-one-preserved : goal.loop-one-preserved
loop-one-preserved c = elim c.if-not-has.branch [
  | then-not-has w ↦
      subst (λ (o : Option ℕ). IsFirstMissingOrNone (take (c.loop-one.one-index + 1) c.args.lines.now) c.args.addresses.now o)
      (sym (w.least-is ∙ ap Some w.lesser.ensures))
      (next_missing c.args.lines.now c.loop-one.one-index _ c.args.addresses.now c.loop-one-test.true c.loop-one.least
      (λ there. absurd (false≢true (sym w.if-not-has.true ∙ c.has.ensures.1 there))) c.loop-one.invariant)
  | else-not-has w ↦
      subst (λ (o : Option ℕ). IsFirstMissingOrNone (take (c.loop-one.one-index + 1) c.args.lines.now) c.args.addresses.now o) (sym w.least-is)
      (next_there c.args.lines.now c.loop-one.one-index _ c.args.addresses.now c.loop-one-test.true c.loop-one.least
      (c.has.ensures.0 w.if-not-has.false) c.loop-one.invariant)
]

pub returns : goal.returns
returns c =
    let all : length c.args.lines.now ≤ c.loop-one.one-index = omega (arith, c.loop-one-test.false) in
    subst (λ (l : List LoopLine). IsFirstMissingOrNone l c.args.addresses.now c.loop-one.least)
    (take_all c.loop-one.one-index c.args.lines.now all) c.loop-one.invariant
