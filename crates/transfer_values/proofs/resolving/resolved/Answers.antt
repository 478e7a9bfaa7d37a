use Rattle.std.proofs.Common.{◌≡◌, subst}
use Rattle.std.specs.Prelude.{IfOk}
use Rattle.jump_resolve.specs.declared.resolved.Resolved.{Resolved}
use Rattle.transfer_values.proofs.ResolveLemmas.{resolved_fixed, resolved_listed, resolved_others}
use Rattle.transfer_values.proofs.resolving.resolved.Goals as goal

pub returns-in-Fixed : goal.returns-in-Fixed
returns-in-Fixed c =
    subst (λ (r : Resolved). IfOk c.fixed.result (λ x. x ≡ r))
    (resolved_fixed c.args.t.now c.args.image.now c.args.binding.now c.args.pc c.in-Fixed.target c.args.aim c.args.state.now c.in-Fixed.is) c.fixed.ensures

pub returns-in-Some : goal.returns-in-Some
returns-in-Some c =
    subst (λ (r : Resolved). IfOk c.targets.result (λ x. x ≡ r))
    (resolved_listed c.args.t.now c.args.image.now c.args.binding.now c.args.pc c.args.aim c.in-Computed.left c.in-Computed.right c.in-Computed.kind
    c.args.state.now
    c.in_ok-v-in-Computed.v c.in-Some.to.now c.in-Computed.is c.in_ok-v-in-Computed.ensures.value c.in-Some.ensures) c.targets.ensures

pub returns : goal.returns
returns c =
    subst (λ (r : Resolved). IfOk c.targets-in-None.result (λ x. x ≡ r))
    (resolved_others c.args.t.now c.args.image.now c.args.binding.now c.args.pc c.args.aim c.in-Computed.left c.in-Computed.right c.in-Computed.kind
    c.args.state.now
    c.in_ok-v-in-Computed.v c.candidates.result.now c.in-Computed.is c.in_ok-v-in-Computed.ensures.value c.in-None.ensures c.candidates.ensures)
    c.targets-in-None.ensures
