use Rattle.std.proofs.Common.{◌≡◌, length, refl, subst, arith}
use Rattle.callee_context.proofs.Growing.{overfull}
use Rattle.callee_context.specs.Program.{setting_in}
use Rattle.context_list.specs.Numbered.{IsNumberOf}
use Rattle.callee_context.proofs.leading.number_of.Goals as goal

pub returns-clause-refused : goal.returns-clause-refused
returns-clause-refused c =
    let few = c.requires.found.few in
    let full : length c.args.found.now ≡ 4096 = let less = c.if-len-lt-MOST_CONTEXTS.false in omega (arith, few, less) in (
      refl,
      overfull (setting_in c.args.program.now) c.args.found.now c.requires.found (c.args.sub, c.args.context) c.requires.needed
          (subst (λ o. IsNumberOf c.args.found.now (c.args.sub, c.args.context) o) c.in-None.is (c.in_ok-number-2.ensures {u = tt})) full,
    )
