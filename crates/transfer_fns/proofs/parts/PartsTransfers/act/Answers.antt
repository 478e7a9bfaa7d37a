use Rattle.std.proofs.Common.{sym, ◌∙◌}
use Rattle.std.proofs.lemmas.Bool.{lt-ltb}
use Rattle.transfer_acts.proofs.Depths.{programs_are_lawful}
use Rattle.transfer_fns.proofs.parts.PartsTransfers.act.Goals as goal

pub returns-clause-shallow : goal.returns-clause-shallow
returns-clause-shallow c = λ step way same.
    (programs_are_lawful c.args.self.now.image.now c.args.self.now.binding.now c.args.self.now.eight 0).depth c.args.p step way
    (lt-ltb c.args.p.depth 2 c.requires) (sym c.act_at.ensures ∙ same)
