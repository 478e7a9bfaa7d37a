use Rattle.std.proofs.Common.{sym, ◌∙◌}
use Rattle.transfer_values.proofs.CandidateLemmas.{no_labels}
use Rattle.transfer_values.proofs.resolving.labels_near.Goals as goal

pub returns-then-not-code : goal.returns-then-not-code
returns-then-not-code c = no_labels c.args.image.now c.args.pc (sym c.code.ensures ∙ c.if-not-code.true)
