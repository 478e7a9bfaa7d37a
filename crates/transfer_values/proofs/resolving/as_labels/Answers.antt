use Rattle.std.proofs.Common.{ℕ, ◌<◌, ◌^◌}
use Rattle.std.proofs.lemmas.List.Elements.{All-from_get_or}
use Rattle.transfer_values.proofs.CandidateLemmas.{labels_are}
use Rattle.transfer_values.proofs.resolving.as_labels.Goals as goal

pub returns : goal.returns
returns c =
    labels_are c.args.image.now c.args.pc c.args.extent.0 c.args.extent.1 c.requires.extent c.args.labels.now c.requires.code
    (All-from_get_or (λ (a : ℕ). a < 2 ^ 32) c.args.labels.now 0 (λ i h. (c.type_inv.labels i).fits)) c.requires.rise c.requires.each c.requires.all
