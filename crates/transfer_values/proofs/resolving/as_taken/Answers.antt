use Rattle.std.proofs.Common.{ℕ, ◌<◌, ◌^◌}
use Rattle.std.proofs.lemmas.List.Elements.{All-from_get_or}
use Rattle.transfer_values.proofs.CandidateLemmas.{taken_is}
use Rattle.transfer_values.proofs.resolving.as_taken.Goals as goal

pub returns : goal.returns
returns c =
    taken_is c.args.image.now c.args.taken.now (All-from_get_or (λ (a : ℕ). a < 2 ^ 32) c.args.taken.now 0 (λ i h. (c.type_inv.taken i).fits))
    c.requires.rise c.requires.each c.requires.all
