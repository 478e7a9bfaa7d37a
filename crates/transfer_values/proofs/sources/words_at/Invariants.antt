use Rattle.std.proofs.Common.{◌≡◌, ◌++◌, drop}
use Rattle.std.specs.Option.{option_map}
use Rattle.transfer_values.specs.Source.{words_at}
use Rattle.transfer_values.proofs.sources.words_at.Given as goal

abbrev pub invariant-loop-a : goal.invariant-loop-a
invariant-loop-a l = option_map (λ ws. l.words.items ++ ws) (words_at l.image (drop l.a-index l.addresses)) ≡ words_at l.image l.addresses
