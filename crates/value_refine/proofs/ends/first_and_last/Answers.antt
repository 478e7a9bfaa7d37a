use Rattle.std.proofs.Common.{◌-◌, length, get_or, refl}
use Rattle.value_refine.proofs.ReachLemmas.{ends_of_set}
use Rattle.value_refine.proofs.ends.first_and_last.Goals as goal

pub returns : goal.returns
returns c = let words = c.args.words.now in ends_of_set words (record { low = get_or words 0 0; high = get_or words (length words - 1) 0 }) c.requires refl refl
