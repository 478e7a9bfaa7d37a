use Rattle.transfer_values.proofs.LawLemmas.{families_are_lawful}
use Rattle.transfer_values.proofs.laws.families_are_lawful.Goals as goal

pub returns : goal.returns
returns c = families_are_lawful
