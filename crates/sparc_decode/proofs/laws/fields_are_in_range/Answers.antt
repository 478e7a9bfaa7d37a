use Rattle.sparc_decode.proofs.FieldRanges.{all_in_range}
use Rattle.sparc_decode.proofs.laws.fields_are_in_range.Goals as goal

pub returns : goal.returns
returns c = all_in_range
