use Rattle.sparc_decode.proofs.Rows.{each_word}
use Rattle.sparc_decode.proofs.laws.each_word_stands_for_one.Goals as goal

pub returns : goal.returns
returns c = each_word
