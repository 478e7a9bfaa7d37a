use Rattle.sparc_text.proofs.Digits.{line_tells}
use Rattle.sparc_text.proofs.laws.lines_tell_words.Goals as goal

pub returns : goal.returns
returns c = line_tells
