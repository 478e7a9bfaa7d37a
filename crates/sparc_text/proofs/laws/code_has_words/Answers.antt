use Rattle.sparc_text.proofs.CodeWords.{code_has_word}
use Rattle.sparc_text.proofs.laws.code_has_words.Goals as goal

pub returns : goal.returns
returns c = code_has_word
