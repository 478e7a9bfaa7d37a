use Rattle.std.proofs.Common.{ℕ, length, Option, ap, ◌∙◌, unwrap_or}
use Rattle.line_text.proofs.LineTexts.{place_is}
use Rattle.line_text.specs.LineText.{is_blank}
use Rattle.line_text.proofs.words.word_len.Goals as goal

pub returns-clause-value : goal.returns-clause-value
returns-clause-value c =
    c.unwrap_or.ensures ∙ ap (λ (o : Option ℕ). unwrap_or o (length c.args.line.now)) c.first_blank.ensures ∙ place_is is_blank c.args.line.now
