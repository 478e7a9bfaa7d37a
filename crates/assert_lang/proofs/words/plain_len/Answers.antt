use Rattle.std.proofs.Common.{ℕ, length, Option, ap, ◌∙◌, not, unwrap_or}
use Rattle.line_text.proofs.LineTexts.{place_is}
use Rattle.assert_lang.specs.Phrase.{is_plain}
use Rattle.assert_lang.proofs.words.plain_len.Goals as goal

pub returns-clause-value : goal.returns-clause-value
returns-clause-value c =
    c.unwrap_or.ensures ∙ ap (λ (o : Option ℕ). unwrap_or o (length c.args.bytes.now)) c.first_parting.ensures
    ∙ place_is (λ b. not (is_plain b)) c.args.bytes.now
