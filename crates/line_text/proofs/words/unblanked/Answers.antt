use Rattle.std.proofs.Common.{◌≡◌, ℕ, length, Option, ap, ◌∙◌, not, unwrap_or, drop}
use Rattle.std.specs.List.{position_or_len}
use Rattle.line_text.proofs.LineTexts.{place_is}
use Rattle.line_text.specs.LineText.{is_blank}
use Rattle.line_text.proofs.words.unblanked.Goals as goal

pub returns-clause-value : goal.returns-clause-value
returns-clause-value c =
    let start : c.unwrap_or-start.result ≡ position_or_len (λ b. not (is_blank b)) c.args.line.now =
    c.unwrap_or-start.ensures ∙ ap (λ (o : Option ℕ). unwrap_or o (length c.args.line.now)) c.first_of_word.ensures
    ∙ place_is (λ b. not (is_blank b)) c.args.line.now in
    c.split_at.ensures.back ∙ ap (λ (n : ℕ). drop n c.args.line.now) start
