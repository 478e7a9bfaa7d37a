use Rattle.std.proofs.Common.{ℕ, length, Option, ap, ◌∙◌, eqb, unwrap_or}
use Rattle.line_text.proofs.LineTexts.{place_is}
use Rattle.line_text.proofs.lines.place_of.Goals as goal

pub returns-clause-value : goal.returns-clause-value
returns-clause-value c =
    c.unwrap_or.ensures ∙ ap (λ (o : Option ℕ). unwrap_or o (length c.args.text.now)) c.first_place.ensures.value
    ∙ place_is (λ b. eqb b c.args.byte) c.args.text.now
