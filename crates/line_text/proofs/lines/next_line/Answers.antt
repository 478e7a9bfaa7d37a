use Rattle.std.proofs.Common.{◌≡◌, ℕ, ◌+◌, ◌<◌, ◌≤◌, ◌∷◌, length, sym, ap, ◌∙◌, take, drop, eqb, arith}
use Rattle.std.specs.List.{position_or_len, before_first, after_first}
use Rattle.std.specs.Str.Lines.{lines, strip_carriage_return}
use Rattle.std.proofs.lemmas.Bool.{both_ways, eq-eqb}
use Rattle.line_text.proofs.LineTexts.{line_alone, line_before}
use Rattle.line_text.proofs.lines.next_line.Goals as goal

pub returns-then-end-text-clause-line : goal.returns-then-end-text-clause-line
returns-then-end-text-clause-line c =
    let value : c.place_of-end.result ≡ position_or_len (λ b. eqb b 10) c.args.text.now = c.place_of-end.ensures.value in
    let past : length c.args.text.now ≤ position_or_len (λ b. eqb b 10) c.args.text.now = omega arith in
    line_alone c.args.text.now past
    (λ none. both_ways (eqb (length c.args.text.now) 0) (sym c.is_empty.ensures ∙ c.if-is_empty.false) (eq-eqb (length c.args.text.now) 0 (ap length none)))

pub returns-clause-line : goal.returns-clause-line
returns-clause-line c =
    let value : c.place_of-end.result ≡ position_or_len (λ b. eqb b 10) c.args.text.now = c.place_of-end.ensures.value in
    let within : position_or_len (λ b. eqb b 10) c.args.text.now < length c.args.text.now = omega arith in
    let first : c.without_return.result.now ≡ strip_carriage_return (before_first (λ b. eqb b 10) c.args.text.now) =
    c.without_return.ensures.value ∙ ap (λ (n : ℕ). strip_carriage_return (take n c.args.text.now)) value in
    let rest : c.split_at.result.1.now ≡ after_first (λ b. eqb b 10) c.args.text.now =
    c.split_at.ensures.back ∙ ap (λ (n : ℕ). drop (n + 1) c.args.text.now) value in
    line_before c.args.text.now within ∙ (λ i. sym first i ∷ lines (sym rest i))
