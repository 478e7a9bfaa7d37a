use Rattle.std.proofs.Common.{◌≡◌, ◌≢◌, ℕ, [], ◌∷◌, length, sym, ap, ◌∙◌, take, drop, eqb}
use Rattle.std.specs.List.{position_or_len}
use Rattle.std.proofs.lemmas.Bool.{both_ways, eq-eqb, eqb-true}
use Rattle.line_text.proofs.LineTexts.{nothing, word_of_none, word_of_rest}
use Rattle.line_text.specs.LineText.{is_blank, words_of}
use Rattle.line_text.proofs.words.next_word.Goals as goal

pub returns-then-is_empty : goal.returns-then-is_empty
returns-then-is_empty c =
    let none : length c.unblanked-line.result.now ≡ 0 = eqb-true (length c.unblanked-line.result.now) 0 (sym c.is_empty.ensures ∙ c.if-is_empty.true) in
    word_of_none c.args.line.now (sym c.unblanked-line.ensures.value ∙ nothing c.unblanked-line.result.now none)

pub returns : goal.returns
returns c =
    let line = c.unblanked-line.result.now in
    let some : line ≢ [] = λ none. both_ways (eqb (length line) 0) (sym c.is_empty.ensures ∙ c.if-is_empty.false) (eq-eqb (length line) 0 (ap length none)) in
    let value : c.word_len-end.result ≡ position_or_len is_blank line = c.word_len-end.ensures.value in
    let first : c.split_at.result.0.now ≡ take (position_or_len is_blank line) line = c.split_at.ensures.front ∙ ap (λ (n : ℕ). take n line) value in
    let rest : c.split_at.result.1.now ≡ drop (position_or_len is_blank line) line = c.split_at.ensures.back ∙ ap (λ (n : ℕ). drop n line) value in
    word_of_rest c.args.line.now line (sym c.unblanked-line.ensures.value) some ∙ (λ i. sym first i ∷ words_of (sym rest i))
