use Rattle.std.proofs.Common.{◌≢◌, length, sym, ◌∙◌, eqb}
use Rattle.std.proofs.lemmas.Bool.{both_ways, eq-eqb, eqb-true}
use Rattle.assert_lang.proofs.Phrases.{next_word, no_word}
use Rattle.assert_lang.proofs.words.next_token.Goals as goal

pub returns-then-is_empty-clause-token : goal.returns-then-is_empty-clause-token
returns-then-is_empty-clause-token c =
    no_word c.args.column c.args.bytes.now c.unblanked-line.result.now c.unblanked-line.ensures.value
    (eqb-true (length c.unblanked-line.result.now) 0 (sym c.is_empty.ensures ∙ c.if-is_empty.true))

pub returns-clause-token : goal.returns-clause-token
returns-clause-token c =
    let line = c.unblanked-line.result.now in
    let some : length line ≢ 0 = λ none. both_ways (eqb (length line) 0) (sym c.is_empty.ensures ∙ c.if-is_empty.false) (eq-eqb (length line) 0 none) in
    next_word c.args.column c.args.bytes.now line c.split_at.result.0.now c.split_at.result.1.now c.head_len.result
    c.unblanked-line.ensures.value some c.head_len.ensures.value c.split_at.ensures.front c.split_at.ensures.back c.unblanked-line.ensures.shorter
