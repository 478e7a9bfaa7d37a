use Rattle.std.proofs.Common.{◌≡◌, ◌+◌, List, [], ◌∷◌, ◌++◌, length, Result, sym, ap, subst, All, ◌∙◌, arith}
use Rattle.std.specs.Str.Lines.{lines}
use Rattle.std.proofs.lemmas.List.{length-append}
use Rattle.std.proofs.lemmas.List.Elements.{All-append, All-cons, All-nil}
use Rattle.std.proofs.lemmas.Result.{err_from_is_err_and}
use Rattle.assert_lang.proofs.AssertionLists.{decided, nothing_yet, next_read, refused_next}
use Rattle.assert_lang.specs.Bounds.{AssertsWithin}
use Rattle.assert_lang.specs.Phrase.{phrase_from}
use Rattle.assert_lang.specs.Text.{Row, assertions_of, list_of, rows_from}
use Rattle.assert_lang.specs.declared.assertion.Assertion.{Assertion}
use Rattle.assert_lang.specs.declared.refusal.AssertRefusal.{AssertRefusal}
use Rattle.assert_lang.proofs.parsing.parse.Goals as goal

pub loop-row-init : goal.loop-row-init
loop-row-init c = record {
  same =
      nothing_yet (rows_from 1 (lines c.args.bytes.now))
      ∙ ap (λ (l : List Assertion). decided l (rows_from 1 (lines c.args.bytes.now))) (sym {A = List Assertion} c.new-list.ensures.items);
  few = (let none : length c.new-list.result.items ≡ 0 = ap length c.new-list.ensures.items in omega arith);
  sound = subst (All AssertsWithin) (sym {A = List Assertion} c.new-list.ensures.items) (All-nil AssertsWithin);
  within = omega arith;
}

pub returns-in_err-assertion-clause-value : goal.returns-in_err-assertion-clause-value
unfolding assertions_of
returns-in_err-assertion-clause-value c =
    let p = err_from_is_err_and c.from_residual.result c.from_residual.ensures.1 in
    let row : Row = record { number = c.in-Some.row.number; phrase = phrase_from 1 c.in-Some.row.line.now } in
    let rest : List Row = rows_from (c.in-Some.row.number + 1) (lines c.in-Some.row.after.now) in
    let all : Result (List Assertion) AssertRefusal = list_of (rows_from 1 (lines c.args.bytes.now)) in
    rw (p.1, p.2) (refused_next all c.loop-row.list.items row rest c.in_err-assertion.field-0.0 c.loop-row.invariant.few
    (c.loop-row.invariant.same ∙ ap (decided c.loop-row.list.items) c.in-Some.ensures.row) c.in_err-assertion.ensures.value)

pub loop-row-preserved : goal.loop-row-preserved
loop-row-preserved c =
    let row : Row = record { number = c.in-Some.row.number; phrase = phrase_from 1 c.in-Some.row.line.now } in
    let rest : List Row = rows_from (c.in-Some.row.number + 1) (lines c.in-Some.row.after.now) in
    let all : Result (List Assertion) AssertRefusal = list_of (rows_from 1 (lines c.args.bytes.now)) in
    let items : c.push.new.self.items ≡ c.loop-row.list.items ++ c.in_ok-assertion.assertion ∷ [] = c.in_ok-push.ensures.items in
    record {
      same =
          next_read all c.loop-row.list.items row rest c.in_ok-assertion.assertion c.loop-row.invariant.few
          (c.loop-row.invariant.same ∙ ap (decided c.loop-row.list.items) c.in-Some.ensures.row) c.in_ok-assertion.ensures.value
          ∙ ap (λ (l : List Assertion). decided l rest) (sym {A = List Assertion} items);
      few = (let longer : length c.push.new.self.items ≡ length c.loop-row.list.items + 1 =
          ap length items ∙ length-append c.loop-row.list.items (c.in_ok-assertion.assertion ∷ []) in omega arith);
      sound = subst (All AssertsWithin) (sym {A = List Assertion} items)
          (All-append AssertsWithin c.loop-row.list.items (c.in_ok-assertion.assertion ∷ []) c.loop-row.invariant.sound
          (All-cons AssertsWithin c.in_ok-assertion.assertion [] c.in_ok-assertion.ensures.within (All-nil AssertsWithin)));
      within = (let shorter = c.in-Some.ensures.shorter in omega arith);
    }
