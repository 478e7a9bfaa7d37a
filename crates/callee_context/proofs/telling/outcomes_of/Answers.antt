use Rattle.std.proofs.Common.{◌≡◌, ◌+◌, ℕ, List, [], ◌∷◌, ◌++◌, Some, None, length, ap, subst, sym, arith}
use Rattle.std.specs.Prelude.{slice_get}
use Rattle.callee_context.proofs.Popped.{count_on, left_on, told_on}
use Rattle.callee_context.specs.Told.{AreSome, outcome_with}
use Rattle.context_list.specs.Numbered.{One}
use Rattle.wcet_report.specs.declared.outcome.Outcome.{Outcome}
use Rattle.callee_context.proofs.telling.outcomes_of.Goals as goal

none_some : {X : Type 0} {x : X} → None ≡ Some x → ⊥
none_some e = cc

pub loop-answer-init : goal.loop-answer-init
loop-answer-init c = record {
  left = λ n x at. at;
  count =
      let none : length c.new-list.result.items ≡ 0 = ap (λ (list : List Outcome). length list) c.new-list.ensures.items in
      omega (arith, none);
  told = λ place outcome at.
      absurd (none_some (subst (λ (list : List Outcome). slice_get list place ≡ Some outcome) c.new-list.ensures.items at));
}

pub loop-answer-preserved : goal.loop-answer-preserved
loop-answer-preserved c =
    let popped : c.loop-answer.answers.items ≡ c.pop.new.self.items ++ c.in-Some.answer ∷ [] = (c.in-Some.ensures {u = tt}).items in
    let before = c.loop-answer.invariant in
    let number : c.len.result ≡ length c.pop.new.self.items = omega (arith, c.len.ensures, c.pop.new.self.ok.0) in
    let is : (one : One) → slice_get c.args.found.now (length c.pop.new.self.items) ≡ Some one → c.in_ok-outcome.outcome ≡ outcome_with one c.in-Some.answer =
    subst (λ (n : ℕ). (one : One) → slice_get c.args.found.now n ≡ Some one → c.in_ok-outcome.outcome ≡ outcome_with one c.in-Some.answer) number
    (c.in_ok-outcome.ensures {u = tt}) in
    let pushed : c.push.new.self.items ≡ c.loop-answer.list.items ++ c.in_ok-outcome.outcome ∷ [] = (c.in_ok-push.ensures {u = tt}).items in
    record {
      left =
          left_on c.args.found.now c.args.answers.items c.loop-answer.answers.items c.pop.new.self.items c.in-Some.answer popped before.left;
      count =
          subst (λ (list : List Outcome). length list + length c.pop.new.self.items ≡ length c.args.answers.items) (sym pushed)
          (count_on c.args.found.now c.args.answers.items c.loop-answer.answers.items c.pop.new.self.items c.in-Some.answer popped before.left
          c.loop-answer.list.items before.count before.told c.requires c.in_ok-outcome.outcome is);
      told =
          subst (λ (list : List Outcome). AreSome c.args.found.now c.args.answers.items list) (sym pushed)
          (told_on c.args.found.now c.args.answers.items c.loop-answer.answers.items c.pop.new.self.items c.in-Some.answer popped before.left
          c.loop-answer.list.items before.count before.told c.requires c.in_ok-outcome.outcome is);
    }
