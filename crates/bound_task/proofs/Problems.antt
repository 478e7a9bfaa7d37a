-- What is so of the system of a problem is so of the image, the costs and the assertions that it is of.
use Rattle.std.proofs.Common.{◌≡◌, ◌∙◌, ℕ, ◌≤◌, List, ap, subst, Result, Ok, Err}
use Rattle.std.specs.Prelude.{IfOk, IsErrOf}
use Rattle.abs_state.specs.Key.{compare}
use Rattle.abs_state.specs.declared.key.Key.{Key}
use Rattle.assert_bind.specs.declared.body.BoundAssertion.{BoundAssertion}
use Rattle.flow_core.specs.Core.{IsOver, counted_keys}
use Rattle.flow_system.specs.Facts.{fact_at, KeysRise}
use Rattle.flow_system.specs.State.{IsDueGraph}
use Rattle.transfer_fns.specs.Setting.{rules_over}
use Rattle.transfer_rules.specs.declared.fact.Fact.{Fact}
use Rattle.bound_task.specs.Graph.{IsGraphOf, IsTooBigFor, most_nodes, rules_with}
use Rattle.bound_task.specs.Problem.{IsProblemOf, rules_in}
use Rattle.bound_task.specs.declared.problem.Problem.{Problem}

same_rules : (p : Problem) (image costs : List ℕ) (those : List BoundAssertion) → IsProblemOf image costs those p
    → rules_in p ≡ rules_with p.system.thresholds image costs those
same_rules p image costs those is =
    ap (λ i. rules_over p.system.thresholds i p.system.binding p.system.eight) is.image_is
    ∙ ap (λ b. rules_over p.system.thresholds image b p.system.eight) is.those_are
    ∙ ap (λ e. rules_over p.system.thresholds image those e) is.eight_is

pub graph_of_problem : (p : Problem) (image costs : List ℕ) (those : List BoundAssertion) (facts : List (Key × Fact)) → IsProblemOf image costs those p
    → KeysRise compare facts → IsDueGraph (rules_in p) (fact_at compare facts) → counted_keys (rules_in p) facts ≤ most_nodes → IsGraphOf image costs those facts
graph_of_problem p image costs those facts is rise due within = record {
  thresholds = p.system.thresholds;
  are_thresholds = is.thresholds;
  lawful = is.lawful;
  rise = rise;
  due = subst (λ m. IsDueGraph m (fact_at compare facts)) (same_rules p image costs those is) due;
  within = subst (λ m. counted_keys m facts ≤ most_nodes) (same_rules p image costs those is) within;
}

pub too_big_of_problem : (p : Problem) (image costs : List ℕ) (those : List BoundAssertion) → IsProblemOf image costs those p
    → IsOver compare (rules_in p) most_nodes → IsTooBigFor image costs those
too_big_of_problem p image costs those is over = record {
  thresholds = p.system.thresholds;
  are_thresholds = is.thresholds;
  over = subst (λ m. IsOver compare m most_nodes) (same_rules p image costs those is) over;
}

-- what follows of what an answer is
pub if_ok : {X E : Type 0} (r : Result X E) (P Q : X → Type 0) → ((x : X) → P x → Q x) → IfOk r P → IfOk r Q
if_ok (Ok x) P Q then p = then x p
if_ok (Err e) P Q then p = p

abbrev error_or : {X E : Type 0} → E → Result X E → E
error_or other (Ok x) = other
error_or other (Err e) = e

-- one error is another, whatever else the answers may be
pub err_moved : {X Y E : Type 0} (a b : E) → IsErrOf {T = X} {E = E} (Err a) b → IsErrOf {T = Y} {E = E} (Err a) b
err_moved a b e = ap Err (ap (error_or a) e)
