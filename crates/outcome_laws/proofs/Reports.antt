-- The report of a program is one.
use Rattle.std.proofs.Common.{◌≡◌, ℕ, List, [], ◌∷◌, ◌++◌, Contains, refl, sym, ap, subst, ◌∙◌, codes}
use Rattle.std.specs.List.{flat_map}
use Rattle.std.proofs.lemmas.List.Sorted.{IsPermutation-trans}
use Rattle.call_laws.proofs.Risings.{contains_first, contains_later}
use Rattle.wcet_report.proofs.ReportOnce.{report_once}
use Rattle.wcet_report.specs.Report.{IsReport, bounded_line, root_bound, root_line}
use Rattle.wcet_report.specs.declared.outcome.Outcome.{Outcome}
use Rattle.wcet_report.specs.declared.outcome.Outcomes.{Outcomes}
use Rattle.context_outcomes.specs.Outcomes.{AreOutcomes}
use Rattle.context_outcomes.specs.Setting.{Setting}
use Rattle.outcome_laws.proofs.Outcomes.{outcomes_are_one}
use Rattle.outcome_laws.proofs.Reportable.{contexts_in_range, outcomes_are_reportable}
use Rattle.outcome_laws.proofs.Roots.{root_same}
use Rattle.outcome_laws.specs.Laws.{AreSame, ReportsAreOne}

-- the lines of roots whose bounds are the same are the same
lines_same : (image : List ℕ) (xs ys : List Outcome) (rs : List ℕ) → ((r : ℕ) → Contains rs r → root_bound xs r ≡ root_bound ys r)
    → flat_map (root_line image xs) rs ≡ flat_map (root_line image ys) rs
lines_same image xs ys [] same = refl
lines_same image xs ys (r ∷ rs) same =
    let one : root_line image xs r ≡ root_line image ys r = ap (bounded_line image r) (same r (contains_first r rs)) in
    let rest = lines_same image xs ys rs (λ q has. same q (contains_later r rs q has)) in
    λ i. one i ++ rest i

-- a report of some outcomes is one of the same in another order
report_of : (S : Setting) (image : List ℕ) (one two : Outcomes) (text : List ℕ) → AreOutcomes S one → AreOutcomes S two → AreSame one two
    → IsReport image two text → IsReport image one text
report_of S image one two text are too same report = record {
  ordered = report.ordered;
  order = record { same = IsPermutation-trans one.list two.list report.ordered same.list report.order.same; rise = report.order.rise };
  parts = report.parts;
  each = report.each;
  is = report.is ∙ ap (λ (lines : List ℕ). codes "boundt report 1\n" ++ (lines ++ (flat_map (λ part. part) report.parts ++ codes "end\n"))) roots_same;
}
  where
    roots_same : flat_map (root_line image two.list) two.roots ≡ flat_map (root_line image one.list) one.roots
    roots_same =
        ap (flat_map (root_line image two.list)) (sym same.roots)
        ∙ sym (lines_same image one.list two.list one.roots
        (λ r has. root_same S one two are too r (subst (λ (l : List ℕ). Contains l r) are.entries has)))

-- outcomes have one report
one_report : (S : Setting) (outcomes : Outcomes) → AreOutcomes S outcomes → (image text also : List ℕ) → IsReport image outcomes text
    → IsReport image outcomes also → text ≡ also
one_report S outcomes are image text also report other =
    let can = outcomes_are_reportable S outcomes are in
    report_once image outcomes text also can.apart can.heads (contexts_in_range S outcomes are) can.arguments report other

-- so a program has one report
pub reports_are_one : ReportsAreOne
reports_are_one S image one two text also are too report other =
    one_report S one are image text also report (report_of S image one two also are too (outcomes_are_one S one two are too) other)
