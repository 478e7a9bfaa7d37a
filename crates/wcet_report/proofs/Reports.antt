-- A report is what its parts append.
use Rattle.std.proofs.Common.{◌≡◌, ℕ, List, ◌++◌, ap, ◌∙◌, append_assoc, codes}
use Rattle.std.specs.List.{flat_map}
use Rattle.std.specs.Prelude.{Option}
use Rattle.wcet_report.specs.Order.{AreOrdered}
use Rattle.wcet_report.specs.Progress.{PutsEach}
use Rattle.wcet_report.specs.Report.{IsReport, bounded_line, flattened, open_bound, root_line}
use Rattle.wcet_report.specs.declared.outcome.Outcome.{Outcome}
use Rattle.wcet_report.specs.declared.outcome.Outcomes.{Outcomes}

-- the first line, the lines of the roots, those of the contexts in order, and the last line are the report
pub report_from : (image : List ℕ) (outcomes : Outcomes) (ordered : List Outcome) (found : ℕ → Option (Option ℕ)) (first roots contexts all : List ℕ)
    → ((root : ℕ) → found root ≡ open_bound root outcomes.list) → AreOrdered outcomes.list ordered
    → first ≡ codes "boundt report 1\n"
    → roots ≡ first ++ flat_map (λ root. bounded_line image root (flattened (found root))) outcomes.roots
    → PutsEach image ordered roots contexts → all ≡ contexts ++ codes "end\n" → IsReport image outcomes all
report_from image outcomes ordered found first roots contexts all bounds order is_first is_roots puts is_all =
    let lines : List ℕ = flat_map (root_line image outcomes.list) outcomes.roots in
    let parts : List ℕ = flat_map (λ part. part) puts.parts in
    let of_roots : flat_map (λ root. bounded_line image root (flattened (found root))) outcomes.roots ≡ lines =
    ap (λ line. flat_map line outcomes.roots) (λ i root. bounded_line image root (flattened (bounds root i))) in
    record {
      ordered = ordered;
      order = order;
      parts = puts.parts;
      each = puts.each;
      is =
          is_all ∙ ap (λ t. t ++ codes "end\n") (puts.is ∙ ap (λ t. t ++ parts) (is_roots ∙ ap (λ t. first ++ t) of_roots ∙ ap (λ t. t ++ lines) is_first))
          ∙ append_assoc (codes "boundt report 1\n" ++ lines) parts (codes "end\n")
          ∙ append_assoc (codes "boundt report 1\n") lines (parts ++ codes "end\n");
    }
