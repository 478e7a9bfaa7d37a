-- The lines of outcomes stand in their report.
use Rattle.std.proofs.Common.{ℕ, zero, suc, List, [], ◌∷◌, ◌++◌, refl, ap, sym, ◌∙◌, subst, arith, append_assoc, codes}
use Rattle.std.specs.List.{flat_map, AllZip}
use Rattle.std.specs.Prelude.{Contains}
use Rattle.std.proofs.lemmas.List.Sorted.{Contains-permutation}
use Rattle.wcet_report.specs.Laws.{HasWithin, ReportHasRoots, ReportHasEach, ReportHasLoops, ReportHasReasons}
use Rattle.wcet_report.specs.Outcome.{context_line, loop_line, reason_line}
use Rattle.wcet_report.specs.Report.{AreLines, IsReport, root_line}
use Rattle.wcet_report.specs.declared.outcome.Outcome.{Outcome}
use Rattle.wcet_report.specs.declared.outcome.Outcomes.{Outcomes}

-- what stands in a text stands in a longer one
pub longer : (part text front back : List ℕ) → HasWithin part text → HasWithin part (front ++ (text ++ back))
longer part text front back has = record {
  before = front ++ has.before;
  after = has.after ++ back;
  is =
      ap (λ t. front ++ (t ++ back)) has.is
      ∙ ap (λ t. front ++ t) (append_assoc has.before (part ++ has.after) back ∙ ap (λ t. has.before ++ t) (append_assoc part has.after back))
      ∙ sym (append_assoc front has.before (part ++ (has.after ++ back)));
}

in_front : (part text back : List ℕ) → HasWithin part text → HasWithin part (text ++ back)
in_front part text back has = longer part text [] back has

-- what stands in a text stands in it behind another
pub behind : (part text front : List ℕ) → HasWithin part text → HasWithin part (front ++ text)
behind part text front has = record {
  before = front ++ has.before;
  after = has.after;
  is = ap (λ t. front ++ t) has.is ∙ sym (append_assoc front has.before (part ++ has.after));
}

-- a text stands at the front of itself
pub itself : (text back : List ℕ) → HasWithin text (text ++ back)
itself text back = record { before = []; after = back; is = refl }

-- the text of an item stands in that of its list
pub in_list : {X : Type 0} (f : X → List ℕ) (xs : List X) (x : X) → Contains xs x → HasWithin (f x) (flat_map f xs)
in_list f [] x (k, less, is) = absurd (omega (arith, less))
in_list f (y ∷ ys) x (zero, less, is) = subst (λ z. HasWithin (f z) (f y ++ flat_map f ys)) is (itself (f y) (flat_map f ys))
in_list f (y ∷ ys) x (suc k, less, is) = behind (f x) (flat_map f ys) (f y) (in_list f ys x (k, omega (arith, less), is))

-- what holds of an item and a part of its
record HasPart (image : List ℕ) (outcome : Outcome) (parts : List (List ℕ)) : Type 0 where
  part : List ℕ
  among : Contains parts part
  lines : AreLines image outcome part

in_rest : {X : Type 0} (y : X) (ys : List X) (x : X) → Contains ys x → Contains (y ∷ ys) x
in_rest y ys x (k, less, is) = (suc k, omega (arith, less), is)

part_of : (image : List ℕ) (list : List Outcome) (parts : List (List ℕ)) (outcome : Outcome) → AllZip (AreLines image) list parts
    → Contains list outcome → HasPart image outcome parts
part_of image [] parts outcome each (k, less, is) = absurd (omega (arith, less))
part_of image (o ∷ os) [] outcome each has = absurd each
part_of image (o ∷ os) (p ∷ ps) outcome each (zero, less, is) = record {
  part = p;
  among = (0, omega arith, refl);
  lines = subst (λ one. AreLines image one p) is each.0;
}
part_of image (o ∷ os) (p ∷ ps) outcome each (suc k, less, is) =
    let rest : HasPart image outcome ps = part_of image os ps outcome each.1 (k, omega (arith, less), is) in record {
      part = rest.part;
      among = in_rest p ps rest.part rest.among;
      lines = rest.lines;
    }

-- what stands in the lines of each outcome stands in the report
within_report : (image : List ℕ) (outcomes : Outcomes) (text : List ℕ) (outcome : Outcome) (line : List ℕ) → IsReport image outcomes text
    → Contains outcomes.list outcome → ((part : List ℕ) → AreLines image outcome part → HasWithin line part) → HasWithin line text
within_report image outcomes text outcome line report has of_lines =
    let found : HasPart image outcome report.parts =
    part_of image report.ordered report.parts outcome report.each
    (Contains-permutation outcomes.list report.ordered outcome report.order.same has) in
    let part : HasWithin line (flat_map (λ part. part) report.parts) =
    within_part (of_lines found.part found.lines) (in_list (λ part. part) report.parts found.part found.among) in
    subst (λ t. HasWithin line t) (sym report.is)
    (behind line (flat_map (root_line image outcomes.list) outcomes.roots ++ (flat_map (λ part. part) report.parts ++ codes "end\n"))
    (codes "boundt report 1\n")
    (longer line (flat_map (λ part. part) report.parts) (flat_map (root_line image outcomes.list) outcomes.roots) (codes "end\n") part))
  where
    within_part : {line part text : List ℕ} → HasWithin line part → HasWithin part text → HasWithin line text
    within_part {line} {part} {text} inner outer =
        subst (λ t. HasWithin line t) (sym outer.is) (longer line part outer.before outer.after inner)

-- the line of the context of each outcome stands in the report
pub report_has_each : ReportHasEach
report_has_each image outcomes text outcome report has =
    within_report image outcomes text outcome (context_line image outcome) report has
    (λ part lines. subst (λ t. HasWithin (context_line image outcome) t) (sym lines.is)
    (itself (context_line image outcome) (flat_map loop_line lines.loops ++ flat_map (reason_line image) outcome.reasons)))

-- the line of each loop of each outcome stands in the report
pub report_has_loops : ReportHasLoops
report_has_loops image outcomes text outcome each report has among =
    within_report image outcomes text outcome (loop_line each) report has
    (λ part lines. subst (λ t. HasWithin (loop_line each) t) (sym lines.is)
    (longer (loop_line each) (flat_map loop_line lines.loops) (context_line image outcome) (flat_map (reason_line image) outcome.reasons)
    (in_list loop_line lines.loops each (Contains-permutation outcome.loops lines.loops each lines.by_head.same among))))

-- the line of each reason of each outcome stands in the report
pub report_has_reasons : ReportHasReasons
report_has_reasons image outcomes text outcome reason report has among =
    within_report image outcomes text outcome (reason_line image reason) report has
    (λ part lines. subst (λ t. HasWithin (reason_line image reason) t) (sym lines.is)
    (behind (reason_line image reason) (flat_map loop_line lines.loops ++ flat_map (reason_line image) outcome.reasons) (context_line image outcome)
    (behind (reason_line image reason) (flat_map (reason_line image) outcome.reasons) (flat_map loop_line lines.loops)
    (in_list (reason_line image) outcome.reasons reason among))))

-- the line of each root stands in the report
pub report_has_roots : ReportHasRoots
report_has_roots image outcomes text root report among =
    subst (λ t. HasWithin (root_line image outcomes.list root) t) (sym report.is)
    (longer (root_line image outcomes.list root) (flat_map (root_line image outcomes.list) outcomes.roots) (codes "boundt report 1\n")
    (flat_map (λ part. part) report.parts ++ codes "end\n")
    (in_list (root_line image outcomes.list) outcomes.roots root among))
