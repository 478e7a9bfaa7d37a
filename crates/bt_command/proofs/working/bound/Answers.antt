use Rattle.std.proofs.Common.{Bool, true, false, refl, rules, subst}
use Rattle.bt_command.proofs.Says.{refuses_problem, refused_bound, unshown_bound}
use Rattle.bt_command.proofs.Shown.{report_shown, report_held}
use Rattle.bt_command.proofs.working.bound.Goals as goal
use Rattle.bt_command.specs.Call.{call_of}
use Rattle.bt_command.specs.Program.{IsReportOf}

pub returns-in-Err-clause-says : goal.returns-in-Err-clause-says
returns-in-Err-clause-says g c = refused_bound _ _ c.in-Err.status (c.in-Err.ensures.refused c.in-Err.status refl)

pub returns-in-Err-clause-shows : goal.returns-in-Err-clause-shows
returns-in-Err-clause-shows g c =
    unshown_bound _ (call_of g.F.Shelf.told g.F.Shelf.faults g.F.Shelf.asked g.K.Sink.told g.K.Sink.faults c.args.shelf.now c.problem_from.new.shelf c.args.out.now c.args.out.now)
    c.in-Err.status (c.in-Err.ensures.refused c.in-Err.status refl)

pub returns-in-Err-report_by-clause-says : goal.returns-in-Err-report_by-clause-says
returns-in-Err-report_by-clause-says g c =
    refused_bound _ _ c.in-Err-report_by.status
    (refuses_problem _ _ c.in-Ok.problem c.in-Err-report_by.status c.in-Ok.ensures.accepted
    (λ image costs those is. c.in-Err-report_by.ensures.refused image costs those c.in-Err-report_by.status is refl))

pub returns-in-Err-report_by-clause-shows : goal.returns-in-Err-report_by-clause-shows
returns-in-Err-report_by-clause-shows g c =
    unshown_bound _ (call_of g.F.Shelf.told g.F.Shelf.faults g.F.Shelf.asked g.K.Sink.told g.K.Sink.faults c.args.shelf.now c.problem_from.new.shelf c.args.out.now c.args.out.now)
    c.in-Err-report_by.status
    (refuses_problem _ _ c.in-Ok.problem c.in-Err-report_by.status c.in-Ok.ensures.accepted
    (λ image costs those is. c.in-Err-report_by.ensures.refused image costs those c.in-Err-report_by.status is refl))

pub returns-then-report-clause-says : goal.returns-then-report-clause-says
returns-then-report-clause-says g c = record {
  text = c.in-Ok-report_by.report.text.items;
  is = report_shown _ _ c.in-Ok.problem c.in-Ok.ensures.accepted true c.in-Ok-report_by.report.text.items
      (λ image costs those is. subst (λ (b : Bool). IsReportOf image costs those b c.in-Ok-report_by.report.text.items) c.if-report.true (c.in-Ok-report_by.ensures.report image costs those is));
  written = search rules;
}

pub returns-then-report-clause-shows : goal.returns-then-report-clause-shows
returns-then-report-clause-shows g c =
    report_held _ _ c.in-Ok.problem c.in-Ok-report_by.report.text.items c.in-Ok.ensures.accepted c.in-Ok-report_by.ensures.holds (search rules)

pub returns-in-Ok-write_all-clause-says : goal.returns-in-Ok-write_all-clause-says
returns-in-Ok-write_all-clause-says g c = record {
  text = c.in-Ok-report_by.report.text.items;
  is = report_shown _ _ c.in-Ok.problem c.in-Ok.ensures.accepted false c.in-Ok-report_by.report.text.items
      (λ image costs those is. subst (λ (b : Bool). IsReportOf image costs those b c.in-Ok-report_by.report.text.items) c.if-report.false (c.in-Ok-report_by.ensures.report image costs those is));
  written = search rules;
}

pub returns-in-Ok-write_all-clause-shows : goal.returns-in-Ok-write_all-clause-shows
returns-in-Ok-write_all-clause-shows g c =
    report_held _ _ c.in-Ok.problem c.in-Ok-report_by.report.text.items c.in-Ok.ensures.accepted c.in-Ok-report_by.ensures.holds (search rules)

pub returns-clause-says : goal.returns-clause-says
returns-clause-says g c = (
  c.in-Ok-report_by.report.bounded,
  record {
    text = c.in-Ok-report_by.report.text.items;
    is = report_shown _ _ c.in-Ok.problem c.in-Ok.ensures.accepted c.in-Ok-report_by.report.bounded c.in-Ok-report_by.report.text.items
        c.in-Ok-report_by.ensures.report;
    less = search rules;
    written = search rules;
    rose = search rules;
  },
)
