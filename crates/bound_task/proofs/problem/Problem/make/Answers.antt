use Rattle.std.proofs.Common.{◌∙◌, refl, subst}
use Rattle.report_runs.proofs.Targets.{code_binds}
use Rattle.value_lattice.specs.Thresholds.{IsThresholds}
use Rattle.bound_task.proofs.problem.Problem.make.Goals as goal

pub returns : goal.returns
returns c = record {
  image_is = c.in_ok-system.ensures.image;
  those_are = c.in_ok-system.ensures.binding;
  costs_are = refl;
  eight_is = c.in_ok-system.ensures.eight ∙ c.eight-eight.ensures;
  thresholds = c.in_ok-system.ensures.thresholds;
  lawful = subst IsThresholds c.thresholds.ensures c.are_thresholds.ensures;
  bound = code_binds c.args.image c.args.binding c.accepted.ensures c.sound.ensures c.requires;
}
