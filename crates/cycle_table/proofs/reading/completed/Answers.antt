use Rattle.std.proofs.Common.{rules, ◌≡◌, ◌<◌, ◌≤◌, length, None, sym, subst, ◌∙◌}
use Rattle.cycle_table.proofs.Faults.{none_free, none_missing, tells_version}
use Rattle.cycle_table.specs.Class.{place_of, count_of, first_free, version_of}
use Rattle.cycle_table.specs.declared.classes.Version.{Version}
use Rattle.cycle_table.proofs.reading.completed.Goals as goal

pub returns-in-None-clause-costs : goal.returns-in-None-clause-costs
returns-in-None-clause-costs c =
    let none : first_free c.args.version c.args.costs ≡ None = sym c.first_free.ensures ∙ c.in-None.is in
    let count : length c.args.costs ≡ 30 = search rules in
    let told : version_of c.args.costs ≡ c.args.version =
    tells_version c.args.version c.args.costs (λ class within. none_free c.args.version c.args.costs class none within) c.requires.none in
    record {
      count = count;
      least = λ class within. none_missing c.args.version c.args.costs class none (subst (λ (v : Version). place_of class < count_of v) told within);
      none = λ class beyond. c.requires.none class (subst (λ (v : Version). count_of v ≤ place_of class) told beyond);
      most = c.requires.most;
    }
