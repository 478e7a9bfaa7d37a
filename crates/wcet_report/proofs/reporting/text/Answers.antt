use Rattle.std.proofs.Common.{◌≡◌, ◌++◌, ℕ, map, rules, codes}
use Rattle.std.specs.BTreeMap.{get}
use Rattle.std.specs.List.{flat_map}
use Rattle.std.specs.Ordering.{nat_cmp}
use Rattle.wcet_report.proofs.Reports.{report_from}
use Rattle.wcet_report.proofs.reporting.text.Goals as goal
use Rattle.wcet_report.specs.Order.{AreOrdered}
use Rattle.wcet_report.specs.Progress.{PutsEach}
use Rattle.wcet_report.specs.Ranking.{picked, no_outcome}
use Rattle.wcet_report.specs.Report.{bounded_line, flattened, open_bound}

pub returns : goal.returns
returns c =
    let bounds : (root : ℕ) → get nat_cmp c.in_ok-bounds.bounds root ≡ open_bound root c.args.outcomes.now.list = λ root. search rules in
    let order : AreOrdered c.args.outcomes.now.list (map (picked c.args.outcomes.now.list no_outcome) c.in_ok-order.order.items) = search rules in
    let first : c.in_ok-text.text.items ≡ codes "boundt report 1\n" = search rules in
    let roots : c.put_roots.new.text.items ≡ c.in_ok-text.text.items
    ++ flat_map (λ root. bounded_line c.args.image.now root (flattened (get nat_cmp c.in_ok-bounds.bounds root))) c.args.outcomes.now.roots =
    search rules in
    let puts : PutsEach c.args.image.now (map (picked c.args.outcomes.now.list no_outcome) c.in_ok-order.order.items) c.put_roots.new.text.items
    c.put_contexts.new.text.items = search rules in
    let all : c.extend_from_slice.new.self.items ≡ c.put_contexts.new.text.items ++ codes "end\n" = search rules in
    report_from c.args.image.now c.args.outcomes.now (map (picked c.args.outcomes.now.list no_outcome) c.in_ok-order.order.items)
    (get nat_cmp c.in_ok-bounds.bounds) c.in_ok-text.text.items c.put_roots.new.text.items c.put_contexts.new.text.items
    c.extend_from_slice.new.self.items bounds order first roots puts all
