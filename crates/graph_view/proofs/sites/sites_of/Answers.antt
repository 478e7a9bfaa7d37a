use Rattle.graph_view.proofs.Sited.{sites_more}
use Rattle.graph_view.proofs.sites.sites_of.Goals as goal

pub loop-calling-preserved : goal.loop-calling-preserved
loop-calling-preserved c =
    sites_more c.args.nodes.now c.args.callings.now c.loop-calling.calling-index _ c.loop-calling.sites.items c.push_site.new.sites.items
    c.loop-calling-test.true c.loop-calling.invariant c.in_ok-push_site.ensures
