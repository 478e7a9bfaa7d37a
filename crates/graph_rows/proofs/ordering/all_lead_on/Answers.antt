use Rattle.std.proofs.Common.{◌≡◌, ℕ, inl, inr, true, false, length, subst, sym, ◌∙◌, arith}
use Rattle.std.proofs.lemmas.Bool.{cases_lt}
use Rattle.bt_base.specs.Graph.{is_edge}
use Rattle.loop_nest.proofs.Turned.{past}
use Rattle.graph_rows.specs.Leading.{LeadsOn}
use Rattle.graph_rows.proofs.ordering.all_lead_on.Goals as goal

pub loop-node-preserved : goal.loop-node-preserved
loop-node-preserved c = λ n l. elim (cases_lt n c.loop-node.node) [
  | inl a ↦ c.loop-node.invariant n a
  | inr a ↦ subst (λ (k : ℕ). LeadsOn (is_edge c.args.graph.now) k) (let e : c.loop-node.node ≡ n = omega (arith, l, a) in e) (c.leads_on.ensures c.if-not-leads_on.false)
]

pub returns : goal.returns
returns c = λ _ n m e. elim (cases_lt n (length c.args.graph.now)) [
  | inl a ↦ c.loop-node.invariant n (omega (arith, a, c.loop-node-test.false, c.count-count.ensures.count)) m e
  | inr a ↦ let f : true ≡ false = sym e ∙ past c.args.graph.now n m a in cc
]
