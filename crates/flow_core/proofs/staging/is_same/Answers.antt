use Rattle.std.proofs.Common.{sym, ◌∙◌, inl, inr}
use Rattle.flow_core.proofs.StagingLemmas.{both_ways, not_at_most}
use Rattle.flow_core.proofs.staging.is_same.Goals as goal

pub at_most-requires : goal.at_most-requires
at_most-requires g c = record {
  key = c.args.k;
  first = c.requires.copies_fit c.args.k c.in-Some.copy.now (sym c.in-Some.ensures.fact);
  second = c.requires.facts_fit c.args.k c.in-Some-get.fact.now (sym c.in-Some-get.ensures.fact);
}

pub at_most-requires-then-at_most : goal.at_most-requires-then-at_most
at_most-requires-then-at_most g c = record {
  key = c.args.k;
  first = c.requires.facts_fit c.args.k c.in-Some-get.fact.now (sym c.in-Some-get.ensures.fact);
  second = c.requires.copies_fit c.args.k c.in-Some.copy.now (sym c.in-Some.ensures.fact);
}

pub returns-then-at_most-clause-same : goal.returns-then-at_most-clause-same
returns-then-at_most-clause-same g c = λ t.
    both_ways g.S.Key.Ord.cmp (g.S.System.rules c.args.system.now) (g.met.S.System.lawful c.args.system.now) c.args.facts.now c.args.copies.now c.args.k
    c.in-Some.copy.now c.in-Some-get.fact.now c.requires.facts_fit c.requires.copies_fit c.in-Some.ensures.fact c.in-Some-get.ensures.fact
    (sym c.at_most.ensures ∙ c.if-at_most.true) (sym c.at_most-then-at_most.ensures ∙ t)

pub returns-then-at_most-clause-other : goal.returns-then-at_most-clause-other
returns-then-at_most-clause-other g c = λ f same.
    not_at_most g.S.Key.Ord.cmp (g.S.System.rules c.args.system.now) (g.met.S.System.lawful c.args.system.now) c.args.facts.now c.args.copies.now c.args.k
    c.in-Some.copy.now c.in-Some-get.fact.now c.requires.facts_fit c.in-Some.ensures.fact c.in-Some-get.ensures.fact same
    (inr (sym c.at_most-then-at_most.ensures ∙ f))

pub returns-else-at_most-clause-other : goal.returns-else-at_most-clause-other
returns-else-at_most-clause-other g c = λ f same.
    not_at_most g.S.Key.Ord.cmp (g.S.System.rules c.args.system.now) (g.met.S.System.lawful c.args.system.now) c.args.facts.now c.args.copies.now c.args.k
    c.in-Some.copy.now c.in-Some-get.fact.now c.requires.facts_fit c.in-Some.ensures.fact c.in-Some-get.ensures.fact same
    (inl (sym c.at_most.ensures ∙ c.if-at_most.false))
