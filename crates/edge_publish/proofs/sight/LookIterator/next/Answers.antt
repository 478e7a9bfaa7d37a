-- The receipt that was found shows the pair that is given.
use Rattle.std.proofs.Common.{ap, sym, refl, subst}
use Rattle.edge_publish.specs.Look.{IsNext}
use Rattle.edge_publish.proofs.sight.LookIterator.next.Goals as goal

pub returns-in-Some-clause-steps : goal.returns-in-Some-clause-steps
returns-in-Some-clause-steps g c = (
  record {
    board = ap (λ s. s.board) c.self.view_is;
    own = ap (λ s. s.own) c.self.view_is;
    end = ap (λ s. s.end) c.self.view_is;
  },
  record {
    receipt = c.in-Some.receipt;
    seen = refl;
    shown = (sym c.index-index.ensures.index, sym c.at-key.ensures.key);
    next = subst (λ s. IsNext s.board s.own s.next s.end c.in-Some.receipt) c.self.view_is c.in-Some.ensures.some;
    rule = c.at-key.ensures.rule;
    behind = refl;
  },
  tt,
)
