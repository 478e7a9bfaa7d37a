use Rattle.std.proofs.Common.{sym, ◌∙◌}
use Rattle.flow_core.proofs.JoinLemmas.{stage_contained}
use Rattle.flow_core.proofs.StagingLemmas.{stage_new, stage_join}
use Rattle.flow_core.proofs.staging.stage_piece.Goals as goal

pub returns-then-at_most : goal.returns-then-at_most
returns-then-at_most g c = record {
  staged = λ done fd staged. stage_contained g.S.Key.Ord.cmp (g.S.System.rules c.args.system.now) (g.met.S.System.lawful c.args.system.now)
      c.args.facts.now done c.args.risen.now c.args.k c.args.v.now c.in-Some.there.now staged (sym c.in-Some.ensures)
      (sym c.at_most.ensures ∙ c.if-at_most.true);
}

pub returns-in_ok-put-in-None : goal.returns-in_ok-put-in-None
returns-in_ok-put-in-None g c = record {
  staged = stage_new g.S.Key.Ord.cmp (g.S.System.rules c.args.system.now) (g.met.S.System.lawful c.args.system.now) c.args.facts.now c.args.risen.now
      c.put.new.self c.args.k c.args.v.now c.in_ok-copied-in-None.copied c.requires.facts_fit c.requires.piece_fits c.in-None.ensures
      c.in_ok-copied-in-None.ensures c.in_ok-put-in-None.ensures.written c.in_ok-put-in-None.ensures.rise;
}

pub returns-in_ok-put-in-Some : goal.returns-in_ok-put-in-Some
returns-in_ok-put-in-Some g c = record {
  staged = stage_join g.S.Key.Ord.cmp (g.S.System.rules c.args.system.now) (g.met.S.System.lawful c.args.system.now) c.args.facts.now c.args.risen.now
      c.put-in-Some.new.self c.args.k c.args.v.now c.in-Some.there.now c.in_ok-joined-in-Some.joined c.requires.facts_fit c.requires.risen_fit
      c.requires.piece_fits c.in-Some.ensures (sym c.at_most.ensures ∙ c.if-at_most.false) c.in_ok-joined-in-Some.ensures c.in_ok-put-in-Some.ensures.written
      c.in_ok-put-in-Some.ensures.rise;
}
