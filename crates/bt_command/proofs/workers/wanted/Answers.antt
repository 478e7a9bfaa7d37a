use Rattle.std.proofs.Common.{refl, subst}
use Rattle.bt_command.proofs.Wanting.{either_way}
use Rattle.bt_words.specs.Request.{IsRequest, asked_of, texts}
use Rattle.bt_words.specs.declared.request.Request.{Request}
use Rattle.bt_command.proofs.workers.wanted.Goals as goal

pub returns-in-Ok-Bound-clause-workers : goal.returns-in-Ok-Bound-clause-workers
returns-in-Ok-Bound-clause-workers c = record {
  asked = _;
  request = subst (λ (r : Request). IsRequest (texts c.args.words.now) (asked_of r)) c.in-Ok-Bound.field-0-is c.in-Ok-Bound.ensures.ok;
  count_is = refl;
}

pub returns-in-Ok-Graph-clause-workers : goal.returns-in-Ok-Graph-clause-workers
returns-in-Ok-Graph-clause-workers c = record {
  asked = _;
  request = subst (λ (r : Request). IsRequest (texts c.args.words.now) (asked_of r)) c.in-Ok-Graph.field-0-is c.in-Ok-Graph.ensures.ok;
  count_is = refl;
}

pub returns-in-Ok-Decode-clause-workers : goal.returns-in-Ok-Decode-clause-workers
returns-in-Ok-Decode-clause-workers c = record {
  asked = _;
  request = subst (λ (r : Request). IsRequest (texts c.args.words.now) (asked_of r)) c.in-Ok-Decode.field-0-is c.in-Ok-Decode.ensures.ok;
  count_is = refl;
}

pub returns-in-Ok-Generate-clause-workers : goal.returns-in-Ok-Generate-clause-workers
returns-in-Ok-Generate-clause-workers c = record {
  asked = _;
  request = subst (λ (r : Request). IsRequest (texts c.args.words.now) (asked_of r)) c.in-Ok-Generate.field-0-is c.in-Ok-Generate.ensures.ok;
  count_is = refl;
}

pub returns-in-Err-Usage-clause-asked : goal.returns-in-Err-Usage-clause-asked
returns-in-Err-Usage-clause-asked c =
    λ asked request. absurd (either_way (λ ok. cc) (λ want. cc) (c.in-Err-Usage.ensures.faultless request.faultless))
