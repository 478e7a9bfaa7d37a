use Rattle.std.proofs.Common.{rules, subst, inl, inr, refl}
use Rattle.bt_words.specs.Request.{IsRequest, asked_of, texts}
use Rattle.bt_words.specs.declared.request.Request.{Request}
use Rattle.bt_command.specs.Answer.{refused, wanting, answered}
use Rattle.bt_command.specs.Call.{reading_of}
use Rattle.bt_command.proofs.Bounds.{bound_exact, bound_whole}
use Rattle.bt_command.proofs.Generates.{gen_exact, gen_shown, gen_whole}
use Rattle.bt_command.proofs.Graphs.{graph_exact, graph_whole}
use Rattle.bt_command.proofs.Listings.{decode_exact, decode_whole}
use Rattle.bt_command.proofs.working.run.Goals as goal

pub returns-in-Ok-Bound-clause-answers : goal.returns-in-Ok-Bound-clause-answers
returns-in-Ok-Bound-clause-answers g c =
    answered _ (subst (λ (r : Request). IsRequest (texts c.args.words.now) (asked_of r)) c.in-Ok-Bound.field-0-is c.in-Ok-Bound.ensures.ok)
    c.bound.ensures.says (bound_whole _ _ _ c.bound.ensures.says) (bound_exact _ _ _ c.bound.ensures.says)

pub returns-in-Ok-Bound-clause-asks : goal.returns-in-Ok-Bound-clause-asks
returns-in-Ok-Bound-clause-asks g c =
    inr (_, (subst (λ (r : Request). IsRequest (texts c.args.words.now) (asked_of r)) c.in-Ok-Bound.field-0-is c.in-Ok-Bound.ensures.ok, c.bound.ensures.asks))

pub returns-in-Ok-Graph-clause-answers : goal.returns-in-Ok-Graph-clause-answers
returns-in-Ok-Graph-clause-answers g c =
    answered _ (subst (λ (r : Request). IsRequest (texts c.args.words.now) (asked_of r)) c.in-Ok-Graph.field-0-is c.in-Ok-Graph.ensures.ok)
    c.graph.ensures.says (graph_whole _ _ _ c.graph.ensures.says) (graph_exact _ _ _ c.graph.ensures.says)

pub returns-in-Ok-Graph-clause-asks : goal.returns-in-Ok-Graph-clause-asks
returns-in-Ok-Graph-clause-asks g c =
    inr (_, (subst (λ (r : Request). IsRequest (texts c.args.words.now) (asked_of r)) c.in-Ok-Graph.field-0-is c.in-Ok-Graph.ensures.ok, c.graph.ensures.asks))

pub returns-in-Ok-Decode-clause-answers : goal.returns-in-Ok-Decode-clause-answers
returns-in-Ok-Decode-clause-answers g c =
    answered _ (subst (λ (r : Request). IsRequest (texts c.args.words.now) (asked_of r)) c.in-Ok-Decode.field-0-is c.in-Ok-Decode.ensures.ok)
    c.decode.ensures.says (decode_whole _ _ _ c.decode.ensures.says) (decode_exact _ _ _ c.decode.ensures.says)

pub returns-in-Ok-Decode-clause-asks : goal.returns-in-Ok-Decode-clause-asks
returns-in-Ok-Decode-clause-asks g c =
    inr (_, (subst (λ (r : Request). IsRequest (texts c.args.words.now) (asked_of r)) c.in-Ok-Decode.field-0-is c.in-Ok-Decode.ensures.ok, c.decode.ensures.asks))

pub generate_by-requires-clause-some : goal.generate_by-requires-clause-some
generate_by-requires-clause-some g c =
    let between = (subst (λ (r : Request). IsRequest (texts c.args.words.now) (asked_of r)) c.in-Ok-Generate.field-0-is c.in-Ok-Generate.ensures.ok).functions in
    let least = between.0 in search rules

pub generate_by-requires-clause-few : goal.generate_by-requires-clause-few
generate_by-requires-clause-few g c =
    let between = (subst (λ (r : Request). IsRequest (texts c.args.words.now) (asked_of r)) c.in-Ok-Generate.field-0-is c.in-Ok-Generate.ensures.ok).functions in
    let most = between.1 in search rules

pub returns-in-Ok-Generate-clause-answers : goal.returns-in-Ok-Generate-clause-answers
returns-in-Ok-Generate-clause-answers g c =
    let says = c.generate_by.ensures.says (reading_of g.F.Shelf.told g.F.Shelf.faults g.F.Shelf.asked c.args.shelf.now c.args.shelf.now) in
    answered _ (subst (λ (r : Request). IsRequest (texts c.args.words.now) (asked_of r)) c.in-Ok-Generate.field-0-is c.in-Ok-Generate.ensures.ok)
    says (gen_whole _ _ _ says) (gen_exact _ _ _ says)

pub returns-in-Ok-Generate-clause-runs : goal.returns-in-Ok-Generate-clause-runs
returns-in-Ok-Generate-clause-runs g c =
    gen_shown _ _ _ _ _ (subst (λ (r : Request). IsRequest (texts c.args.words.now) (asked_of r)) c.in-Ok-Generate.field-0-is c.in-Ok-Generate.ensures.ok)
    (c.generate_by.ensures.says _)

pub returns-in-Ok-Generate-clause-asks : goal.returns-in-Ok-Generate-clause-asks
returns-in-Ok-Generate-clause-asks g c = inl refl

pub returns-in-Ok-Generate-clause-writes : goal.returns-in-Ok-Generate-clause-writes
returns-in-Ok-Generate-clause-writes g c = c.generate_by.ensures.writes _

pub returns-in-Err-Usage-clause-answers : goal.returns-in-Err-Usage-clause-answers
returns-in-Err-Usage-clause-answers g c = let usage = c.in-Err-Usage.ensures.usage in refused (usage (search rules)) (search rules)

pub returns-in-Err-Want-clause-answers : goal.returns-in-Err-Want-clause-answers
returns-in-Err-Want-clause-answers g c = wanting

pub returns-in-Err-Usage-clause-asks : goal.returns-in-Err-Usage-clause-asks
returns-in-Err-Usage-clause-asks g c = inl refl

pub returns-in-Err-Want-clause-asks : goal.returns-in-Err-Want-clause-asks
returns-in-Err-Want-clause-asks g c = inl refl

pub bound-requires : goal.bound-requires
bound-requires g c =
    let few = (subst (λ (r : Request). IsRequest (texts c.args.words.now) (asked_of r)) c.in-Ok-Bound.field-0-is c.in-Ok-Bound.ensures.ok).workers in
    let least = few.0 in
    let most = few.1 in search rules

pub graph-requires : goal.graph-requires
graph-requires g c =
    let few = (subst (λ (r : Request). IsRequest (texts c.args.words.now) (asked_of r)) c.in-Ok-Graph.field-0-is c.in-Ok-Graph.ensures.ok).workers in
    let least = few.0 in
    let most = few.1 in search rules

pub generate_by-requires-clause-workers : goal.generate_by-requires-clause-workers
generate_by-requires-clause-workers g c =
    let few = (subst (λ (r : Request). IsRequest (texts c.args.words.now) (asked_of r)) c.in-Ok-Generate.field-0-is c.in-Ok-Generate.ensures.ok).workers in
    let least = few.0 in
    let most = few.1 in search rules
