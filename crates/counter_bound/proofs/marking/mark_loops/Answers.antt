use Rattle.std.proofs.Common.{◌||◌, ℕ, Bool, List, [], ◌∷◌, take, get_or, sym, ap, ◌∙◌}
use Rattle.std.proofs.lemmas.List.{take_all}
use Rattle.counter_bound.specs.Body.{is_marked, is_inner}
use Rattle.counter_bound.proofs.Inner.{inner_more, inner_none, or_none, or_after}
use Rattle.counter_bound.proofs.marking.mark_loops.Goals as goal

pub loop-node-init : goal.loop-node-init
loop-node-init c = λ i l. or_none (is_marked c.args.marks.now i) (is_inner c.args.loops.now c.args.head [] (get_or c.args.body.now i 0))
    (inner_none c.args.loops.now c.args.head (get_or c.args.body.now i 0))

pub loop-node-preserved : goal.loop-node-preserved
loop-node-preserved c = λ i l.
    let n = get_or c.args.body.now i 0 in
    let seen = is_inner c.args.loops.now c.args.head (take c.loop-node.node-index c.args.body.now) n in
    c.mark_loop.ensures i l
    ∙ (ap (λ (b : Bool). b || is_inner c.args.loops.now c.args.head (get_or c.args.body.now c.loop-node.node-index 0 ∷ []) n) (c.loop-node.invariant i l)
    ∙ (or_after (is_marked c.args.marks.now i) seen (is_inner c.args.loops.now c.args.head (get_or c.args.body.now c.loop-node.node-index 0 ∷ []) n)
    ∙ ap (λ (b : Bool). is_marked c.args.marks.now i || b)
    (sym (inner_more c.args.loops.now c.args.head c.args.body.now c.loop-node.node-index n c.loop-node-test.true))))

pub returns : goal.returns
returns c = λ i l. c.loop-node.invariant i l
    ∙ ap (λ (xs : List ℕ). is_marked c.args.marks.now i || is_inner c.args.loops.now c.args.head xs (get_or c.args.body.now i 0))
    (take_all c.loop-node.node-index c.args.body.now c.loop-node-test.false)
