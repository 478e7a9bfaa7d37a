use Rattle.std.proofs.Common.{◌≡◌, ℕ, List, Vec, Global, map, subst, sym}
use Rattle.std.proofs.lemmas.Result.{IfOk-weaker}
use Rattle.bt_base.specs.Graph.{is_edge}
use Rattle.graph_laws.specs.Scope.{AreFirstEntries}
use Rattle.loop_lines.proofs.Heads.{all_match, heads_match}
use Rattle.loop_lines.proofs.matching.matching_nodes.Goals as goal
use Rattle.loop_lines.specs.Matched.{AreBelow, AreMatching, head_of}
use Rattle.loop_nest.specs.LoopNest.{IsLoopNest, IsRefusal}
use Rattle.loop_nest.specs.declared.natural_loop.Loop.{Loop}
use Rattle.loop_nest.specs.declared.refusal.NestRefusal.{NestRefusal}

pub returns-in-Ok : goal.returns-in-Ok
returns-in-Ok c =
    let is : IsLoopNest (is_edge c.args.graph.now) c.args.entry c.loops.result.now =
    subst (λ (l : List Loop). IsLoopNest (is_edge c.args.graph.now) c.args.entry l) (sym c.loops.ensures) c.in-Ok.ensures in
    IfOk-weaker c.heads_of.result (λ (nodes : Vec ℕ Global). nodes.items ≡ map head_of c.loops.result.now)
    (λ (nodes : Vec ℕ Global). AreMatching c.args.graph.now c.args.entry nodes.items)
    (λ nodes same. heads_match c.args.graph.now c.args.entry c.loops.result.now nodes.items is same) c.heads_of.ensures

pub returns-in-Err-TwoEntries : goal.returns-in-Err-TwoEntries
returns-in-Err-TwoEntries c =
    let two : AreFirstEntries (is_edge c.args.graph.now) c.args.entry c.in-Err-TwoEntries.field-0-0 c.in-Err-TwoEntries.field-0-1 =
    subst (λ (r : NestRefusal). IsRefusal (is_edge c.args.graph.now) c.args.entry r) c.in-Err-TwoEntries.field-0-is c.in-Err-TwoEntries.ensures in
    IfOk-weaker c.all_below.result (λ (nodes : Vec ℕ Global). AreBelow c.count.result nodes.items)
    (λ (nodes : Vec ℕ Global). AreMatching c.args.graph.now c.args.entry nodes.items)
    (λ nodes all.
    all_match c.args.graph.now c.args.entry c.in-Err-TwoEntries.field-0-0 c.in-Err-TwoEntries.field-0-1 nodes.items two
    (subst (λ (count : ℕ). AreBelow count nodes.items) c.count.ensures.count all))
    c.all_below.ensures
