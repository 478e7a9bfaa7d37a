use Rattle.std.proofs.Common.{◌≡◌, inl, inr, length, arith}
use Rattle.std.proofs.lemmas.Result.{IfOk-weaker}
use Rattle.context_answers.proofs.Limits.{all_limited, is_zero, none_gathered, not_zero, some_gathered}
use Rattle.context_answers.proofs.nesting.nested.Goals as goal
use Rattle.context_answers.specs.Found.{IsCosted, IsNested}
use Rattle.context_bounds.specs.Setting.{setting_of}

pub costed-requires-clause-each : goal.costed-requires-clause-each
costed-requires-clause-each c =
    let heads = (c.in_ok-outcomes.ensures {u = tt}).heads c.args.cycles.now in
    let count : length c.in_ok-outcomes.outcomes.items ≡ length c.args.nest.now = heads.count in
    omega (arith, count, c.in_ok-outcomes.outcomes.ok.0)

pub costed-requires-clause-limited : goal.costed-requires-clause-limited
costed-requires-clause-limited c =
    let none = is_zero _ (c.if-is_empty.ensures {u = tt}) in
    let empty : length c.push_loops.new.reasons.items ≡ 0 = omega (arith, none, c.push_loops.new.reasons.ok.0) in
    all_limited c.args.reasons.items c.in_ok-outcomes.outcomes.items c.deref.result.now c.push_loops.new.reasons.items (c.in_ok-push_loops.ensures {u = tt})
    c.deref.ensures.value empty

pub returns-then-is_empty : goal.returns-then-is_empty
returns-then-is_empty c =
    let none = is_zero _ (c.if-is_empty.ensures {u = tt}) in
    let empty : length c.push_loops.new.reasons.items ≡ 0 = omega (arith, none, c.push_loops.new.reasons.ok.0) in
    IfOk-weaker c.costed.result
    (IsCosted (setting_of c.args.system.now c.args.cycles.now c.args.whole.now) c.args.sub c.args.within.now c.args.bounds.now c.args.nest.now c.in_ok-outcomes.outcomes.items)
    (IsNested (setting_of c.args.system.now c.args.cycles.now c.args.whole.now) c.args.sub c.args.within.now c.args.bounds.now c.args.nest.now c.args.reasons.items)
    (λ answer costed. record {
      outcomes = c.in_ok-outcomes.outcomes.items;
      heads = (c.in_ok-outcomes.ensures {u = tt}).heads c.args.cycles.now;
      comes = inl (record {
        none = none_gathered c.args.reasons.items c.in_ok-outcomes.outcomes.items c.deref.result.now c.push_loops.new.reasons.items (c.in_ok-push_loops.ensures {u = tt})
            c.deref.ensures.value empty;
        costed = costed;
      });
    })
    (c.costed.ensures c.args.whole.now)

pub returns-else-is_empty : goal.returns-else-is_empty
returns-else-is_empty c =
    let some = not_zero _ (c.if-is_empty.ensures {u = tt}) in
    record {
      outcomes = c.in_ok-outcomes.outcomes.items;
      heads = (c.in_ok-outcomes.ensures {u = tt}).heads c.args.cycles.now;
      comes = inr (some_gathered c.args.reasons.items c.in_ok-outcomes.outcomes.items c.deref.result.now c.push_loops.new.reasons.items
          (c.in_ok-push_loops.ensures {u = tt}) c.deref.ensures.value (λ zero_is. some (omega (arith, zero_is, c.push_loops.new.reasons.ok.0))) c.refused.result
          c.refused.ensures.loops c.refused.ensures.reasons c.refused.ensures.bound);
    }
