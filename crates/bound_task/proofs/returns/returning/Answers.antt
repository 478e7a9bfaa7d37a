use Rattle.std.proofs.Common.{◌≡◌, ◌∙◌, subst, sym}
use Rattle.std.specs.List.{flat_map}
use Rattle.std.specs.List.Sorted.{IsStrictlyIncreasing, IsStrictlySortedBy}
use Rattle.std.specs.Map.{keys_of}
use Rattle.abs_state.specs.Key.{compare}
use Rattle.flow_system.specs.Facts.{fact_at}
use Rattle.bound_task.proofs.Problems.{if_ok}
use Rattle.bound_task.proofs.Rising.{increases}
use Rattle.bound_task.specs.Returning.{returning_at}
use Rattle.bound_task.proofs.returns.returning.Goals as goal

pub returns-clause-rise : goal.returns-clause-rise
returns-clause-rise c =
    let keys : c.deref.result.now ≡ keys_of c.args.facts.now = c.deref.ensures.value ∙ c.in_ok-keys.ensures.keys in
    if_ok c.returning_of.result (λ list. list.items ≡ flat_map (returning_at (fact_at compare c.args.facts.now)) c.deref.result.now)
    (λ list. IsStrictlyIncreasing list.items)
    (λ list are. subst IsStrictlyIncreasing (sym are)
    (increases (fact_at compare c.args.facts.now) c.deref.result.now
    (subst (IsStrictlySortedBy compare) (sym keys) c.in_ok-keys.ensures.rise)))
    c.returning_of.ensures
