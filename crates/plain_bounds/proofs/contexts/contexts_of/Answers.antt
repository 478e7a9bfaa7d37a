use Rattle.std.proofs.Common.{◌≡◌, ◌↔◌, ◌<◌, ℕ, true, List, [], length, get_or, Contains, Option, ap, subst, sym, ◌∙◌}
use Rattle.std.specs.Map.{keys_of}
use Rattle.abs_state.specs.Key.{compare}
use Rattle.abs_state.specs.declared.key.Key.{Key}
use Rattle.assert_bind.specs.Binding.{roots}
use Rattle.assert_bind.specs.declared.body.BoundAssertion.{BoundAssertion}
use Rattle.context_bounds.specs.Own.{own_rows}
use Rattle.context_bounds.specs.Setting.{setting_of}
use Rattle.flow_system.specs.Facts.{fact_at}
use Rattle.plain_bounds.proofs.Chosen.{chosen_are, has_arguments}
use Rattle.plain_bounds.proofs.contexts.contexts_of.Goals as goal
use Rattle.plain_bounds.specs.Contexts.{AreChosen}
use Rattle.plain_parts.specs.Joined.{AreJoins, HasArguments, entry_at}
use Rattle.plain_parts.specs.Listed.{AreListed}
use Rattle.transfer_rules.specs.Fact.{fits}
use Rattle.transfer_rules.specs.declared.fact.Fact.{Fact}

pub joins-requires-clause-fit : goal.joins-requires-clause-fit
joins-requires-clause-fit c = λ k v found.
    subst (λ (t : List ℕ). fits t k v ≡ true) (sym c.thresholds.ensures) ((c.requires.due []).due.closed.fit k v found)

pub arguments_of_all-requires-clause-given : goal.arguments_of_all-requires-clause-given
arguments_of_all-requires-clause-given c = λ n less none.
    let listed : AreListed c.args.system.now.binding (keys_of c.args.whole.now) c.in_ok-subs.subs.items =
    subst (λ (b : List BoundAssertion). AreListed b (keys_of c.args.whole.now) c.in_ok-subs.subs.items) c.binding.ensures
    (subst (λ (ks : List Key). AreListed c.binding.result.now ks c.in_ok-subs.subs.items) c.requires.keys c.in_ok-subs.ensures) in
    let same : (sub : ℕ) → Contains c.in_ok-roots.roots.items sub ↔ Contains (roots c.args.system.now.binding) sub =
    λ sub. subst (λ (b : List BoundAssertion). Contains c.in_ok-roots.roots.items sub ↔ Contains (roots b) sub) c.binding-2.ensures
    (c.in_ok-roots.ensures.roots sub) in
    let joins : AreJoins c.args.system.now.thresholds (fact_at compare c.args.whole.now) c.in_ok-subs.subs.items
    (keys_of c.args.whole.now) c.in_ok-joined.joined.items =
    subst (λ (t : List ℕ). AreJoins t (fact_at compare c.args.whole.now) c.in_ok-subs.subs.items
    (keys_of c.args.whole.now) c.in_ok-joined.joined.items) c.thresholds.ensures
    (subst (λ (ks : List Key). AreJoins c.thresholds.result.now (fact_at compare c.args.whole.now) c.in_ok-subs.subs.items ks c.in_ok-joined.joined.items)
    c.requires.keys
    (subst (λ (subs : List ℕ). AreJoins c.thresholds.result.now (fact_at compare c.args.whole.now) subs c.args.keys.now c.in_ok-joined.joined.items)
    c.deref.ensures.value
    c.in_ok-joined.ensures)) in
    subst (λ (list : List (Option Fact)). HasArguments (entry_at list n)) (sym c.deref-4.ensures.value)
    (has_arguments (setting_of c.args.system.now [] c.args.whole.now) (c.requires.due []) c.in_ok-subs.subs.items c.in_ok-roots.roots.items listed same
    c.in_ok-joined.joined.items joins n (subst (λ (list : List ℕ). n < length list) c.deref-3.ensures.value less)
    (λ has.
    none
    (subst (λ (list : List ℕ). Contains list (get_or c.deref-3.result.now n 0)) (sym c.deref-2.ensures.value)
    (subst (λ (list : List ℕ). Contains c.in_ok-roots.roots.items (get_or list n 0)) (sym c.deref-3.ensures.value) has))))

pub returns : goal.returns
returns c = λ costs.
    let listed : AreListed c.args.system.now.binding (keys_of c.args.whole.now) c.in_ok-subs.subs.items =
    subst (λ (b : List BoundAssertion). AreListed b (keys_of c.args.whole.now) c.in_ok-subs.subs.items) c.binding.ensures
    (subst (λ (ks : List Key). AreListed c.binding.result.now ks c.in_ok-subs.subs.items) c.requires.keys c.in_ok-subs.ensures) in
    let same : (sub : ℕ) → Contains c.in_ok-roots.roots.items sub ↔ Contains (roots c.args.system.now.binding) sub =
    λ sub. subst (λ (b : List BoundAssertion). Contains c.in_ok-roots.roots.items sub ↔ Contains (roots b) sub) c.binding-2.ensures
    (c.in_ok-roots.ensures.roots sub) in
    let joins : AreJoins c.args.system.now.thresholds (fact_at compare c.args.whole.now) c.in_ok-subs.subs.items
    (keys_of c.args.whole.now) c.in_ok-joined.joined.items =
    subst (λ (t : List ℕ). AreJoins t (fact_at compare c.args.whole.now) c.in_ok-subs.subs.items
    (keys_of c.args.whole.now) c.in_ok-joined.joined.items) c.thresholds.ensures
    (subst (λ (ks : List Key). AreJoins c.thresholds.result.now (fact_at compare c.args.whole.now) c.in_ok-subs.subs.items ks c.in_ok-joined.joined.items)
    c.requires.keys
    (subst (λ (subs : List ℕ). AreJoins c.thresholds.result.now (fact_at compare c.args.whole.now) subs c.args.keys.now c.in_ok-joined.joined.items)
    c.deref.ensures.value
    c.in_ok-joined.ensures)) in
    let chosen : AreChosen c.in_ok-roots.roots.items c.in_ok-subs.subs.items c.in_ok-joined.joined.items c.in_ok-arguments.arguments.items =
    subst (λ (list : List (Option Fact)). AreChosen c.in_ok-roots.roots.items c.in_ok-subs.subs.items list c.in_ok-arguments.arguments.items)
    c.deref-4.ensures.value
    (subst (λ (list : List ℕ). AreChosen c.in_ok-roots.roots.items list c.deref-4.result.now c.in_ok-arguments.arguments.items) c.deref-3.ensures.value
    (subst (λ (list : List ℕ). AreChosen list c.deref-3.result.now c.deref-4.result.now c.in_ok-arguments.arguments.items) c.deref-2.ensures.value
    c.in_ok-arguments.ensures)) in
    record {
      listed = listed;
      count = chosen.count;
      arguments = λ n less.
          chosen_are (setting_of c.args.system.now costs c.args.whole.now) (c.requires.due costs) c.in_ok-subs.subs.items c.in_ok-roots.roots.items listed same
          c.in_ok-joined.joined.items joins n less (get_or c.in_ok-arguments.arguments.items n []) (chosen.each n less);
      keys =
          c.in_ok-keys.ensures
          ∙ (ap (λ (list : List ℕ). own_rows list c.args.keys.now) c.deref-5.ensures.value ∙ ap (own_rows c.in_ok-subs.subs.items) c.requires.keys);
    }
