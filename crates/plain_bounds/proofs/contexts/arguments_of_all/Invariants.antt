use Rattle.std.proofs.Common.{◌≡◌, ◌<◌, ℕ, [], length, get_or}
use Rattle.plain_bounds.proofs.contexts.arguments_of_all.Given as goal
use Rattle.plain_bounds.specs.Contexts.{IsChosenAt}

-- those so far are chosen
abbrev pub invariant-loop-number : goal.invariant-loop-number
invariant-loop-number l = record {
  count : length l.list.items ≡ l.number;
  each : (n : ℕ) → n < l.number → IsChosenAt l.roots l.subs l.joined n (get_or l.list.items n []);
}
