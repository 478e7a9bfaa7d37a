use Rattle.std.proofs.Common.{◌≡◌, ◌++◌, drop}
use Rattle.std.specs.Int.{w32, cast_signed}
use Rattle.std.specs.List.{flat_map}
use Rattle.context_outcomes.specs.Arguments.{near}
use Rattle.context_bounds.proofs.arguments.push_words.Given as goal

abbrev pub invariant-loop-word : goal.invariant-loop-word
invariant-loop-word l =
    l.list.items ++ flat_map (λ w. near (cast_signed w32 w)) (drop l.word-index l.words)
    ≡ l.initial.list.items ++ flat_map (λ w. near (cast_signed w32 w)) l.words
