-- The order of contexts in a report, and of loops in a context.
use Rattle.std.specs.Prelude.{ℕ, List}
use Rattle.std.specs.List.Sorted.{IsPermutation, IsSorted, IsSortedByKey}
use Rattle.std.specs.Ordering.{nat_cmp, ordering_then}
use Rattle.std.specs.Cmp.Lexicographic.{slice_cmp}
use Rattle.std.specs.declared.cmp.Ordering.{Ordering}
use Rattle.abs_state.specs.contracts.key.PlaceOrd.TheImpl as place_ord
use Rattle.abs_state.specs.declared.key.Place.{Place}
use Rattle.wcet_report.specs.Context.{context_text}
use Rattle.wcet_report.specs.declared.context.Context.{Context}
use Rattle.wcet_report.specs.declared.context.Context.TheVariants.{Plain, With}
use Rattle.wcet_report.specs.declared.loops.LoopOutcome.{LoopOutcome}
use Rattle.wcet_report.specs.declared.outcome.Outcome.{Outcome}

-- program points by their subprogram, address, what comes next, and depth
abbrev pub place_cmp : Place → Place → Ordering
place_cmp = (place_ord.ghosts).cmp

-- plain contexts come first
abbrev pub known_rank : Context → ℕ
known_rank Plain = 0
known_rank (With args) = 1

-- contexts by their entry, plain before the others, then by the bytes of their text
abbrev pub outcome_cmp : Outcome → Outcome → Ordering
outcome_cmp a b =
    ordering_then (nat_cmp a.sub b.sub)
    (ordering_then (nat_cmp (known_rank a.context) (known_rank b.context))
    (slice_cmp nat_cmp (context_text a.context) (context_text b.context)))

-- these are the same contexts in the order of a report
pub record AreOrdered (list ordered : List Outcome) : Type 0 where
  pub same : IsPermutation list ordered
  pub rise : IsSorted outcome_cmp ordered

-- these are the same loops by rising head
pub record AreByHead (list ordered : List LoopOutcome) : Type 0 where
  pub same : IsPermutation list ordered
  pub rise : IsSortedByKey (λ each. each.head) place_cmp ordered
