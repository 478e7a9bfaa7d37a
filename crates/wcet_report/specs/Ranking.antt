-- Outcomes by where they stand in a report.
use Rattle.std.specs.Prelude.{◌≡◌, ℕ, ◌<◌, List, [], All, None, length, map, slice_index_or}
use Rattle.wcet_report.specs.declared.context.Context.TheVariants.{Plain}
use Rattle.wcet_report.specs.Context.{context_text}
use Rattle.wcet_report.specs.Order.{known_rank, AreOrdered}
use Rattle.std.specs.declared.cmp.Ordering.{Ordering}
use Rattle.wcet_report.specs.contracts.sorting.RankOrd.TheImpl as rank_ord
use Rattle.wcet_report.specs.declared.outcome.Outcome.{Outcome}
use Rattle.wcet_report.specs.declared.sorting.Rank.{Rank}

-- ranks by the entry, the kind of context, its text, and last the place in the list
abbrev pub rank_cmp : Rank → Rank → Ordering
rank_cmp = (rank_ord.ghosts).cmp

-- this is where an outcome stands that is at an index of its list
pub record IsRankOf (outcome : Outcome) (place : ℕ) (rank : Rank) : Type 0 where
  pub sub : rank.sub ≡ outcome.sub
  pub known : rank.known ≡ known_rank outcome.context
  pub text : rank.text.items ≡ context_text outcome.context
  pub index : rank.index ≡ place

-- the outcome that stands there
abbrev pub picked : List Outcome → Outcome → Rank → Outcome
picked list d rank = slice_index_or list rank.index d

-- these are the ranks of so many first outcomes of a list, in its order
pub record AreRanks (list : List Outcome) (count : ℕ) (ranks : List Rank) : Type 0 where
  pub long : length ranks ≡ count
  pub each : (k : ℕ) (d : Outcome) (e : Rank) → k < count → IsRankOf (slice_index_or list k d) k (slice_index_or ranks k e)

-- the ranks put the outcomes of a list into the order of a report
pub record OrdersBy (list : List Outcome) (ranks : List Rank) : Type 0 where
  pub below : All (λ rank. rank.index < length list) ranks
  pub ordered : (d : Outcome) → AreOrdered list (map (picked list d) ranks)

-- an outcome of nothing, for what is asked past the end of a list
abbrev pub no_outcome : Outcome
no_outcome = record { sub = 0; context = Plain; loops = []; reasons = []; bound = None }
