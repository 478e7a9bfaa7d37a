-- A small graph of calls, worked out in full: 0 calls 1 and 2, 1 calls 2, 3 and 4 call each other, and 5 calls 2 and 3.
use Rattle.std.specs.Prelude.{◌≡◌, ◌==◌, ◌&&◌, ◌||◌, ◌↔◌, ℕ, ◌+◌, Bool, true, List, [], ◌∷◌, map, slice_index_or}
use Rattle.std.specs.List.{Contains, sum}
use Rattle.bt_base.specs.Graph.{is_edge}
use Rattle.call_laws.specs.Calls.{AreBelow, ReachesCycle, AreFollowed, ChainsEnd}
use Rattle.call_laws.specs.Needed.{IsNeeded, IsFound}
use Rattle.call_laws.specs.Plain.{IsPlain}
use Rattle.call_laws.specs.Reason.{Causes, IsUnbounded, ReachesOwn}
use Rattle.call_laws.specs.Result.{HasResult}
use Rattle.call_laws.specs.Rising.{IsReasonList}

abbrev pub worked_graph : List (List ℕ)
worked_graph = (1 ∷ 2 ∷ []) ∷ (2 ∷ []) ∷ [] ∷ (4 ∷ []) ∷ (3 ∷ []) ∷ (2 ∷ 3 ∷ []) ∷ []

abbrev pub worked_calls : ℕ → ℕ → Bool
worked_calls = is_edge worked_graph

-- the calls between 3 and 4 aren't followed
abbrev pub worked_follows : ℕ → ℕ → Bool
worked_follows = is_edge ((1 ∷ 2 ∷ []) ∷ (2 ∷ []) ∷ [] ∷ [] ∷ [] ∷ (2 ∷ 3 ∷ []) ∷ [])

-- chains of followed calls end
pub record WorkedChainsEnd : Type 0 where
  pub followed : AreFollowed worked_calls worked_follows
  pub below : AreBelow worked_follows 6
  pub end : ChainsEnd worked_follows 6

-- one for the subprogram itself, and what its callees come to
abbrev pub worked_rule : ℕ → (ℕ → ℕ) → ℕ
worked_rule n values = 1 + sum (map values (slice_index_or worked_graph n []))

-- 0 comes to 4 and to nothing else, and 5, which reaches the cycle of 3 and 4, to nothing
pub record WorkedResults : Type 0 where
  pub result : HasResult worked_calls worked_rule 0 4
  pub one : (v : ℕ) → HasResult worked_calls worked_rule 0 v → v ≡ 4
  pub cycle : ReachesCycle worked_calls 5
  pub none : (v : ℕ) → HasResult worked_calls worked_rule 5 v → ⊥

-- where all are fit, 0 is plain and 5 isn't
pub record WorkedPlain : Type 0 where
  pub plain : IsPlain worked_calls (λ n. true) 0
  pub other : IsPlain worked_calls (λ n. true) 5 → ⊥

-- from 1 on, 1 and 2 are needed, and nothing else
pub record WorkedNeeded : Type 0 where
  pub found : IsFound (1 ∷ []) (λ n. slice_index_or worked_graph n []) (1 ∷ 2 ∷ [])
  pub exact : (k : ℕ) → Contains (1 ∷ 2 ∷ []) k ↔ IsNeeded (1 ∷ []) (λ n. slice_index_or worked_graph n []) k

-- 3 and 4 have the reason 7, and a call of d that has none gives the reason 10 + d
abbrev pub worked_causes : Causes
worked_causes = record { own = λ c r. ((c == 3) || (c == 4)) && (r == 7); calls = worked_follows; gives = λ c d r. r == 10 + d }

-- 5 has the one reason 13, and leads to a reason; 0 has none
pub record WorkedReasons : Type 0 where
  pub list : IsReasonList worked_causes 5 (13 ∷ [])
  pub one : (other : List ℕ) → IsReasonList worked_causes 5 other → other ≡ 13 ∷ []
  pub reaches : ReachesOwn worked_causes 5
  pub none : IsUnbounded worked_causes 0 → ⊥
