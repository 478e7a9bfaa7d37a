-- What a look over a board shows, and what its next step gives.
use Rattle.std.specs.Prelude.{◌≡◌, ℕ, ◌+◌, ◌<◌, ◌≤◌, List, Option, Some, IfSome, IfNone, Any}
use base.Stored.{Coded, coded_via, coded×, coded_ℕ}
use Rattle.std.specs.Coded.{coded_option}
use Rattle.std.specs.Iterator.{Drains}
use Rattle.edge_publish.specs.Board.{BoardId, board_coded}
use Rattle.edge_publish.specs.Receipt.{Shown, shown_coded, index_of, key_of, IsOf}

-- a look: its board, the receipt that it was given, the index that it reads next, the one that it ends before, and the
-- receipt of the pair that it gave last
pub record Sight (K : Type 0) : Type 0 where
  pub board : BoardId
  pub own : Option (Shown K)
  pub next : ℕ
  pub end : ℕ
  pub seen : Option (Shown K)

abbrev pub sight_coded : {K : Type 0} → Coded K → Coded (Sight K)
sight_coded {K} c =
    let receipts = coded_option (shown_coded c) in
    coded_via (coded× board_coded (coded× receipts (coded× coded_ℕ (coded× coded_ℕ receipts)))) (λ (s : Sight K). (s.board, (s.own, (s.next, (s.end, s.seen)))))
    (λ x y e i. record { board = (e i).0; own = (e i).1.0; next = (e i).1.1.0; end = (e i).1.1.1.0; seen = (e i).1.1.1.1 })

-- the receipt that a look was given, if any, is of its board and lies before its end
pub record IsOwn {K : Type 0} (board : BoardId) (own : Option (Shown K)) (end : ℕ) : Type 0 where
  pub here : (receipt : Shown K) → own ≡ Some receipt → IsOf board receipt
  pub before : (receipt : Shown K) → own ≡ Some receipt → index_of receipt < end

-- what is read at an index: a receipt of the board at that index, and at the index of the look's own receipt with its key
pub record IsRead {K : Type 0} (board : BoardId) (own : Option (Shown K)) (index : ℕ) (receipt : Shown K) : Type 0 where
  pub here : IsOf board receipt
  pub at : index_of receipt ≡ index
  pub own_key : (mine : Shown K) → own ≡ Some mine → index ≡ index_of mine → key_of receipt ≡ key_of mine

-- the receipt's pair, where it lies at an index or later, does not lie before another index
abbrev pub PassesNone : {K : Type 0} → Option (Shown K) → ℕ → ℕ → Type 0
PassesNone {K} own from index = (receipt : Shown K) → own ≡ Some receipt → from ≤ index_of receipt → index ≤ index_of receipt

-- the receipt that comes next after an index: it lies at that index or later, and doesn't pass the own one by
pub record IsNext {K : Type 0} (board : BoardId) (own : Option (Shown K)) (from : ℕ) (end : ℕ) (receipt : Shown K) : Type 0 where
  pub rising : from ≤ index_of receipt
  pub within : index_of receipt < end
  pub read : IsRead board own (index_of receipt) receipt
  pub passes_none : PassesNone own from (index_of receipt)

-- nothing comes after an index: the receipt's index, if there is one, lies before it
abbrev pub IsOver : {K : Type 0} → Option (Shown K) → ℕ → Type 0
IsOver {K} own from = (receipt : Shown K) → own ≡ Some receipt → index_of receipt < from

-- a look over the same board with the same receipt and end
pub record IsSameLook {K : Type 0} (old new : Sight K) : Type 0 where
  pub board : new.board ≡ old.board
  pub own : new.own ≡ old.own
  pub end : new.end ≡ old.end

-- a step gives this pair: a receipt of the board, which the look then holds, shows its index and its key, and the key
-- meets the board's rule
pub record GivesNext {K : Type 0} (holds : K → Type 0) (old new : Sight K) (index : ℕ) (key : K) : Type 0 where
  pub receipt : Shown K
  pub seen : new.seen ≡ Some receipt
  pub shown : (index_of receipt ≡ index) × (key_of receipt ≡ key)
  pub next : IsNext old.board old.own old.next old.end receipt
  pub rule : holds key
  pub behind : new.next ≡ index + 1

-- nothing is left to give: the own receipt was passed, the end is reached, and the pair that was given last stays in sight
pub record IsAtEnd {K : Type 0} (old new : Sight K) : Type 0 where
  pub over : IsOver old.own old.next
  pub reached : old.end ≤ new.next
  pub seen : new.seen ≡ old.seen

-- one step of a look: it stays over its board and gives the next pair, or it is over; `read` is the key that a
-- reference shows
abbrev pub IsStep : {K X : Type 0} → (K → Type 0) → (X → K) → Sight K → Option (ℕ × X) → Sight K → Type 0
IsStep holds read old item new =
    IsSameLook old new × IfSome item (λ pair. GivesNext holds old new pair.0 (read pair.1))
    × IfNone item (IsAtEnd old new)

-- a receipt's pair of index and key is among the pairs that a look gave
abbrev pub GivesPair : {K X : Type 0} → (X → K) → Shown K → List (ℕ × X) → Type 0
GivesPair read receipt pairs = Any (λ pair. (pair.0 ≡ index_of receipt) × (read pair.1 ≡ key_of receipt)) pairs

-- of these pairs: each look that gave them and was gone over to its end gave the pair of its own receipt, if it began
-- at most at that receipt's index
abbrev pub GiveOwn : {K X : Type 0} → (K → Type 0) → (X → K) → List (ℕ × X) → Type 0
GiveOwn {K} {X} holds read pairs =
    (own : Shown K) (look : Sight K) → Drains (IsStep holds read) look pairs → look.own ≡ Some own → look.next ≤ index_of own
    → GivesPair read own pairs
