-- Orders of nodes in which each comes after those to which its edges lead, but for edges back.
use Rattle.std.specs.Prelude.{◌≡◌, ◌==◌, ℕ, suc, ◌<◌, Bool, true, false, List, [], ◌∷◌, length, take, slice_index, if◌then◌else◌}
use Rattle.bt_base.specs.Graph.{has}
use Rattle.graph_laws.specs.Loops.{Loops, is_back}

-- the place of a number in a list; the length of the list where it isn't there
abbrev pub rank_in : List ℕ → ℕ → ℕ
rank_in [] n = 0
rank_in (m ∷ nodes) n = if n == m then 0 else suc (rank_in nodes n)

-- a list has some nodes, each once, and each after those of them to which its edges lead, but for edges back
pub record IsOrder (edge : ℕ → ℕ → Bool) (loops : Loops) (inside : ℕ → Bool) (order : List ℕ) : Type 0 where
  pub same : (n : ℕ) → has order n ≡ inside n
  pub once : (k : ℕ) → k < length order → has (take k order) (slice_index order k) ≡ false
  pub before : (k m : ℕ) → k < length order → inside m ≡ true → edge (slice_index order k) m ≡ true → is_back loops (slice_index order k) m ≡ false
      → has (take k order) m ≡ true

-- and an edge that leads to a node before isn't an edge back
pub record IsForwardOrder (edge : ℕ → ℕ → Bool) (loops : Loops) (inside : ℕ → Bool) (order : List ℕ) : Type 0 where
  pub sorted : IsOrder edge loops inside order
  pub forward : (k m : ℕ) → k < length order → edge (slice_index order k) m ≡ true → has (take k order) m ≡ true → is_back loops (slice_index order k) m ≡ false
