-- The nodes of a loop's body by their places in it: the graph of their edges, which are in loops inside, and what they
-- change.
use Rattle.std.specs.Prelude.{◌≡◌, ◌==◌, ◌&&◌, ◌||◌, ℕ, ◌<◌, Bool, true, false, not, List, length, Some, slice_get, slice_index, slice_index_or}
use Rattle.std.specs.List.{list_any}
use Rattle.bt_base.specs.Graph.{has, is_edge}
use Rattle.call_effects.specs.Mask.{has_cell}
use Rattle.counter_bound.specs.Change.{up_in, down_in}
use Rattle.counter_bound.specs.declared.change.Change.{Change}
use Rattle.counter_bound.specs.declared.change.Change.TheVariants.{Add, Other}
use Rattle.counter_bound.specs.declared.touching.Touched.{Touched}
use Rattle.loop_nest.specs.declared.natural_loop.Loop.{Loop}

-- a graph has the edges between the nodes of a body, by their places
pub record IsBodyGraph (edge : ℕ → ℕ → Bool) (body : List ℕ) (small : List (List ℕ)) : Type 0 where
  pub count : length small ≡ length body
  pub edges : (i j : ℕ) → i < length body → j < length body → is_edge small i j ≡ edge (slice_index body i) (slice_index body j)

-- a graph has got the edges from the place of a node
pub record HasBodyRow (edge : ℕ → ℕ → Bool) (body : List ℕ) (place : ℕ) (old new : List (List ℕ)) : Type 0 where
  pub count : length new ≡ length old
  pub kept : (i j : ℕ) → (i == place) ≡ false → is_edge new i j ≡ is_edge old i j
  pub row : (j : ℕ) → j < length body → is_edge new place j ≡ (is_edge old place j || edge (slice_index body place) (slice_index body j))

-- whether a node is in a loop inside
abbrev pub is_inside : ℕ → List ℕ → Loop → ℕ → Bool
is_inside head body one n = not (one.head == head) && (has body one.head && has one.body.items n)

abbrev pub is_inner : List Loop → ℕ → List ℕ → ℕ → Bool
is_inner loops head body n = list_any (λ one. is_inside head body one n) loops

-- whether a place is marked
abbrev pub is_marked : List Bool → ℕ → Bool
is_marked marks i = slice_index_or marks i false

-- marks say which nodes of a body are in loops inside
pub record AreInner (loops : List Loop) (head : ℕ) (body : List ℕ) (marks : List Bool) : Type 0 where
  pub count : length marks ≡ length body
  pub marked : (i : ℕ) → i < length body → is_marked marks i ≡ is_inner loops head body (slice_index body i)

-- whether a change adds to a cell outside of loops inside
abbrev pub adds_outside : Change → Bool → ℕ → Bool
adds_outside (Add cell k) inner c = not inner && (c == cell)
adds_outside (Other mask) inner c = false

-- whether a cell can't count because of a change: it is another one, or in a loop inside
abbrev pub spoils : Change → Bool → ℕ → Bool
spoils (Add cell k) inner c = inner && (c == cell)
spoils (Other mask) inner c = has_cell mask c

-- the node at a place below a number spoils a cell
pub record IsSpoilt (body : List ℕ) (changes : List Change) (marks : List Bool) (count c : ℕ) : Type 0 where
  pub place : ℕ
  pub below : place < count
  pub change : Change
  pub at : slice_get changes (slice_index body place) ≡ Some change
  pub spoilt : spoils change (is_marked marks place) c ≡ true

-- the cells that the first nodes of a body add to, and those that can't count because of them
pub record AreTouched (body : List ℕ) (changes : List Change) (marks : List Bool) (count : ℕ) (touched : Touched) : Type 0 where
  pub adds : (i c : ℕ) (change : Change) → i < count → slice_get changes (slice_index body i) ≡ Some change
      → adds_outside change (is_marked marks i) c ≡ true → has_cell touched.adds c ≡ true
  pub spoils : (i c : ℕ) (change : Change) → i < count → slice_get changes (slice_index body i) ≡ Some change
      → spoils change (is_marked marks i) c ≡ true → has_cell touched.spoilt c ≡ true
  pub spoilt : (c : ℕ) → has_cell touched.spoilt c ≡ true → IsSpoilt body changes marks count c

-- what the first nodes of a body add to a cell, or take from it, by their places
abbrev pub AreUps : List ℕ → List Change → ℕ → List ℕ → Type 0
AreUps body changes c ups = (i : ℕ) → i < length ups → slice_index ups i ≡ up_in (slice_get changes (slice_index body i)) c

abbrev pub AreDowns : List ℕ → List Change → ℕ → List ℕ → Type 0
AreDowns body changes c downs = (i : ℕ) → i < length downs → slice_index downs i ≡ down_in (slice_get changes (slice_index body i)) c
