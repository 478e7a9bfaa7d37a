-- Subprograms by number, and the calls among them as a graph of these numbers.
use Rattle.std.specs.Prelude.{◌≡◌, ℕ, ◌<◌, ◌⊎◌, true, List, Contains, length, slice_index_or}
use Rattle.bt_base.specs.Graph.{is_edge}
use Rattle.graph_view.specs.declared.lists.Calling.{Calling}

-- the subprogram stands at this place of the list
pub record IsAt (subs : List ℕ) (sub n : ℕ) : Type 0 where
  pub within : n < length subs
  pub is : slice_index_or subs n 0 ≡ sub

-- the call leads from one number to another
pub record CallLeads (subs : List ℕ) (calling : Calling) (n m : ℕ) : Type 0 where
  pub from : IsAt subs calling.from.sub n
  pub to : IsAt subs calling.callee m

-- one of the calls does
pub record HasCalling (subs : List ℕ) (callings : List Calling) (n m : ℕ) : Type 0 where
  pub calling : Calling
  pub among : Contains callings calling
  pub leads : CallLeads subs calling n m

-- the new graph has the edges of the old one and that of the call, and no other
pub record AddsCall (subs : List ℕ) (calling : Calling) (old new : List (List ℕ)) : Type 0 where
  pub count : length new ≡ length old
  pub has : (n m : ℕ) → is_edge new n m ≡ true → (is_edge old n m ≡ true) ⊎ CallLeads subs calling n m
  pub keeps : (n m : ℕ) → is_edge old n m ≡ true → is_edge new n m ≡ true
  pub adds : (n m : ℕ) → CallLeads subs calling n m → is_edge new n m ≡ true

-- the edges of the graph are those of the calls between listed subprograms
pub record IsCallGraph (subs : List ℕ) (callings : List Calling) (graph : List (List ℕ)) : Type 0 where
  pub count : length graph ≡ length subs
  pub has : (n m : ℕ) → is_edge graph n m ≡ true → HasCalling subs callings n m
  pub all : (n m : ℕ) → HasCalling subs callings n m → is_edge graph n m ≡ true
