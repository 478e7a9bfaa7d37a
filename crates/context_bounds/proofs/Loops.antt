-- The steps of loops that make a list of costs or changes.
use Rattle.std.proofs.Common.{◌≡◌, ℕ, zero, suc, ◌+◌, ◌<◌, ◌≤◌, List, [], ◌∷◌, ◌++◌, length, get_or, drop, map, replicate, Option, Some, Vec, Global}
use Rattle.std.proofs.Common.{refl, sym, ap, ◌∙◌, arith, append_assoc, append-nil}
use Rattle.std.specs.Prelude.{slice_get}
use Rattle.std.proofs.lemmas.List.{drop_all, drop_more, length-map, length-replicate}
use Rattle.abs_state.specs.State.{State}
use Rattle.abs_state.specs.declared.key.Key.{Key}
use Rattle.abs_state.specs.declared.key.Place.{Place}
use Rattle.assert_bind.specs.declared.body.BoundAssertion.{BoundAssertion}
use Rattle.context_bounds.specs.Extras.{cost_between, extras_of_row}
use Rattle.context_bounds.specs.Nodes.{costs_at}
use Rattle.context_bounds.specs.Own.{own_rows, rows_of}
use Rattle.context_bounds.specs.States.{left_at}
use Rattle.context_outcomes.specs.Counting.{change_at}
use Rattle.context_outcomes.specs.Setting.{Setting}
use Rattle.context_outcomes.specs.Spending.{place_cost, step_cost}
use Rattle.context_runs.specs.Contexts.{edge_cost}
use Rattle.counter_bound.specs.declared.change.Change.{Change}
use Rattle.transfer_rules.specs.Give.{Facts}

-- one more item goes over to the list
pub map_on : {X Y : Type 0} (f : X → Y) (list new : List Y) (xs : List X) (i : ℕ) (d : X) (y : Y) → i < length xs → y ≡ f (get_or xs i d) → new ≡ list ++ y ∷ []
    → new ++ map f (drop (i + 1) xs) ≡ list ++ map f (drop i xs)
map_on {X} {Y} f list new xs i d y low is grown =
    ap (λ (l : List Y). l ++ map f (drop (i + 1) xs)) grown
    ∙ (append_assoc list (y ∷ []) (map f (drop (i + 1) xs))
    ∙ (ap (λ (z : Y). list ++ z ∷ map f (drop (i + 1) xs)) is ∙ ap (λ (rest : List X). list ++ map f rest) (sym (drop_more xs i d low))))

-- at the end all have
pub map_done : {X Y : Type 0} (f : X → Y) (list : List Y) (xs : List X) (i : ℕ) → length xs ≤ i → list ++ map f (drop i xs) ≡ map f xs → list ≡ map f xs
map_done {X} f list xs i high is = sym (append-nil list) ∙ (ap (λ (rest : List X). list ++ map f rest) (sym (drop_all i xs high)) ∙ is)

-- a number within a list has an item
there : (nodes : List Place) (n : ℕ) (d : Place) → n < length nodes → slice_get nodes n ≡ Some (get_or nodes n d)
there [] n d low = absurd (omega (arith, low))
there (p ∷ nodes) zero d low = refl
there (p ∷ nodes) (suc n) d low = there nodes n d (omega (arith, low))

-- the cost of an edge
pub edge_on : (image costs : List ℕ) (nodes : List Place) (n : ℕ) (row : List ℕ) (i cost : ℕ) (list new : List (ℕ × ℕ × ℕ)) (d e : Place) → n < length nodes
    → get_or row i 0 < length nodes → i < length row → cost ≡ edge_cost image costs (get_or nodes n d) (get_or nodes (get_or row i 0) e)
    → new ≡ list ++ (n, get_or row i 0, cost) ∷ []
    → new ++ extras_of_row (cost_between image costs nodes) n (drop (i + 1) row) ≡ list ++ extras_of_row (cost_between image costs nodes) n (drop i row)
edge_on image costs nodes n row i cost list new d e at also low is grown =
    map_on (λ (m : ℕ). (n, m, cost_between image costs nodes n m)) list new row i 0 (n, get_or row i 0, cost) low
    (ap (λ (c : ℕ). (n, get_or row i 0, c)) same) grown
  where
    same : cost ≡ cost_between image costs nodes n (get_or row i 0)
    same =
        is
        ∙ sym (ap (λ (o : Option Place). step_cost image costs o (slice_get nodes (get_or row i 0))) (there nodes n d at)
        ∙ ap (λ (o : Option Place). step_cost image costs (Some (get_or nodes n d)) o) (there nodes (get_or row i 0) e also))

-- the cost of a program point
pub node_on : (S : Setting) (facts : Facts) (nodes : List Place) (bounds : List (Option ℕ)) (i cost : ℕ) (list new : List ℕ) (d : Place) (b : Option ℕ)
    → i < length nodes
    → length bounds ≡ length nodes → cost ≡ place_cost S facts (get_or bounds i b) (get_or nodes i d) → new ≡ list ++ cost ∷ []
    → new ++ costs_at S facts (drop (i + 1) nodes) (drop (i + 1) bounds) ≡ list ++ costs_at S facts (drop i nodes) (drop i bounds)
node_on S facts nodes bounds i cost list new d b low count is grown =
    ap (λ (l : List ℕ). l ++ costs_at S facts (drop (i + 1) nodes) (drop (i + 1) bounds)) grown
    ∙ (append_assoc list (cost ∷ []) (costs_at S facts (drop (i + 1) nodes) (drop (i + 1) bounds))
    ∙ (ap (λ (c : ℕ). list ++ c ∷ costs_at S facts (drop (i + 1) nodes) (drop (i + 1) bounds)) is
    ∙ sym (ap (λ (ps : List Place). list ++ costs_at S facts ps (drop i bounds)) (drop_more nodes i d low)
    ∙ ap (λ (bs : List (Option ℕ)). list ++ costs_at S facts (get_or nodes i d ∷ drop (i + 1) nodes) bs) (drop_more bounds i b (omega (arith, count, low))))))

-- the change of a program point
pub change_on : (S : Setting) (t : List ℕ) (binding bound : List BoundAssertion) (facts : Facts) (nodes : List Place) (i : ℕ)
    (list new : List Change) (change : Change) (state : Option State) (d : Place) → i < length nodes → bound ≡ binding
    → state ≡ left_at t bound facts (get_or nodes i d)
    → change ≡ change_at S (get_or nodes i d) state
    → new ≡ list ++ change ∷ []
    → new ++ map (λ p. change_at S p (left_at t binding facts p)) (drop (i + 1) nodes)
    ≡ list ++ map (λ p. change_at S p (left_at t binding facts p)) (drop i nodes)
change_on S t binding bound facts nodes i list new change state d low same left is grown =
    map_on (λ (p : Place). change_at S p (left_at t binding facts p)) list new nodes i d change low
    (is ∙ ap (λ (o : Option State). change_at S (get_or nodes i d) o)
    (left ∙ ap (λ (list : List BoundAssertion). left_at t list facts (get_or nodes i d)) same)) grown

-- before the first key all rows are empty
empty_own : (subs : List ℕ) → replicate (length subs) [] ≡ own_rows subs []
empty_own [] = refl
empty_own (sub ∷ subs) = ap (λ (rows : List (List Key)). [] ∷ rows) (empty_own subs)

-- the empty rows are those of no keys
pub rows_begin : (subs : List ℕ) (rows : List (Vec Key Global)) → rows_of rows ≡ replicate (length subs) []
    → (length rows ≡ length subs) × (rows_of rows ≡ own_rows subs [])
rows_begin subs rows empty = (
  sym (length-map rows (λ (row : Vec Key Global). row.items))
      ∙ (ap (λ (lists : List (List Key)). length lists) empty ∙ length-replicate (length subs) []),
  empty ∙ empty_own subs,
)
