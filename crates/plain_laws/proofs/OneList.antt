-- Lists that rise by an order are told apart by their members.
use Rattle.std.proofs.Common.{◌≡◌, List, [], ◌∷◌, Contains, sym, ap, ◌∙◌}
use Rattle.std.specs.List.Sorted.{IsStrictlySortedBy}
use Rattle.std.specs.Ordering.{ordering_reverse}
use Rattle.std.specs.declared.cmp.Ordering.{Ordering}
use Rattle.std.specs.declared.cmp.Ordering.TheVariants.{Less, Greater}
use Rattle.std.proofs.lemmas.List.Elements.{All-from_recursion}
use Rattle.abs_state.proofs.KeyLemmas.{keys_are_ordered}
use Rattle.abs_state.specs.declared.key.Key.TheVariants.{Node}
use Rattle.abs_state.specs.declared.key.Place.{Place}
use Rattle.call_laws.proofs.Risings.{rising_one}
use Rattle.call_laws.specs.Rising.{IsRisingBy}
use Rattle.graph_view.specs.Numbers.{place_cmp}

greater_not_less : Greater ≡ Less → ⊥
greater_not_less e = cc

module _ {X : Type 0} (cmp : X → X → Ordering) (turned : (p q : X) → cmp p q ≡ ordering_reverse (cmp q p)) where
  -- an item is before another
  abbrev IsBefore : X → X → Type 0
  IsBefore p q = cmp p q ≡ Less

  -- one that is before another isn't behind it
  before_once : (p q : X) → IsBefore p q → IsBefore q p → ⊥
  before_once p q one two =
      let behind : cmp q p ≡ Greater = turned q p ∙ ap ordering_reverse one in
      greater_not_less (sym behind ∙ two)

  -- each is before all that follow it
  list_rises : (items : List X) → IsStrictlySortedBy cmp items → IsRisingBy IsBefore items
  unfolding IsStrictlySortedBy
  list_rises [] sorted = tt
  list_rises (p ∷ items) sorted = (All-from_recursion (IsBefore p) items sorted.0, list_rises items sorted.1)

  -- lists that rise and have the same members are one
  pub rising_list : (xs ys : List X) → IsStrictlySortedBy cmp xs → IsStrictlySortedBy cmp ys → ((p : X) → Contains xs p → Contains ys p)
      → ((p : X) → Contains ys p → Contains xs p) → xs ≡ ys
  rising_list xs ys one two there back =
      rising_one IsBefore (record { apart = before_once }) xs ys (list_rises xs one) (list_rises ys two) there back

-- so are lists of program points
pub one_list : (xs ys : List Place) → IsStrictlySortedBy place_cmp xs → IsStrictlySortedBy place_cmp ys → ((p : Place) → Contains xs p → Contains ys p)
    → ((p : Place) → Contains ys p → Contains xs p) → xs ≡ ys
one_list = rising_list place_cmp (λ p q. keys_are_ordered.total.antisymm (Node p) (Node q))
