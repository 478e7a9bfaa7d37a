-- The nodes of a body in an order, and the labels of a pass over them.
use Rattle.std.proofs.Common.{◌≡◌, ◌<◌, ℕ, Bool, true, Option, Some, List, length, sym, ap, subst, ◌∙◌, Vec, Global}
use Rattle.std.specs.List.{slice_get}
use Rattle.bt_base.specs.Graph.{has}
use Rattle.graph_laws.specs.Loops.{Loops}
use Rattle.loop_nest.specs.declared.natural_loop.Loop.{Loop}
use Rattle.path_bound.specs.declared.choosing.Label.{Label}
use Rattle.path_bound.specs.declared.stepping.Step.{Step}
use Rattle.path_bound.specs.Choosing.{label_at, next_of}
use Rattle.path_bound.specs.Places.{AreLoopsBelow}
use Rattle.path_bound.specs.Ranked.{rank_in, IsOrder}
use Rattle.path_bound.specs.Turning.{ArePassed, HoldHeads}
use Rattle.path_bound.proofs.Followed.{next_falls, next_there}
use Rattle.path_bound.proofs.Ordered.{rank_within}

module _ (edge : ℕ → ℕ → Bool) (all : Loops) (count : ℕ) (loops : List Loop) (below : AreLoopsBelow count loops) (place : ℕ) (one : Loop)
    (at : slice_get loops place ≡ Some one)
    (body : List ℕ) (body_is : body ≡ one.body.items) (order : List ℕ) (sorted : IsOrder edge all (has body) order) where
  -- what is placed is below the count
  pub order_below : (list : List ℕ) → list ≡ order → (n : ℕ) → has list n ≡ true → n < count
  order_below list e n h = below.nodes place n one at
      (ap (λ (l : List ℕ). has l n) (sym body_is) ∙ (sym (sorted.same n) ∙ (ap (λ (l : List ℕ). has l n) (sym e) ∙ h)))

  -- a head is below the count
  pub head_below : one.head < count
  head_below = below.heads place one at

  -- a head has its place in the order of its body
  pub head_placed : HoldHeads loops → (list : List ℕ) → list ≡ order → rank_in list one.head < length list
  head_placed hold list e =
      rank_within list one.head (ap (λ (l : List ℕ). has l one.head) e
      ∙ (sorted.same one.head ∙ (ap (λ (l : List ℕ). has l one.head) body_is ∙ hold place one at)))

  module _ (list : List ℕ) (list_is : list ≡ order) (head : Option ℕ) (node : List ℕ) (steps : List (Vec Step Global)) (laps : List ℕ)
      (labels : List (Option Label)) (passed : ArePassed list head node steps laps labels) where
    -- labels lead to nodes below the count
    pub labels_within : (n m : ℕ) → next_of (label_at labels n) ≡ Some m → m < count
    labels_within n m e = order_below list list_is m (next_there list head node steps laps labels passed n m e)

    -- labels lead to nodes placed before
    pub labels_fall : (other : List ℕ) → other ≡ order → (n m : ℕ) → next_of (label_at labels n) ≡ Some m → rank_in other m < rank_in other n
    labels_fall other e n m q = subst (λ (l : List ℕ). rank_in l m < rank_in l n) (list_is ∙ sym e) (next_falls list head node steps laps labels passed n m q)

    -- the labels of a body are passed
    pub passed_order : ArePassed order head node steps laps labels
    passed_order = subst (λ (l : List ℕ). ArePassed l head node steps laps labels) list_is passed
