-- Each key stands in the list of its kind, and the lists have nothing else.
use Rattle.std.proofs.Common.{◌≡◌, zero, suc, ◌⊎◌, inl, inr, List, [], ◌∷◌, ◌++◌, refl, ap, sym, subst, arith}
use Rattle.std.specs.List.{flat_map}
use Rattle.std.specs.Prelude.{Contains}
use Rattle.abs_state.specs.declared.key.Key.{Key}
use Rattle.abs_state.specs.declared.key.Key.TheVariants.{Node, Edge, Call, Summary, Gap}
use Rattle.abs_state.specs.declared.key.Place.{Place}
use Rattle.graph_view.specs.Laws.{KeysStandInLists}
use Rattle.graph_view.specs.Lists.{place_in, step_in, calling_in, open_in}
use Rattle.graph_view.specs.declared.lists.Calling.{Calling}
use Rattle.graph_view.specs.declared.lists.OpenPoint.{OpenPoint}
use Rattle.graph_view.specs.declared.lists.Step.{Step}

-- a list has an item, for recursion
abbrev pub Has : {X : Type 0} → List X → X → Type 0
Has [] x = ⊥
Has (y ∷ ys) x = (y ≡ x) ⊎ Has ys x

pub has_from : {X : Type 0} (xs : List X) (x : X) → Contains xs x → Has xs x
has_from [] x (k, less, is) = absurd (omega (arith, less))
has_from (y ∷ ys) x (zero, less, is) = inl is
has_from (y ∷ ys) x (suc k, less, is) = inr (has_from ys x (k, omega (arith, less), is))

behind_one : {X : Type 0} (y : X) (ys : List X) (x : X) → Contains ys x → Contains (y ∷ ys) x
behind_one y ys x (k, less, is) = (suc k, omega (arith, less), is)

pub has_to : {X : Type 0} (xs : List X) (x : X) → Has xs x → Contains xs x
has_to [] x has = absurd has
has_to (y ∷ ys) x (inl is) = (0, omega arith, is)
has_to (y ∷ ys) x (inr has) = behind_one y ys x (has_to ys x has)

pub has_front : {X : Type 0} (xs ys : List X) (x : X) → Has xs x → Has (xs ++ ys) x
has_front [] ys x has = absurd has
has_front (y ∷ xs) ys x (inl is) = inl is
has_front (y ∷ xs) ys x (inr has) = inr (has_front xs ys x has)

pub has_back : {X : Type 0} (xs ys : List X) (x : X) → Has ys x → Has (xs ++ ys) x
has_back [] ys x has = has
has_back (y ∷ xs) ys x has = inr (has_back xs ys x has)

pub has_either : {X : Type 0} (xs ys : List X) (x : X) → Has (xs ++ ys) x → Has xs x ⊎ Has ys x
has_either [] ys x has = inr has
has_either (y ∷ xs) ys x (inl is) = inl (inl is)
has_either (y ∷ xs) ys x (inr has) = elim (has_either xs ys x has) [ inl front ↦ inl (inr front) | inr back ↦ inr back ]

module _ {X : Type 0} (f : Key → List X) (key : X → Key) (own : (x : X) → Has (f (key x)) x) (only : (k : Key) (x : X) → Has (f k) x → k ≡ key x) where
  listed : (keys : List Key) (x : X) → Has keys (key x) → Has (flat_map f keys) x
  listed [] x has = has
  listed (k ∷ ks) x (inl is) = has_front (f k) (flat_map f ks) x (subst (λ l. Has (f l) x) (sym is) (own x))
  listed (k ∷ ks) x (inr has) = has_back (f k) (flat_map f ks) x (listed ks x has)

  unlisted : (keys : List Key) (x : X) → Has (flat_map f keys) x → Has keys (key x)
  unlisted [] x has = has
  unlisted (k ∷ ks) x has = elim (has_either (f k) (flat_map f ks) x has) [
    | inl front ↦ inl (only k x front)
    | inr back ↦ inr (unlisted ks x back)
  ]

  both : (keys : List Key) (x : X) → (Contains keys (key x) → Contains (flat_map f keys) x) × (Contains (flat_map f keys) x → Contains keys (key x))
  both keys x = (
    λ has. has_to (flat_map f keys) x (listed keys x (has_from keys (key x) has)),
    λ has. has_to keys (key x) (unlisted keys x (has_from (flat_map f keys) x has)),
  )

place_only : (k : Key) (x : Place) → Has (place_in k) x → k ≡ Node x
place_only (Node p) x (inl is) = ap Node is
place_only (Node p) x (inr has) = absurd has
place_only (Edge from to) x has = absurd has
place_only (Call from callee) x has = absurd has
place_only (Summary sub) x has = absurd has
place_only (Gap sub pc why) x has = absurd has

abbrev step_key : Step → Key
step_key step = Edge step.from step.to

step_only : (k : Key) (x : Step) → Has (step_in k) x → k ≡ step_key x
step_only (Node p) x has = absurd has
step_only (Edge from to) x (inl is) = ap step_key is
step_only (Edge from to) x (inr has) = absurd has
step_only (Call from callee) x has = absurd has
step_only (Summary sub) x has = absurd has
step_only (Gap sub pc why) x has = absurd has

abbrev calling_key : Calling → Key
calling_key calling = Call calling.from calling.callee

calling_only : (k : Key) (x : Calling) → Has (calling_in k) x → k ≡ calling_key x
calling_only (Node p) x has = absurd has
calling_only (Edge from to) x has = absurd has
calling_only (Call from callee) x (inl is) = ap calling_key is
calling_only (Call from callee) x (inr has) = absurd has
calling_only (Summary sub) x has = absurd has
calling_only (Gap sub pc why) x has = absurd has

abbrev open_key : OpenPoint → Key
open_key point = Gap point.sub point.pc point.why

open_only : (k : Key) (x : OpenPoint) → Has (open_in k) x → k ≡ open_key x
open_only (Node p) x has = absurd has
open_only (Edge from to) x has = absurd has
open_only (Call from callee) x has = absurd has
open_only (Summary sub) x has = absurd has
open_only (Gap sub pc why) x (inl is) = ap open_key is
open_only (Gap sub pc why) x (inr has) = absurd has

-- each key stands in the list of its kind, and these have nothing else
pub keys_stand_in_lists : KeysStandInLists
keys_stand_in_lists keys = record {
  places = λ place. both place_in Node (λ x. inl refl) place_only keys place;
  steps = λ from to. both step_in step_key (λ x. inl refl) step_only keys (record { from = from; to = to });
  callings = λ from callee. both calling_in calling_key (λ x. inl refl) calling_only keys (record { from = from; callee = callee });
  opens = λ sub pc why. both open_in open_key (λ x. inl refl) open_only keys (record { sub = sub; pc = pc; why = why });
}
