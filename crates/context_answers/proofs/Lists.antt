-- Lists: what stands at their places, and what they contain.
use Rattle.std.proofs.Common.{◌≡◌, ℕ, zero, suc, ◌<◌, List, [], ◌∷◌, length, get_or, map, Some, None, Contains, inl, inr, refl, sym, ap, subst, ◌∙◌, arith}
use Rattle.std.specs.Prelude.{slice_get}
use Rattle.std.specs.List.{flat_map}
use Rattle.std.proofs.lemmas.Option.{slice_get-get_or, slice_get_within}
use Rattle.graph_view.proofs.Stands.{Has, has_either, has_front, has_back}
use Rattle.graph_view.specs.Numbers.{IsNumber}
use Rattle.abs_state.specs.declared.key.Place.{Place}

pub some_same : {X : Type 0} {x y : X} → Some x ≡ Some y → x ≡ y
some_same e = cc

pub none_some : {X : Type 0} {x : X} → None ≡ Some x → ⊥
none_some e = cc

-- what stands at a place of a list
pub get_there : {X : Type 0} (xs : List X) (k : ℕ) → k < length xs → (x : X) × (slice_get xs k ≡ Some x)
get_there [] k low = absurd (omega (arith, low))
get_there (x ∷ xs) zero low = (x, refl)
get_there (x ∷ xs) (suc k) low = get_there xs k (omega (arith, low))

-- lists are one where the same stands at each place
pub same_at : {X : Type 0} (xs ys : List X) → length xs ≡ length ys
    → ((k : ℕ) (x y : X) → slice_get xs k ≡ Some x → slice_get ys k ≡ Some y → x ≡ y) → xs ≡ ys
same_at [] [] long each = refl
same_at [] (y ∷ ys) long each = absurd (omega (arith, long))
same_at (x ∷ xs) [] long each = absurd (omega (arith, long))
same_at (x ∷ xs) (y ∷ ys) long each =
    let first : x ≡ y = each 0 x y refl refl in
    let rest : xs ≡ ys = same_at xs ys (omega (arith, long)) (λ k a b at there. each (suc k) a b at there) in
    λ i. first i ∷ rest i

-- what stands at a place is contained
pub among_at : {X : Type 0} (xs : List X) (k : ℕ) (x : X) → slice_get xs k ≡ Some x → Contains xs x
among_at xs k x at =
    let within : k < length xs = slice_get_within xs k x at in
    (k, within, some_same (sym (slice_get-get_or xs k x within) ∙ at))

pub at_among : {X : Type 0} (xs : List X) (x : X) → Contains xs x → (k : ℕ) × (slice_get xs k ≡ Some x)
at_among xs x has = (has.0, slice_get-get_or xs has.0 x has.1 ∙ ap Some has.2)

pub mapped_at : {X Y : Type 0} (f : X → Y) (xs : List X) (k : ℕ) (x : X) → slice_get xs k ≡ Some x → slice_get (map f xs) k ≡ Some (f x)
mapped_at f [] k x at = absurd (none_some at)
mapped_at f (y ∷ xs) zero x at = ap (λ a. Some (f a)) (some_same at)
mapped_at f (y ∷ xs) (suc k) x at = mapped_at f xs k x at

-- numbers and places
pub number_at : (nodes : List Place) (n : ℕ) (p : Place) → slice_get nodes n ≡ Some p → IsNumber nodes p n
number_at [] n p is = absurd (none_some is)
number_at (q ∷ nodes) zero p is = record { within = omega arith; is = λ d. some_same is }
number_at (q ∷ nodes) (suc n) p is =
    let rest : IsNumber nodes p n = number_at nodes n p is in
    record { within = let low : n < length nodes = rest.within in omega (arith, low); is = rest.is }

pub at_number : (nodes : List Place) (p : Place) (n : ℕ) → IsNumber nodes p n → slice_get nodes n ≡ Some p
at_number nodes p n is = slice_get-get_or nodes n p is.within ∙ ap Some (is.is p)

-- a number has one place
pub one_place : (nodes : List Place) (p q : Place) (n m : ℕ) → n ≡ m → IsNumber nodes p n → IsNumber nodes q m → p ≡ q
one_place nodes p q n m same one two = sym (one.is p) ∙ (ap (λ (k : ℕ). get_or nodes k p) same ∙ two.is p)

-- what a list with another behind it has
pub has_map : {X Y : Type 0} (f : X → Y) (xs : List X) (y : Y) → Has (map f xs) y → (x : X) × Has xs x × (f x ≡ y)
has_map f [] y has = absurd has
has_map f (x ∷ xs) y (inl is) = (x, inl refl, is)
has_map f (x ∷ xs) y (inr has) = let rest = has_map f xs y has in (rest.0, inr rest.1, rest.2)

pub map_has : {X Y : Type 0} (f : X → Y) (xs : List X) (x : X) → Has xs x → Has (map f xs) (f x)
map_has f [] x has = absurd has
map_has f (y ∷ xs) x (inl is) = inl (ap f is)
map_has f (y ∷ xs) x (inr has) = inr (map_has f xs x has)

pub has_flat : {X Y : Type 0} (f : X → List Y) (xs : List X) (y : Y) → Has (flat_map f xs) y → (x : X) × Has xs x × Has (f x) y
has_flat f [] y has = absurd has
has_flat f (x ∷ xs) y has = elim (has_either (f x) (flat_map f xs) y has) [
  | inl front ↦ (x, inl refl, front)
  | inr back ↦ let rest = has_flat f xs y back in (rest.0, inr rest.1, rest.2)
]

pub flat_has : {X Y : Type 0} (f : X → List Y) (xs : List X) (x : X) (y : Y) → Has xs x → Has (f x) y → Has (flat_map f xs) y
flat_has f [] x y has at = absurd has
flat_has f (z ∷ xs) x y (inl is) at = has_front (f z) (flat_map f xs) y (subst (λ a. Has (f a) y) (sym is) at)
flat_has f (z ∷ xs) x y (inr has) at = has_back (f z) (flat_map f xs) y (flat_has f xs x y has at)
