-- Lists that grow, and what a mapped list has.
use Rattle.std.proofs.Common.{◌≡◌, ◌⊎◌, ℕ, zero, suc, ◌+◌, ◌<◌, List, [], ◌∷◌, ◌++◌, length, get_or, map, take, Contains, Some, refl, sym, ap, subst, ◌∙◌, arith}
use Rattle.std.specs.Prelude.{slice_get}
use Rattle.std.proofs.lemmas.List.{append_assoc, map-append, take_more}
use Rattle.std.proofs.lemmas.List.Elements.{Contains-append_left, Contains-push, Contains-push_cases}

module _ {X : Type 0} where
  -- a longer front of a list has the items of the shorter, and one more
  pub in_more : (xs : List X) (i : ℕ) (d x : X) → i < length xs → Contains (take i xs) x → Contains (take (i + 1) xs) x
  in_more xs i d x low has = subst (λ l. Contains l x) (sym (take_more xs i d low)) (Contains-append_left (take i xs) (get_or xs i d ∷ []) x has)

  -- the one more stands there
  pub last_more : (xs : List X) (i : ℕ) (d : X) → i < length xs → Contains (take (i + 1) xs) (get_or xs i d)
  last_more xs i d low = subst (λ l. Contains l (get_or xs i d)) (sym (take_more xs i d low)) (Contains-push (take i xs) (get_or xs i d))

  -- and there is nothing else
  pub of_more : (xs : List X) (i : ℕ) (d x : X) → i < length xs → Contains (take (i + 1) xs) x → Contains (take i xs) x ⊎ (get_or xs i d ≡ x)
  of_more xs i d x low has = Contains-push_cases (take i xs) (get_or xs i d) x (subst (λ l. Contains l x) (take_more xs i d low) has)

  -- an empty list has nothing
  pub none_in : (x : X) → Contains [] x → ⊥
  none_in x has = let low = has.1 in omega (arith, low)

  -- what the rest has the list has
  in_rest : (y : X) (ys : List X) (x : X) → Contains ys x → Contains (y ∷ ys) x
  in_rest y ys x (k, low, is) = (suc k, omega (arith, low), is)

  -- what a mapped list has is of an item
  pub record IsOf (f : X → ℕ) (xs : List X) (n : ℕ) : Type 0 where
    pub item : X
    pub among : Contains xs item
    pub is : f item ≡ n

  -- each number of a mapped list is one of an item
  pub mapped_is : (f : X → ℕ) (xs : List X) (n : ℕ) → Contains (map f xs) n → IsOf f xs n
  mapped_is f [] n has = absurd (none_at n has)
    where
      none_at : (n : ℕ) → Contains {X = ℕ} [] n → ⊥
      none_at n has = let low = has.1 in omega (arith, low)
  mapped_is f (x ∷ xs) n (zero, low, is) = record { item = x; among = (0, omega arith, refl); is = is }
  mapped_is f (x ∷ xs) n (suc k, low, is) =
      let rest : IsOf f xs n = mapped_is f xs n (k, omega (arith, low), is) in
      record { item = rest.item; among = in_rest x xs rest.item rest.among; is = rest.is }

  -- and the mapped list has what each item becomes
  pub is_mapped : (f : X → ℕ) (xs : List X) (x : X) → Contains xs x → Contains (map f xs) (f x)
  is_mapped f [] x has = absurd (none_in x has)
  is_mapped f (y ∷ xs) x (zero, low, is) = (0, omega arith, ap f is)
  is_mapped f (y ∷ xs) x (suc k, low, is) = later (is_mapped f xs x (k, omega (arith, low), is))
    where
      later : Contains (map f xs) (f x) → Contains (f y ∷ map f xs) (f x)
      later (j, below, same) = (suc j, omega (arith, below), same)

  -- an item by its place
  pub got : (xs : List X) (n : ℕ) (d : X) → n < length xs → slice_get xs n ≡ Some (get_or xs n d)
  got [] n d low = absurd (omega (arith, low))
  got (x ∷ xs) zero d low = refl
  got (x ∷ xs) (suc n) d low = got xs n d (omega (arith, low))

  -- what stands at a place is there whatever the default
  pub any_default : (xs : List X) (n : ℕ) (d e : X) → n < length xs → get_or xs n d ≡ get_or xs n e
  any_default [] n d e low = absurd (omega (arith, low))
  any_default (x ∷ xs) zero d e low = refl
  any_default (x ∷ xs) (suc n) d e low = any_default xs n d e (omega (arith, low))

  -- a mapped front behind other numbers, one more
  pub mapped_more : (f : X → ℕ) (xs : List X) (i : ℕ) (d : X) (first old new : List ℕ) (value : ℕ) → i < length xs → old ≡ first ++ map f (take i xs)
      → new ≡ old ++ value ∷ [] → f (get_or xs i d) ≡ value → new ≡ first ++ map f (take (i + 1) xs)
  mapped_more f xs i d first old new value low before is at =
      let next : map f (take (i + 1) xs) ≡ map f (take i xs) ++ value ∷ [] =
      ap (map f) (take_more xs i d low) ∙ map-append f (take i xs) (get_or xs i d ∷ []) ∙ ap (λ (n : ℕ). map f (take i xs) ++ n ∷ []) at in
      is ∙ ap (λ (l : List ℕ). l ++ value ∷ []) before ∙ append_assoc first (map f (take i xs)) (value ∷ []) ∙ ap (λ (l : List ℕ). first ++ l) (sym next)
