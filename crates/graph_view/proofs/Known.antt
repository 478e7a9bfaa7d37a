-- Tables of needs, and what is found from them.
use Rattle.std.proofs.Common.{◌≡◌, ℕ, zero, suc, ◌+◌, ◌-◌, ◌<◌, ◌≤◌, ◌^◌, ◌⊎◌, inl, inr, true, false, cond, ◌==◌, max, List, [], ◌∷◌, length, get_or, set, drop, replicate, Option, Some, None, is_some, Contains, refl, sym, ap, ◌∙◌, subst, arith}
use Rattle.std.proofs.Math.Seq.{drop-cons}
use Rattle.std.proofs.lemmas.Bool.{false≢true}
use Rattle.std.proofs.lemmas.Bool.Decides.{eqb_tells}
use Rattle.std.proofs.lemmas.Grind.{get_or_default_zero}
use Rattle.std.specs.List.Sorted.{IsStrictlyIncreasing}
use Rattle.abs_state.specs.declared.key.Place.{Place}
use Rattle.graph_view.proofs.Stands.{Has, has_from}
use Rattle.graph_view.specs.Need.{deepest, entry_of, with_most, with_call, call_need, filled}
use Rattle.graph_view.specs.declared.lists.Calling.{Calling}

-- greatest numbers

pub max_assoc : (a b c : ℕ) → max a (max b c) ≡ max (max a b) c
max_assoc a b c = omega arith

pub deepest_step : (xs : List Place) (i : ℕ) (d : Place) (most : ℕ) → i < length xs
    → max most (deepest (drop i xs)) ≡ max (max most (get_or xs i d).depth) (deepest (drop (i + 1) xs))
deepest_step xs i d most less =
    let next : suc i ≡ i + 1 = omega arith in
    ap (λ l. max most (deepest l)) (drop-cons xs i d less)
    ∙ max_assoc most (get_or xs i d).depth (deepest (drop (suc i) xs))
    ∙ ap (λ k. max (max most (get_or xs i d).depth) (deepest (drop k xs))) next

pub most_zero : (o : Option ℕ) → with_most 0 o ≡ o
most_zero None = refl
most_zero (Some n) = ap Some (let e : max 0 n ≡ n = omega arith in e)

most_more : (most depth need : ℕ) (rest : Option ℕ) → with_most most (with_call depth (Some need) rest) ≡ with_most (max most (depth + need)) rest
most_more most depth need None = refl
most_more most depth need (Some n) = ap Some (max_assoc most (depth + need) n)

module _ (known : ℕ → Option ℕ) (xs : List Calling) (i : ℕ) (d : Calling) (most : ℕ) (less : i < length xs) where
  first : with_most most (call_need known (drop i xs)) ≡ with_most most (with_call (get_or xs i d).from.depth (known (get_or xs i d).callee) (call_need known (drop (suc i) xs)))
  first = ap (λ l. with_most most (call_need known l)) (drop-cons xs i d less)

  -- the next call's callee is known
  pub call_step : (need : ℕ) → known (get_or xs i d).callee ≡ Some need
      → with_most most (call_need known (drop i xs)) ≡ with_most (max most ((get_or xs i d).from.depth + need)) (call_need known (drop (i + 1) xs))
  call_step need is =
      let next : suc i ≡ i + 1 = omega arith in
      first
      ∙ ap (λ o. with_most most (with_call (get_or xs i d).from.depth o (call_need known (drop (suc i) xs)))) is
      ∙ most_more most (get_or xs i d).from.depth need (call_need known (drop (suc i) xs))
      ∙ ap (λ k. with_most (max most ((get_or xs i d).from.depth + need)) (call_need known (drop k xs))) next

  -- or it isn't
  pub call_stuck : known (get_or xs i d).callee ≡ None → with_most most (call_need known (drop i xs)) ≡ None
  call_stuck is = first ∙ ap (λ o. with_most most (with_call (get_or xs i d).from.depth o (call_need known (drop (suc i) xs)))) is

-- entries

pub rising_below : (xs : List ℕ) → IsStrictlyIncreasing xs → (j n : ℕ) → j + suc n < length xs → get_or xs j 0 < get_or xs (j + suc n) 0
rising_below xs rise j zero less = let e : get_or xs j 0 < get_or xs (j + 1) 0 = rise j less in e
rising_below xs rise j (suc n) less =
    let before : get_or xs j 0 < get_or xs (j + suc n) 0 = rising_below xs rise j n (omega (arith, less)) in
    let step : get_or xs (j + suc n) 0 < get_or xs ((j + suc n) + 1) 0 = rise (j + suc n) (omega (arith, less)) in
    let same : (j + suc n) + 1 ≡ j + suc (suc n) = omega arith in
    let last : get_or xs (j + suc n) 0 < get_or xs (j + suc (suc n)) 0 = subst (λ k. get_or xs (j + suc n) 0 < get_or xs k 0) same step in
    omega (arith, before, last)

-- an earlier number is less
pub rising_less : (xs : List ℕ) → IsStrictlyIncreasing xs → (j k : ℕ) → j < k → k < length xs → get_or xs j 0 < get_or xs k 0
rising_less xs rise j k order less =
    let same : j + suc (k - suc j) ≡ k = omega (arith, order) in
    subst (λ i. get_or xs j 0 < get_or xs i 0) same (rising_below xs rise j (k - suc j) (omega (arith, order, less)))

rising_rest : (x : ℕ) (xs : List ℕ) → IsStrictlyIncreasing (x ∷ xs) → IsStrictlyIncreasing xs
rising_rest x xs rise = λ k less.
    let same : suc k + 1 ≡ suc (k + 1) = omega arith in
    let short : k + 1 < length xs = less in
    subst (λ j. get_or xs k 0 < get_or (x ∷ xs) j 0) same (rise (suc k) (omega (arith, short)))

other_entry : (s q : ℕ) (t : Option ℕ) (subs : List ℕ) (table : List (Option ℕ)) → (q == s) ≡ false → entry_of (s ∷ subs) (t ∷ table) q ≡ entry_of subs table q
other_entry s q t subs table e = ap (λ b. cond b t (entry_of subs table q)) e

same_entry : (s q : ℕ) (t : Option ℕ) (subs : List ℕ) (table : List (Option ℕ)) → (q == s) ≡ true → entry_of (s ∷ subs) (t ∷ table) q ≡ t
same_entry s q t subs table e = ap (λ b. cond b t (entry_of subs table q)) e

-- the entry of a listed subprogram
pub entry_at : (subs : List ℕ) (table : List (Option ℕ)) (k : ℕ) → IsStrictlyIncreasing subs → length table ≡ length subs → k < length subs
    → entry_of subs table (get_or subs k 0) ≡ get_or table k None
entry_at [] table k rise count less = absurd (omega (arith, less))
entry_at (s ∷ subs) [] k rise count less = absurd (omega (arith, count))
entry_at (s ∷ subs) (t ∷ table) zero rise count less = elim (eqb_tells s s) [
  | inl is ↦ same_entry s s t subs table is.0
  | inr is ↦ absurd (is.1 refl)
]
entry_at (s ∷ subs) (t ∷ table) (suc k) rise count less = elim (eqb_tells (get_or subs k 0) s) [
  | inl is ↦
      let below : s < get_or subs k 0 = rising_less (s ∷ subs) rise 0 (suc k) (omega arith) less in
      let same : get_or subs k 0 ≡ s = is.1 in
      absurd (omega (arith, below, same))
  | inr is ↦
      other_entry s (get_or subs k 0) t subs table is.0
      ∙ entry_at subs table k (rising_rest s subs rise) (let e : suc (length table) ≡ suc (length subs) = count in omega (arith, e)) (omega (arith, less))
]

-- where an entry comes from
pub record Spot (subs : List ℕ) (table : List (Option ℕ)) (sub : ℕ) (entry : Option ℕ) : Type 0 where
  pub number : ℕ
  pub within : number < length subs
  pub is : get_or subs number 0 ≡ sub
  pub entry_is : get_or table number None ≡ entry

none_here : (s q : ℕ) (subs : List ℕ) → (q ≡ s → ⊥) → (Has subs q → ⊥) → Has (s ∷ subs) q → ⊥
none_here s q subs here there (inl e) = here (sym e)
none_here s q subs here there (inr h) = there h

pub entry_found : (subs : List ℕ) (table : List (Option ℕ)) (q : ℕ) (e : Option ℕ) → length table ≡ length subs → entry_of subs table q ≡ e
    → Spot subs table q e ⊎ ((Has subs q → ⊥) × (e ≡ Some 0))
entry_found [] table q e count is = inr ((λ h. h), sym is)
entry_found (s ∷ subs) [] q e count is = absurd (omega (arith, count))
entry_found (s ∷ subs) (t ∷ table) q e count is = elim (eqb_tells q s) [
  | inl same ↦ inl (record { number = 0; within = omega arith; is = sym same.1; entry_is = sym (same_entry s q t subs table same.0) ∙ is })
  | inr other ↦ elim (entry_found subs table q e (let c : suc (length table) ≡ suc (length subs) = count in omega (arith, c)) (sym (other_entry s q t subs table other.0) ∙ is)) [
    | inl spot ↦ inl (record { number = suc spot.number; within = (let w : spot.number < length subs = spot.within in omega (arith, w)); is = spot.is; entry_is = spot.entry_is })
    | inr none ↦ inr (none_here s q subs other.1 none.0, none.1)
  ]
]

-- the entry of one that isn't listed
pub entry_other : (subs : List ℕ) (table : List (Option ℕ)) (q : ℕ) → length table ≡ length subs → (Has subs q → ⊥) → entry_of subs table q ≡ Some 0
entry_other subs table q count none = elim (entry_found subs table q (entry_of subs table q) count refl) [
  | inl spot ↦ absurd (none (has_from subs q (spot.number, spot.within, (get_or_default_zero subs spot.number q spot.within ∙ spot.is))))
  | inr other ↦ other.1
]

-- how many entries are known

pub filled_within : (table : List (Option ℕ)) → filled table ≤ length table
filled_within [] = omega arith
filled_within (None ∷ table) = let e : filled table ≤ length table = filled_within table in omega (arith, e)
filled_within (Some n ∷ table) = let e : filled table ≤ length table = filled_within table in omega (arith, e)

pub filled_room : (table : List (Option ℕ)) (k : ℕ) → k < length table → get_or table k None ≡ None → filled table < length table
filled_room [] k less is = absurd (omega (arith, less))
filled_room (None ∷ table) zero less is = let e : filled table ≤ length table = filled_within table in omega (arith, e)
filled_room (Some n ∷ table) zero less is = cc
filled_room (None ∷ table) (suc k) less is = let e : filled table < length table = filled_room table k (omega (arith, less)) is in omega (arith, e)
filled_room (Some n ∷ table) (suc k) less is = let e : filled table < length table = filled_room table k (omega (arith, less)) is in omega (arith, e)

pub filled_set : (table : List (Option ℕ)) (k n : ℕ) → k < length table → get_or table k None ≡ None → filled (set table k (Some n)) ≡ 1 + filled table
filled_set [] k n less is = absurd (omega (arith, less))
filled_set (None ∷ table) zero n less is = refl
filled_set (Some m ∷ table) zero n less is = cc
filled_set (None ∷ table) (suc k) n less is = filled_set table k n (omega (arith, less)) is
filled_set (Some m ∷ table) (suc k) n less is = ap (λ x. 1 + x) (filled_set table k n (omega (arith, less)) is)

abbrev unknown : Option ℕ
unknown = None

pub filled_none : (n : ℕ) → filled (replicate n unknown) ≡ 0
filled_none zero = refl
filled_none (suc n) = filled_none n

pub none_known : (n k : ℕ) → get_or (replicate n unknown) k None ≡ None
none_known zero k = refl
none_known (suc n) zero = refl
none_known (suc n) (suc k) = none_known n k

pub not_some : (o : Option ℕ) → is_some o ≡ false → o ≡ None
not_some None e = refl
not_some (Some n) e = absurd (false≢true (sym e))

-- an item in range, whatever stands in for one out of range
pub same_at : {X : Type 0} (xs : List X) (k : ℕ) (d e : X) → k < length xs → get_or xs k d ≡ get_or xs k e
same_at [] k d e less = absurd (omega (arith, less))
same_at (x ∷ xs) zero d e less = refl
same_at (x ∷ xs) (suc k) d e less = same_at xs k d e (omega (arith, less))

pub none_at_index : (table : List (Option ℕ)) (k : ℕ) (x : Option ℕ) → k < length table → x ≡ get_or table k x → false ≡ is_some x → get_or table k None ≡ None
none_at_index table k x less at none = same_at table k None x less ∙ sym at ∙ not_some x (sym none)

pub shallow_at : (cs : List Calling) (k : ℕ) (d : Calling) → ((c : Calling) → Contains cs c → c.from.depth ≤ 1) → k < length cs → (get_or cs k d).from.depth ≤ 1
shallow_at cs k d shallow less = shallow (get_or cs k d) (k, less, same_at cs k (get_or cs k d) d less)

pub sum_fits : (from depth need : ℕ) → from ≡ depth → depth ≤ 1 → need + 1 < 2 ^ 32 → from + need < 2 ^ 32
sum_fits from depth need e small room = omega (arith, e, small, room)
