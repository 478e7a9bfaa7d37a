-- What a table has for a subprogram stands at its place.
use Rattle.std.proofs.Common.{◌≡◌, ℕ, zero, suc, ◌+◌, ◌<◌, ◌≤◌, true, false, cond, ◌==◌, List, [], ◌∷◌, length, get_or, set, replicate, Option, Some, None, is_some, Contains, inl, inr, refl, sym, ap, ◌∙◌, arith}
use Rattle.std.specs.List.Sorted.{IsStrictlyIncreasing}
use Rattle.std.proofs.lemmas.Bool.{false≢true}
use Rattle.std.proofs.lemmas.Bool.Decides.{eqb_tells}
use Rattle.bt_base.proofs.RisingLists.{rising_below, rising_rest}
use Rattle.call_laws.proofs.Risings.{contains_first, contains_later}
use Rattle.plain_parts.specs.Searched.{Known, filled, known_in}

some_same : {X : Type 0} {x y : X} → Some x ≡ Some y → x ≡ y
some_same e = cc

none_some : {X : Type 0} {x : X} → None ≡ Some x → ⊥
none_some e = cc

here : (s q : ℕ) (e : Option (Option ℕ)) (subs : List ℕ) (table : Known) → (q == s) ≡ true → known_in (s ∷ subs) (e ∷ table) q ≡ e
here s q e subs table is = ap (λ b. cond b e (known_in subs table q)) is

elsewhere : (s q : ℕ) (e : Option (Option ℕ)) (subs : List ℕ) (table : Known) → (q == s) ≡ false → known_in (s ∷ subs) (e ∷ table) q ≡ known_in subs table q
elsewhere s q e subs table is = ap (λ b. cond b e (known_in subs table q)) is

-- the entry of a listed subprogram
pub known_at : (subs : List ℕ) (table : Known) (k : ℕ) → IsStrictlyIncreasing subs → length table ≡ length subs → k < length subs
    → known_in subs table (get_or subs k 0) ≡ get_or table k None
known_at [] table k rise count less = absurd (omega (arith, less))
known_at (s ∷ subs) [] k rise count less = absurd (omega (arith, count))
known_at (s ∷ subs) (e ∷ table) zero rise count less = elim (eqb_tells s s) [
  | inl is ↦ here s s e subs table is.0
  | inr is ↦ absurd (is.1 refl)
]
known_at (s ∷ subs) (e ∷ table) (suc k) rise count less = elim (eqb_tells (get_or subs k 0) s) [
  | inl is ↦
      let below : s < get_or subs k 0 = rising_below (s ∷ subs) rise 0 (suc k) (omega arith) less in
      let same : get_or subs k 0 ≡ s = is.1 in
      absurd (omega (arith, below, same))
  | inr is ↦
      elsewhere s (get_or subs k 0) e subs table is.0
      ∙ known_at subs table k (rising_rest s subs rise) (let c : suc (length table) ≡ suc (length subs) = count in omega (arith, c)) (omega (arith, less))
]

-- where an entry comes from
pub record IsSpot (subs : List ℕ) (table : Known) (sub : ℕ) (e : Option ℕ) : Type 0 where
  pub number : ℕ
  pub within : number < length subs
  pub is : get_or subs number 0 ≡ sub
  pub entry_is : get_or table number None ≡ Some e

pub known_spot : (subs : List ℕ) (table : Known) (q : ℕ) (e : Option ℕ) → known_in subs table q ≡ Some e → IsSpot subs table q e
known_spot [] table q e is = absurd (none_some is)
known_spot (s ∷ subs) [] q e is = absurd (none_some is)
known_spot (s ∷ subs) (t ∷ table) q e is = elim (eqb_tells q s) [
  | inl same ↦ record { number = 0; within = omega arith; is = sym same.1; entry_is = sym (here s q t subs table same.0) ∙ is }
  | inr other ↦
      let later = known_spot subs table q e (sym (elsewhere s q t subs table other.0) ∙ is) in
      record {
        number = suc later.number;
        within = (let w : later.number < length subs = later.within in omega (arith, w));
        is = later.is;
        entry_is = later.entry_is;
      }
]

-- one that isn't listed has none
pub known_other : (subs : List ℕ) (table : Known) (q : ℕ) → (Contains subs q → ⊥) → known_in subs table q ≡ None
known_other [] table q none = refl
known_other (s ∷ subs) [] q none = refl
known_other (s ∷ subs) (t ∷ table) q none = elim (eqb_tells q s) [
  | inl same ↦ absurd (none (by (sym same.1)))
  | inr other ↦ elsewhere s q t subs table other.0 ∙ known_other subs table q (λ has. none (contains_later s subs q has))
]
  where
    by : s ≡ q → Contains (s ∷ subs) q
    by e = (0, omega arith, e)

-- how many entries are known
pub filled_within : (table : Known) → filled table ≤ length table
filled_within [] = omega arith
filled_within (None ∷ table) = let e : filled table ≤ length table = filled_within table in omega (arith, e)
filled_within (Some n ∷ table) = let e : filled table ≤ length table = filled_within table in omega (arith, e)

pub filled_set : (table : Known) (k : ℕ) (e : Option ℕ) → k < length table → get_or table k None ≡ None → filled (set table k (Some e)) ≡ 1 + filled table
filled_set [] k e less is = absurd (omega (arith, less))
filled_set (None ∷ table) zero e less is = refl
filled_set (Some m ∷ table) zero e less is = cc
filled_set (None ∷ table) (suc k) e less is = filled_set table k e (omega (arith, less)) is
filled_set (Some m ∷ table) (suc k) e less is = ap (λ x. 1 + x) (filled_set table k e (omega (arith, less)) is)

-- nothing yet
abbrev pub unknown : Option (Option ℕ)
unknown = None

pub none_known : (n k : ℕ) → get_or (replicate n unknown) k None ≡ None
none_known zero k = refl
none_known (suc n) zero = refl
none_known (suc n) (suc k) = none_known n k

not_some : {X : Type 0} (o : Option X) → is_some o ≡ false → o ≡ None
not_some None e = refl
not_some (Some n) e = absurd (false≢true (sym e))

-- an item in range, whatever stands in for one out of range
pub same_at : {X : Type 0} (xs : List X) (k : ℕ) (d e : X) → k < length xs → get_or xs k d ≡ get_or xs k e
same_at [] k d e less = absurd (omega (arith, less))
same_at (x ∷ xs) zero d e less = refl
same_at (x ∷ xs) (suc k) d e less = same_at xs k d e (omega (arith, less))

pub none_at_index : (table : Known) (k : ℕ) (x : Option (Option ℕ)) → k < length table → x ≡ get_or table k x → false ≡ is_some x → get_or table k None ≡ None
none_at_index table k x less at none = same_at table k None x less ∙ sym at ∙ not_some x (sym none)
