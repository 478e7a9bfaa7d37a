-- The keys of each subprogram, as one more key is put into its row.
use Rattle.std.proofs.Common.{◌≡◌, ◌==◌, ℕ, zero, suc, ◌<◌, Bool, true, false, List, [], ◌∷◌, ◌++◌, length, get_or, set, cond, Option, Some, None}
use Rattle.std.proofs.Common.{Result, Ok, Err, Contains, nat_cmp, refl, sym, ap, subst, ◌∙◌, arith, inl, inr, Vec, Global, OnOk}
use Rattle.std.specs.List.Sorted.{IsBinarySearchResult, IsStrictlyIncreasing}
use Rattle.std.proofs.lemmas.Bool.{cases_Bool, eq-eqb, eqb-true, false≢true}
use Rattle.std.proofs.lemmas.List.{append-nil, get_or-map, map-set}
use Rattle.std.proofs.lemmas.List.Elements.{filter-append}
use Rattle.abs_state.specs.declared.key.Key.{Key}
use Rattle.abs_state.specs.declared.key.Key.TheVariants as key
use Rattle.std.proofs.lemmas.List.Sorted.{searched}
use Rattle.bt_base.proofs.RisingLists.{rest_is_above, rising_rest, search_decides}
use Rattle.bt_base.proofs.Rows.{rising_apart}
use Rattle.context_facts.specs.Context.{is_local}
use Rattle.context_bounds.specs.Own.{own_keys, own_rows, owner_of, rows_of}

-- whether an owner, if there is one, is a subprogram
abbrev is_owner : Option ℕ → ℕ → Bool
is_owner None sub = false
is_owner (Some owner) sub = owner == sub

-- a key is a subprogram's where that is its owner
owner_is : (k : Key) (sub : ℕ) → is_local sub k ≡ is_owner (owner_of k) sub
owner_is (key.Node p) sub = refl
owner_is (key.Edge p q) sub = refl
owner_is (key.Call p t) sub = refl
owner_is (key.Summary q) sub = refl
owner_is (key.Gap q pc kind) sub = refl

-- the keys of a list of one
one_key : (k : Key) (sub : ℕ) (b : Bool) → is_local sub k ≡ b → own_keys (k ∷ []) sub ≡ cond b (k ∷ []) []
one_key k sub b is = ap (λ (c : Bool). cond c (k ∷ []) []) is

-- one more key stands behind those before, where it is the subprogram's
more_keys : (keys : List Key) (k : Key) (sub : ℕ) (b : Bool) → is_local sub k ≡ b → own_keys (keys ++ k ∷ []) sub ≡ own_keys keys sub ++ cond b (k ∷ []) []
more_keys keys k sub b is =
    filter-append (is_local sub) keys (k ∷ []) ∙ ap (λ (more : List Key). own_keys keys sub ++ more) (one_key k sub b is)

-- another's key changes nothing
same_keys : (keys : List Key) (k : Key) (sub : ℕ) → is_local sub k ≡ false → own_keys (keys ++ k ∷ []) sub ≡ own_keys keys sub
same_keys keys k sub other = more_keys keys k sub false other ∙ append-nil (own_keys keys sub)

-- a key of no listed subprogram changes no row
pub same_rows : (subs : List ℕ) (keys : List Key) (k : Key) → ((sub : ℕ) → Contains subs sub → is_local sub k ≡ false)
    → own_rows subs (keys ++ k ∷ []) ≡ own_rows subs keys
same_rows [] keys k other = refl
same_rows (sub ∷ subs) keys k other =
    ap (λ (row : List Key). row ∷ own_rows subs (keys ++ k ∷ [])) (same_keys keys k sub (other sub (0, omega arith, refl)))
    ∙ ap (λ (rows : List (List Key)). own_keys keys sub ∷ rows) (same_rows subs keys k (λ s has. other s (suc has.0, omega (arith, has.1), has.2)))

-- nor does one that is no subprogram's
pub none_rows : (subs : List ℕ) (keys : List Key) (k : Key) → owner_of k ≡ None → own_rows subs (keys ++ k ∷ []) ≡ own_rows subs keys
none_rows subs keys k none = same_rows subs keys k (λ sub has. owner_is k sub ∙ ap (λ (o : Option ℕ). is_owner o sub) none)

-- a key of one subprogram isn't another's
not_owner : (k : Key) (owner sub : ℕ) → owner_of k ≡ Some owner → (owner ≡ sub → ⊥) → is_local sub k ≡ false
not_owner k owner sub is apart =
    owner_is k sub
    ∙ (ap (λ (o : Option ℕ). is_owner o sub) is
    ∙ elim (cases_Bool (owner == sub)) [
      | inl same ↦ absurd (apart (eqb-true owner sub same))
      | inr other ↦ other
    ])

-- nor one of a subprogram that isn't listed
pub absent_rows : (subs : List ℕ) (keys : List Key) (k : Key) (owner : ℕ) → owner_of k ≡ Some owner → (Contains subs owner → ⊥)
    → own_rows subs (keys ++ k ∷ []) ≡ own_rows subs keys
absent_rows subs keys k owner is absent =
    same_rows subs keys k (λ sub has. not_owner k owner sub is (λ e. absent (subst (λ (s : ℕ). Contains subs s) (sym e) has)))

-- a key of a listed subprogram stands behind those of its row
pub put_rows : (subs : List ℕ) (keys : List Key) (k : Key) (owner i : ℕ) → IsStrictlyIncreasing subs → owner_of k ≡ Some owner → i < length subs
    → get_or subs i 0 ≡ owner
    → own_rows subs (keys ++ k ∷ []) ≡ set (own_rows subs keys) i (get_or (own_rows subs keys) i [] ++ k ∷ [])
put_rows [] keys k owner i rises is within at = absurd (omega (arith, within))
put_rows (sub ∷ subs) keys k owner zero rises is within at =
    let own : is_local sub k ≡ true = owner_is k sub ∙ (ap (λ (o : Option ℕ). is_owner o sub) is ∙ eq-eqb owner sub (sym at)) in
    ap (λ (row : List Key). row ∷ own_rows subs (keys ++ k ∷ [])) (more_keys keys k sub true own)
    ∙ ap (λ (rows : List (List Key)). (own_keys keys sub ++ k ∷ []) ∷ rows)
    (absent_rows subs keys k owner is (λ has. let above : sub < owner = rest_is_above sub subs owner rises has in omega (arith, above, at)))
put_rows (sub ∷ subs) keys k owner (suc i) rises is within at =
    let above : sub < get_or subs i 0 = rest_is_above sub subs (get_or subs i 0) rises (i, omega (arith, within), there subs i (omega (arith, within))) in
    ap (λ (row : List Key). row ∷ own_rows subs (keys ++ k ∷ [])) (same_keys keys k sub (not_owner k owner sub is (λ e. omega (arith, above, at, e))))
    ∙ ap (λ (rows : List (List Key)). own_keys keys sub ∷ rows) (put_rows subs keys k owner i (rising_rest sub subs rises) is (omega (arith, within)) at)
  where
    there : (xs : List ℕ) (j : ℕ) → j < length xs → get_or xs j (get_or xs j 0) ≡ get_or xs j 0
    there [] j l = refl
    there (x ∷ xs) zero l = refl
    there (x ∷ xs) (suc j) l = there xs j (omega (arith, l))

-- a number that a search finds stands there, and one that it doesn't find isn't listed
pub found_at : (xs : List ℕ) (x i : ℕ) → IsStrictlyIncreasing xs → IsBinarySearchResult (λ y. nat_cmp y x) xs (Ok i) → (i < length xs) × (get_or xs i 0 ≡ x)
found_at xs x i rises result = searched xs x (Ok i) result (rising_apart xs rises)

-- a number that no search finds isn't listed
pub not_found : (xs : List ℕ) (x i : ℕ) → IsStrictlyIncreasing xs → IsBinarySearchResult (λ y. nat_cmp y x) xs (Err i) → Contains xs x → ⊥
not_found xs x i rises result has = false≢true ((search_decides xs x (Err i) rises result).1 has)

-- rows of which one got a key at its end
pub pushed_at : (rows : List (Vec Key Global)) (row : ℕ) (v w : Vec Key Global) (k : Key) → row < length rows → v ≡ get_or rows row v
    → w.items ≡ v.items ++ k ∷ []
    → rows_of (set rows row w) ≡ set (rows_of rows) row (get_or (rows_of rows) row [] ++ k ∷ [])
pushed_at rows row v w k low at is =
    map-set (λ (x : Vec Key Global). x.items) rows row w
    ∙ ap (λ (keys : List Key). set (rows_of rows) row keys)
    (is ∙ ap (λ (keys : List Key). keys ++ k ∷ [])
    (sym (get_or-map (λ (x : Vec Key Global). x.items) rows row v [] low ∙ ap (λ (x : Vec Key Global). x.items) (sym at))))

-- what holds where a result is there
pub on_ok : {A E : Type 0} {P Q : Type 0} (r : Result A E) → OnOk r P → (P → Q) → OnOk r Q
on_ok (Ok a) h f = f h
on_ok (Err e) h f = tt
