-- The names of functions, as more symbols are seen.
use Rattle.std.proofs.Common.{◌≡◌, ◌≢◌, ℕ, ◌+◌, ◌≤◌, Bool, true, false, not, cond, List, [], ◌∷◌, length, map, Option}
use Rattle.std.proofs.Common.{Some, None, refl, sym, ◌∙◌, ap, subst, eq-eqb, add-one, arith, ⊎_elim}
use Rattle.std.specs.Prelude.{◌==◌, nat_lt, IfSome, if◌then◌else◌}
use Rattle.std.specs.Map.{lookup}
use Rattle.std.specs.BTreeMap.{BTreeMap, insert_entry, get, is_at}
use Rattle.std.specs.Ordering.{nat_cmp}
use Rattle.std.proofs.lemmas.Bool.{cases_lt, cases_eq, false≢true}
use Rattle.std.proofs.lemmas.Bool.Decides.{nat_tests}
use Rattle.bt_image.specs.Least.{least_of, lesser}
use Rattle.bt_image.specs.Names.{AreNames, IsBest, IsNoted, better, name_from}
use Rattle.bt_image.specs.Symbol.{functions_among, is_before, is_function_symbol, is_typed, is_untyped, name_at}
use Rattle.bt_image.specs.Symbol.{name_for, symbol_at, symbol_strings, with_number}
use Rattle.bt_image.specs.declared.names.Name.{Name}
use Rattle.bt_image.specs.declared.symbol.Symbol.{Symbol}

-- the keys of a map with one more
pub keys-insert : (es : List (ℕ × Name)) (k : ℕ) (v : Name) → map (λ (e : ℕ × Name). e.0)
    (insert_entry nat_cmp es k v) ≡ with_number k (map (λ (e : ℕ × Name). e.0) es)
keys-insert [] k v = refl
keys-insert (e ∷ es) k v =
    let h = keys-insert es k v in
    ⊎_elim
    (λ lt. let t : nat_lt k e.0 ≡ true = grind (arith, nat_tests) in rw t refl)
    (λ ge.
    let t : nat_lt k e.0 ≡ false = grind (arith, nat_tests) in
    ⊎_elim
    (λ eq. let q : (k == e.0) ≡ true = eq-eqb k e.0 eq in rw (t, q) refl)
    (λ ne. let q : (k == e.0) ≡ false = grind (arith, nat_tests) in rw (t, q) (ap (λ xs. e.0 ∷ xs) h))
    (cases_eq k e.0))
    (cases_lt k e.0)

-- other numbers are at other keys
pub apart_keys : (k q : ℕ) → q ≢ k → is_at (nat_cmp k) q ≡ false
apart_keys k q ne =
    ⊎_elim
    (λ lt. let t : nat_lt k q ≡ true = grind (arith, nat_tests) in rw t refl)
    (λ ge.
    let t : nat_lt k q ≡ false = grind (arith, nat_tests) in
    let e : (k == q) ≡ false = grind (arith, nat_tests) in rw (t, e) refl)
    (cases_lt k q)

-- nothing more to choose from
lesser_none : {X : Type 0} (less : X → X → Bool) (o : Option X) → lesser less o None ≡ o
lesser_none less None = refl
lesser_none less (Some x) = refl

-- a name, where it is of that kind
abbrev pub where_kind : List ℕ → Bool → ℕ → Option (List ℕ)
where_kind strings kind at = if kind then Some (name_at strings at) else None

abbrev named : ℕ → Bool → Name
named at typed = record { at = at; typed = typed }

best_first : (strings : List ℕ) (na : ℕ) (nt : Bool) (T U : Option (List ℕ)) → T ≡ None → U ≡ None → na ≤ length strings
    → IsBest strings (lesser is_before T (where_kind strings nt na)) (lesser is_before U (where_kind strings (not nt) na)) (Some (named na nt))
best_first strings na true T U t u le = (le, (λ e. ap (λ o. lesser is_before o (Some (name_at strings na))) t), (λ e. absurd (false≢true (sym e))))
best_first strings na false T U t u le =
    (le, (λ e. absurd (false≢true e)), (λ e. (lesser_none is_before T ∙ t, ap (λ o. lesser is_before o (Some (name_at strings na))) u)))

best_same : (strings : List ℕ) (oa na : ℕ) (T : Option (List ℕ)) (b : Bool)
    → is_before (name_at strings na) (name_at strings oa) ≡ b → T ≡ Some (name_at strings oa)
    → lesser is_before T (Some (name_at strings na)) ≡ Some (name_at strings (cond b na oa))
best_same strings oa na T true h t = ap (λ o. lesser is_before o (Some (name_at strings na))) t ∙ rw h refl
best_same strings oa na T false h t = ap (λ o. lesser is_before o (Some (name_at strings na))) t ∙ rw h refl

best_next : (strings : List ℕ) (oa na : ℕ) (ot nt b : Bool) (T U : Option (List ℕ)) → is_before (name_at strings na) (name_at strings oa) ≡ b
    → IsBest strings T U (Some (named oa ot)) → na ≤ length strings
    → IsBest strings (lesser is_before T (where_kind strings nt na)) (lesser is_before U (where_kind strings (not nt) na))
    (Some (better strings (Some (named oa ot)) (named na nt)))
best_next strings oa na true true true T U h best le = rw h (le, (λ e. best_same strings oa na T true h (best.1 refl)), (λ e. absurd (false≢true (sym e))))
best_next strings oa na true true false T U h best le = rw h
    (best.0, (λ e. best_same strings oa na T false h (best.1 refl)), (λ e. absurd (false≢true (sym e))))
best_next strings oa na true false b T U h best le = (best.0, (λ e. lesser_none is_before T ∙ best.1 refl), (λ e. absurd (false≢true (sym e))))
best_next strings oa na false true b T U h best le =
    (le, (λ e. ap (λ o. lesser is_before o (Some (name_at strings na))) (best.2 refl).0), (λ e. absurd (false≢true (sym e))))
best_next strings oa na false false true T U h best le =
    rw h (le, (λ e. absurd (false≢true e)), (λ e. (lesser_none is_before T ∙ (best.2 refl).0, best_same strings oa na U true h (best.2 refl).1)))
best_next strings oa na false false false T U h best le =
    rw h (best.0, (λ e. absurd (false≢true e)), (λ e. (lesser_none is_before T ∙ (best.2 refl).0, best_same strings oa na U false h (best.2 refl).1)))

-- the better of the best so far and one more name is the best
best_step : (strings : List ℕ) (old : Option Name) (new : Name) (T U : Option (List ℕ)) → IsBest strings T U old → new.at ≤ length strings
    → IsBest strings (lesser is_before T (where_kind strings new.typed new.at))
    (lesser is_before U (where_kind strings (not new.typed) new.at)) (Some (better strings old new))
best_step strings None new T U best le = best_first strings new.at new.typed T U best.0 best.1 le
best_step strings (Some old) new T U best le = best_next strings old.at new.at old.typed new.typed _ T U refl best le

-- what a symbol adds to the names of an address
name_at_other : (test : Symbol → Bool) (file : List ℕ) (a n : ℕ) → a ≢ (symbol_at file n).value → name_for test file a n ≡ None
name_at_other test file a n ne = by (is_function_symbol file n) refl
  where
    by : (b : Bool) → is_function_symbol file n ≡ b → name_for test file a n ≡ None
    by false e = rw e refl
    by true e = let q : ((symbol_at file n).value == a) ≡ false = grind (arith, nat_tests) in rw (e, q) refl

name_at_value : (test : Symbol → Bool) (file : List ℕ) (a n : ℕ) → a ≡ (symbol_at file n).value → is_function_symbol file n ≡ true
    → name_for test file a n ≡ where_kind (symbol_strings file) (test (symbol_at file n)) (symbol_at file n).name
name_at_value test file a n is e = let q : ((symbol_at file n).value == a) ≡ true = eq-eqb _ a (sym is) in rw (e, q) refl

least_more : (f : ℕ → Option (List ℕ)) (n : ℕ) → least_of is_before f (n + 1) ≡ lesser is_before (least_of is_before f n) (f n)
least_more f n = rw add-one refl

least_skip : (f : ℕ → Option (List ℕ)) (n : ℕ) → f n ≡ None → least_of is_before f (n + 1) ≡ least_of is_before f n
least_skip f n none = least_more f n ∙ ap (lesser is_before (least_of is_before f n)) none ∙ lesser_none is_before (least_of is_before f n)

best_same_all : (strings : List ℕ) (T U T' U' : Option (List ℕ)) (o o' : Option Name) → T' ≡ T → U' ≡ U → o' ≡ o
    → IsBest strings T U o → IsBest strings T' U' o'
best_same_all strings T U T' U' o o' t u e h =
    subst (λ x. IsBest strings T' U' x) (sym e) (subst (λ x. IsBest strings T' x o) (sym u) (subst (λ x. IsBest strings x U o) (sym t) h))

-- the names with one more function symbol
pub names_noted : (file strings : List ℕ) (n : ℕ) (names new : BTreeMap ℕ Name) (s : Symbol) → strings ≡ symbol_strings file → s ≡ symbol_at file n
    → is_function_symbol file n ≡ true → s.name ≤ length strings → AreNames file strings n names → IsNoted strings names new s
    → AreNames file strings (n + 1) new
names_noted file strings n names new s same is function le are noted =
    let v = ap (λ (x : Symbol). x.value) is in
    let nm = ap (λ (x : Symbol). x.name) is in
    record {
      keys = noted.keys ∙ ap (with_number s.value) are.keys ∙ ap (λ x. with_number x (functions_among file n)) v ∙ sym (rw (add-one, function) refl);
      best = λ a. ⊎_elim
          (λ eq. at a eq)
          (λ ne. best_same_all strings _ _ _ _ _ _
          (least_skip (name_for is_typed file a) n (name_at_other is_typed file a n (λ e. ne (e ∙ sym v))))
          (least_skip (name_for is_untyped file a) n (name_at_other is_untyped file a n (λ e. ne (e ∙ sym v))))
          (noted.others a ne) (are.best a))
          (cases_eq a s.value);
    }
  where
    kind : (test : Symbol → Bool) (a : ℕ) → a ≡ s.value → least_of is_before (name_for test file a) (n + 1) ≡ lesser is_before
        (least_of is_before (name_for test file a) n) (where_kind strings (test s) s.name)
    kind test a eq =
        least_more (name_for test file a) n
        ∙ ap (lesser is_before (least_of is_before (name_for test file a) n))
        (name_at_value test file a n (eq ∙ ap (λ (x : Symbol). x.value) is) function
        ∙ ap (λ xs. where_kind xs (test (symbol_at file n)) (symbol_at file n).name) (sym same)
        ∙ ap (λ (x : Symbol). where_kind strings (test x) x.name) (sym is))

    at : (a : ℕ) → a ≡ s.value → IsBest strings (least_of is_before (name_for is_typed file a) (n + 1))
        (least_of is_before (name_for is_untyped file a) (n + 1)) (get nat_cmp new a)
    at a eq =
        best_same_all strings _ _ _ _ _ _ (kind is_typed a eq) (kind is_untyped a eq)
        (ap (get nat_cmp new) eq ∙ noted.at ∙ ap (λ x. Some (better strings (get nat_cmp names x) (name_from s))) (sym eq))
        (best_step strings (get nat_cmp names a) (name_from s) _ _ (are.best a) le)

-- the names where a symbol is no function symbol
pub names_skipped : (file strings : List ℕ) (n : ℕ) (names : BTreeMap ℕ Name) → is_function_symbol file n ≡ false
    → AreNames file strings n names → AreNames file strings (n + 1) names
names_skipped file strings n names out are = record {
  keys = are.keys ∙ sym (rw (add-one, out) refl);
  best = λ a. best_same_all strings _ _ _ _ _ _ (least_skip (name_for is_typed file a) n (rw out refl))
      (least_skip (name_for is_untyped file a) n (rw out refl)) refl (are.best a);
}

-- the names of no symbols
pub names_none : (file strings : List ℕ) (names : BTreeMap ℕ Name) → names.entries ≡ [] → AreNames file strings 0 names
names_none file strings names none = record {
  keys = ap (map (λ (e : ℕ × Name). e.0)) none;
  best = λ a. subst (λ o. IsBest strings None None o) (sym (ap (λ es. lookup (is_at (nat_cmp a)) es) none)) (refl, refl);
}

-- each name is within the strings
pub names_within : (file strings : List ℕ) (n : ℕ) (names : BTreeMap ℕ Name) → AreNames file strings n names → (a : ℕ)
    → IfSome (get nat_cmp names a) (λ name. name.at ≤ length strings)
names_within file strings n names are a = by (get nat_cmp names a) _ _ (are.best a)
  where
    by : (o : Option Name) (T U : Option (List ℕ)) → IsBest strings T U o → IfSome o (λ name. name.at ≤ length strings)
    by None T U h = tt
    by (Some name) T U h = h.0
