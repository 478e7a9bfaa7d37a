-- The entry of a name, looked up in a table that is in order.
use Rattle.std.proofs.Common.{◌≡◌, ℕ, zero, suc, ◌+◌, ◌<◌, ◌≤◌, ◌⊎◌, inl, inr, Bool, true, false, ◌&&◌, List, [], ◌∷◌}
use Rattle.std.proofs.Common.{◌++◌, length, get_or, Contains, Option, Some, None, nat_cmp, refl, sym, ◌∙◌, ap, subst}
use Rattle.std.proofs.Common.{arith, ⊎_elim, if◌then◌else◌}
use Rattle.std.specs.Prelude.{nat_lt, bytes_eq}
use Rattle.std.specs.Cmp.{IsTotalOrder, IsStrictWeakOrder}
use Rattle.std.specs.Cmp.Lexicographic.{slice_cmp}
use Rattle.std.specs.Ordering.{is_lt, is_eq, ordering_then, ordering_reverse}
use Rattle.std.specs.List.Sorted.{IsSortedBy, IsPartitionedBy}
use Rattle.std.specs.declared.cmp.Ordering.{Ordering}
use Rattle.std.specs.declared.cmp.Ordering.TheVariants.{Less, Equal, Greater}
use Rattle.std.proofs.lemmas.Bool.{cases_lt, false≢true}
use Rattle.std.proofs.lemmas.Bool.Decides.{nat_tests}
use Rattle.std.proofs.lemmas.Cmp.{nat_list_cmp_total, nat_cmp_total, on_total, then_total, alike_right}
use Rattle.std.proofs.lemmas.List.{get_or_default}
use Rattle.std.proofs.lemmas.List.Elements.{Contains-push, Contains-push_cases, Contains-append_left}
use Rattle.std.proofs.lemmas.List.Sorted.{ranks_by, sorted_far}
use Rattle.std.proofs.lemmas.Map.Text.{is_eq-slice_cmp}
use Rattle.bt_image.specs.Entry.{AreEntries, AreInOrder, IsEntry, entry_from, order, text}
use Rattle.bt_image.specs.Least.{least_of, lesser}
use Rattle.bt_image.specs.Symbol.{entry_for, entry_of, is_before, is_function_symbol, symbol_at, symbol_count, symbol_name, symbol_strings}
use Rattle.bt_image.specs.declared.entry.Entry.{Entry}

-- the order is one
order_total : (strings : List ℕ) → IsTotalOrder (order strings)
order_total strings = then_total (on_total (text strings) nat_list_cmp_total) (on_total (λ (e : Entry). e.address) nat_cmp_total)

-- the order of entries is a strict weak one
pub order_weak : (strings : List ℕ) → IsStrictWeakOrder (λ x y. is_lt (order strings x y))
order_weak strings = ranks_by (order_total strings) (λ (e : Entry). e)

-- entries sorted one by one are in order however far apart
pub order_far : (strings : List ℕ) (entries : List Entry) → IsSortedBy (λ x y. is_lt (order strings x y)) entries → AreInOrder strings entries
order_far strings entries sorted = λ i j d le lt. sorted_far _ (order_weak strings) entries sorted i j d le lt

-- what the answers of a comparison say
lt_means : (r : Ordering) → is_lt r ≡ true → r ≡ Less
lt_means Less h = refl
lt_means Equal h = absurd (false≢true h)
lt_means Greater h = absurd (false≢true h)

eq_means : (r : Ordering) → is_eq r ≡ true → r ≡ Equal
eq_means Less h = absurd (false≢true h)
eq_means Equal h = refl
eq_means Greater h = absurd (false≢true h)

greater_left : (r : Ordering) → is_lt r ≡ false → is_eq r ≡ false → r ≡ Greater
greater_left Less h e = absurd (false≢true (sym h))
greater_left Equal h e = absurd (false≢true (sym e))
greater_left Greater h e = refl

then_first : (a b : Ordering) → is_lt (ordering_then a b) ≡ false → is_lt a ≡ false
then_first Less b h = h
then_first Equal b h = refl
then_first Greater b h = refl

then_second : (a b : Ordering) → a ≡ Equal → is_lt (ordering_then a b) ≡ false → is_lt b ≡ false
then_second a b e h = ap (λ o. is_lt (ordering_then o b)) (sym e) ∙ h

not_less : (x y : ℕ) → is_lt (nat_cmp x y) ≡ false → y ≤ x
not_less x y h =
    ⊎_elim
    (λ lt. let t : nat_lt x y ≡ true = grind (arith, nat_tests) in absurd (false≢true (sym h ∙ rw t refl)))
    (λ ge. ge)
    (cases_lt x y)

-- what isn't greater than something less is less
le_lt : {K : Type 0} {R : K → K → Ordering} (o : IsTotalOrder R) (x y z : K) → is_lt (R y x) ≡ false → R y z ≡ Less → R x z ≡ Less
le_lt {K} {R} o x y z up lt = by (R x y) refl
  where
    by : (r : Ordering) → R x y ≡ r → R x z ≡ Less
    by Less e = o.trans x y z e lt
    by Equal e = o.congr x y z e ∙ lt
    by Greater e = absurd (false≢true (sym up ∙ ap is_lt (o.antisymm y x ∙ ap ordering_reverse e)))

-- names that come before one stand before the others
pub partitioned : (strings : List ℕ) (entries : List Entry) (name : List ℕ) → AreInOrder strings entries
    → IsPartitionedBy (λ e. is_before (text strings e) name) entries
partitioned strings entries name sorted = λ i j d le lt h.
    let x = text strings (get_or entries i d) in
    let y = text strings (get_or entries j d) in
    ap is_lt (le_lt nat_list_cmp_total x y name (then_first (slice_cmp nat_cmp y x) _ (sorted i j d le lt)) (lt_means (slice_cmp nat_cmp y name) h))

-- the lesser of two
lesser_found : (a b : Option ℕ) (x : ℕ) → lesser nat_lt a b ≡ Some x → (a ≡ Some x) ⊎ (b ≡ Some x)
lesser_found None b x h = inr h
lesser_found (Some p) None x h = inl h
lesser_found (Some p) (Some q) x h = by (nat_lt q p) h
  where
    by : (t : Bool) → (if t then Some q else Some p) ≡ Some x → (Some p ≡ Some x) ⊎ (Some q ≡ Some x)
    by true e = inr e
    by false e = inl e

lesser_first : (y : ℕ) (b : Option ℕ) → (x : ℕ) × (lesser nat_lt (Some y) b ≡ Some x) × (x ≤ y)
lesser_first y None = (y, refl, omega arith)
lesser_first y (Some q) =
    ⊎_elim
    (λ lt. let t : nat_lt q y ≡ true = grind (arith, nat_tests) in (q, rw t refl, omega arith))
    (λ ge. let t : nat_lt q y ≡ false = grind (arith, nat_tests) in (y, rw t refl, omega arith))
    (cases_lt q y)

lesser_second : (a : Option ℕ) (y : ℕ) → (x : ℕ) × (lesser nat_lt a (Some y) ≡ Some x) × (x ≤ y)
lesser_second None y = (y, refl, omega arith)
lesser_second (Some p) y =
    ⊎_elim
    (λ lt. let t : nat_lt y p ≡ true = grind (arith, nat_tests) in (y, rw t refl, omega arith))
    (λ ge. let t : nat_lt y p ≡ false = grind (arith, nat_tests) in (p, rw t refl, omega arith))
    (cases_lt y p)

least_found : (f : ℕ → Option ℕ) (n x : ℕ) → least_of nat_lt f n ≡ Some x → (k : ℕ) × (k < n) × (f k ≡ Some x)
least_found f zero x h = absurd cc
least_found f (suc n) x h =
    ⊎_elim
    (λ before. let p = least_found f n x before in (p.0, (let q = p.1 in omega arith), p.2))
    (λ here. (n, omega arith, here))
    (lesser_found (least_of nat_lt f n) (f n) x h)

least_below : (f : ℕ → Option ℕ) (n k y : ℕ) → k < n → f k ≡ Some y → (x : ℕ) × (least_of nat_lt f n ≡ Some x) × (x ≤ y)
least_below f zero k y lt at = absurd (omega arith)
least_below f (suc n) k y lt at =
    ⊎_elim
    (λ below.
    let p = least_below f n k y below at in
    let q = lesser_first p.0 (f n) in
    (q.0, ap (λ o. lesser nat_lt o (f n)) p.1 ∙ q.1, (let a = p.2 in let b = q.2 in omega arith)))
    (λ ge.
    let e : k ≡ n = omega arith in
    let q = lesser_second (least_of nat_lt f n) y in
    (q.0, ap (λ o. lesser nat_lt (least_of nat_lt f n) o) (ap f (sym e) ∙ at) ∙ q.1, q.2))
    (cases_lt k n)

-- the least is what is given and is at most each other
least_is : (f : ℕ → Option ℕ) (n k x : ℕ) → k < n → f k ≡ Some x → ((j y : ℕ) → j < n → f j ≡ Some y → x ≤ y) → least_of nat_lt f n ≡ Some x
least_is f n k x lt at least =
    let p = least_below f n k x lt at in
    let q = least_found f n p.0 p.1 in
    let a = p.2 in
    let b = least q.0 p.0 q.1 q.2 in
    let e : p.0 ≡ x = omega arith in
    p.1 ∙ ap (λ (y : ℕ). Some y) e

least_none : (f : ℕ → Option ℕ) (n : ℕ) → ((k y : ℕ) → k < n → f k ≡ Some y → ⊥) → least_of nat_lt f n ≡ None
least_none f n none = by (least_of nat_lt f n) refl
  where
    by : (o : Option ℕ) → least_of nat_lt f n ≡ o → least_of nat_lt f n ≡ None
    by None e = e
    by (Some x) e = let p = least_found f n x e in absurd (none p.0 x p.1 p.2)

-- what the address of a symbol of a name says
entry_means : (file name : List ℕ) (k y : ℕ) → entry_for file name k ≡ Some y
    → (is_function_symbol file k ≡ true) × (bytes_eq (symbol_name file k) name ≡ true) × ((symbol_at file k).value ≡ y)
entry_means file name k y h = by (is_function_symbol file k) (bytes_eq (symbol_name file k) name) refl refl h
  where
    by : (a b : Bool) → is_function_symbol file k ≡ a → bytes_eq (symbol_name file k) name ≡ b
        → (if a && b then Some (symbol_at file k).value else None) ≡ Some y
        → (is_function_symbol file k ≡ true) × (bytes_eq (symbol_name file k) name ≡ true) × ((symbol_at file k).value ≡ y)
    by true true e f g = (e, f, cc)
    by true false e f g = absurd cc
    by false b e f g = absurd cc

entry_is : (file name : List ℕ) (k : ℕ) → is_function_symbol file k ≡ true → bytes_eq (symbol_name file k) name ≡ true
    → entry_for file name k ≡ Some (symbol_at file k).value
entry_is file name k e f = rw (e, f) refl

-- names that are equal compare as equal
same_names : (x y : List ℕ) → bytes_eq x y ≡ true → slice_cmp nat_cmp x y ≡ Equal
same_names x y h = eq_means _ (is_eq-slice_cmp x y ∙ h)

equal_not_less : (r : Ordering) → r ≡ Equal → is_lt r ≡ true → ⊥
equal_not_less r e h = false≢true (sym (ap is_lt e) ∙ h)

-- a function symbol of a name is an entry of that name, at some place of the table
place_of : (file name : List ℕ) (entries : List Entry) (k y : ℕ) (d : Entry) → AreEntries file (symbol_count file) entries
    → k < symbol_count file → entry_for file name k ≡ Some y
    → (m : ℕ) × (m < length entries) × (slice_cmp nat_cmp (text (symbol_strings file) (get_or entries m d)) name ≡ Equal) × ((get_or entries m d).address ≡ y)
place_of file name entries k y d are lt h =
    let p = entry_means file name k y h in
    let c = are.all k lt p.0 in
    let at = get_or_default entries c.0 d (entry_from (symbol_at file k)) c.1 ∙ c.2 in (
      c.0,
      c.1,
      ap (λ (e : Entry). slice_cmp nat_cmp (text (symbol_strings file) e) name) at
          ∙ same_names (symbol_name file k) name p.1,
      ap (λ (e : Entry). e.address) at ∙ p.2,
    )

-- an entry that stands for none
abbrev pub no_entry : Entry
no_entry = record { name = 0; address = 0 }

-- the first entry of a name has its least address
pub entry_found : (file name : List ℕ) (entries : List Entry) (place : ℕ) (d : Entry) → AreEntries file (symbol_count file) entries
    → AreInOrder (symbol_strings file) entries → place < length entries
    → ((k : ℕ) (d : Entry) → k < place → is_before (text (symbol_strings file) (get_or entries k d)) name ≡ true)
    → bytes_eq (text (symbol_strings file) (get_or entries place d)) name ≡ true → entry_of file name ≡ Some (get_or entries place d).address
unfolding entry_of
entry_found file name entries place d are sorted lt below same =
    least_is (entry_for file name) (symbol_count file) i.symbol e.address i.within
    (entry_is file name i.symbol i.function (ap (λ (x : Entry). bytes_eq (text (symbol_strings file) x) name) i.is ∙ same)
    ∙ ap (λ (x : Entry). Some x.address) i.is)
    least
  where
    e : Entry
    e = get_or entries place d

    i : IsEntry file (symbol_count file) e
    i = are.each e (place, lt, get_or_default entries place e d lt)

    least : (j y : ℕ) → j < symbol_count file → entry_for file name j ≡ Some y → e.address ≤ y
    least j y jlt h =
        let p = place_of file name entries j y d are jlt h in
        let value = p.3 in
        ⊎_elim
        (λ early. absurd (equal_not_less _ p.2 (below p.0 d early)))
        (λ late.
        let x = text (symbol_strings file) (get_or entries p.0 d) in
        let z = text (symbol_strings file) e in
        let tied = alike_right nat_list_cmp_total z name x (same_names z name same) ∙ p.2 in
        let up = not_less (get_or entries p.0 d).address e.address (then_second (slice_cmp nat_cmp x z) _ tied (sorted place p.0 d late p.1)) in
        omega arith)
        (cases_lt p.0 place)

-- where the entry at the place of a name has another, there is none of that name
pub entry_missing : (file name : List ℕ) (entries : List Entry) (place : ℕ) (d : Entry)
    → AreEntries file (symbol_count file) entries → AreInOrder (symbol_strings file) entries
    → ((k : ℕ) (d : Entry) → k < place → is_before (text (symbol_strings file) (get_or entries k d)) name ≡ true)
    → ((k : ℕ) (d : Entry) → place ≤ k → k < length entries → is_before (text (symbol_strings file) (get_or entries k d)) name ≡ false)
    → (place < length entries → bytes_eq (text (symbol_strings file) (get_or entries place d)) name ≡ false) → entry_of file name ≡ None
unfolding entry_of
entry_missing file name entries place d are sorted below above other = least_none (entry_for file name) (symbol_count file) none
  where
    none : (k y : ℕ) → k < symbol_count file → entry_for file name k ≡ Some y → ⊥
    none k y klt h =
        let p = place_of file name entries k y d are klt h in
        ⊎_elim
        (λ early. equal_not_less _ p.2 (below p.0 d early))
        (λ late.
        let lt : place < length entries = (let q = p.1 in omega arith) in
        let x = text (symbol_strings file) (get_or entries p.0 d) in
        let z = text (symbol_strings file) (get_or entries place d) in
        let greater = greater_left (slice_cmp nat_cmp z name) (above place d (omega arith) lt) (is_eq-slice_cmp z name ∙ other lt) in
        let less = nat_list_cmp_total.congr x name z p.2 ∙ nat_list_cmp_total.antisymm name z ∙ ap ordering_reverse greater in
        false≢true (sym (then_first (slice_cmp nat_cmp x z) _ (sorted place p.0 d late p.1)) ∙ ap is_lt less))
        (cases_lt p.0 place)

-- the table as it grows
pub none_entered : (file : List ℕ) (entries : List Entry) → entries ≡ [] → AreEntries file 0 entries
none_entered file entries none = subst (AreEntries file 0) (sym none)
    (record { each = λ e c. absurd (let h = c.1 in omega arith); all = λ k lt. absurd (omega arith) })

later : (file : List ℕ) (n : ℕ) (e : Entry) → IsEntry file n e → IsEntry file (n + 1) e
later file n e is = record { symbol = is.symbol; within = (let h = is.within in omega arith); function = is.function; is = is.is }

-- a function symbol more is entered
pub one_entered : (file : List ℕ) (entries new : List Entry) (n : ℕ) (e : Entry) → is_function_symbol file n ≡ true
    → entry_from (symbol_at file n) ≡ e → new ≡ entries ++ e ∷ []
    → AreEntries file n entries → AreEntries file (n + 1) new
one_entered file entries new n e function same is are = subst (AreEntries file (n + 1)) (sym is) (record {
  each = λ x c. ⊎_elim
      (λ old. later file n x (are.each x old))
      (λ here. record { symbol = n; within = omega arith; function = function; is = same ∙ here })
      (Contains-push_cases entries e x c);
  all = λ k lt is. ⊎_elim
      (λ below. Contains-append_left entries (e ∷ []) (entry_from (symbol_at file k)) (are.all k below is))
      (λ ge. let q : n ≡ k = omega arith in subst (Contains (entries ++ e ∷ []))
      (sym same ∙ ap (λ (i : ℕ). entry_from (symbol_at file i)) q) (Contains-push entries e))
      (cases_lt k n);
})

-- a symbol that is no function enters nothing
pub none_more : (file : List ℕ) (entries : List Entry) (n : ℕ) → is_function_symbol file n ≡ false → AreEntries file n entries → AreEntries file (n + 1) entries
none_more file entries n out are = record {
  each = λ x c. later file n x (are.each x c);
  all = λ k lt is. ⊎_elim
      (λ below. are.all k below is)
      (λ ge. let q : k ≡ n = omega arith in absurd (false≢true (sym out ∙ ap (is_function_symbol file) (sym q) ∙ is)))
      (cases_lt k n);
}

-- the entries in order are those that were there
pub entered_in_order : (file : List ℕ) (n : ℕ) (old new : List Entry) → ((e : Entry) → Contains old e → Contains new e)
    → ((e : Entry) → Contains new e → Contains old e)
    → AreEntries file n old → AreEntries file n new
entered_in_order file n old new keeps adds_none are = record { each = λ e c. are.each e (adds_none e c); all = λ k lt is. keeps _ (are.all k lt is) }
