-- Entries in the keys' order: what a look-up, a sum or a count of them gives.
use Rattle.std.proofs.Common.{◌≡◌, ℕ, ◌+◌, ◌*◌, ◌<◌, ◌≤◌, Bool, true, false, not, ◌&&◌, cond, List, [], ◌∷◌, length, get_or, Option, Some, None, is_some}
use Rattle.std.proofs.Common.{Ordering, IsSome, IsTrue, sum_by, count_by, refl, sym, ap, ◌∙◌, subst, arith, zero, suc}
use Rattle.std.proofs.lemmas.Cmp.{eq_by_cmp_equiv}
use Rattle.std.proofs.lemmas.Map.{lookup-none}
use Rattle.std.proofs.lemmas.Map.Keys.{sorted_head, sorted_tail, IsDistinct-from_sorted}
use Rattle.std.proofs.lemmas.Map.Entries.{lookup_head, lookup_tail, none_below_head, none_past_head, lookup_from_place}
use Rattle.std.proofs.lemmas.Option.{slice_get-get_or}
use Rattle.std.proofs.lemmas.List.Sums.{sum_by-cons, sum_by-le}
use Rattle.std.specs.Cmp.{IsTotalOrder, IsEquivalence}
use Rattle.std.specs.Ordering.{match_ordering, is_eq, eq_by_cmp, ordering_reverse}
use Rattle.std.specs.Map.{lookup, keys_of}
use Rattle.std.specs.BTreeMap.{is_at, insert_entry}
use Rattle.std.specs.List.{AllByRecursion}
use Rattle.std.specs.List.Sorted.{IsStrictlySortedBy}
use Rattle.std.specs.declared.cmp.Ordering.TheVariants.{Less, Equal, Greater}
use Rattle.flow_system.specs.Facts.{fact_at, KeysRise}
use Rattle.flow_system.specs.Laws.{OrdersKeys}
use Rattle.flow_core.specs.Staged.{over}
use Rattle.flow_core.proofs.QueueLemmas.{equal_from_is_eq, some_when}

-- what a fact weighs, or 0
abbrev pub weight_at : {K V : Type 0} → (K × V → ℕ) → K → Option V → ℕ
weight_at f k None = 0
weight_at f k (Some v) = f (k, v)

-- what isn't there has nothing
pub none_or_some : {X G : Type 0} (o : Option X) → o ≡ None → IsSome o → G
none_or_some o e s = let t : false ≡ true = subst (λ (p : Option _). is_some p ≡ true) e s in absurd (cc)

module _ {K : Type 0} (cmp : K → K → Ordering) (keys : OrdersKeys cmp) where
  equiv : IsEquivalence (eq_by_cmp cmp)
  equiv = eq_by_cmp_equiv keys.total

  flip : (q k : K) → is_eq (cmp q k) ≡ is_eq (cmp k q)
  flip q k = equiv.symm q k

  -- keys that compare as equal are one
  pub same_key : (j k : K) → is_eq (cmp j k) ≡ true → j ≡ k
  same_key j k h = keys.exact j k (equal_from_is_eq (cmp j k) h)

  -- a key compares as equal to itself
  pub self_key : (k : K) → is_eq (cmp k k) ≡ true
  self_key k = equiv.refl k

  all_above : (j k : K) (ks : List K) → cmp j k ≡ Less → AllByRecursion (λ y. cmp k y ≡ Less) ks → AllByRecursion (λ y. cmp j y ≡ Less) ks
  all_above j k [] below all = all
  all_above j k (x ∷ ks) below all = (keys.total.trans j k x below all.0, all_above j k ks below all.1)

  sorted_cons : (k : K) (ks : List K) → AllByRecursion (λ y. cmp k y ≡ Less) ks → IsStrictlySortedBy cmp ks → IsStrictlySortedBy cmp (k ∷ ks)
  unfolding IsStrictlySortedBy
  sorted_cons k ks all rest = (all, rest)

  sorted_one : (k : K) → IsStrictlySortedBy cmp (k ∷ [])
  unfolding IsStrictlySortedBy
  sorted_one k = search

  module _ {V : Type 0} where
    -- an insertion changes one key
    pub insert_at : (es : List (K × V)) (k : K) (v : V) (q : K) → fact_at cmp (insert_entry cmp es k v) q ≡ cond (is_eq (cmp k q)) (Some v) (fact_at cmp es q)
    insert_at [] k v q = ap (λ b. cond b (Some v) None) (flip q k)
    insert_at (e ∷ es) k v q = insert_cases (cmp k e.0) refl (insert_at es k v q)
      where
        clash_cases : (b c : Bool) → is_eq (cmp k q) ≡ b → is_eq (cmp q e.0) ≡ c → (b ≡ true → c ≡ true → ⊥)
            → cond c (Some e.1) (cond b (Some v) (fact_at cmp es q)) ≡ cond b (Some v) (cond c (Some e.1) (fact_at cmp es q))
        clash_cases true true hb hc no_both = absurd (no_both refl refl)
        clash_cases true false hb hc no_both = refl
        clash_cases false true hb hc no_both = refl
        clash_cases false false hb hc no_both = refl

        equal_cases : (b : Bool) → cond b (Some v) (fact_at cmp es q) ≡ cond b (Some v) (cond b (Some e.1) (fact_at cmp es q))
        equal_cases true = refl
        equal_cases false = refl

        insert_cases : (o : Ordering) → cmp k e.0 ≡ o → fact_at cmp (insert_entry cmp es k v) q ≡ cond (is_eq (cmp k q)) (Some v) (fact_at cmp es q)
            → fact_at cmp (match_ordering o ((k, v) ∷ e ∷ es) ((e.0, v) ∷ es) (e ∷ insert_entry cmp es k v)) q ≡ cond (is_eq (cmp k q)) (Some v)
            (fact_at cmp (e ∷ es) q)
        insert_cases Less is rest = ap (λ b. cond b (Some v) (fact_at cmp (e ∷ es) q)) (flip q k)
        insert_cases Equal is rest =
            let b : is_eq (cmp q e.0) ≡ is_eq (cmp k q) = flip q e.0 ∙ ap (λ x. is_eq (cmp x q)) (sym (keys.exact k e.0 is)) in
            ap (λ t. cond t (Some v) (fact_at cmp es q)) b ∙ equal_cases (is_eq (cmp k q))
            ∙ ap (λ t. cond (is_eq (cmp k q)) (Some v) (cond t (Some e.1) (fact_at cmp es q))) (sym b)
        insert_cases Greater is rest =
            ap (λ (o : Option V). cond (is_eq (cmp q e.0)) (Some e.1) o) rest
            ∙ clash_cases (is_eq (cmp k q)) (is_eq (cmp q e.0)) refl refl
            (λ a b. let j : k ≡ e.0 = same_key k q a ∙ same_key q e.0 b in let t : is_eq (cmp k e.0) ≡ true = subst (λ x. is_eq (cmp k x) ≡ true) j
            (self_key k) in let f : is_eq (cmp k e.0) ≡ false = ap is_eq is in absurd (cc))

    all_insert : (P : K → Type 0) (es : List (K × V)) (k : K) (v : V) → P k → AllByRecursion P (keys_of es)
        → AllByRecursion P (keys_of (insert_entry cmp es k v))
    all_insert P [] k v p all = (p, all)
    all_insert P (e ∷ es) k v p all = all_cases (cmp k e.0) (all_insert P es k v p all.1)
      where
        all_cases : (o : Ordering) → AllByRecursion P (keys_of (insert_entry cmp es k v))
            → AllByRecursion P (keys_of (match_ordering o ((k, v) ∷ e ∷ es) ((e.0, v) ∷ es) (e ∷ insert_entry cmp es k v)))
        all_cases Less rest = (p, (all.0, all.1))
        all_cases Equal rest = (all.0, all.1)
        all_cases Greater rest = (all.0, rest)

    -- an entry that is put in keeps the keys rising
    pub insert_rise : (es : List (K × V)) (k : K) (v : V) → KeysRise cmp es → KeysRise cmp (insert_entry cmp es k v)
    insert_rise [] k v rise = sorted_one k
    insert_rise (e ∷ es) k v rise = rise_cases (cmp k e.0) refl (insert_rise es k v (sorted_tail cmp e.0 (keys_of es) rise))
      where
        rise_cases : (o : Ordering) → cmp k e.0 ≡ o → KeysRise cmp (insert_entry cmp es k v)
            → KeysRise cmp (match_ordering o ((k, v) ∷ e ∷ es) ((e.0, v) ∷ es) (e ∷ insert_entry cmp es k v))
        rise_cases Less is rest = sorted_cons k (keys_of (e ∷ es)) (is, all_above k e.0 (keys_of es) is (sorted_head cmp e.0 (keys_of es) rise)) rise
        rise_cases Equal is rest = rise
        rise_cases Greater is rest = sorted_cons e.0 (keys_of (insert_entry cmp es k v))
            (all_insert (λ y. cmp e.0 y ≡ Less) es k v (keys.total.antisymm e.0 k ∙ ap ordering_reverse is) (sorted_head cmp e.0 (keys_of es) rise)) rest

    -- what an insertion adds to a sum
    pub sum_insert : (f : K × V → ℕ) (es : List (K × V)) (k : K) (v : V) → KeysRise cmp es
        → sum_by f (insert_entry cmp es k v) + weight_at f k (fact_at cmp es k) ≡ sum_by f es + f (k, v)
    sum_insert f [] k v rise = let e = sum_by-cons f (k, v) [] in omega (arith, e)
    sum_insert f (e ∷ es) k v rise = sum_cases (cmp k e.0) refl (sum_insert f es k v (sorted_tail cmp e.0 (keys_of es) rise))
      where
        sum_cases : (o : Ordering) → cmp k e.0 ≡ o → sum_by f (insert_entry cmp es k v) + weight_at f k (fact_at cmp es k) ≡ sum_by f es + f (k, v)
            → sum_by f (match_ordering o ((k, v) ∷ e ∷ es) ((e.0, v) ∷ es) (e ∷ insert_entry cmp es k v)) + weight_at f k
            (cond (is_eq o) (Some e.1) (fact_at cmp es k)) ≡ sum_by f (e ∷ es) + f (k, v)
        sum_cases Less is rest =
            let n = lookup-none (is_at (cmp k)) (e ∷ es) (none_below_head keys.total k e es rise is) in
            let n' : fact_at cmp es k ≡ None = sym (lookup_tail (is_at (cmp k)) e es (ap is_eq is)) ∙ n in
            let w : weight_at f k (fact_at cmp es k) ≡ 0 = ap (weight_at f k) n' in
            omega (arith, w, sum_by-cons f (k, v) (e ∷ es))
        sum_cases Equal is rest =
            let j : f (k, e.1) ≡ f (e.0, e.1) = ap (λ x. f (x, e.1)) (keys.exact k e.0 is) in
            let l : f (k, v) ≡ f (e.0, v) = ap (λ x. f (x, v)) (keys.exact k e.0 is) in
            omega (arith, j, l, sum_by-cons f (e.0, v) es, sum_by-cons f e es)
        sum_cases Greater is rest = omega (arith, rest, sum_by-cons f e (insert_entry cmp es k v), sum_by-cons f e es)

    -- the risen entries written over the old ones, one after another
    abbrev pub overlay : List (K × V) → List (K × V) → List (K × V)
    overlay [] old = old
    overlay (e ∷ es) old = overlay es (insert_entry cmp old e.0 e.1)

    -- entries written over rising ones rise
    pub overlay_rise : (risen old : List (K × V)) → KeysRise cmp old → KeysRise cmp (overlay risen old)
    overlay_rise [] old rise = rise
    overlay_rise (e ∷ es) old rise = overlay_rise es (insert_entry cmp old e.0 e.1) (insert_rise old e.0 e.1 rise)

    -- written over others, the facts are the risen ones, and else the old
    pub overlay_at : (risen old : List (K × V)) → KeysRise cmp risen → (q : K)
        → fact_at cmp (overlay risen old) q ≡ over (fact_at cmp risen q) (fact_at cmp old q)
    overlay_at [] old rise q = refl
    overlay_at (e ∷ es) old rise q =
        overlay_at es (insert_entry cmp old e.0 e.1) (sorted_tail cmp e.0 (keys_of es) rise) q
        ∙ ap (λ (o : Option V). over (fact_at cmp es q) o) (insert_at old e.0 e.1 q ∙ ap (λ b. cond b (Some e.1) (fact_at cmp old q)) (flip e.0 q))
        ∙ at_cases (is_eq (cmp q e.0)) refl
      where
        at_cases : (b : Bool) → is_eq (cmp q e.0) ≡ b
            → over (fact_at cmp es q) (cond b (Some e.1) (fact_at cmp old q)) ≡ over (cond b (Some e.1) (fact_at cmp es q)) (fact_at cmp old q)
        at_cases true is = ap (λ (o : Option V). over o (Some e.1)) (lookup-none (is_at (cmp q)) es
            (none_past_head equiv q e es (IsDistinct-from_sorted cmp (keys_of (e ∷ es)) rise) is))
        at_cases false is = refl

    -- what lies below all keys of a list isn't touched by what is written at them
    sum_apart : (f : K × V → ℕ) (es old : List (K × V)) (k : K) (v : V) → AllByRecursion (λ y. cmp k y ≡ Less) (keys_of es)
        → sum_by (λ e. weight_at f e.0 (fact_at cmp (insert_entry cmp old k v) e.0)) es ≡ sum_by (λ e. weight_at f e.0 (fact_at cmp old e.0)) es
    sum_apart f [] old k v all = refl
    sum_apart f (e ∷ es) old k v all =
        let g : K × V → ℕ = λ x. weight_at f x.0 (fact_at cmp (insert_entry cmp old k v) x.0) in
        let h : K × V → ℕ = λ x. weight_at f x.0 (fact_at cmp old x.0) in
        let here : g e ≡ h e = ap (weight_at f e.0) (insert_at old k v e.0 ∙ ap (λ o. cond (is_eq o) (Some v) (fact_at cmp old e.0)) all.0) in
        omega (arith, here, sum_apart f es old k v all.1, sum_by-cons g e es, sum_by-cons h e es)

    -- a sum over the entries written over others, by those that they replace
    pub overlay_sum : (f : K × V → ℕ) (risen old : List (K × V)) → KeysRise cmp risen → KeysRise cmp old
        → sum_by f (overlay risen old) + sum_by (λ e. weight_at f e.0 (fact_at cmp old e.0)) risen ≡ sum_by f old + sum_by f risen
    overlay_sum f [] old rise rise' = omega arith
    overlay_sum f (e ∷ es) old rise rise' =
        let old' = insert_entry cmp old e.0 e.1 in
        let h : K × V → ℕ = λ x. weight_at f x.0 (fact_at cmp old x.0) in
        omega (
          arith,
          overlay_sum f es old' (sorted_tail cmp e.0 (keys_of es) rise) (insert_rise old e.0 e.1 rise'),
          sum_insert f old e.0 e.1 rise',
          sum_apart
              f es old e.0 e.1 (sorted_head cmp e.0 (keys_of es) rise),
          sum_by-cons h e es,
          sum_by-cons f e es,
        )

    -- lists of entries in order with the same look-ups are the same
    pub same_entries : (es fs : List (K × V)) → KeysRise cmp es → KeysRise cmp fs → ((q : K) → fact_at cmp es q ≡ fact_at cmp fs q) → es ≡ fs
    same_entries [] [] re rf h = refl
    same_entries [] (f ∷ fs) re rf h = let a = h f.0 in let b = lookup_head (is_at (cmp f.0)) f fs (self_key f.0) in cc
    same_entries (e ∷ es) [] re rf h = let a = h e.0 in let b = lookup_head (is_at (cmp e.0)) e es (self_key e.0) in cc
    same_entries (e ∷ es) (f ∷ fs) re rf h = entries_cases (cmp e.0 f.0) refl
        (same_entries es fs (sorted_tail cmp e.0 (keys_of es) re) (sorted_tail cmp f.0 (keys_of fs) rf))
      where
        rest_same : e.0 ≡ f.0 → (q : K) → fact_at cmp es q ≡ fact_at cmp fs q
        rest_same is q = rest_cases (is_eq (cmp q e.0)) refl
          where
            rest_cases : (b : Bool) → is_eq (cmp q e.0) ≡ b → fact_at cmp es q ≡ fact_at cmp fs q
            rest_cases true t =
                let t' : is_eq (cmp q f.0) ≡ true = subst (λ x. is_eq (cmp q x) ≡ true) is t in
                lookup-none (is_at (cmp q)) es (none_past_head equiv q e es (IsDistinct-from_sorted cmp (keys_of (e ∷ es)) re) t)
                ∙ sym (lookup-none (is_at (cmp q)) fs (none_past_head equiv q f fs (IsDistinct-from_sorted cmp (keys_of (f ∷ fs)) rf) t'))
            rest_cases false t =
                let t' : is_eq (cmp q f.0) ≡ false = subst (λ x. is_eq (cmp q x) ≡ false) is t in
                sym (lookup_tail (is_at (cmp q)) e es t) ∙ h q ∙ lookup_tail (is_at (cmp q)) f fs t'

        entries_cases : (o : Ordering) → cmp e.0 f.0 ≡ o → (((q : K) → fact_at cmp es q ≡ fact_at cmp fs q) → es ≡ fs) → e ∷ es ≡ f ∷ fs
        entries_cases Less is rest = let a = h e.0 in let b = lookup_head (is_at (cmp e.0)) e es (self_key e.0) in let n = lookup-none (is_at (cmp e.0))
            (f ∷ fs) (none_below_head keys.total e.0 f fs rf is) in cc
        entries_cases Equal is rest =
            let k = keys.exact e.0 f.0 is in
            let a = h f.0 in
            let b = lookup_head (is_at (cmp f.0)) f fs (self_key f.0) in
            let c = lookup_head (is_at (cmp f.0)) e es (subst (λ x. is_eq (cmp x e.0) ≡ true) k (self_key e.0)) in
            let r = rest (rest_same k) in
            let v : e.1 ≡ f.1 = cc in
            let p : e ≡ f = (ap (λ x. (x, e.1)) k) ∙ (ap (λ x. (f.0, x)) v) in
            cc
        entries_cases Greater is rest =
            let back : cmp f.0 e.0 ≡ Less = keys.total.antisymm f.0 e.0 ∙ ap ordering_reverse is in
            let a = h f.0 in let b = lookup_head (is_at (cmp f.0)) f fs (self_key f.0) in let n = lookup-none (is_at (cmp f.0)) (e ∷ es)
            (none_below_head keys.total f.0 e es re back) in cc

    -- a state with all keys of another has no smaller sum over its keys
    pub keys_le : (f : K → ℕ) (es ts : List (K × V)) → KeysRise cmp es → KeysRise cmp ts → ((q : K) → IsSome (fact_at cmp es q) → IsSome (fact_at cmp ts q))
        → sum_by (λ e. f e.0) es ≤ sum_by (λ e. f e.0) ts
    keys_le f [] ts re rt h = omega arith
    keys_le f (e ∷ es) [] re rt h = none_or_some {X = V} None refl (h e.0 (some_when _ e.1 (lookup_head (is_at (cmp e.0)) e es (self_key e.0))))
    keys_le f (e ∷ es) (t ∷ ts) re rt h = le_cases (cmp e.0 t.0) refl
        (keys_le f es ts (sorted_tail cmp e.0 (keys_of es) re) (sorted_tail cmp t.0 (keys_of ts) rt))
        (keys_le f (e ∷ es) ts re (sorted_tail cmp t.0 (keys_of ts) rt))
      where
        here : IsSome (fact_at cmp (e ∷ es) e.0)
        here = some_when _ e.1 (lookup_head (is_at (cmp e.0)) e es (self_key e.0))

        in_rest : (q : K) → is_eq (cmp q t.0) ≡ false → IsSome (fact_at cmp (t ∷ ts) q) → IsSome (fact_at cmp ts q)
        in_rest q is s = subst (λ (o : Option V). IsSome o) (lookup_tail (is_at (cmp q)) t ts is) s

        tail_only : e.0 ≡ t.0 → (q : K) → IsSome (fact_at cmp es q) → IsSome (fact_at cmp ts q)
        tail_only is q s = tail_cases (is_eq (cmp q e.0)) refl
          where
            tail_cases : (b : Bool) → is_eq (cmp q e.0) ≡ b → IsSome (fact_at cmp ts q)
            tail_cases true u = none_or_some _
                (lookup-none (is_at (cmp q)) es (none_past_head equiv q e es (IsDistinct-from_sorted cmp (keys_of (e ∷ es)) re) u)) s
            tail_cases false u = in_rest q (subst (λ x. is_eq (cmp q x) ≡ false) is u)
                (h q (subst (λ (o : Option V). IsSome o) (sym (lookup_tail (is_at (cmp q)) e es u)) s))

        later_only : cmp t.0 e.0 ≡ Less → (q : K) → IsSome (fact_at cmp (e ∷ es) q) → IsSome (fact_at cmp ts q)
        later_only below q s = later_cases (is_eq (cmp q t.0)) refl
          where
            later_cases : (b : Bool) → is_eq (cmp q t.0) ≡ b → IsSome (fact_at cmp ts q)
            later_cases true u = none_or_some _
                (lookup-none (is_at (cmp q)) (e ∷ es) (none_below_head keys.total q e es re (subst (λ x. cmp x e.0 ≡ Less) (sym (same_key q t.0 u)) below))) s
            later_cases false u = in_rest q u (h q s)

        le_cases : (o : Ordering) → cmp e.0 t.0 ≡ o
            → (((q : K) → IsSome (fact_at cmp es q) → IsSome (fact_at cmp ts q)) → sum_by (λ x. f x.0) es ≤ sum_by (λ x. f x.0) ts)
            → (((q : K) → IsSome (fact_at cmp (e ∷ es) q) → IsSome (fact_at cmp ts q)) → sum_by (λ x. f x.0) (e ∷ es) ≤ sum_by (λ x. f x.0) ts)
            → sum_by (λ x. f x.0) (e ∷ es) ≤ sum_by (λ x. f x.0) (t ∷ ts)
        le_cases Less is both later = none_or_some _ (lookup-none (is_at (cmp e.0)) (t ∷ ts) (none_below_head keys.total e.0 t ts rt is)) (h e.0 here)
        le_cases Equal is both later =
            let j : f e.0 ≡ f t.0 = ap f (keys.exact e.0 t.0 is) in
            let r = both (tail_only (keys.exact e.0 t.0 is)) in
            omega (arith, j, r, sum_by-cons (λ (x : K × V). f x.0) e es, sum_by-cons (λ (x : K × V). f x.0) t ts)
        le_cases Greater is both later =
            let r = later (later_only (keys.total.antisymm t.0 e.0 ∙ ap ordering_reverse is)) in
            omega (arith, r, sum_by-cons (λ (x : K × V). f x.0) t ts)

    -- the fact at each place
    pub fact_at_place : (es : List (K × V)) → KeysRise cmp es → (i : ℕ) (d : K × V) → i < length es → fact_at cmp es (get_or es i d).0 ≡ Some (get_or es i d).1
    fact_at_place es rise i d within =
        let e = get_or es i d in
        lookup_from_place equiv es i e.0 e.1 (IsDistinct-from_sorted cmp (keys_of es) rise) (slice_get-get_or es i d within)

    -- a sum of nothing at each entry is 0
    pub sum_zero : (f : K × V → ℕ) (es : List (K × V)) → KeysRise cmp es → ((k : K) (v : V) → fact_at cmp es k ≡ Some v → f (k, v) ≡ 0) → sum_by f es ≡ 0
    sum_zero f es rise h =
        let l = sum_by-le f 0 es (λ i d within. let z = h (get_or es i d).0 (get_or es i d).1 (fact_at_place es rise i d within) in omega (arith, z)) in
        omega (arith, l)

    -- a sum of one at each entry is their number
    pub sum_ones : (f : K × V → ℕ) (es : List (K × V)) → KeysRise cmp es → ((k : K) (v : V) → fact_at cmp es k ≡ Some v → f (k, v) ≡ 1)
        → sum_by f es ≡ length es
    sum_ones f [] rise h = refl
    sum_ones f (e ∷ es) rise h =
        let here = h e.0 e.1 (lookup_head (is_at (cmp e.0)) e es (self_key e.0)) in
        let rest = sum_ones f es (sorted_tail cmp e.0 (keys_of es) rise) (λ k v found. h k v (later k v found)) in
        omega (arith, here, rest, sum_by-cons f e es)
      where
        later : (k : K) (v : V) → fact_at cmp es k ≡ Some v → fact_at cmp (e ∷ es) k ≡ Some v
        later k v found = later_cases (is_eq (cmp k e.0)) refl
          where
            later_cases : (b : Bool) → is_eq (cmp k e.0) ≡ b → fact_at cmp (e ∷ es) k ≡ Some v
            later_cases true u = none_or_some _
                (lookup-none (is_at (cmp k)) es (none_past_head equiv k e es (IsDistinct-from_sorted cmp (keys_of (e ∷ es)) rise) u)) (some_when _ v found)
            later_cases false u = lookup_tail (is_at (cmp k)) e es u ∙ found
