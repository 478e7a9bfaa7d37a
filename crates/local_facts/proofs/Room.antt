-- Where facts stand at listed keys alone, some closed state has no more keys than are listed.
use Rattle.std.proofs.Common.{◌≡◌, ℕ, ◌+◌, ◌-◌, ◌<◌, ◌≤◌, Bool, true, false, ◌||◌, cond, List, [], ◌∷◌, length, get_or, Option, Some, None, Ordering}
use Rattle.std.proofs.Common.{IsSome, IsTrue, Contains, sum_by, count_by, refl, sym, ap, ◌∙◌, subst, arith, zero, suc, ⊎_elim}
use Rattle.std.specs.List.{All}
use Rattle.std.specs.Map.{keys_of}
use Rattle.std.specs.BTreeMap.{is_at, insert_entry}
use Rattle.std.specs.Ordering.{is_eq}
use Rattle.std.specs.List.Sorted.{IsStrictlySortedBy}
use Rattle.std.specs.declared.cmp.Ordering.TheVariants.{Less, Equal, Greater}
use Rattle.std.proofs.lemmas.Bool.{cases_lt}
use Rattle.std.proofs.lemmas.Cmp.{tied_itself}
use Rattle.std.proofs.lemmas.List.Elements.{All-nil}
use Rattle.std.proofs.lemmas.List.Sums.{sum_by-cons, count_by-le-length}
use Rattle.std.proofs.lemmas.Map.Entries.{length-keys_of}
use Rattle.std.proofs.lemmas.Map.Keys.{Less-from_sorted}
use Rattle.std.proofs.lemmas.Map.Views.{All-keys-insert_entry}
use Rattle.local_facts.proofs.Pigeons.{pigeonhole}
use Rattle.flow_system.specs.Facts.{fact_at, KeysRise}
use Rattle.flow_system.specs.Laws.{OrdersKeys, IsLawful}
use Rattle.flow_system.specs.Rules.{Rules}
use Rattle.flow_system.specs.State.{AllFit, ContainsPiece, IsClosed}
use Rattle.flow_core.specs.Core.{counted_keys, IsOver}
use Rattle.flow_core.proofs.EntryLemmas.{weight_at, insert_at, insert_rise, sum_insert, same_key}
use Rattle.local_facts.specs.Restricted.{is_listed}

pub sum_ones : {X : Type 0} (xs : List X) → sum_by (λ (x : X). 1) xs ≡ length xs
sum_ones [] = refl
sum_ones {X} (x ∷ xs) = let e = sum_by-cons (λ (y : X). 1) x xs in let f = sum_ones xs in omega (arith, e, f)

module _ {K : Type 0} (cmp : K → K → Ordering) (order : OrdersKeys cmp) where
  -- the place of a key in a list, or the list's length
  abbrev place : List K → K → ℕ
  place [] k = 0
  place (q ∷ qs) k = cond (is_eq (cmp q k)) 0 (suc (place qs k))

  place_within : (qs : List K) (k : K) → is_listed cmp qs k ≡ true → place qs k < length qs
  place_within [] k h = absurd (cc)
  place_within (q ∷ qs) k h = within_cases (place_within qs k) (is_eq (cmp q k)) refl
    where
      within_cases : (is_listed cmp qs k ≡ true → place qs k < length qs) → (b : Bool) → is_eq (cmp q k) ≡ b → cond b 0 (suc (place qs k)) < suc (length qs)
      within_cases later true e = omega arith
      within_cases later false e = let r = later (sym (ap (λ c. c || is_listed cmp qs k) e) ∙ h) in omega (arith, r)

  place_is : (qs : List K) (k d : K) → is_listed cmp qs k ≡ true → get_or qs (place qs k) d ≡ k
  place_is [] k d h = absurd (cc)
  place_is (q ∷ qs) k d h = is_cases (place_is qs k d) (is_eq (cmp q k)) refl
    where
      is_cases : (is_listed cmp qs k ≡ true → get_or qs (place qs k) d ≡ k) → (b : Bool) → is_eq (cmp q k) ≡ b
          → get_or (q ∷ qs) (cond b 0 (suc (place qs k))) d ≡ k
      is_cases later true e = same_key cmp order q k e
      is_cases later false e = later (sym (ap (λ c. c || is_listed cmp qs k) e) ∙ h)

  -- rising keys that are all listed are no more than the list
  pub few_keys : (keep : List K) (d : K) (ks : List K) → IsStrictlySortedBy cmp ks → All (λ k. is_listed cmp keep k ≡ true) ks → length ks ≤ length keep
  few_keys keep d ks rise kept = pigeonhole (length ks) (length keep) at (λ i low. place_within keep (get_or ks i d) (kept i d low)) one
    where
      at : ℕ → ℕ
      at i = place keep (get_or ks i d)

      same : (i j : ℕ) → i < length ks → j < length ks → place keep (get_or ks i d) ≡ place keep (get_or ks j d) → get_or ks i d ≡ get_or ks j d
      same i j a b e = sym (place_is keep (get_or ks i d) d (kept i d a)) ∙ ap (λ n. get_or keep n d) e ∙ place_is keep (get_or ks j d) d (kept j d b)

      apart : (i j : ℕ) → i < j → j < length ks → get_or ks i d ≡ get_or ks j d → ⊥
      apart i j low within e =
          let less : cmp (get_or ks i d) (get_or ks j d) ≡ Less = Less-from_sorted cmp ks i j d rise low within in
          let tied : cmp (get_or ks i d) (get_or ks j d) ≡ Equal = ap (λ x. cmp (get_or ks i d) x) (sym e) ∙ tied_itself order.total (get_or ks i d) in
          let clash : Less ≡ Equal = sym less ∙ tied in
          absurd (cc)

      one : (i j : ℕ) → i < length ks → j < length ks → place keep (get_or ks i d) ≡ place keep (get_or ks j d) → i ≡ j
      one i j a b e =
          ⊎_elim (λ (low : i < j). absurd (apart i j low b (same i j a b e)))
          (λ (high : j ≤ i). ⊎_elim (λ (low : j < i). absurd (apart j i low a (sym (same i j a b e)))) (λ (up : i ≤ j). omega (arith, high, up)) (cases_lt j i))
          (cases_lt i j)

module _ {K V : Type 0} (cmp : K → K → Ordering) (r : Rules K V) (law : IsLawful cmp r) (keep : List K)
    (inside : (k : K) (v : V) → IsTrue (r.fits k v) → is_listed cmp keep k ≡ true) where
  -- entries in the keys' order, which fit and whose keys are listed
  record IsStaged (t : List (K × V)) : Type 0 where
    pub rise : KeysRise cmp t
    pub fit : AllFit r (fact_at cmp t)
    pub kept : All (λ k. is_listed cmp keep k ≡ true) (keys_of t)

  few : (t : List (K × V)) → IsStaged t → length t ≤ length keep
  few [] staged = omega arith
  few (e ∷ es) staged = let n = few_keys cmp law.keys keep e.0 (keys_of (e ∷ es)) staged.rise staged.kept in let l =
      length-keys_of (e ∷ es) in omega (arith, n, l)

  -- how far the facts' ranks are below the limit
  abbrev headroom : List (K × V) → ℕ
  headroom t = sum_by (λ (e : K × V). r.top - r.rank e.1) t

  staged_put : (t : List (K × V)) (k : K) (w : V) → IsStaged t → IsTrue (r.fits k w) → IsStaged (insert_entry cmp t k w)
  staged_put t k w staged fw = record {
    rise = insert_rise cmp law.keys t k w staged.rise;
    fit = λ q v found. fit_cases q v (is_eq (cmp k q)) refl (sym (insert_at cmp law.keys t k w q) ∙ found);
    kept = All-keys-insert_entry cmp k w (λ q. is_listed cmp keep q ≡ true) t staged.kept (inside k w fw);
  }
    where
      fit_cases : (q : K) (v : V) (b : Bool) → is_eq (cmp k q) ≡ b → cond b (Some w) (fact_at cmp t q) ≡ Some v → IsTrue (r.fits q v)
      fit_cases q v true e found =
          let is : w ≡ v = cc in
          subst (λ x. IsTrue (r.fits x v)) (same_key cmp law.keys k q e) (subst (λ x. IsTrue (r.fits k x)) is fw)
      fit_cases q v false e found = staged.fit q v found

  -- a new key makes the entries one more
  more_new : (t : List (K × V)) (k : K) (v : V) → IsStaged t → fact_at cmp t k ≡ None → length (insert_entry cmp t k v) ≡ length t + 1
  more_new t k v staged none =
      let s = sum_insert cmp law.keys (λ (e : K × V). 1) t k v staged.rise in
      let w : weight_at (λ (e : K × V). 1) k (fact_at cmp t k) ≡ 0 = ap (weight_at (λ (e : K × V). 1) k) none in
      let a = sum_ones (insert_entry cmp t k v) in
      let b = sum_ones t in
      omega (arith, s, w, a, b)

  -- a raised fact leaves the number of entries, and takes headroom
  same_raised : (t : List (K × V)) (k : K) (v w : V) → IsStaged t → fact_at cmp t k ≡ Some w → length (insert_entry cmp t k v) ≡ length t
  same_raised t k v w staged found =
      let s = sum_insert cmp law.keys (λ (e : K × V). 1) t k v staged.rise in
      let x : weight_at (λ (e : K × V). 1) k (fact_at cmp t k) ≡ 1 = ap (weight_at (λ (e : K × V). 1) k) found in
      let a = sum_ones (insert_entry cmp t k v) in
      let b = sum_ones t in
      omega (arith, s, x, a, b)

  rank_rises : (k : K) (v w : V) → IsTrue (r.fits k v) → IsTrue (r.fits k w) → r.at_most v w ≡ false → r.rank w < r.rank (r.join w v)
  rank_rises k v w fv fw not_below = law.limits.rises k w (r.join w v) fw (law.fit.join k w v fw fv) (law.least.first k w v fw fv)
      (back_cases (r.at_most (r.join w v) w) refl)
    where
      back_cases : (b : Bool) → r.at_most (r.join w v) w ≡ b → r.at_most (r.join w v) w ≡ false
      back_cases true e =
          let up : r.at_most v w ≡ true = law.order.onward k v (r.join w v) w fv (law.fit.join k w v fw fv) fw (law.least.second k w v fw fv) e in
          absurd (cc)
      back_cases false e = e

  less_raised : (t : List (K × V)) (k : K) (v w : V) → IsStaged t → IsTrue (r.fits k v) → fact_at cmp t k ≡ Some w → r.at_most v w ≡ false
      → headroom (insert_entry cmp t k (r.join w v)) < headroom t
  less_raised t k v w staged fv found not_below =
      let fw = staged.fit k w found in
      let s = sum_insert cmp law.keys (λ (e : K × V). r.top - r.rank e.1) t k (r.join w v) staged.rise in
      let x : weight_at (λ (e : K × V). r.top - r.rank e.1) k (fact_at cmp t k) ≡ r.top - r.rank w =
      ap (weight_at (λ (e : K × V). r.top - r.rank e.1) k) found in
      let up = rank_rises k v w fv fw not_below in
      let top = law.limits.limit k (r.join w v) (law.fit.join k w v fw fv) in
      omega (arith, s, x, up, top)

  module _ (limit : ℕ) (over : IsOver cmp r limit) (room : length keep ≤ limit) where
    -- entries that no piece could raise are closed, and within the limit
    over_none : (t : List (K × V)) → IsStaged t → ((k : K) (v : V) → IsTrue (r.fits k v) → fact_at cmp t k ≡ None → ⊥)
        → ((k : K) (v w : V) → IsTrue (r.fits k v) → fact_at cmp t k ≡ Some w → r.at_most v w ≡ false → ⊥) → ⊥
    over_none t staged grown raised =
        let passes : limit < counted_keys r t = over t staged.rise closed in
        let n = few t staged in
        let c = count_by-le-length (λ (e : K × V). r.counted e.0) t in
        absurd (omega (arith, passes, n, c, room))
      where
        contains : (k : K) (v : V) → IsTrue (r.fits k v) → (o : Option V) → fact_at cmp t k ≡ o → ContainsPiece r (fact_at cmp t) k v
        contains k v fv None e = absurd (grown k v fv e)
        contains k v fv (Some w) e = above_cases (r.at_most v w) refl
          where
            above_cases : (b : Bool) → r.at_most v w ≡ b → ContainsPiece r (fact_at cmp t) k v
            above_cases true a = record { fact = w; found = e; above = a }
            above_cases false a = absurd (raised k v w fv e a)

        closed : IsClosed r (fact_at cmp t)
        closed = record {
          fit = staged.fit;
          starts = λ k v listed. contains k v (law.fit.starts k v listed) (fact_at cmp t k) refl;
          given = λ j has k v listed. contains k v (law.fit.gives j (fact_at cmp t) staged.fit k v listed) (fact_at cmp t k) refl;
        }

    -- no entries are within so many of the listed keys
    abbrev NoneWithin : ℕ → Type 0
    NoneWithin n = (t : List (K × V)) → IsStaged t → length keep < length t + n → ⊥

    none_raised : (n : ℕ) → NoneWithin n → (m : ℕ) (t : List (K × V)) → IsStaged t → length keep < length t + suc n → headroom t < m → ⊥
    none_raised n later zero t staged short low = absurd (omega (arith, low))
    none_raised n later (suc m) t staged short low = over_none t staged
        (λ k v fv none. let e = more_new t k v staged none in later (insert_entry cmp t k v) (staged_put t k v staged fv) (omega (arith, e, short)))
        (λ k v w fv found not_below.
        let e = same_raised t k (r.join w v) w staged found in
        let h = less_raised t k v w staged fv found not_below in
        none_raised n later m (insert_entry cmp t k (r.join w v)) (staged_put t k (r.join w v) staged (law.fit.join k w v (staged.fit k w found) fv))
        (omega (arith, e, short)) (omega (arith, h, low)))

    none_within : (n : ℕ) → NoneWithin n
    none_within zero t staged short = let f = few t staged in absurd (omega (arith, f, short))
    none_within (suc n) t staged short = none_raised n (none_within n) (suc (headroom t)) t staged short (omega arith)

    -- so it isn't so that every closed state passes a limit that covers the listed keys
    pub never_over : ⊥
    unfolding IsStrictlySortedBy
    never_over = none_within (suc (length keep)) []
        (record { rise = tt; fit = λ k v found. absurd (cc); kept = All-nil (λ k. is_listed cmp keep k ≡ true) }) (omega arith)
