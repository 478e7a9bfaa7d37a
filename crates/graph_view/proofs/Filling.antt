-- What a table of needs comes to when no entry can be filled any more.
use Rattle.std.proofs.Common.{◌≡◌, ℕ, suc, ◌+◌, ◌<◌, ◌≤◌, ◌^◌, ◌⊎◌, inl, inr, Bool, true, false, cond, ◌||◌, ◌==◌, max, List, [], ◌∷◌, length, get_or, set, map, replicate, Option, Some, None, refl, sym, ap, ◌∙◌, subst, arith}
use Rattle.std.proofs.lemmas.Bool.{false≢true}
use Rattle.std.proofs.lemmas.Bool.Decides.{eqb_tells, nat_tests}
use Rattle.std.proofs.lemmas.List.{length-replicate, length-set, get_or-set_same, get_or-set_other}
use Rattle.std.specs.List.{filter}
use Rattle.bt_base.specs.Graph.{has}
use Rattle.abs_state.specs.declared.key.Place.{Place}
use Rattle.call_laws.specs.Calls.{ReachesCycle}
use Rattle.call_laws.specs.Result.{result}
use Rattle.call_laws.proofs.Results.{some_or_cycle}
use Rattle.graph_view.proofs.Known.{entry_at, entry_found, filled_room, filled_set, none_known}
use Rattle.graph_view.proofs.Stands.{Has, has_from, has_to}
use Rattle.graph_view.specs.Need.{callee_of, calls_of, deepest, deepest_call, need_rule, HasNeed, IsNeed, entry_of, with_most, with_call, call_need, known_need, filled, AreCounted, IsRight, IsStuck, AreNeeds}
use Rattle.graph_view.specs.Subs.{of_one, place_sub, calling_sub}
use Rattle.graph_view.specs.declared.lists.Calling.{Calling}

abbrev pub value_of : Option ℕ → ℕ
value_of None = 0
value_of (Some n) = n

some_is : (a b : ℕ) → Some a ≡ Some b → a ≡ b
some_is a b e = ap value_of e

not_none : (n : ℕ) → None ≡ Some n → ⊥
not_none n e = cc

-- what is found from known numbers

record IsMost (most : ℕ) (o : Option ℕ) (v : ℕ) : Type 0 where
  pub rest : ℕ
  pub known : o ≡ Some rest
  pub is : v ≡ max most rest

most_is : (most : ℕ) (o : Option ℕ) (v : ℕ) → with_most most o ≡ Some v → IsMost most o v
most_is most None v e = absurd (not_none v e)
most_is most (Some n) v e = record { rest = n; known = refl; is = sym (some_is (max most n) v e) }

record IsCall (depth : ℕ) (callee rest : Option ℕ) (v : ℕ) : Type 0 where
  pub need : ℕ
  pub known : callee ≡ Some need
  pub most : IsMost (depth + need) rest v

call_is : (depth : ℕ) (callee rest : Option ℕ) (v : ℕ) → with_call depth callee rest ≡ Some v → IsCall depth callee rest v
call_is depth None rest v e = absurd (not_none v e)
call_is depth (Some n) rest v e = record { need = n; known = refl; most = most_is (depth + n) rest v e }

pub or_two : (a b : Bool) → (a || b) ≡ true → (a ≡ true) ⊎ (b ≡ true)
or_two true b e = inl refl
or_two false b e = inr e

pub test_is : (m n : ℕ) → (m == n) ≡ true → m ≡ n
test_is m n e = grind (arith, nat_tests)

pub is_test : (m n : ℕ) → m ≡ n → (m == n) ≡ true
is_test m n e = grind (arith, nat_tests)

module _ (known : ℕ → Option ℕ) where
  abbrev value : ℕ → ℕ
  value m = value_of (known m)

  -- each callee is known
  calls_known : (cs : List Calling) (v : ℕ) → call_need known cs ≡ Some v → (m : ℕ) → has (map callee_of cs) m ≡ true → known m ≡ Some (value m)
  calls_known [] v e m h = absurd (false≢true h)
  calls_known (c ∷ cs) v e m h =
      let call : IsCall c.from.depth (known c.callee) (call_need known cs) v = call_is c.from.depth (known c.callee) (call_need known cs) v e in
      elim (or_two (m == c.callee) (has (map callee_of cs) m) h) [
        | inl here ↦
            let at : known m ≡ Some call.need = ap known (test_is m c.callee here) ∙ call.known in
            at ∙ ap Some (sym (ap value_of at))
        | inr there ↦ calls_known cs call.most.rest call.most.known m there
      ]

  -- and what is found is what the values give
  call_value : (cs : List Calling) (v : ℕ) → call_need known cs ≡ Some v → v ≡ deepest_call value cs
  call_value [] v e = sym (some_is 0 v e)
  call_value (c ∷ cs) v e =
      let call : IsCall c.from.depth (known c.callee) (call_need known cs) v = call_is c.from.depth (known c.callee) (call_need known cs) v e in
      let need : call.need ≡ value c.callee = sym (ap value_of call.known) in
      let rest : call.most.rest ≡ deepest_call value cs = call_value cs call.most.rest call.most.known in
      call.most.is ∙ (λ i. max (c.from.depth + need i) (rest i))

  -- no more than one more than all that is known
  call_small : (cs : List Calling) (v room : ℕ) → call_need known cs ≡ Some v → ((m n : ℕ) → known m ≡ Some n → n ≤ room) → ((c : Calling) → Has cs c → c.from.depth ≤ 1)
      → v ≤ 1 + room
  call_small [] v room e small shallow = let zero_is : 0 ≡ v = some_is 0 v e in omega (arith, zero_is)
  call_small (c ∷ cs) v room e small shallow =
      let call : IsCall c.from.depth (known c.callee) (call_need known cs) v = call_is c.from.depth (known c.callee) (call_need known cs) v e in
      let one : call.need ≤ room = small c.callee call.need call.known in
      let rest : call.most.rest ≤ 1 + room = call_small cs call.most.rest room call.most.known small (λ x h. shallow x (inr h)) in
      let depth : c.from.depth ≤ 1 = shallow c (inl refl) in
      let is : v ≡ max (c.from.depth + call.need) call.most.rest = call.most.is in
      omega (arith, one, rest, depth, is)

  -- where nothing is found some callee isn't known
  record Unknown (cs : List Calling) : Type 0 where
    pub callee : ℕ
    pub among : has (map callee_of cs) callee ≡ true
    pub is : known callee ≡ None

  or_first : (a b : Bool) → a ≡ true → (a || b) ≡ true
  or_first a b e = ap (λ x. x || b) e

  or_last : (a b : Bool) → b ≡ true → (a || b) ≡ true
  or_last true b e = refl
  or_last false b e = e

  none_after : (most : ℕ) (o : Option ℕ) → with_most most o ≡ None → o ≡ None
  none_after most None e = refl
  none_after most (Some n) e = absurd (not_none (max most n) (sym e))

  by_callee : (c : Calling) (cs : List Calling) (o : Option ℕ) → (call_need known cs ≡ None → Unknown cs) → known c.callee ≡ o
      → with_call c.from.depth o (call_need known cs) ≡ None → Unknown (c ∷ cs)
  by_callee c cs None rest is e = record { callee = c.callee; among = or_first (c.callee == c.callee) (has (map callee_of cs) c.callee) (is_test c.callee c.callee refl); is = is }
  by_callee c cs (Some n) rest is e =
      let later : Unknown cs = rest (none_after (c.from.depth + n) (call_need known cs) e) in
      record { callee = later.callee; among = or_last (later.callee == c.callee) (has (map callee_of cs) later.callee) later.among; is = later.is }

  calls_unknown : (cs : List Calling) → call_need known cs ≡ None → Unknown cs
  calls_unknown [] e = absurd (not_none 0 (sym e))
  calls_unknown (c ∷ cs) e = by_callee c cs (known c.callee) (calls_unknown cs) refl e

-- those of a list that pass a test are of the list
filter_by : {X : Type 0} (p : X → Bool) (y : X) (ys : List X) (x : X) (b : Bool) → (Has (filter p ys) x → Has ys x)
    → Has (cond b (y ∷ filter p ys) (filter p ys)) x → Has (y ∷ ys) x
filter_by p y ys x true rest (inl e) = inl e
filter_by p y ys x true rest (inr h) = inr (rest h)
filter_by p y ys x false rest h = inr (rest h)

pub filter_from : {X : Type 0} (p : X → Bool) (xs : List X) (x : X) → Has (filter p xs) x → Has xs x
filter_from p [] x h = h
filter_from p (y ∷ ys) x h = filter_by p y ys x (p y) (filter_from p ys x) h

deepest_small : (places : List Place) → ((p : Place) → Has places p → p.depth ≤ 1) → deepest places ≤ 1
deepest_small [] shallow = omega arith
deepest_small (p ∷ places) shallow =
    let one : p.depth ≤ 1 = shallow p (inl refl) in
    let rest : deepest places ≤ 1 = deepest_small places (λ q h. shallow q (inr h)) in
    omega (arith, one, rest)

-- all callees are below some number
abbrev most_callee : List Calling → ℕ
most_callee [] = 0
most_callee (c ∷ cs) = suc c.callee + most_callee cs

callee_by : (p : Calling → Bool) (c : Calling) (cs : List Calling) (m : ℕ) (b : Bool) → (has (map callee_of (filter p cs)) m ≡ true → m < most_callee cs)
    → has (map callee_of (cond b (c ∷ filter p cs) (filter p cs))) m ≡ true → m < suc c.callee + most_callee cs
callee_by p c cs m true rest h = elim (or_two (m == c.callee) (has (map callee_of (filter p cs)) m) h) [
  | inl here ↦ let e : m ≡ c.callee = test_is m c.callee here in omega (arith, e)
  | inr there ↦ let l : m < most_callee cs = rest there in omega (arith, l)
]
callee_by p c cs m false rest h = let l : m < most_callee cs = rest h in omega (arith, l)

callee_below : (p : Calling → Bool) (cs : List Calling) (m : ℕ) → has (map callee_of (filter p cs)) m ≡ true → m < most_callee cs
callee_below p [] m h = absurd (false≢true h)
callee_below p (c ∷ cs) m h = callee_by p c cs m (p c) (callee_below p cs m) h

-- a list without members is empty
none_of : {X : Type 0} (p : X → Bool) (xs : List X) → ((x : X) → Has xs x → p x ≡ false) → filter p xs ≡ []
none_of p [] never = refl
none_of p (x ∷ xs) never = ap (λ b. cond b (x ∷ filter p xs) (filter p xs)) (never x (inl refl)) ∙ none_of p xs (λ y h. never y (inr h))

not_test : (m n : ℕ) → (m ≡ n → ⊥) → (m == n) ≡ false
not_test m n other = elim (eqb_tells m n) [ inl is ↦ absurd (other is.1) | inr is ↦ is.0 ]

module _ (places : List Place) (callings : List Calling) (subs : List ℕ) (counted : AreCounted places callings subs) where
  abbrev calls : ℕ → ℕ → Bool
  calls = calls_of callings

  -- one that isn't listed needs none
  no_places : (q : ℕ) → (Has subs q → ⊥) → of_one place_sub q places ≡ []
  no_places q none = none_of (λ p. place_sub p == q) places (λ p h. not_test (place_sub p) q (λ e. none (subst (Has subs) e (has_from subs p.sub (counted.listed p (has_to places p h))))))

  no_calls : (q : ℕ) → (Has subs q → ⊥) → of_one calling_sub q callings ≡ []
  no_calls q none = none_of (λ c. calling_sub c == q) callings (λ c h. not_test (calling_sub c) q (λ e. none (subst (Has subs) e (has_from subs c.from.sub (counted.listed_calls c (has_to callings c h))))))

  pub other_need : (q : ℕ) → (Has subs q → ⊥) → HasNeed places callings q 0
  other_need q none =
      result (λ m. 0)
      (sym (λ i. max (deepest (no_places q none i)) (deepest_call (λ m. 0) (no_calls q none i))))
      (λ m h. absurd (false≢true (sym (ap (λ l. has (map callee_of l) m) (no_calls q none)) ∙ h)))

  module _ (table : List (Option ℕ)) (right : IsRight places callings subs table) where
    abbrev known : ℕ → Option ℕ
    known = entry_of subs table

    -- what the table has is right, and small
    entry_right : (m v : ℕ) → known m ≡ Some v → HasNeed places callings m v
    entry_right m v e = elim (entry_found subs table m (Some v) right.count e) [
      | inl spot ↦ subst (λ q. HasNeed places callings q v) spot.is (right.right spot.number v spot.within spot.entry_is)
      | inr other ↦ subst (HasNeed places callings m) (sym (some_is v 0 other.1)) (other_need m other.0)
    ]

    pub entry_small : (m v : ℕ) → known m ≡ Some v → v ≤ filled table
    entry_small m v e = elim (entry_found subs table m (Some v) right.count e) [
      | inl spot ↦ right.small spot.number v spot.within spot.entry_is
      | inr other ↦ let z : v ≡ 0 = some_is v 0 other.1 in omega (arith, z)
    ]

    -- there is room while an entry isn't known
    pub entry_room : (k : ℕ) → k < length subs → get_or table k None ≡ None → (m v : ℕ) → known m ≡ Some v → v + 1 < 2 ^ 32
    entry_room k less none m v e =
        let count : length table ≡ length subs = right.count in
        let small : v ≤ filled table = entry_small m v e in
        let room : filled table < length table = filled_room table k (omega (arith, count, less)) none in
        let most : length subs < 2 ^ 32 = counted.counted in
        omega (arith, count, small, room, most)

    -- what is found is right
    found_right : (q v : ℕ) → known_need places callings known q ≡ Some v → HasNeed places callings q v
    found_right q v e =
        let most : IsMost (deepest (of_one place_sub q places)) (call_need known (of_one calling_sub q callings)) v =
        most_is (deepest (of_one place_sub q places)) (call_need known (of_one calling_sub q callings)) v e in
        result (value known)
        (most.is ∙ ap (max (deepest (of_one place_sub q places))) (call_value known (of_one calling_sub q callings) most.rest most.known))
        (λ m h. entry_right m (value known m) (calls_known known (of_one calling_sub q callings) most.rest most.known m h))

    found_small : (q v : ℕ) → known_need places callings known q ≡ Some v → v ≤ 1 + filled table
    found_small q v e =
        let most : IsMost (deepest (of_one place_sub q places)) (call_need known (of_one calling_sub q callings)) v =
        most_is (deepest (of_one place_sub q places)) (call_need known (of_one calling_sub q callings)) v e in
        let own : deepest (of_one place_sub q places) ≤ 1 =
        deepest_small (of_one place_sub q places) (λ p h. counted.shallow p (has_to places p (filter_from (λ x. place_sub x == q) places p h))) in
        let called : most.rest ≤ 1 + filled table =
        call_small known (of_one calling_sub q callings) most.rest (filled table) most.known entry_small
        (λ c h. counted.shallow_calls c (has_to callings c (filter_from (λ x. calling_sub x == q) callings c h))) in
        let is : v ≡ max (deepest (of_one place_sub q places)) most.rest = most.is in
        omega (arith, own, called, is)

    -- a filled entry keeps the table right
    pub fill_right : (k v : ℕ) → k < length subs → get_or table k None ≡ None → known_need places callings known (get_or subs k 0) ≡ Some v
        → IsRight places callings subs (set table k (Some v))
    fill_right k v less none found =
        let count : length table ≡ length subs = right.count in
        let within : k < length table = omega (arith, count, less) in
        let more : filled (set table k (Some v)) ≡ 1 + filled table = filled_set table k v within none in
        record {
          count = length-set table k (Some v) ∙ count;
          right = λ j n low e. elim (eqb_tells j k) [
            | inl is ↦
                let same : v ≡ n = some_is v n (sym (get_or-set_same table k (Some v) None within) ∙ subst (λ x. get_or (set table k (Some v)) x None ≡ Some n) is.1 e) in
                subst (λ x. HasNeed places callings (get_or subs x 0) n) (sym is.1) (subst (HasNeed places callings (get_or subs k 0)) same (found_right (get_or subs k 0) v found))
            | inr other ↦ right.right j n low (sym (get_or-set_other table k j (Some v) None other.1) ∙ e)
          ];
          small = λ j n low e. elim (eqb_tells j k) [
            | inl is ↦
                let same : v ≡ n = some_is v n (sym (get_or-set_same table k (Some v) None within) ∙ subst (λ x. get_or (set table k (Some v)) x None ≡ Some n) is.1 e) in
                let bound : v ≤ 1 + filled table = found_small (get_or subs k 0) v found in
                omega (arith, same, bound, more)
            | inr other ↦
                let bound : n ≤ filled table = right.small j n low (sym (get_or-set_other table k j (Some v) None other.1) ∙ e) in
                omega (arith, bound, more)
          ];
        }

    -- where no entry can be filled, what has a need is known
    module _ (stuck : (k : ℕ) → k < length subs → IsStuck places callings subs table k) where
      unknown_calls : (q : ℕ) → known q ≡ None → Unknown known (of_one calling_sub q callings)
      unknown_calls q e = elim (entry_found subs table q None right.count e) [
        | inl spot ↦
            calls_unknown known (of_one calling_sub q callings)
            (none_after known (deepest (of_one place_sub q places)) (call_need known (of_one calling_sub q callings))
            (subst (λ x. known_need places callings known x ≡ None) spot.is (stuck spot.number spot.within spot.entry_is)))
        | inr other ↦ absurd (not_none 0 other.1)
      ]

      known_all : (q v : ℕ) → HasNeed places callings q v → known q ≡ None → ⊥
      known_all q v (result values is below) e =
          let next : Unknown known (of_one calling_sub q callings) = unknown_calls q e in
          known_all next.callee (values next.callee) (below next.callee next.among) next.is

      none_cycle : (q : ℕ) → known q ≡ None → ReachesCycle calls q
      none_cycle q e = elim (some_or_cycle 0 calls (need_rule places callings) (most_callee callings)
          (λ n m h. callee_below (λ x. calling_sub x == n) callings m h) q) [
            | inl some ↦ absurd (known_all q some.value some.is e)
            | inr cycle ↦ cycle
          ]

      -- the table has what each needs
      pub all_needs : AreNeeds places callings subs table
      all_needs = record { count = right.count; each = λ k less. by_entry k less (get_or table k None) refl }
        where
          by_entry : (k : ℕ) → k < length subs → (o : Option ℕ) → get_or table k None ≡ o → IsNeed places callings (get_or subs k 0) (get_or table k None)
          by_entry k less (Some v) e = subst (IsNeed places callings (get_or subs k 0)) (sym e) (right.right k v less e)
          by_entry k less None e =
              subst (IsNeed places callings (get_or subs k 0)) (sym e)
              (none_cycle (get_or subs k 0) (entry_at subs table k counted.rising right.count less ∙ e))

  -- a table without entries is right
  pub none_right : (n : ℕ) → n ≡ length subs → IsRight places callings subs (replicate n None)
  none_right n count = record {
    count = length-replicate n None ∙ count;
    right = λ k v less e. absurd (not_none v (sym (none_known n k) ∙ e));
    small = λ k v less e. absurd (not_none v (sym (none_known n k) ∙ e));
  }
