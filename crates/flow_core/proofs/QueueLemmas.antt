-- The marks and the heap of the pending keys, over plain lists.
use Rattle.std.proofs.Common.{◌≡◌, ℕ, ◌+◌, ◌<◌, ◌≤◌, Bool, true, false, cond, List, [], ◌∷◌, length, get_or, Option, Result, Ok, Err, OnErr, IsOk, Some}
use Rattle.std.proofs.Common.{None, Ordering, IsSome, is_some, sum_by, unwrap_or, refl, sym, ap, ◌∙◌, subst, arith, rules, All, inl, inr, ◌⊎◌}
use Rattle.std.proofs.lemmas.Grind.{common_steps}
use Rattle.std.proofs.lemmas.Cmp.{eq_by_cmp_equiv, alike_right}
use Rattle.std.proofs.lemmas.Map.Steps.{set_value_same}
use Rattle.std.proofs.lemmas.Map.Keys.{sorted_tail}
use Rattle.std.proofs.lemmas.Map.{lookup-none, lookup-set_value, keys-set_value, length-set_value}
use Rattle.std.proofs.lemmas.Map.Entries.{lookup_head, lookup_tail, none_below_head, sum_by-set_value, sum_by-insert_entry, length-values_of}
use Rattle.std.proofs.lemmas.List.Sorted.{sum_by_pushed, sum_by_popped}
use Rattle.std.proofs.lemmas.List.Sums.{get_or-le-sum_by, sum_by-cons, sum_by-le}
use Rattle.std.specs.Cmp.{IsTotalOrder, IsEquivalence}
use Rattle.std.specs.Option.{option_map}
use Rattle.std.specs.Ordering.{match_ordering, is_eq, is_gt, is_lt, eq_by_cmp, ordering_reverse}
use Rattle.std.specs.Map.{lookup, set_value, values_of, keys_of}
use Rattle.std.specs.BTreeMap.{is_at, insert_entry}
use Rattle.std.specs.BinaryHeap.{heap_items, heap_len, heap_capacity, IsHeap, IsUpperBound, KeepsHeap, PopsGreatest}
use Rattle.std.specs.List.{AllByRecursion}
use Rattle.std.specs.List.Sorted.{IsPermutation, IsStrictlySortedBy}
use Rattle.std.specs.declared.collections.binary_heap.BinaryHeap.{BinaryHeap}
use Rattle.std.specs.declared.cmp.Ordering.TheVariants.{Less, Equal, Greater}
use Rattle.std.specs.declared.cmp.Reverse.{Reverse}
use Rattle.std.specs.declared.alloc.Global.{Global}
use Rattle.flow_system.specs.Facts.{fact_at, KeysRise}
use Rattle.flow_core.specs.Queue.{tally, tally_at, IsMarked, HasRoom, with_mark, IsLeast, downward, occurrences, IsQueue, KeepsRoom}

-- an order that tests as equal is equal
pub equal_from_is_eq : (o : Ordering) → is_eq o ≡ true → o ≡ Equal
equal_from_is_eq Less h = cc
equal_from_is_eq Equal h = refl
equal_from_is_eq Greater h = cc

not_gt_from_not_lt : (o p : Ordering) → o ≡ ordering_reverse p → is_lt p ≡ false → is_gt o ≡ false
not_gt_from_not_lt o Less e h = cc
not_gt_from_not_lt o Equal e h = ap is_gt e
not_gt_from_not_lt o Greater e h = ap is_gt e

marked_from_tally : (o : Option Bool) → 0 < tally_at o → o ≡ Some true
marked_from_tally None h = absurd (omega arith)
marked_from_tally (Some true) h = refl
marked_from_tally (Some false) h = absurd (omega arith)

tally-le : (b : Bool) → tally b ≤ 1
tally-le true = omega arith
tally-le false = omega arith

lookup_alike : {K X : Type 0} (f g : K → Bool) → ((x : K) → f x ≡ g x) → (es : List (K × X)) → lookup f es ≡ lookup g es
lookup_alike f g h [] = refl
lookup_alike f g h (e ∷ es) = rw (h e.0, lookup_alike f g h es) refl

module _ {K : Type 0} (cmp : K → K → Ordering) (total : IsTotalOrder cmp) where
  equiv : IsEquivalence (eq_by_cmp cmp)
  equiv = eq_by_cmp_equiv total

  -- what lies at keys that the order doesn't tell apart
  pub alike : {X : Type 0} (es : List (K × X)) (k q : K) → is_eq (cmp k q) ≡ true → fact_at cmp es q ≡ fact_at cmp es k
  alike es k q h = lookup_alike (is_at (cmp q)) (is_at (cmp k)) (λ x. sym (equiv.congr k q x h)) es

  -- a key compares as equal to itself
  pub at_itself : (k : K) → is_eq (cmp k k) ≡ true
  at_itself k = equiv.refl k

  pub flipped : (q k : K) → is_eq (cmp q k) ≡ is_eq (cmp k q)
  flipped q k = equiv.symm q k

  -- a value written at a key that is there
  pub at_set : {X : Type 0} (es : List (K × X)) (k : K) (w : X) → IsSome (fact_at cmp es k) → (q : K)
      → fact_at cmp (set_value (is_at (cmp k)) es w) q ≡ cond (is_eq (cmp k q)) (Some w) (fact_at cmp es q)
  at_set es k w h q = lookup-set_value equiv (is_at (cmp k)) (λ x y t. equiv.congr k x y t) q w es h

  -- a key is marked
  each_marked : (marks : List (K × Bool)) (k : K) → fact_at cmp marks k ≡ Some false → (q : K)
      → tally_at (fact_at cmp (with_mark cmp marks k true) q) ≡ tally (is_eq (cmp q k)) + tally_at (fact_at cmp marks q)
  each_marked marks k h q =
      let s : IsSome (fact_at cmp marks k) = subst (λ (o : Option Bool). IsSome o) (sym h) refl in
      rw (at_set marks k true s q, flipped q k)
      (marked_cases (is_eq (cmp k q)) refl)
    where
      marked_cases : (b : Bool) → is_eq (cmp k q) ≡ b → tally_at (cond b (Some true) (fact_at cmp marks q)) ≡ tally b + tally_at (fact_at cmp marks q)
      marked_cases true e = let e' : fact_at cmp marks q ≡ Some false = alike marks k q e ∙ h in rw e' refl
      marked_cases false e = omega arith

  -- a mark is taken away
  each_cleared : (marks : List (K × Bool)) (k : K) → fact_at cmp marks k ≡ Some true → (q : K)
      → tally_at (fact_at cmp (with_mark cmp marks k false) q) + tally (is_eq (cmp q k)) ≡ tally_at (fact_at cmp marks q)
  each_cleared marks k h q =
      let s : IsSome (fact_at cmp marks k) = subst (λ (o : Option Bool). IsSome o) (sym h) refl in
      rw (at_set marks k false s q, flipped q k)
      (cleared_cases (is_eq (cmp k q)) refl)
    where
      cleared_cases : (b : Bool) → is_eq (cmp k q) ≡ b → tally_at (cond b (Some false) (fact_at cmp marks q)) + tally b ≡ tally_at (fact_at cmp marks q)
      cleared_cases true e = let e' : fact_at cmp marks q ≡ Some true = alike marks k q e ∙ h in rw e' refl
      cleared_cases false e = omega arith

  -- a value that is changed keeps the keys rising
  pub rise_marked : {X : Type 0} (es : List (K × X)) (k : K) (w : X) → KeysRise cmp es → KeysRise cmp (set_value (is_at (cmp k)) es w)
  rise_marked es k w h = subst (λ (ks : List K). IsStrictlySortedBy cmp ks) (sym (keys-set_value (is_at (cmp k)) es w)) h

  -- a queue with one key more is that of the marks with that key
  pub marked_queue : (marks : List (K × Bool)) (heap heap' : BinaryHeap (Reverse K) Global) (k : K) (top : Reverse K) → top.0 ≡ k → IsQueue cmp marks heap
      → fact_at cmp marks k ≡ Some false → IsPermutation (top ∷ heap_items heap) (heap_items heap')
      → KeepsHeap (downward cmp) (heap_items heap) (heap_items heap') → heap_len heap' ≡ heap_len heap + 1 → heap_capacity heap ≤ heap_capacity heap'
      → IsQueue cmp (with_mark cmp marks k true) heap'
  marked_queue marks heap heap' k top is q h perm keeps len cap = record {
    rise = rise_marked marks k true q.rise;
    order = keeps q.order;
    each = λ x. let p = sum_by_pushed (λ (y : Reverse K). tally (is_eq (cmp x y.0))) top (heap_items heap) (heap_items heap') perm in let r : is_eq
        (cmp x top.0) ≡ is_eq (cmp x k) = ap (λ y. is_eq (cmp x y)) is in let e = q.each x in p ∙ ap (λ b. tally b + occurrences cmp x (heap_items heap)) r
        ∙ ap (λ n. tally (is_eq (cmp x k)) + n) e ∙ sym (each_marked marks k h x);
    total = let e = sum_by-set_value tally (is_at (cmp k)) marks false true h in omega (arith, q.total, len, e);
    room = let e = length-set_value (is_at (cmp k)) marks true in omega (arith, q.room, cap, e);
  }

  -- what the top of the heap is
  pub top_is_marked : (marks : List (K × Bool)) (heap heap' : BinaryHeap (Reverse K) Global) (top : Reverse K) → IsQueue cmp marks heap
      → IsPermutation (heap_items heap) (top ∷ heap_items heap') → fact_at cmp marks top.0 ≡ Some true
  top_is_marked marks heap heap' top q perm =
      let p = sum_by_popped (λ (y : Reverse K). tally (is_eq (cmp top.0 y.0))) top (heap_items heap) (heap_items heap') perm in
      let i : tally (is_eq (cmp top.0 top.0)) ≡ 1 = ap tally (at_itself top.0) in
      marked_from_tally (fact_at cmp marks top.0) (omega (arith, q.each top.0, p, i))

  -- a queue without its top is that of the marks without it
  pub popped_queue : (marks : List (K × Bool)) (heap heap' : BinaryHeap (Reverse K) Global) (top : Reverse K) → IsQueue cmp marks heap
      → IsPermutation (heap_items heap) (top ∷ heap_items heap') → IsHeap (downward cmp) (heap_items heap') → heap_len heap' + 1 ≡ heap_len heap
      → heap_capacity heap' ≡ heap_capacity heap → IsQueue cmp (with_mark cmp marks top.0 false) heap'
  popped_queue marks heap heap' top q perm order len cap =
      let h = top_is_marked marks heap heap' top q perm in
      record {
        rise = rise_marked marks top.0 false q.rise;
        order = order;
        each = λ x. let p = sum_by_popped (λ (y : Reverse K). tally (is_eq (cmp x y.0))) top (heap_items heap) (heap_items heap') perm in let e = each_cleared
            marks top.0 h x in omega (arith, q.each x, p, e);
        total = let e = sum_by-set_value tally (is_at (cmp top.0)) marks true false h in omega (arith, q.total, len, e);
        room = let e = length-set_value (is_at (cmp top.0)) marks false in omega (arith, q.room, cap, e);
      }

  -- nothing is pending where the heap is empty
  pub none_marked : (marks : List (K × Bool)) (heap : BinaryHeap (Reverse K) Global) → IsQueue cmp marks heap → heap_len heap ≡ 0 → (q : K)
      → IsMarked cmp marks q → ⊥
  none_marked marks heap w len q h =
      let e = sum_by-set_value tally (is_at (cmp q)) marks true false h in
      omega (arith, w.total, len, e)

  -- no key of the heap is below its top
  bounded : (top : Reverse K) (q : K) (items : List (Reverse K)) → IsUpperBound (downward cmp) top items → 0 < occurrences cmp q items
      → is_gt (cmp top.0 q) ≡ false
  bounded top q [] b h = absurd (omega arith)
  bounded top q (x ∷ xs) b h = bounded_cases (is_eq (cmp q x.0)) refl (bounded top q xs b.1)
    where
      bounded_cases : (t : Bool) → is_eq (cmp q x.0) ≡ t → (0 < occurrences cmp q xs → is_gt (cmp top.0 q) ≡ false) → is_gt (cmp top.0 q) ≡ false
      bounded_cases true e rest = subst (λ o. is_gt o ≡ false) (sym (alike_right total q x.0 top.0 (equal_from_is_eq (cmp q x.0) e)))
          (not_gt_from_not_lt (cmp top.0 x.0) (cmp x.0 top.0) (total.antisymm top.0 x.0) b.0)
      bounded_cases false e rest =
          let s = sum_by-cons (λ (y : Reverse K). tally (is_eq (cmp q y.0))) x xs in
          let t : tally (is_eq (cmp q x.0)) ≡ 0 = ap tally e in
          rest (omega (arith, s, t, h))

  -- the top of a queue is the least marked key
  pub top_is_least : (marks : List (K × Bool)) (heap : BinaryHeap (Reverse K) Global) (top : Reverse K) → IsQueue cmp marks heap
      → IsUpperBound (downward cmp) top (heap_items heap) → fact_at cmp marks top.0 ≡ Some true → IsLeast cmp marks top.0
  top_is_least marks heap top q b h = record {
    marked = h;
    least = λ k m. bounded top k (heap_items heap) b (let t : tally_at (fact_at cmp marks k) ≡ 1 = ap tally_at m in omega (arith, q.each k, t));
  }

  -- a new key gets room
  pub roomy_queue : (marks marks' : List (K × Bool)) (heap heap' : BinaryHeap (Reverse K) Global) (k : K) → IsQueue cmp marks heap
      → fact_at cmp marks k ≡ None → marks' ≡ insert_entry cmp marks k false
      → ((q : K) → fact_at cmp marks' q ≡ cond (is_eq (cmp k q)) (Some false) (fact_at cmp marks q)) → KeysRise cmp marks' → length marks' ≡ length marks + 1
      → heap_items heap' ≡ heap_items heap → heap_len heap' ≡ heap_len heap → length marks + 1 ≤ heap_capacity heap' → IsQueue cmp marks' heap'
  roomy_queue marks marks' heap heap' k q h is written rise len items size room = record {
    rise = rise;
    order = rw items q.order;
    each = λ x. rw items (q.each x ∙ sym (rw (written x) (roomy_cases x (is_eq (cmp k x)) refl)));
    total = let e = sum_by-insert_entry tally total marks k false q.rise in let n : unwrap_or (option_map tally (fact_at cmp marks k)) 0 ≡ 0 = ap
        (λ o. unwrap_or (option_map tally o) 0) h in rw is (omega (arith, q.total, size, e, n));
    room = omega (arith, room, len);
  }
    where
      roomy_cases : (x : K) (b : Bool) → is_eq (cmp k x) ≡ b → tally_at (cond b (Some false) (fact_at cmp marks x)) ≡ tally_at (fact_at cmp marks x)
      roomy_cases x true e = let e' : fact_at cmp marks x ≡ None = alike marks k x e ∙ h in rw e' refl
      roomy_cases x false e = refl

  -- a queue has no more keys than there are marks
  pub total-le : (marks : List (K × Bool)) (heap : BinaryHeap (Reverse K) Global) → IsQueue cmp marks heap → heap_len heap ≤ length marks
  total-le marks heap q =
      let e = sum_by-le tally 1 (values_of marks) (λ k d h. tally-le _) in
      omega (arith, q.total, e, length-values_of marks)

  -- a key that isn't marked leaves room in the heap
  pub room_left : (marks : List (K × Bool)) (heap : BinaryHeap (Reverse K) Global) (k : K) → IsQueue cmp marks heap → fact_at cmp marks k ≡ Some false
      → heap_len heap < heap_capacity heap
  room_left marks heap k q h =
      let marked = with_mark cmp marks k true in
      let e = sum_by-set_value tally (is_at (cmp k)) marks false true h in
      let n = length-set_value (is_at (cmp k)) marks true in
      let l = sum_by-le tally 1 (values_of marked) (λ i d h. tally-le _) in
      omega (arith, q.total, q.room, e, n, l, length-values_of marked)

  -- an insertion at a key that is there
  pub insert_is_set : {X : Type 0} (es : List (K × X)) (k : K) (u w : X) → KeysRise cmp es → fact_at cmp es k ≡ Some u
      → insert_entry cmp es k w ≡ set_value (is_at (cmp k)) es w
  insert_is_set [] k u w rise h = cc
  insert_is_set (e ∷ es) k u w rise h = insert_cases (cmp k e.0) refl (insert_is_set es k u w (sorted_tail cmp e.0 (keys_of es) rise))
    where
      insert_cases : (o : Ordering) → cmp k e.0 ≡ o → (fact_at cmp es k ≡ Some u → insert_entry cmp es k w ≡ set_value (is_at (cmp k)) es w)
          → match_ordering o ((k, w) ∷ e ∷ es) ((e.0, w) ∷ es) (e ∷ insert_entry cmp es k w) ≡ cond (is_eq o) ((e.0, w) ∷ es)
          (e ∷ set_value (is_at (cmp k)) es w)
      insert_cases Less is rest = let n = lookup-none (is_at (cmp k)) (e ∷ es) (none_below_head total k e es rise is) in cc
      insert_cases Equal is rest = refl
      insert_cases Greater is rest = ap (λ tail. e ∷ tail) (rest (sym (lookup_tail (is_at (cmp k)) e es (ap is_eq is)) ∙ h))

  -- a mark at a key without room changes nothing
  pub set_absent : {X : Type 0} (es : List (K × X)) (k : K) (w : X) → fact_at cmp es k ≡ None → set_value (is_at (cmp k)) es w ≡ es
  set_absent [] k w h = refl
  set_absent (e ∷ es) k w h = absent_cases (is_eq (cmp k e.0)) refl (set_absent es k w)
    where
      absent_cases : (b : Bool) → is_eq (cmp k e.0) ≡ b → (fact_at cmp es k ≡ None → set_value (is_at (cmp k)) es w ≡ es)
          → set_value (is_at (cmp k)) (e ∷ es) w ≡ e ∷ es
      absent_cases true is rest = let n = lookup_head (is_at (cmp k)) e es is in cc
      absent_cases false is rest = let t = lookup_tail (is_at (cmp k)) e es is in rw is (ap (λ tail. e ∷ tail) (rest (sym t ∙ h)))

  -- what is no mark that waits is set already or has no room
  pub mark_idle : (marks : List (K × Bool)) (k : K) → (fact_at cmp marks k ≡ Some false → ⊥) → marks ≡ with_mark cmp marks k true
  mark_idle marks k idle = idle_cases (fact_at cmp marks k) refl
    where
      idle_cases : (o : Option Bool) → fact_at cmp marks k ≡ o → marks ≡ with_mark cmp marks k true
      idle_cases None e = sym (set_absent marks k true e)
      idle_cases (Some true) e = sym (set_value_same (is_at (cmp k)) marks true e)
      idle_cases (Some false) e = absurd (idle e)

-- what isn't there is none
pub none_from_absent : {X : Type 0} (o : Option X) → is_some o ≡ false → o ≡ None
none_from_absent None h = refl
none_from_absent (Some x) h = cc

-- what is something is there
pub some_when : {X : Type 0} (o : Option X) (x : X) → o ≡ Some x → IsSome o
some_when o x h = subst (λ (p : Option _). IsSome p) (sym h) refl

-- a call that fails only where nothing is there succeeds where something is
pub ok_unless_absent : {X T E : Type 0} (o : Option X) (r : Result T E) → IsSome o → OnErr r (o ≡ None) → IsOk r
ok_unless_absent o (Ok t) s h = refl
ok_unless_absent o (Err e) s h = let t : is_some o ≡ true = s in let f : is_some o ≡ false = ap is_some h in cc

module _ {K : Type 0} (cmp : K → K → Ordering) (total : IsTotalOrder cmp) where
  -- the key on top of the heap is pending
  pub first_is_marked : (marks : List (K × Bool)) (heap : BinaryHeap (Reverse K) Global) (top : Reverse K) → IsQueue cmp marks heap
      → 0 < length (heap_items heap) → top ≡ get_or (heap_items heap) 0 top → fact_at cmp marks top.0 ≡ Some true
  first_is_marked marks heap top q some is =
      let f : Reverse K → ℕ = λ y. tally (is_eq (cmp top.0 y.0)) in
      let l = get_or-le-sum_by f (heap_items heap) 0 top some in
      let i : tally (is_eq (cmp top.0 top.0)) ≡ 1 = ap tally (at_itself cmp total top.0) in
      let j : f (get_or (heap_items heap) 0 top) ≡ f top = ap f (sym is) in
      marked_from_tally (fact_at cmp marks top.0) (omega (arith, q.each top.0, l, i, j))

-- a list with a new key is one longer
pub length_one_more : {X : Type 0} (o : Option X) (m n : ℕ) → n ≡ m + cond (is_some o) 0 1 → o ≡ None → n ≡ m + 1
length_one_more o m n h e = h ∙ ap (λ p. m + cond (is_some p) 0 1) e

-- what is there can be taken
pub some_from_IsSome : {X : Type 0} {G : Type 0} (o : Option X) → IsSome o → ((x : X) → o ≡ Some x → G) → G
some_from_IsSome None s f = let t : false ≡ true = s in absurd (cc)
some_from_IsSome (Some x) s f = f x refl

module _ {K X : Type 0} (cmp : K → K → Ordering) (total : IsTotalOrder cmp) where
  -- `insert_is_set`, where some value is there
  pub insert_at_key : (es : List (K × X)) (k : K) (w : X) → KeysRise cmp es → IsSome (fact_at cmp es k)
      → insert_entry cmp es k w ≡ set_value (is_at (cmp k)) es w
  insert_at_key es k w rise s = some_from_IsSome (fact_at cmp es k) s (λ u h. insert_is_set cmp total es k u w rise h)

-- what becomes of pending keys where one mark is written
module _ {K : Type 0} (cmp : K → K → Ordering) (total : IsTotalOrder cmp) (marks : List (K × Bool)) (k : K) where
  -- the mark at a key afterwards
  mark_at : (b : Bool) (q : K) {G : Type 0} → (with_mark cmp marks k b ≡ marks → fact_at cmp marks k ≡ None → G)
      → (fact_at cmp (with_mark cmp marks k b) q ≡ cond (is_eq (cmp k q)) (Some b) (fact_at cmp marks q) → G) → G
  mark_at b q {G} same written = mark_cases (fact_at cmp marks k) refl
    where
      mark_cases : (o : Option Bool) → fact_at cmp marks k ≡ o → G
      mark_cases None e = same (set_absent cmp total marks k b e) e
      mark_cases (Some x) e = written (at_set cmp total marks k b (some_when _ x e) q)

  -- a mark changes no room
  pub mark_room : (b : Bool) (q : K) → HasRoom cmp marks q → HasRoom cmp (with_mark cmp marks k b) q
  mark_room b q h = mark_at b q (λ same none. subst (λ list. HasRoom cmp list q) (sym same) h)
      (λ e. subst (λ (o : Option Bool). IsSome o) (sym e) (room_cases (is_eq (cmp k q))))
    where
      room_cases : (t : Bool) → IsSome (cond t (Some b) (fact_at cmp marks q))
      room_cases true = refl
      room_cases false = h

  -- a key with room is marked once it is
  pub mark_here : HasRoom cmp marks k → IsMarked cmp (with_mark cmp marks k true) k
  mark_here room = at_set cmp total marks k true room k ∙ ap (λ t. cond t (Some true) (fact_at cmp marks k)) (at_itself cmp total k)

  -- a marked key stays so
  pub mark_stays : (q : K) → IsMarked cmp marks q → IsMarked cmp (with_mark cmp marks k true) q
  mark_stays q h = mark_at true q (λ same none. subst (λ list. IsMarked cmp list q) (sym same) h) (λ e. e ∙ stays_cases (is_eq (cmp k q)))
    where
      stays_cases : (t : Bool) → cond t (Some true) (fact_at cmp marks q) ≡ Some true
      stays_cases true = refl
      stays_cases false = h

  -- a key that is marked after another was is that one, or was marked
  pub mark_only : (q : K) → IsMarked cmp (with_mark cmp marks k true) q → IsMarked cmp marks q ⊎ (is_eq (cmp k q) ≡ true)
  mark_only q h = mark_at true q (λ same none. inl (subst (λ list. IsMarked cmp list q) same h)) (λ e. only_cases (is_eq (cmp k q)) refl (sym e ∙ h))
    where
      only_cases : (t : Bool) → is_eq (cmp k q) ≡ t → cond t (Some true) (fact_at cmp marks q) ≡ Some true → IsMarked cmp marks q ⊎ (is_eq (cmp k q) ≡ true)
      only_cases true is e = inr is
      only_cases false is e = inl e

  -- a marked key stays so where another is cleared
  pub clear_stays : (q : K) → IsMarked cmp marks q → IsMarked cmp (with_mark cmp marks k false) q ⊎ (is_eq (cmp k q) ≡ true)
  clear_stays q h = mark_at false q (λ same none. inl (subst (λ list. IsMarked cmp list q) (sym same) h)) (λ e. clear_cases (is_eq (cmp k q)) refl e)
    where
      clear_cases : (t : Bool) → is_eq (cmp k q) ≡ t → fact_at cmp (with_mark cmp marks k false) q ≡ cond t (Some false) (fact_at cmp marks q)
          → IsMarked cmp (with_mark cmp marks k false) q ⊎ (is_eq (cmp k q) ≡ true)
      clear_cases true is e = inr is
      clear_cases false is e = inl (e ∙ h)

  -- a key that is marked after another was cleared was marked
  pub clear_only : (q : K) → IsMarked cmp (with_mark cmp marks k false) q → IsMarked cmp marks q
  clear_only q h = mark_at false q (λ same none. subst (λ list. IsMarked cmp list q) same h) (λ e. clear_cases (is_eq (cmp k q)) (sym e ∙ h))
    where
      clear_cases : (t : Bool) → cond t (Some false) (fact_at cmp marks q) ≡ Some true → IsMarked cmp marks q
      clear_cases true e = cc
      clear_cases false e = e
