-- The steps of a merge, over plain lists.
use Rattle.std.proofs.Common.{◌≡◌, ℕ, ◌+◌, ◌<◌, ◌≤◌, Bool, true, false, cond, List, [], ◌∷◌, ◌++◌, length, get_or, take, Option, Some, None, is_some}
use Rattle.std.proofs.Common.{Ordering, IsSome, IsTrue, Contains, refl, sym, ap, ◌∙◌, subst, arith, inl, inr, ◌⊎◌, ⊎_elim, append_assoc, append-nil}
use Rattle.std.proofs.lemmas.List.Elements.{Contains-append_left, Contains-append_right, Contains-append_cases, Contains-push, Contains-push_cases}
use Rattle.std.proofs.lemmas.List.{take_more}
use Rattle.std.proofs.lemmas.Map.Entries.{lookup_head, lookup_tail}
use Rattle.std.specs.Ordering.{is_eq}
use Rattle.std.specs.Option.{option_copied}
use denote.Ref.{Bor}
use Rattle.std.specs.List.{flat_map}
use Rattle.std.specs.Map.{keys_of}
use Rattle.std.specs.BTreeMap.{is_at}
use Rattle.flow_system.specs.Facts.{fact_at, KeysRise}
use Rattle.flow_system.specs.Laws.{OrdersKeys}
use Rattle.flow_core.specs.Queue.{IsMarked, HasRoom, with_mark, KeepsRoom}
use Rattle.flow_core.specs.Readers.{readers_of, AddsReader, SameReaders}
use Rattle.flow_core.specs.Staged.{over, written}
use Rattle.flow_core.specs.Writing.{KeepsReaders, KeepsMarks, MarksAll, IsReady, IsMoving, TakesBack}
use Rattle.flow_core.proofs.EntryLemmas.{same_key, self_key, same_entries, none_or_some}
use Rattle.flow_core.proofs.QueueLemmas.{some_when, some_from_IsSome, none_from_absent, rise_marked, mark_room, mark_here, mark_stays, mark_only}

pub next_of : {X : Type 0} (xs : List X) (i : ℕ) (x : X) → i < length xs → x ≡ get_or xs i x → take (i + 1) xs ≡ take i xs ++ x ∷ []
next_of xs i x within is = take_more xs i x within ∙ ap (λ y. take i xs ++ y ∷ []) (sym is)

contains_one : {X : Type 0} (x y : X) → Contains (x ∷ []) y → x ≡ y
contains_one x y listed = ⊎_elim (λ none. absurd (omega (arith, none.1))) (λ e. e) (Contains-push_cases [] x y listed)

-- what is listed by one of the lists
pub flat_listed : {X Y : Type 0} (f : X → List Y) (xs : List X) (x : X) (y : Y) → Contains xs x → Contains (f x) y → Contains (flat_map f xs) y
flat_listed f [] x y listed inner = absurd (omega (arith, listed.1))
flat_listed f (a ∷ xs) x y listed inner =
    ⊎_elim (λ first. Contains-append_left (f a) (flat_map f xs) y (subst (λ z. Contains (f z) y) (sym (contains_one a x first)) inner))
    (λ rest. Contains-append_right (f a) (flat_map f xs) y (flat_listed f xs x y rest inner)) (Contains-append_cases (a ∷ []) xs x listed)

-- where an element of the lists comes from
pub record FromOne {X Y : Type 0} (f : X → List Y) (xs : List X) (y : Y) : Type 0 where
  pub one : X
  pub listed : Contains xs one
  pub inner : Contains (f one) y

-- what is in the lists of a list is in that of one of it
pub flat_from : {X Y : Type 0} (f : X → List Y) (xs : List X) (y : Y) → Contains (flat_map f xs) y → FromOne f xs y
flat_from f [] y listed = absurd (omega (arith, listed.1))
flat_from f (a ∷ xs) y listed =
    ⊎_elim (λ here. record { one = a; listed = Contains-append_left (a ∷ []) xs a (Contains-push [] a); inner = here })
    (λ later. let r = flat_from f xs y later in record { one = r.one; listed = Contains-append_right (a ∷ []) xs r.one r.listed; inner = r.inner })
    (Contains-append_cases (f a) (flat_map f xs) y listed)

pub flat_append : {X Y : Type 0} (f : X → List Y) (xs : List X) (x : X) → flat_map f (xs ++ x ∷ []) ≡ flat_map f xs ++ f x
flat_append f [] x = append-nil (f x)
flat_append f (a ∷ xs) x = ap (λ list. f a ++ list) (flat_append f xs x) ∙ sym (append_assoc (f a) (flat_map f xs) (f x))

module _ {K : Type 0} (cmp : K → K → Ordering) where
  -- an index keeps its readers
  pub readers_same : (reads : K → List K) (old : List (K × List K)) → KeepsReaders cmp reads old old
  readers_same reads old = record { stays = λ q j h. h; read = λ h. h }

  -- kept readers are kept from one index to the next
  pub readers_onward : (reads : K → List K) (a b c : List (K × List K)) → KeepsReaders cmp reads a b → KeepsReaders cmp reads b c → KeepsReaders cmp reads a c
  readers_onward reads a b c ab bc = record { stays = λ q j h. bc.stays q j (ab.stays q j h); read = λ h. bc.read (ab.read h) }

  -- the same readers are kept
  pub readers_unchanged : (reads : K → List K) (old new : List (K × List K)) → SameReaders cmp old new → KeepsReaders cmp reads old new
  readers_unchanged reads old new same = record {
    stays = λ q j h. subst (λ list. Contains list j) (sym (same q)) h;
    read = λ h q j c. h q j (subst (λ list. Contains list j) (same q) c);
  }

  -- a list keeps its marks
  pub marks_same : (old : List (K × Bool)) → KeysRise cmp old → KeepsMarks cmp old old
  marks_same old rise = record { stays = λ q b h. h; only = λ q h. h; rise = rise }

  -- kept marks are kept from one list to the next
  pub marks_onward : (a b c : List (K × Bool)) → KeepsMarks cmp a b → KeepsMarks cmp b c → KeepsMarks cmp a c
  marks_onward a b c ab bc = record { stays = λ q x h. bc.stays q x (ab.stays q x h); only = λ q h. ab.only q (bc.only q h); rise = bc.rise }

  pub marks_roomy : (old new : List (K × Bool)) (k : K) → KeepsRoom cmp old new k → KeepsMarks cmp old new
  marks_roomy old new k keeps = record { stays = keeps.stays; only = keeps.only; rise = keeps.rise }

  module _ (keys : OrdersKeys cmp) where
    -- an index with one reader more keeps the others and has that one
    pub reader_added : (reads : K → List K) (old new : List (K × List K)) (r k : K) → Contains (reads k) r → AddsReader cmp old new r k
        → KeepsReaders cmp reads old new × Contains (readers_of cmp new r) k
    reader_added reads old new r k listed adds = (
      record {
        stays = λ q j h. stays_cases q j (is_eq (cmp r q)) refl h;
        read = λ h q j c. read_cases h q j (is_eq (cmp r q)) refl (subst (λ list. Contains list j) (adds q) c);
      },
      subst (λ list. Contains list k) (sym (adds r ∙ ap (λ b. cond b (readers_of cmp old r ++ k ∷ []) (readers_of cmp old r)) (self_key cmp keys r)))
          (Contains-push (readers_of cmp old r) k),
    )
      where
        stays_cases : (q j : K) (b : Bool) → is_eq (cmp r q) ≡ b → Contains (readers_of cmp old q) j → Contains (readers_of cmp new q) j
        stays_cases q j true t h =
            let e : r ≡ q = same_key cmp keys r q t in
            subst (λ list. Contains list j) (sym (adds q ∙ ap (λ b. cond b (readers_of cmp old r ++ k ∷ []) (readers_of cmp old q)) t))
            (Contains-append_left (readers_of cmp old r) (k ∷ []) j (subst (λ x. Contains (readers_of cmp old x) j) (sym e) h))
        stays_cases q j false t h = subst (λ list. Contains list j)
            (sym (adds q ∙ ap (λ b. cond b (readers_of cmp old r ++ k ∷ []) (readers_of cmp old q)) t)) h

        read_cases : ((x y : K) → Contains (readers_of cmp old x) y → Contains (reads y) x) → (q j : K) (b : Bool) → is_eq (cmp r q) ≡ b
            → Contains (cond (is_eq (cmp r q)) (readers_of cmp old r ++ k ∷ []) (readers_of cmp old q)) j → Contains (reads j) q
        read_cases h q j true t c =
            let e : r ≡ q = same_key cmp keys r q t in
            let c' : Contains (readers_of cmp old r ++ k ∷ []) j = subst (λ b. Contains (cond b (readers_of cmp old r ++ k ∷ []) (readers_of cmp old q)) j) t
            c in
            subst (λ x. Contains (reads j) x) e
            (⊎_elim (λ was. h r j was) (λ is. subst (λ x. Contains (reads x) r) is listed) (Contains-push_cases (readers_of cmp old r) k j c'))
        read_cases h q j false t c = h q j (subst (λ b. Contains (cond b (readers_of cmp old r ++ k ∷ []) (readers_of cmp old q)) j) t c)

  module _ {V : Type 0} where
    -- of no key nothing is marked
    pub marks_none : (facts : List (K × V)) (old : List (K × Bool)) (keys : List K) → KeysRise cmp old → MarksAll cmp facts (take 0 keys) old old
    marks_none facts old keys rise = record {
      stays = λ q h. h;
      room = λ q h. h;
      marked = λ q listed. absurd (omega (arith, listed.1));
      only = λ q h. inl h;
      rise = rise;
    }

    -- a key with a fact is among the keys
    pub key_listed : (keys : OrdersKeys cmp) (es : List (K × V)) (q : K) → IsSome (fact_at cmp es q) → Contains (keys_of es) q
    key_listed keys [] q s = let f : false ≡ true = s in absurd (cc)
    key_listed keys (e ∷ es) q s = listed_cases (is_eq (cmp q e.0)) refl (key_listed keys es q)
      where
        listed_cases : (b : Bool) → is_eq (cmp q e.0) ≡ b → (IsSome (fact_at cmp es q) → Contains (keys_of es) q) → Contains (keys_of (e ∷ es)) q
        listed_cases true t rest = subst (λ x. Contains (e.0 ∷ keys_of es) x) (sym (same_key cmp keys q e.0 t))
            (Contains-append_left (e.0 ∷ []) (keys_of es) e.0 (Contains-push [] e.0))
        listed_cases false t rest = Contains-append_right (e.0 ∷ []) (keys_of es) q
            (rest (subst (λ (o : Option V). IsSome o) (lookup_tail (is_at (cmp q)) e es t) s))

    -- a key among the keys has a fact
    pub listed_key : (keys : OrdersKeys cmp) (es : List (K × V)) (q : K) → Contains (keys_of es) q → IsSome (fact_at cmp es q)
    listed_key keys [] q listed = absurd (omega (arith, listed.1))
    listed_key keys (e ∷ es) q listed = key_cases (is_eq (cmp q e.0)) refl (listed_key keys es q)
      where
        key_cases : (b : Bool) → is_eq (cmp q e.0) ≡ b → (Contains (keys_of es) q → IsSome (fact_at cmp es q)) → IsSome (fact_at cmp (e ∷ es) q)
        key_cases true t rest = some_when _ e.1 (lookup_head (is_at (cmp q)) e es t)
        key_cases false t rest = subst (λ (o : Option V). IsSome o) (sym (lookup_tail (is_at (cmp q)) e es t))
            (⊎_elim (λ first. let s : is_eq (cmp q e.0) ≡ true = subst (λ x. is_eq (cmp x e.0) ≡ true) (contains_one e.0 q first) (self_key cmp keys e.0) in
            absurd (cc)) rest (Contains-append_cases (e.0 ∷ []) (keys_of es) q listed))

    module _ (keys : OrdersKeys cmp) (facts : List (K × V)) (ks : List K) (old new : List (K × Bool)) (marks : MarksAll cmp facts ks old new) (k : K) where
      -- one key more with a fact is marked
      pub marks_more : IsSome (fact_at cmp facts k) → MarksAll cmp facts (ks ++ k ∷ []) old (with_mark cmp new k true)
      marks_more there = record {
        stays = λ q h. mark_stays cmp keys.total new k q (marks.stays q h);
        room = λ q h. mark_room cmp keys.total new k true q (marks.room q h);
        marked = λ q listed s room. ⊎_elim (λ before. mark_stays cmp keys.total new k q (marks.marked q before s room))
            (λ is. subst (λ x. IsMarked cmp (with_mark cmp new k true) x) is
            (mark_here cmp keys.total new k (subst (λ x. HasRoom cmp new x) (sym is) (marks.room q room)))) (Contains-push_cases ks k q listed);
        only = λ q h. ⊎_elim (λ was. before_only q (marks.only q was))
            (λ t. inr (
              subst (λ x. Contains (ks ++ k ∷ []) x) (same_key cmp keys k q t) (Contains-push ks k),
              subst (λ x. IsSome (fact_at cmp facts x))
                  (same_key cmp keys k q t) there,
            )) (mark_only cmp keys.total new k q h);
        rise = rise_marked cmp keys.total new k true marks.rise;
      }
        where
          before_only : (q : K) → IsMarked cmp old q ⊎ (Contains ks q × IsSome (fact_at cmp facts q))
              → IsMarked cmp old q ⊎ (Contains (ks ++ k ∷ []) q × IsSome (fact_at cmp facts q))
          before_only q (inl was) = inl was
          before_only q (inr p) = inr (Contains-append_left ks (k ∷ []) q p.0, p.1)

      -- a key without a fact is left as it is
      pub marks_absent : fact_at cmp facts k ≡ None → MarksAll cmp facts (ks ++ k ∷ []) old new
      marks_absent none = record {
        stays = marks.stays;
        room = marks.room;
        marked = λ q listed s room. ⊎_elim (λ before. marks.marked q before s room)
            (λ is. none_or_some (fact_at cmp facts q) (subst (λ x. fact_at cmp facts x ≡ None) is none) s) (Contains-push_cases ks k q listed);
        only = λ q h. ⊎_elim (λ was. inl was) (λ p. inr (Contains-append_left ks (k ∷ []) q p.0, p.1)) (marks.only q h);
        rise = marks.rise;
      }

pub gather_more : {X Y : Type 0} (f : X → List Y) (xs : List X) (i : ℕ) (x : X) (old new : List Y) → i < length xs → x ≡ get_or xs i x
    → old ≡ flat_map f (take i xs) → new ≡ old ++ f x → new ≡ flat_map f (take (i + 1) xs)
gather_more f xs i x old new within is before step =
    step ∙ ap (λ list. list ++ f x) before ∙ sym (flat_append f (take i xs) x) ∙ ap (flat_map f) (sym (next_of xs i x within is))

module _ {K : Type 0} (cmp : K → K → Ordering) where
  -- one list more has the reader
  pub lists_more : (items : List K) (i : ℕ) (r k : K) (old new : List (K × List K)) → i < length items → r ≡ get_or items i r
      → ((q : K) → Contains (take i items) q → Contains (readers_of cmp old q) k)
      → ((q j : K) → Contains (readers_of cmp old q) j → Contains (readers_of cmp new q) j) → Contains (readers_of cmp new r) k → (q : K)
      → Contains (take (i + 1) items) q → Contains (readers_of cmp new q) k
  lists_more items i r k old new within is before stays here q listed =
      ⊎_elim (λ was. stays q k (before q was)) (λ same. subst (λ x. Contains (readers_of cmp new x) k) same here)
      (Contains-push_cases (take i items) r q (subst (λ list. Contains list q) (next_of items i r within is) listed))

  module _ {V : Type 0} where
    -- one key more is ready in the later marks and readers
    pub ready_more : (reads : K → List K) (facts : List (K × V)) (ks : List K) (i : ℕ) (k : K) (marks marks' : List (K × Bool))
        (readers readers' : List (K × List K)) → i < length ks → k ≡ get_or ks i k
        → ((q : K) → Contains (take i ks) q → IsReady cmp reads facts marks readers q) → KeepsMarks cmp marks marks' → KeepsReaders cmp reads readers readers'
        → IsReady cmp reads facts marks' readers' k → (q : K) → Contains (take (i + 1) ks) q → IsReady cmp reads facts marks' readers' q
    ready_more reads facts ks i k marks marks' readers readers' within is before keeps_marks keeps here q listed =
        ⊎_elim (λ was. let r = before q was in record {
          room = λ none. some_from_IsSome (fact_at cmp marks q) (r.room none) (λ b e. some_when (fact_at cmp marks' q) b (keeps_marks.stays q b e));
          listed = λ none j at. keeps.stays j q (r.listed none j at);
        }) (λ same. subst (λ x. IsReady cmp reads facts marks' readers' x) same here)
        (Contains-push_cases (take i ks) k q (subst (λ list. Contains list q) (next_of ks i k within is) listed))

    -- the keys up to the next are marked
    pub marks_next : (facts : List (K × V)) (ks : List K) (i : ℕ) (k : K) (old new : List (K × Bool)) → i < length ks → k ≡ get_or ks i k
        → MarksAll cmp facts (take i ks ++ k ∷ []) old new → MarksAll cmp facts (take (i + 1) ks) old new
    marks_next facts ks i k old new within is marks = subst (λ list. MarksAll cmp facts list old new) (sym (next_of ks i k within is)) marks

    -- of no key nothing is taken back
    pub back_none : (facts risen : List (K × V)) (ks : List K) → TakesBack cmp facts risen (take 0 ks) facts
    back_none facts risen ks = record {
      gone = λ q listed. absurd (omega (arith, listed.1));
      other = λ q s. refl;
      only = λ q. inl refl;
    }

    module _ (keys : OrdersKeys cmp) (facts risen : List (K × V)) (ks : List K) (i : ℕ) (k : K) (old : List (K × V)) (within : i < length ks)
        (is : k ≡ get_or ks i k) (back : TakesBack cmp facts risen (take i ks) old) where
      split_last : (q : K) → Contains (take (i + 1) ks) q → Contains (take i ks) q ⊎ (k ≡ q)
      split_last q listed = Contains-push_cases (take i ks) k q (subst (λ list. Contains list q) (next_of ks i k within is) listed)

      still_listed : (q : K) → Contains (take i ks) q → Contains (take (i + 1) ks) q
      still_listed q listed = subst (λ list. Contains list q) (sym (next_of ks i k within is)) (Contains-append_left (take i ks) (k ∷ []) q listed)

      last_listed : Contains (take (i + 1) ks) k
      last_listed = subst (λ list. Contains list k) (sym (next_of ks i k within is)) (Contains-push (take i ks) k)

      weaken : (q : K) (o : Option V) → (o ≡ fact_at cmp facts q) ⊎ (Contains (take i ks) q × (o ≡ None))
          → (o ≡ fact_at cmp facts q) ⊎ (Contains (take (i + 1) ks) q × (o ≡ None))
      weaken q o (inl e) = inl e
      weaken q o (inr p) = inr (still_listed q p.0, p.1)

      -- a key whose fact was there is taken back by the old fact
      pub back_kept : IsSome (fact_at cmp risen k) → TakesBack cmp facts risen (take (i + 1) ks) old
      back_kept s = record {
        gone = λ q listed none. ⊎_elim (λ was. back.gone q was none)
            (λ same. none_or_some (fact_at cmp risen q) none (subst (λ x. IsSome (fact_at cmp risen x)) same s)) (split_last q listed);
        other = back.other;
        only = λ q. weaken q (fact_at cmp old q) (back.only q);
      }

      -- a key that was new is taken out again
      pub back_removed : (new : List (K × V)) → fact_at cmp risen k ≡ None → ((q : K) → fact_at cmp new q ≡ cond (is_eq (cmp k q)) None (fact_at cmp old q))
          → TakesBack cmp facts risen (take (i + 1) ks) new
      back_removed new none removed = record {
        gone = λ q listed e. gone_cases q (is_eq (cmp k q)) refl listed e;
        other = λ q s. other_cases q (is_eq (cmp k q)) refl s;
        only = λ q. only_cases q (is_eq (cmp k q)) refl;
      }
        where
          gone_cases : (q : K) (b : Bool) → is_eq (cmp k q) ≡ b → Contains (take (i + 1) ks) q → fact_at cmp risen q ≡ None → fact_at cmp new q ≡ None
          gone_cases q true t listed e = removed q ∙ ap (λ b. cond b None (fact_at cmp old q)) t
          gone_cases q false t listed e = removed q ∙ ap (λ b. cond b None (fact_at cmp old q)) t
              ∙ ⊎_elim (λ was. back.gone q was e)
              (λ same. let s : is_eq (cmp k q) ≡ true = subst (λ x. is_eq (cmp k x) ≡ true) same (self_key cmp keys k) in absurd (cc)) (split_last q listed)

          other_cases : (q : K) (b : Bool) → is_eq (cmp k q) ≡ b → IsSome (fact_at cmp risen q) → fact_at cmp new q ≡ fact_at cmp facts q
          other_cases q true t s = none_or_some (fact_at cmp risen q) (subst (λ x. fact_at cmp risen x ≡ None) (same_key cmp keys k q t) none) s
          other_cases q false t s = removed q ∙ ap (λ b. cond b None (fact_at cmp old q)) t ∙ back.other q s

          only_cases : (q : K) (b : Bool) → is_eq (cmp k q) ≡ b
              → (fact_at cmp new q ≡ fact_at cmp facts q) ⊎ (Contains (take (i + 1) ks) q × (fact_at cmp new q ≡ None))
          only_cases q true t = inr
              (subst (λ x. Contains (take (i + 1) ks) x) (same_key cmp keys k q t) last_listed, removed q ∙ ap (λ b. cond b None (fact_at cmp old q)) t)
          only_cases q false t = subst (λ o. (o ≡ fact_at cmp facts q) ⊎ (Contains (take (i + 1) ks) q × (o ≡ None)))
              (sym (removed q ∙ ap (λ b. cond b None (fact_at cmp old q)) t)) (weaken q (fact_at cmp old q) (back.only q))

    -- nothing is moved yet
    pub moving_same : (facts risen : List (K × V)) → KeysRise cmp facts → IsMoving cmp facts risen facts risen
    moving_same facts risen rise = record {
      kept = λ q s. (refl, refl);
      left = λ q s. (refl, refl);
      apart = λ q e. (refl, e);
      rise = rise;
    }

    -- what is moved goes on from one step to the next
    pub moving_onward : (f r f' r' f'' r'' : List (K × V)) → IsMoving cmp f r f' r' → IsMoving cmp f' r' f'' r'' → IsMoving cmp f r f'' r''
    moving_onward f r f' r' f'' r'' ab bc = record {
      kept = λ q s. let a = ab.kept q s in let b = bc.kept q (subst (λ (o : Option V). IsSome o) (sym a.0) s) in (b.0 ∙ a.0, b.1 ∙ a.1);
      left = λ q s. let b = bc.left q s in let a = ab.left q (subst (λ (o : Option V). IsSome o) b.1 s) in (b.0 ∙ a.0, b.1 ∙ a.1);
      apart = λ q e. let a = ab.apart q e in let b = bc.apart q a.1 in (b.0 ∙ a.0, b.1);
      rise = bc.rise;
    }

    -- one key more that still is among the risen has a fact
    pub there_more : (ks : List K) (i : ℕ) (k : K) (f r f' r' : List (K × V)) → i < length ks → k ≡ get_or ks i k
        → ((q : K) → Contains (take i ks) q → IsSome (fact_at cmp r q) → IsSome (fact_at cmp f q)) → IsMoving cmp f r f' r'
        → (IsSome (fact_at cmp r' k) → IsSome (fact_at cmp f' k)) → (q : K) → Contains (take (i + 1) ks) q → IsSome (fact_at cmp r' q)
        → IsSome (fact_at cmp f' q)
    there_more ks i k f r f' r' within is before step here q listed s =
        ⊎_elim (λ was. let l = step.left q s in subst (λ (o : Option V). IsSome o) (sym l.0) (before q was (subst (λ (o : Option V). IsSome o) l.1 s)))
        (λ same. subst (λ x. IsSome (fact_at cmp f' x)) same (here (subst (λ x. IsSome (fact_at cmp r' x)) (sym same) s)))
        (Contains-push_cases (take i ks) k q (subst (λ list. Contains list q) (next_of ks i k within is) listed))

    -- what was moved and taken back leaves the facts as they were
    pub taken_back : (keys : OrdersKeys cmp) (f r f' r' f'' : List (K × V)) (ks : List K) → KeysRise cmp f → KeysRise cmp f'' → ks ≡ keys_of r
        → IsMoving cmp f r f' r' → TakesBack cmp f' r' ks f'' → f'' ≡ f
    taken_back keys f r f' r' f'' ks rise rise'' is moving back = same_entries cmp keys f'' f rise'' rise (λ q. by_risen q (fact_at cmp r' q) refl)
      where
        is_key : (q : K) → Contains ks q → IsSome (fact_at cmp r q)
        is_key q listed = listed_key cmp keys r q (subst (λ list. Contains list q) is listed)

        old_none : (q : K) (o : Option V) → fact_at cmp f q ≡ o → fact_at cmp r' q ≡ None → IsSome (fact_at cmp r q) → fact_at cmp f q ≡ None
        old_none q None e none s = e
        old_none q (Some x) e none s = none_or_some (fact_at cmp r q) (sym (moving.kept q (some_when _ x e)).1 ∙ none) s

        by_first : (q : K) (o : Option V) → fact_at cmp r q ≡ o → fact_at cmp r' q ≡ None → fact_at cmp f'' q ≡ fact_at cmp f q
        by_first q None e none = ⊎_elim (λ same. same ∙ (moving.apart q e).0) (λ p. none_or_some (fact_at cmp r q) e (is_key q p.0)) (back.only q)
        by_first q (Some x) e none =
            let s = some_when (fact_at cmp r q) x e in
            back.gone q (subst (λ list. Contains list q) (sym is) (key_listed cmp keys r q s)) none ∙ sym (old_none q (fact_at cmp f q) refl none s)

        by_risen : (q : K) (o : Option V) → fact_at cmp r' q ≡ o → fact_at cmp f'' q ≡ fact_at cmp f q
        by_risen q None e = by_first q (fact_at cmp r q) refl e
        by_risen q (Some x) e = let s = some_when (fact_at cmp r' q) x e in back.other q s ∙ (moving.left q s).0

    -- one key more of the list is gone
    pub gone_more : (ks : List K) (i : ℕ) (k : K) (r r' : List (K × V)) → i < length ks → k ≡ get_or ks i k
        → ((q : K) → Contains (take i ks) q → fact_at cmp r q ≡ None) → ((q : K) → IsSome (fact_at cmp r' q) → IsSome (fact_at cmp r q))
        → fact_at cmp r' k ≡ None → (q : K) → Contains (take (i + 1) ks) q → fact_at cmp r' q ≡ None
    gone_more ks i k r r' within is before less here q listed =
        ⊎_elim (λ was. gone_cases (fact_at cmp r' q) refl was) (λ same. subst (λ x. fact_at cmp r' x ≡ None) same here)
        (Contains-push_cases (take i ks) k q (subst (λ list. Contains list q) (next_of ks i k within is) listed))
      where
        gone_cases : (o : Option V) → fact_at cmp r' q ≡ o → Contains (take i ks) q → fact_at cmp r' q ≡ None
        gone_cases None e was = e
        gone_cases (Some x) e was = none_or_some (fact_at cmp r q) (before q was) (less q (some_when _ x e))

    -- once nothing is left risen, all is written
    pub all_written : (f r f' r' : List (K × V)) → ((q : K) → fact_at cmp r' q ≡ None) → ((q : K) → written cmp f' r' q ≡ written cmp f r q) → (q : K)
        → fact_at cmp f' q ≡ written cmp f r q
    all_written f r f' r' none whole q = ap (λ (o : Option V). over o (fact_at cmp f' q)) (sym (none q)) ∙ whole q

    -- where each key of a list is gone, nothing is left of what has keys of the list alone
    pub none_left : (ks : List K) (r r' : List (K × V)) → ((q : K) → IsSome (fact_at cmp r q) → Contains ks q)
        → ((q : K) → IsSome (fact_at cmp r' q) → IsSome (fact_at cmp r q)) → ((q : K) → Contains ks q → fact_at cmp r' q ≡ None) → (q : K)
        → fact_at cmp r' q ≡ None
    none_left ks r r' listed less gone q = left_cases (fact_at cmp r' q) refl
      where
        left_cases : (o : Option V) → fact_at cmp r' q ≡ o → fact_at cmp r' q ≡ None
        left_cases None e = e
        left_cases (Some x) e = gone q (listed q (less q (some_when _ x e)))

-- whether a look-up found something, by the reference that it gave
pub found_by : {V : Type 0} (o : Option (Bor V)) (p : Option V) (b : Bool) → option_copied o ≡ p → is_some o ≡ b → is_some p ≡ b
found_by None p b e t = sym (ap is_some e) ∙ t
found_by (Some x) p b e t = sym (ap is_some e) ∙ t
