-- Joining pieces to a core, from its steps.
use Rattle.std.proofs.Common.{◌≡◌, ℕ, ◌+◌, ◌<◌, ◌≤◌, Bool, true, false, not, List, [], ◌∷◌, length, Option, Some, None, is_some, Ordering, IsSome, IsTrue}
use Rattle.std.proofs.Common.{Contains, count_by, refl, sym, ap, ◌∙◌, subst, arith, inl, inr, ◌⊎◌, ⊎_elim}
use Rattle.std.proofs.lemmas.Map.Entries.{length-keys_of}
use Rattle.std.specs.List.{flat_map}
use Rattle.std.specs.Map.{keys_of}
use Rattle.flow_system.specs.Facts.{fact_at, KeysRise}
use Rattle.flow_system.specs.Laws.{IsLawful}
use Rattle.flow_system.specs.Rules.{Rules}
use Rattle.flow_system.specs.State.{AllFit}
use Rattle.flow_core.specs.Absorb.{Absorbs}
use Rattle.flow_core.specs.Core.{CoreState, IsKey, IsPending, IsKept, IsUnchanged, Joins, has_grown, counted_keys, grown_count}
use Rattle.flow_core.specs.Event.{ReadsGrown}
use Rattle.flow_core.specs.Queue.{IsMarked, HasRoom}
use Rattle.flow_core.specs.Readers.{readers_of}
use Rattle.flow_core.specs.Staged.{over, written, IsStaged, is_fresh_key}
use Rattle.flow_core.specs.Writing.{KeepsReaders, KeepsMarks, MarksAll, IsReady}
use Rattle.flow_core.proofs.JoinLemmas.{new_count, new_joined, new_grown}
use Rattle.flow_core.proofs.WritingLemmas.{FromOne, flat_listed, flat_from, key_listed, listed_key}
use Rattle.flow_core.proofs.EntryLemmas.{none_or_some}
use Rattle.flow_core.proofs.QueueLemmas.{some_when, some_from_IsSome}

module _ {K V : Type 0} (cmp : K → K → Ordering) (m : Rules K V) (law : IsLawful cmp m) where
  -- room and readers alone change nothing that shows
  pub prepared_kept : (old new : CoreState K V) → new.facts ≡ old.facts → new.out ≡ old.out → new.count ≡ old.count → new.limit ≡ old.limit
      → KeepsMarks cmp old.marks new.marks → KeepsReaders cmp m.reads old.readers new.readers → IsUnchanged cmp m old new
  prepared_kept old new facts out count limit marks readers = record {
    facts = facts;
    pending = marks.only;
    stays = λ k p. marks.stays k true p;
    out = out;
    limit = limit;
    kept = λ kept. record {
      rise = subst (λ es. KeysRise cmp es) (sym facts) kept.rise;
      marks_rise = marks.rise;
      room = λ k key. some_from_IsSome (fact_at cmp old.marks k) (kept.room k (subst (λ es. IsSome (fact_at cmp es k)) facts key))
          (λ b e. some_when (fact_at cmp new.marks k) b (marks.stays k b e));
      listed = λ k r key listed. readers.stays r k (kept.listed k r (subst (λ es. IsSome (fact_at cmp es k)) facts key) listed);
      read = λ k r at. readers.read (λ q j c. kept.read j q c) r k at;
      count = count ∙ kept.count ∙ ap (counted_keys m) (sym facts);
      within = let w = kept.within in omega (arith, count, limit, w);
    };
  }

  module _ (old new : CoreState K V) (pieces risen : List (K × V)) (ks woken : List K) (mid : List (K × Bool)) (fit : AllFit m (fact_at cmp old.facts))
      (kept : IsKept cmp m old) (staged : IsStaged cmp m old.facts pieces risen) (ks_are : ks ≡ keys_of risen) (rise : KeysRise cmp new.facts)
      (all : (q : K) → fact_at cmp new.facts q ≡ written cmp old.facts risen q)
      (room_kept : KeepsMarks cmp old.marks mid) (readers_kept : KeepsReaders cmp m.reads old.readers new.readers)
      (ready : (k : K) → Contains ks k → IsReady cmp m.reads old.facts mid new.readers k)
      (woken_are : woken ≡ flat_map (λ k. readers_of cmp new.readers k) ks) (marked : MarksAll cmp new.facts woken mid new.marks)
      (count : new.count ≡ old.count + count_by (is_fresh_key cmp m old.facts) ks) (within : new.count ≤ new.limit) (out : new.out ≡ old.out)
      (limit : new.limit ≡ old.limit) where
    in_keys : (q : K) → IsSome (fact_at cmp risen q) → Contains ks q
    in_keys q s = subst (λ list. Contains list q) (sym ks_are) (key_listed cmp law.keys risen q s)

    risen_key : (q : K) → Contains ks q → IsSome (fact_at cmp risen q)
    risen_key q c = listed_key cmp law.keys risen q (subst (λ list. Contains list q) ks_are c)

    -- what has grown is risen
    grown_is_risen : (r : K) → IsTrue (has_grown m (fact_at cmp old.facts r) (fact_at cmp new.facts r)) → IsSome (fact_at cmp risen r)
    grown_is_risen r g = grown_cases (fact_at cmp risen r) refl (fact_at cmp old.facts r) refl
        (subst (λ o. IsTrue (has_grown m (fact_at cmp old.facts r) o)) (all r) g)
      where
        grown_cases : (o : Option V) → fact_at cmp risen r ≡ o → (p : Option V) → fact_at cmp old.facts r ≡ p
            → IsTrue (has_grown m (fact_at cmp old.facts r) (written cmp old.facts risen r)) → IsSome (fact_at cmp risen r)
        grown_cases (Some x) e p f t = some_when _ x e
        grown_cases None e None f t = let a : has_grown m (fact_at cmp old.facts r) (written cmp old.facts risen r) ≡ false = ap
            (λ o. has_grown m (fact_at cmp old.facts r) (over o (fact_at cmp old.facts r))) e ∙ ap (λ o. has_grown m o o) f in absurd (cc)
        grown_cases None e (Some u) f t =
            let a : has_grown m (fact_at cmp old.facts r) (written cmp old.facts risen r) ≡ not (m.at_most u u) = ap
            (λ o. has_grown m (fact_at cmp old.facts r) (over o (fact_at cmp old.facts r))) e ∙ ap (λ o. has_grown m o o) f in
            let b = law.order.same r u (fit r u f) in
            let c = ap not b in
            absurd (cc)

    -- a key of the new facts is an old one, or risen
    old_or_risen : (k : K) {G : Type 0} → IsKey cmp new k → (IsKey cmp old k → G) → (fact_at cmp old.facts k ≡ None → Contains ks k → G) → G
    old_or_risen k {G} key was fresh = key_cases (fact_at cmp old.facts k) refl (fact_at cmp risen k) refl
      where
        key_cases : (p : Option V) → fact_at cmp old.facts k ≡ p → (o : Option V) → fact_at cmp risen k ≡ o → G
        key_cases (Some u) f o e = was (some_when _ u f)
        key_cases None f (Some x) e = fresh f (in_keys k (some_when _ x e))
        key_cases None f None e = none_or_some (fact_at cmp new.facts k) (all k ∙ ap (λ o. over o (fact_at cmp old.facts k)) e ∙ f) key

    listed_new : (k r : K) → IsKey cmp new k → Contains (m.reads k) r → Contains (readers_of cmp new.readers r) k
    listed_new k r key listed = old_or_risen k key (λ was. readers_kept.stays r k (kept.listed k r was listed)) (λ none c. (ready k c).listed none r listed)

    room_mid : (k : K) → IsKey cmp new k → HasRoom cmp mid k
    room_mid k key = old_or_risen k key
        (λ was. some_from_IsSome (fact_at cmp old.marks k) (kept.room k was) (λ b e. some_when (fact_at cmp mid k) b (room_kept.stays k b e)))
        (λ none c. (ready k c).room none)

    kept_new : IsKept cmp m new
    kept_new = record {
      rise = rise;
      marks_rise = marked.rise;
      room = λ k key. marked.room k (room_mid k key);
      listed = listed_new;
      read = λ k r at. readers_kept.read (λ q j c. kept.read j q c) r k at;
      count = count ∙ ap (λ n. n + count_by (is_fresh_key cmp m old.facts) ks) kept.count
          ∙ ap (λ list. counted_keys m old.facts + count_by (is_fresh_key cmp m old.facts) list) ks_are
          ∙ sym (new_count cmp m law old.facts risen kept.rise staged.rise new.facts rise all);
      within = within;
    }

    woken_pending : (k : K) → IsKey cmp new k → ReadsGrown cmp m old new k → IsPending cmp new k
    woken_pending k key reads =
        let c = in_keys reads.at (grown_is_risen reads.at reads.grown) in
        let at = flat_listed (λ q. readers_of cmp new.readers q) ks reads.at k c (listed_new k reads.at key reads.read) in
        marked.marked k (subst (λ list. Contains list k) (sym woken_are) at) key (room_mid k key)

    reads_grown : (k : K) → Contains woken k → ReadsGrown cmp m old new k
    reads_grown k c =
        let from = flat_from (λ q. readers_of cmp new.readers q) ks k (subst (λ list. Contains list k) woken_are c) in
        let s = risen_key from.one from.listed in
        record {
          at = from.one;
          read = readers_kept.read (λ q j at. kept.read j q at) from.one k from.inner;
          grown = some_from_IsSome (fact_at cmp risen from.one) s
              (λ v e. subst (λ o. IsTrue (has_grown m (fact_at cmp old.facts from.one) o))
              (sym (all from.one ∙ ap (λ o. over o (fact_at cmp old.facts from.one)) e)) (staged.grown from.one v e));
        }

    only_woken : (k : K) → IsMarked cmp mid k ⊎ (Contains woken k × IsSome (fact_at cmp new.facts k))
        → IsPending cmp old k ⊎ (IsKey cmp new k × ReadsGrown cmp m old new k)
    only_woken k (inl was) = inl (room_kept.only k was)
    only_woken k (inr p) = inr (p.1, reads_grown k p.0)

    -- what was written of staged facts absorbs the pieces, by so many keys
    pub absorbed : Absorbs cmp m old pieces new (length ks)
    absorbed = record {
      joined = new_joined cmp m law old.facts risen kept.rise staged.rise new.facts rise all pieces staged;
      grown = ap length ks_are ∙ length-keys_of risen ∙ sym (new_grown cmp m law old.facts risen kept.rise staged.rise new.facts rise all pieces fit staged);
      stays = λ k p. marked.stays k (room_kept.stays k true p);
      wakes = woken_pending;
      only = λ k p. only_woken k (marked.only k p);
      out = out;
      limit = limit;
      kept = kept_new;
    }
