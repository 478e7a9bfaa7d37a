-- The calls of a core, from what absorbing pieces does.
use Rattle.std.proofs.Common.{◌≡◌, ℕ, ◌+◌, ◌<◌, ◌≤◌, Bool, true, false, not, cond, List, [], ◌∷◌, ◌++◌, length, Option, Some, None, is_some, Ordering}
use Rattle.std.proofs.Common.{IsSome, IsTrue, Contains, count_by, refl, sym, ap, ◌∙◌, subst, arith, inl, inr, ◌⊎◌, ⊎_elim, get_or, ltb, rules, tests}
use Rattle.std.proofs.Common.{IfSome}
use Rattle.std.proofs.lemmas.Bool.{cases_lt}
use Rattle.std.proofs.lemmas.List.{get_or_default}
use Rattle.std.proofs.lemmas.List.Sums.{position_or_len_is}
use Rattle.std.specs.List.{remove}
use Rattle.std.specs.Ordering.{is_eq, is_gt, is_lt, ordering_reverse}
use Rattle.std.specs.declared.cmp.Ordering.TheVariants.{Less, Equal, Greater}
use Rattle.flow_system.specs.Facts.{fact_at, KeysRise}
use Rattle.flow_system.specs.Laws.{IsLawful}
use Rattle.flow_system.specs.Rules.{Rules}
use Rattle.flow_system.specs.State.{AllFit, ContainsPiece, ContainsAll, IsBelow, HoldsDue, AllDue, IsClosed, IsDueGraph}
use Rattle.flow_core.specs.Absorb.{Absorbs}
use Rattle.flow_core.specs.Claim.{ClaimState, AnswerState, IsClaimOf, IsAnswerOf, IsFresh}
use Rattle.flow_core.specs.Core.{CoreState, IsKey, IsPending, IsIdle, IsKept, IsUnchanged, IsPart, IsSettled, pending, IsGood, IsGrowth, Joins, has_grown}
use Rattle.flow_core.specs.Core.{strike, without_place}
use Rattle.flow_core.specs.Event.{ReadsGrown, Takes, Merges, IsWoken, still, reads as woken_reads, stale, with_claim, struck, without_claim}
use Rattle.flow_core.specs.Core.{counted_keys}
use Rattle.flow_core.specs.Readers.{readers_of}
use Rattle.flow_core.specs.Queue.{IsMarked, IsLeast, HasRoom, with_mark}
use Rattle.flow_core.specs.Staged.{PiecesFit, IsCopy, AgreesAt}
use Rattle.flow_core.proofs.StateLemmas.{below_itself, joins_due, given_due, starts_due, starts_fit, gives_fit}
use Rattle.flow_core.proofs.EventLemmas.{merge_keeps, merge_keeps_part, claim_keeps, claim_keeps_part, back_keeps, back_keeps_part, unchanged_keeps}
use Rattle.flow_core.proofs.EventLemmas.{unchanged_keeps_part, same_is_unchanged}
use Rattle.flow_core.proofs.QueueLemmas.{some_when, some_from_IsSome, equal_from_is_eq, mark_room, mark_here, mark_stays, mark_only, rise_marked}

module _ {K V : Type 0} (cmp : K → K → Ordering) (m : Rules K V) (law : IsLawful cmp m) where
  -- two least keys are the same
  pub least_same : (marks : List (K × Bool)) (j k : K) → IsLeast cmp marks j → IsLeast cmp marks k → j ≡ k
  least_same marks j k a b = law.keys.exact j k (least_cases (cmp j k) refl (a.least k b.marked) (b.least j a.marked))
    where
      least_cases : (o : Ordering) → cmp j k ≡ o → is_gt (cmp j k) ≡ false → is_gt (cmp k j) ≡ false → cmp j k ≡ Equal
      least_cases Less is x y = let e : cmp k j ≡ Greater = law.keys.total.antisymm k j
          ∙ ap ordering_reverse is in let z : is_gt (cmp k j) ≡ true = ap is_gt e in absurd (cc)
      least_cases Equal is x y = is
      least_cases Greater is x y = let z : is_gt (cmp j k) ≡ true = ap is_gt is in absurd (cc)

  empty_facts : K → Option V
  empty_facts = fact_at cmp []

  -- a core without facts keeps what a core has to keep
  pub empty_kept : (limit : ℕ) (s : CoreState K V) → s.facts ≡ [] → s.marks ≡ [] → s.readers ≡ [] → s.count ≡ 0 → s.limit ≡ limit → KeysRise {V = V} cmp []
      → KeysRise {V = Bool} cmp [] → IsKept cmp m s
  empty_kept limit s facts marks readers count lim rise rise' = record {
    rise = subst (λ es. KeysRise cmp es) (sym facts) rise;
    marks_rise = subst (λ es. KeysRise cmp es) (sym marks) rise';
    room = λ k key. absurd (no_key k key);
    listed = λ k r key. absurd (no_key k key);
    read = λ k r at. let none : Contains [] k = subst (λ rs. Contains (readers_at rs r) k) readers at in absurd (omega (arith, none.1));
    count = count ∙ ap (counted_of) (sym facts);
    within = omega (arith, count);
  }
    where
      no_key : (k : K) → IsKey cmp s k → ⊥
      no_key k key = let f : false ≡ true = subst (λ es. is_some (fact_at cmp es k) ≡ true) facts key in cc

      readers_at : List (K × List K) → K → List K
      readers_at rs r = readers_of cmp rs r

      counted_of : List (K × V) → ℕ
      counted_of es = counted_keys m es

  -- a new core is good, and all its keys are pending
  pub new_pending : (old new : CoreState K V) (n : ℕ) → old.facts ≡ [] → Absorbs cmp m old m.starts new n → (k : K) → IsKey cmp new k → IsPending cmp new k
  new_pending old new n none a k key = a.wakes k key (record {
    at = k;
    read = law.looks.itself k;
    grown = some_from_IsSome (fact_at cmp new.facts k) key
        (λ v e. subst (λ o. IsTrue (has_grown m o (fact_at cmp new.facts k))) (sym (ap (λ es. fact_at cmp es k) none))
        (subst (λ o. IsTrue (has_grown m None o)) (sym e) refl));
  })

  -- a core of the start pieces is good
  pub new_good : (old new : CoreState K V) (n : ℕ) → old.facts ≡ [] → old.marks ≡ [] → Absorbs cmp m old m.starts new n → IsGood cmp m new
  new_good old new n none marks a = record {
    part = record {
      fit = a.joined.fit;
      due = joins_due cmp m law (fact_at cmp old.facts) (fact_at cmp new.facts) m.starts a.joined
          (λ k v e. let f : None ≡ Some v = sym (ap (λ es. fact_at cmp es k) none) ∙ e in absurd (cc)) (starts_due cmp m law);
      inside = λ k p. ⊎_elim (λ was. let f : None ≡ Some true = sym (ap (λ es. fact_at cmp es k) marks) ∙ was in absurd (cc)) (λ q. q.0) (a.only k p);
      kept = a.kept;
    };
    starts = a.joined.contained;
    settled = λ k key. pending (new_pending old new n none a k key);
  }

  -- what a call adds to a core
  pub growth_same : (s : CoreState K V) → IsPart cmp m s → IsGrowth cmp m s s
  growth_same s part = record { below = below_itself cmp m law (fact_at cmp s.facts) part.fit; due = λ h. h; inside = λ h. h; limit = refl }

  -- an unchanged core has grown by nothing
  pub growth_unchanged : (old new : CoreState K V) → IsPart cmp m old → IsUnchanged cmp m old new → IsGrowth cmp m old new
  growth_unchanged old new part same = record {
    below = subst (λ es. IsBelow m (fact_at cmp old.facts) (fact_at cmp es)) (sym same.facts) (below_itself cmp m law (fact_at cmp old.facts) part.fit);
    due = λ h. subst (λ es. HoldsDue m (fact_at cmp es)) (sym same.facts) h;
    inside = λ h k p. subst (λ es. IsSome (fact_at cmp es k)) (sym same.facts) (h k (same.pending k p));
    limit = same.limit;
  }

  -- a claim that is taken
  pub claim_of : (s : CoreState K V) (ks : List K) (claim : ClaimState K V) → IsPart cmp m s → IsLeast cmp s.marks claim.key → ks ≡ m.reads claim.key
      → IsCopy cmp s.facts ks claim.copies → IsClaimOf cmp m claim
  claim_of s ks claim part least reads copy = record {
    own = subst (λ o. IsSome o) (sym (same claim.key (law.looks.itself claim.key))) (part.inside claim.key least.marked);
    read = λ r there. subst (λ list. Contains list r) reads (copy.only r there);
    fit = λ r v e. part.fit r v (fact_of r v e);
    due = λ r v e. part.due r v (fact_of r v e);
  }
    where
      same : (r : K) → Contains (m.reads claim.key) r → fact_at cmp claim.copies r ≡ fact_at cmp s.facts r
      same r c = copy.same r (subst (λ list. Contains list r) (sym reads) c)

      fact_of : (r : K) (v : V) → fact_at cmp claim.copies r ≡ Some v → fact_at cmp s.facts r ≡ Some v
      fact_of r v e = sym (copy.same r (copy.only r (some_when _ v e))) ∙ e

  -- a claim of the least key with copies of what it reads takes it
  pub takes_of : (s t : CoreState K V) (ks : List K) (claim : ClaimState K V) → IsLeast cmp s.marks claim.key → ks ≡ m.reads claim.key
      → IsCopy cmp s.facts ks claim.copies → t ≡ with_claim cmp s claim.key → Takes cmp m s claim t
  takes_of s t ks claim least reads copy is = record {
    least = least;
    copies = λ r c. copy.same r (subst (λ list. Contains list r) (sym reads) c);
    read = λ r there. subst (λ list. Contains list r) reads (copy.only r there);
    state = is;
  }

  -- the core behind a claim is that with the claim
  pub took_state : (s : CoreState K V) (j k : K) (marks : List (K × Bool)) (list : List K) → j ≡ k → marks ≡ with_mark cmp s.marks k false
      → list ≡ s.out ++ j ∷ []
      → record { facts = s.facts; marks = marks; out = list; readers = s.readers; count = s.count; limit = s.limit } ≡ with_claim cmp s k
  took_state s j k marks list same is out_is =
      ap (λ (x : List (K × Bool)). record { facts = s.facts; marks = x; out = list; readers = s.readers; count = s.count; limit = s.limit }) is
      ∙ ap (λ (x : List K). record { facts = s.facts; marks = with_mark cmp s.marks k false; out = x; readers = s.readers; count = s.count; limit = s.limit })
      (out_is ∙ ap (λ x. s.out ++ x ∷ []) same)

  -- a claim only grows a core
  pub growth_claim : (s : CoreState K V) (k : K) → IsPart cmp m s → IsGrowth cmp m s (with_claim cmp s k)
  growth_claim s k part = record {
    below = below_itself cmp m law (fact_at cmp s.facts) part.fit;
    due = λ h. h;
    inside = λ h q p. (claim_keeps_part cmp m law s k part).inside q p;
    limit = refl;
  }

  -- a merge, from what is absorbed and whether the copies were fresh
  pub answer_fits : (answer : AnswerState K V) → IsAnswerOf cmp m answer → PiecesFit m answer.pieces
  answer_fits answer of = subst (λ pieces. PiecesFit m pieces) (sym of.pieces)
      (gives_fit cmp m law (fact_at cmp answer.claim.copies) of.claim.fit answer.claim.key)

  module _ (old mid : CoreState K V) (answer : AnswerState K V) (n : ℕ) (a : Absorbs cmp m old answer.pieces mid n) where
    by_absorb : (new : CoreState K V) (k : K) → IsPending cmp old k ⊎ (IsKey cmp mid k × ReadsGrown cmp m old mid k) → new.facts ≡ mid.facts
        → IsWoken cmp m old answer new k
    by_absorb new k (inl was) is = still was
    by_absorb new k (inr p) is = woken_reads
        (record {
          at = p.1.at;
          read = p.1.read;
          grown = subst (λ es. IsTrue (has_grown m (fact_at cmp old.facts p.1.at) (fact_at cmp es p.1.at))) (sym is)
              p.1.grown;
        })

    key_of : (k : K) → ((j : K) → IsPending cmp old j → IsKey cmp old j) → IsPending cmp old k ⊎ (IsKey cmp mid k × ReadsGrown cmp m old mid k)
        → IsKey cmp mid k
    key_of k inside (inl was) = some_from_IsSome (fact_at cmp old.facts k) (inside k was)
        (λ v e. some_when (fact_at cmp mid.facts k) (a.joined.below k v e).fact (a.joined.below k v e).found)
    key_of k inside (inr p) = p.0

    pub merges_fresh : IsPart cmp m old → IsFresh cmp m old.facts answer.claim → Merges cmp m old answer (struck cmp mid answer.claim.key) n
    merges_fresh part fresh = record {
      joined = a.joined;
      grown = a.grown;
      stays = a.stays;
      wakes = λ k key r. a.wakes k key (record { at = r.at; read = r.read; grown = r.grown });
      again = inl fresh;
      only = λ k p. (key_of k part.inside (a.only k p), by_absorb (struck cmp mid answer.claim.key) k (a.only k p) refl);
      out = ap (λ list. strike cmp list answer.claim.key) a.out;
      limit = a.limit;
      kept = record {
        rise = a.kept.rise;
        marks_rise = a.kept.marks_rise;
        room = a.kept.room;
        listed = a.kept.listed;
        read = a.kept.read;
        count =
            a.kept.count;
        within = a.kept.within;
      };
    }

    pub merges_stale : IsPart cmp m old → (IsFresh cmp m old.facts answer.claim → ⊥) → Merges cmp m old answer (without_claim cmp mid answer.claim.key) n
    merges_stale part not_fresh = record {
      joined = a.joined;
      grown = a.grown;
      stays = λ k p. stays_cases (is_some (fact_at cmp mid.facts key)) k (a.stays k p);
      wakes = λ k there r. stays_cases (is_some (fact_at cmp mid.facts key)) k (a.wakes k there (record { at = r.at; read = r.read; grown = r.grown }));
      again = inr (λ there. here_cases (is_some (fact_at cmp mid.facts key)) there (a.kept.room key there));
      only = λ k p. only_cases (is_some (fact_at cmp mid.facts key)) refl k p;
      out = ap (λ list. strike cmp list answer.claim.key) a.out;
      limit = a.limit;
      kept = record {
        rise = a.kept.rise;
        marks_rise = rise_cases (is_some (fact_at cmp mid.facts key));
        room = λ k there. room_cases (is_some (fact_at cmp mid.facts key)) k (a.kept.room k there);
        listed = a.kept.listed;
        read = a.kept.read;
        count = a.kept.count;
        within = a.kept.within;
      };
    }
      where
        key : K
        key = answer.claim.key

        stays_cases : (b : Bool) (k : K) → IsMarked cmp mid.marks k → IsMarked cmp (cond b (with_mark cmp mid.marks answer.claim.key true) mid.marks) k
        stays_cases true k p = mark_stays cmp law.keys.total mid.marks answer.claim.key k p
        stays_cases false k p = p

        here_cases : (b : Bool) → b ≡ true → HasRoom cmp mid.marks answer.claim.key
            → IsMarked cmp (cond b (with_mark cmp mid.marks answer.claim.key true) mid.marks) answer.claim.key
        here_cases true is room = mark_here cmp law.keys.total mid.marks answer.claim.key room
        here_cases false is room = cc

        rise_cases : (b : Bool) → KeysRise cmp (cond b (with_mark cmp mid.marks answer.claim.key true) mid.marks)
        rise_cases true = rise_marked cmp law.keys.total mid.marks answer.claim.key true a.kept.marks_rise
        rise_cases false = a.kept.marks_rise

        room_cases : (b : Bool) (k : K) → HasRoom cmp mid.marks k → HasRoom cmp (cond b (with_mark cmp mid.marks answer.claim.key true) mid.marks) k
        room_cases true k h = mark_room cmp law.keys.total mid.marks answer.claim.key true k h
        room_cases false k h = h

        from_mid : (k : K) → IsMarked cmp mid.marks k → IsKey cmp mid k × IsWoken cmp m old answer (without_claim cmp mid answer.claim.key) k
        from_mid k p = (key_of k part.inside (a.only k p), by_absorb (without_claim cmp mid answer.claim.key) k (a.only k p) refl)

        only_cases : (b : Bool) → is_some (fact_at cmp mid.facts answer.claim.key) ≡ b → (k : K)
            → IsMarked cmp (cond b (with_mark cmp mid.marks answer.claim.key true) mid.marks) k
            → IsKey cmp mid k × IsWoken cmp m old answer (without_claim cmp mid answer.claim.key) k
        only_cases true is k p = ⊎_elim (λ was. from_mid k was)
            (λ t. let e : answer.claim.key ≡ k = law.keys.exact answer.claim.key k (equal_from_is_eq (cmp answer.claim.key k) t) in
            (subst (λ x. IsKey cmp mid x) e is, stale (sym e) not_fresh)) (mark_only cmp law.keys.total mid.marks answer.claim.key k p)
        only_cases false is k p = from_mid k p

  -- a merge only grows a core
  pub growth_merge : (old new : CoreState K V) (answer : AnswerState K V) (n : ℕ) → IsPart cmp m old → IsAnswerOf cmp m answer → Merges cmp m old answer new n
      → IsGrowth cmp m old new
  growth_merge old new answer n part of merges = record {
    below = merges.joined.below;
    due = λ h. (merge_keeps_part cmp m law old new answer n part of merges).due;
    inside = λ h k p. (merges.only k p).0;
    limit = merges.limit;
  }

-- the list without its first of a key, found or not
module _ {K : Type 0} (cmp : K → K → Ordering) where
  -- the first of a list that is a key is the one that is struck
  pub struck_at : (out : List K) (k : K) (i : ℕ) → i < length out → ((j : ℕ) (d : K) → j < i → is_eq (cmp k (get_or out j d)) ≡ false) → (x : K)
      → x ≡ get_or out i x → Equal ≡ cmp k x → remove out i ≡ strike cmp out k
  struck_at out k i within before x at is =
      let here : is_eq (cmp k (get_or out i x)) ≡ true = subst (λ y. is_eq (cmp k y) ≡ true) at (ap is_eq (sym is)) in
      let p = position_or_len_is (λ q. is_eq (cmp k q)) out i x (omega (arith, within)) (λ j h. before j x h) (λ h. here) in
      let t : ltb i (length out) ≡ true = search (rules, tests, within) in
      ap (λ b. without_place out (cond b (Some i) None)) (sym t) ∙ ap (λ n. without_place out (cond (ltb n (length out)) (Some n) None)) (sym p)

  -- a list without a key stays as it is where that is struck
  pub struck_none : (out : List K) (k : K) (i : ℕ) → length out ≤ i → ((j : ℕ) (d : K) → j < i → is_eq (cmp k (get_or out j d)) ≡ false)
      → out ≡ strike cmp out k
  struck_none [] k i past before = refl
  struck_none (a ∷ out) k i past before =
      let p = position_or_len_is (λ q. is_eq (cmp k q)) (a ∷ out) (length (a ∷ out)) a (omega arith) (λ j h. before j a (omega (arith, past, h)))
      (λ h. absurd (omega (arith, h))) in
      let t : ltb (length (a ∷ out)) (length (a ∷ out)) ≡ false = search (rules, tests) in
      ap (λ b. without_place (a ∷ out) (cond b (Some (length (a ∷ out))) None)) (sym t)
      ∙ ap (λ n. without_place (a ∷ out) (cond (ltb n (length (a ∷ out))) (Some n) None)) (sym p)

  -- one place more that isn't the key's
  pub before_more : (out : List K) (k : K) (i : ℕ) (x : K) → i < length out → x ≡ get_or out i x → is_eq (cmp k x) ≡ false
      → ((j : ℕ) (d : K) → j < i → is_eq (cmp k (get_or out j d)) ≡ false) → (j : ℕ) (d : K) → j < i + 1 → is_eq (cmp k (get_or out j d)) ≡ false
  before_more out k i x within at not_here before j d h = ⊎_elim (λ earlier. before j d earlier)
      (λ e. subst (λ n. is_eq (cmp k (get_or out n d)) ≡ false) (sym e)
      (subst (λ y. is_eq (cmp k y) ≡ false) (at ∙ get_or_default out i x d within) not_here)) (last_or_before j i h)
    where
      last_or_before : (a b : ℕ) → a < b + 1 → (a < b) ⊎ (a ≡ b)
      last_or_before a b h = grind (arith, cases_lt a b)

-- keys that don't compare as equal test so
pub not_equal_is_eq : (r o : Ordering) → r ≡ o → (r ≡ Equal → ⊥) → is_eq o ≡ false
not_equal_is_eq r Less e h = refl
not_equal_is_eq r Equal e h = absurd (h e)
not_equal_is_eq r Greater e h = refl

module _ {K V : Type 0} (cmp : K → K → Ordering) (m : Rules K V) (law : IsLawful cmp m) where
  -- a merge of an answer whose copies still are the facts
  pub merged_fresh : (old mid new : CoreState K V) (answer : AnswerState K V) (n : ℕ) (pieces : List (K × V)) (key : K) (copies facts : List (K × V))
      (ks : List K) → pieces ≡ answer.pieces → key ≡ answer.claim.key → copies ≡ answer.claim.copies → facts ≡ old.facts → ks ≡ m.reads key
      → Absorbs cmp m old pieces mid n → IsPart cmp m old → AgreesAt cmp copies facts ks → new ≡ struck cmp mid key → Merges cmp m old answer new n
  merged_fresh old mid new answer n pieces key copies facts ks ep ek ec ef er a part agree is =
      subst (λ s. Merges cmp m old answer s n) (sym (is ∙ ap (struck cmp mid) ek))
      (merges_fresh cmp m law old mid answer n (subst (λ list. Absorbs cmp m old list mid n) ep a) part
      (λ r listed. ap (λ es. fact_at cmp es r) (sym ec) ∙ agree r (subst (λ list. Contains list r) (sym (er ∙ ap m.reads ek)) listed) ∙ ap
      (λ es. fact_at cmp es r) ef))

  -- a merge of an answer whose copies are old: its key is pending again
  pub merged_stale : (old mid new : CoreState K V) (answer : AnswerState K V) (n : ℕ) (pieces : List (K × V)) (key : K) (copies facts : List (K × V))
      (ks : List K) → pieces ≡ answer.pieces → key ≡ answer.claim.key → copies ≡ answer.claim.copies → facts ≡ old.facts → ks ≡ m.reads key
      → Absorbs cmp m old pieces mid n → IsPart cmp m old → (AgreesAt cmp copies facts ks → ⊥) → new ≡ without_claim cmp mid key → Merges cmp m old answer new n
  merged_stale old mid new answer n pieces key copies facts ks ep ek ec ef er a part differ is =
      subst (λ s. Merges cmp m old answer s n) (sym (is ∙ ap (without_claim cmp mid) ek))
      (merges_stale cmp m law old mid answer n (subst (λ list. Absorbs cmp m old list mid n) ep a) part
      (λ fresh. differ (λ r listed. ap (λ es. fact_at cmp es r) ec ∙ fresh r (subst (λ list. Contains list r) (er ∙ ap m.reads ek) listed) ∙ ap
      (λ es. fact_at cmp es r) (sym ef))))

  -- the pieces of an answer fit
  pub pieces_fit : (answer : AnswerState K V) (pieces : List (K × V)) → pieces ≡ answer.pieces → IsAnswerOf cmp m answer → PiecesFit m pieces
  pieces_fit answer pieces e of = subst (λ list. PiecesFit m list) (sym e) (answer_fits cmp m law answer of)

-- a queue that has a least key has a marked one
pub busy_least : {K : Type 0} (cmp : K → K → Ordering) (marks : List (K × Bool)) (o : Option K) → is_some o ≡ true → IfSome o (λ k. IsLeast cmp marks k)
    → ((k : K) → IsMarked cmp marks k → ⊥) → ⊥
busy_least cmp marks None s l nothing = cc
busy_least cmp marks (Some k) s l nothing = nothing k l.marked
