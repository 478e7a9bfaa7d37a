-- Each event keeps a good core good, and an idle good core is the due graph.
use Rattle.std.proofs.Common.{◌≡◌, ℕ, ◌<◌, ◌≤◌, ◌+◌, Bool, true, false, not, cond, List, [], ◌∷◌, ◌++◌, length, Option, Some, None, is_some, Ordering}
use Rattle.std.proofs.Common.{IsSome, IsTrue, Contains, count_by, refl, sym, ap, ◌∙◌, subst, arith, inl, inr, ◌⊎◌, zero, suc, ltb, ⊎_elim, get_or}
use Rattle.std.proofs.lemmas.List.{get_or_default}
use Rattle.std.proofs.lemmas.List.Elements.{Contains-append_right, Contains-append_cases, Contains-push, Contains-append_left, Contains-get_or}
use Rattle.std.proofs.lemmas.List.Sorted.{IsPermutation-remove, Contains-permutation}
use Rattle.std.proofs.lemmas.List.Sums.{passes_at_first}
use Rattle.std.specs.Ordering.{is_eq}
use Rattle.std.specs.List.{position, position_or_len, remove}
use borrow.Author.Tests.{ltb-true}
use Rattle.flow_system.specs.Facts.{fact_at, KeysRise}
use Rattle.flow_system.specs.Laws.{IsLawful}
use Rattle.flow_system.specs.Rules.{Rules}
use Rattle.flow_system.specs.State.{AllFit, ContainsPiece, ContainsAll, IsBelow, IsClosed, IsDue, AllDue, HoldsDue, IsDueGraph}
use Rattle.flow_core.specs.Claim.{ClaimState, AnswerState, IsClaimOf, IsAnswerOf, IsFresh}
use Rattle.flow_core.specs.Core.{CoreState, IsKey, IsPending, IsIdle, IsKept, IsUnchanged, IsPart, IsSettled, pending, out, given, IsGood, IsGrowth, Joins}
use Rattle.flow_core.specs.Core.{has_grown, strike, without_place}
use Rattle.flow_core.specs.Event.{Event, take, merge, give_back, with_claim, without_claim, Takes, ReadsGrown, Merges, Follows, took, merged, given_back}
use Rattle.flow_core.specs.Event.{refused, IsRun}
use Rattle.flow_core.specs.Queue.{with_mark, IsMarked, HasRoom}
use Rattle.flow_core.proofs.StateLemmas.{piece_onward, below_itself, below_onward, all_onward, gives_fit, starts_fit, given_due, joins_due, same_gives}
use Rattle.flow_core.proofs.QueueLemmas.{some_when, some_from_IsSome, equal_from_is_eq, rise_marked, mark_room, mark_here, mark_stays, mark_only}
use Rattle.flow_core.proofs.QueueLemmas.{clear_stays, clear_only}

true_or_false : (b : Bool) → (b ≡ true) ⊎ (b ≡ false)
true_or_false true = inl refl
true_or_false false = inr refl

not_true : (b : Bool) → not b ≡ false → b ≡ true
not_true true h = refl
not_true false h = cc

contains_single : {X : Type 0} (x y : X) → Contains (x ∷ []) y → x ≡ y
contains_single x y (zero, below, is) = is
contains_single x y (suc i, below, is) = absurd (omega arith)

-- some key of the list has a fact that has grown, or none has
data AnyGrown {K V : Type 0} (m : Rules K V) (old new : K → Option V) (keys : List K) : Type 0 where
  some_grown : (r : K) → Contains keys r → IsTrue (has_grown m (old r) (new r)) → AnyGrown m old new keys
  none_grown : ((r : K) → Contains keys r → has_grown m (old r) (new r) ≡ false) → AnyGrown m old new keys

get_or_again : {X : Type 0} (xs : List X) (i : ℕ) (d : X) → i < length xs → get_or xs i d ≡ get_or xs i (get_or xs i d)
get_or_again xs i d h = get_or_default xs i d (get_or xs i d) h

module _ {K V : Type 0} (cmp : K → K → Ordering) (m : Rules K V) (law : IsLawful cmp m) where
  same_key : (j k : K) → is_eq (cmp j k) ≡ true → j ≡ k
  same_key j k h = law.keys.exact j k (equal_from_is_eq (cmp j k) h)

  any_grown : (old new : K → Option V) (keys : List K) → AnyGrown m old new keys
  any_grown old new [] = none_grown (λ r listed. absurd (omega (arith, listed.1)))
  any_grown old new (k ∷ keys) = grown_cases (true_or_false (has_grown m (old k) (new k))) (any_grown old new keys)
    where
      grown_cases : (has_grown m (old k) (new k) ≡ true) ⊎ (has_grown m (old k) (new k) ≡ false) → AnyGrown m old new keys → AnyGrown m old new (k ∷ keys)
      grown_cases (inl t) rest = some_grown k (Contains-append_left (k ∷ []) keys k (Contains-push [] k)) t
      grown_cases (inr f) (some_grown r listed t) = some_grown r (Contains-append_right (k ∷ []) keys r listed) t
      grown_cases (inr f) (none_grown all) = none_grown
          (λ r listed. ⊎_elim (λ here. subst (λ x. has_grown m (old x) (new x) ≡ false) (contains_single k r here) f) (λ later. all r later)
          (Contains-append_cases (k ∷ []) keys r listed))

  -- a fact that hasn't grown is the same
  same_fact : (old new : K → Option V) → AllFit m old → AllFit m new → IsBelow m old new → (r : K) → has_grown m (old r) (new r) ≡ false → old r ≡ new r
  same_fact old new fo fn below r h = fact_cases (old r) (new r) refl refl h
    where
      fact_cases : (a b : Option V) → old r ≡ a → new r ≡ b → has_grown m a b ≡ false → old r ≡ new r
      fact_cases None None ea eb g = ea ∙ sym eb
      fact_cases None (Some v) ea eb g = cc
      fact_cases (Some u) None ea eb g = let p = below r u ea in let e = p.found in cc
      fact_cases (Some u) (Some w) ea eb g =
          let p = below r u ea in
          let fact : p.fact ≡ w = cc in
          let up : IsTrue (m.at_most u w) = subst (λ x. IsTrue (m.at_most u x)) fact p.above in
          let same : u ≡ w = law.order.both r u w (fo r u ea) (fn r w eb) up (not_true (m.at_most w u) g) in
          ea ∙ ap Some same ∙ sym eb

  -- the facts of a good core that is idle are the due graph
  pub idle_is_due : (s : CoreState K V) → IsGood cmp m s → IsIdle cmp s → IsDueGraph m (fact_at cmp s.facts)
  idle_is_due s good idle = record {
    closed = record {
      fit = good.part.fit;
      starts = good.starts;
      given = λ k key. idle_cases k (good.settled k key);
    };
    least = good.part.due;
  }
    where
      idle_cases : (k : K) → IsSettled cmp m s k → ContainsAll m (fact_at cmp s.facts) (m.gives k (fact_at cmp s.facts))
      idle_cases k (pending p) = absurd (idle.nothing k p)
      idle_cases k (out c) = let none : Contains [] k = subst (λ list. Contains list k) idle.none_out c in absurd (omega (arith, none.1))
      idle_cases k (given g) = g

  -- striking a key leaves all others
  struck : (keys : List K) (k q : K) → Contains keys q → Contains (strike cmp keys k) q ⊎ (k ≡ q)
  struck keys k q listed = struck_cases (ltb (position_or_len test keys) (length keys)) refl
    where
      test : K → Bool
      test x = is_eq (cmp k x)

      place : ℕ
      place = position_or_len test keys

      struck_cases : (b : Bool) → ltb place (length keys) ≡ b → Contains (without_place keys (cond b (Some place) None)) q ⊎ (k ≡ q)
      struck_cases true t =
          let within : position_or_len test keys < length keys = ltb-true _ _ t in
          let here : K = get_or keys (position_or_len test keys) q in
          let is : here ≡ get_or keys (position_or_len test keys) here = get_or_again keys (position_or_len test keys) q within in
          let passes = passes_at_first test keys q within in
          let listed' = Contains-permutation keys (here ∷ remove keys (position_or_len test keys)) q
          (IsPermutation-remove keys (position_or_len test keys) here within is) listed in
          ⊎_elim (λ first. inr (same_key k here passes ∙ contains_single here q first)) (λ rest. inl rest)
          (Contains-append_cases (here ∷ []) (remove keys (position_or_len test keys)) q listed')
      struck_cases false t = inl listed

  -- what a key gave over the old facts it gives over the new ones, unless it reads what has grown
  still_given : (old new : K → Option V) → AllFit m old → AllFit m new → IsBelow m old new → (k : K)
      → ((r : K) → Contains (m.reads k) r → has_grown m (old r) (new r) ≡ false) → ContainsAll m new (m.gives k old) → ContainsAll m new (m.gives k new)
  still_given old new fo fn below k none has =
      subst (λ pieces. ContainsAll m new pieces) (same_gives cmp m law old new fo fn k (λ r listed. same_fact old new fo fn below r (none r listed))) has

  -- a merge keeps what a part has to keep
  pub merge_keeps_part : (old new : CoreState K V) (answer : AnswerState K V) (n : ℕ) → IsPart cmp m old → IsAnswerOf cmp m answer
      → Merges cmp m old answer new n → IsPart cmp m new
  merge_keeps_part old new answer n part of event = record {
    fit = event.joined.fit;
    due = joins_due cmp m law (fact_at cmp old.facts) (fact_at cmp new.facts) answer.pieces event.joined part.due
        (subst (λ pieces. AllDue m pieces) (sym of.pieces) (given_due cmp m law (fact_at cmp answer.claim.copies) of.claim.fit of.claim.due answer.claim.key
        of.claim.own));
    inside = λ k p. (event.only k p).0;
    kept = event.kept;
  }

  merge_settles : (old new : CoreState K V) (answer : AnswerState K V) (n : ℕ) → IsGood cmp m old → IsAnswerOf cmp m answer → Merges cmp m old answer new n
      → (k : K) → IsKey cmp new k → IsSettled cmp m new k
  merge_settles old new answer n good of event k key = by_reads (any_grown o w (m.reads k))
    where
      o : K → Option V
      o = fact_at cmp old.facts

      w : K → Option V
      w = fact_at cmp new.facts

      by_out : ((r : K) → Contains (m.reads k) r → has_grown m (o r) (w r) ≡ false)
          → Contains (strike cmp old.out answer.claim.key) k ⊎ (answer.claim.key ≡ k) → IsSettled cmp m new k
      by_out none (inl c) = out (subst (λ list. Contains list k) (sym event.out) c)
      by_out none (inr is) = ⊎_elim
          (λ fresh. given (still_given o w good.part.fit event.joined.fit event.joined.below k none
          (subst (λ j. ContainsAll m w (m.gives j o)) is
          (subst (λ pieces. ContainsAll m w pieces) (of.pieces ∙ same_gives cmp m law (fact_at cmp answer.claim.copies) o of.claim.fit good.part.fit
          answer.claim.key fresh) event.joined.contained))))
          (λ again. pending (subst (λ j. IsPending cmp new j) is (again (subst (λ j. IsKey cmp new j) (sym is) key))))
          event.again

      by_old : ((r : K) → Contains (m.reads k) r → has_grown m (o r) (w r) ≡ false) → IsSettled cmp m old k → IsSettled cmp m new k
      by_old none (pending p) = pending (event.stays k p)
      by_old none (out c) = by_out none (struck old.out answer.claim.key k c)
      by_old none (given g) = given
          (still_given o w good.part.fit event.joined.fit event.joined.below k none
          (all_onward cmp m law o w good.part.fit event.joined.fit event.joined.below (m.gives k o) (gives_fit cmp m law o good.part.fit k) g))

      by_reads : AnyGrown m o w (m.reads k) → IsSettled cmp m new k
      by_reads (some_grown r listed t) = pending (event.wakes k key (record { at = r; read = listed; grown = t }))
      by_reads (none_grown all) = by_old all
          (good.settled k (subst (λ fact. IsSome fact) (sym (same_fact o w good.part.fit event.joined.fit event.joined.below k (all k (law.looks.itself k))))
          key))

  -- a merge keeps a good core good
  pub merge_keeps : (old new : CoreState K V) (answer : AnswerState K V) (n : ℕ) → IsGood cmp m old → IsAnswerOf cmp m answer → Merges cmp m old answer new n
      → IsGood cmp m new
  merge_keeps old new answer n good of event = record {
    part = merge_keeps_part old new answer n good.part of event;
    starts = all_onward cmp m law (fact_at cmp old.facts) (fact_at cmp new.facts) good.part.fit event.joined.fit event.joined.below m.starts
        (starts_fit cmp m law) good.starts;
    settled = merge_settles old new answer n good of event;
  }

  -- a key goes out
  pub claim_keeps_part : (s : CoreState K V) (k : K) → IsPart cmp m s → IsPart cmp m (with_claim cmp s k)
  claim_keeps_part s k part = record {
    fit = part.fit;
    due = part.due;
    inside = λ q p. part.inside q (clear_only cmp law.keys.total s.marks k q p);
    kept = record {
      rise = part.kept.rise;
      marks_rise = rise_marked cmp law.keys.total s.marks k false part.kept.marks_rise;
      room = λ q key. mark_room cmp law.keys.total s.marks k false q (part.kept.room q key);
      listed = part.kept.listed;
      read = part.kept.read;
      count = part.kept.count;
      within = part.kept.within;
    };
  }

  -- a claim keeps a good core good
  pub claim_keeps : (s : CoreState K V) (k : K) → IsGood cmp m s → IsGood cmp m (with_claim cmp s k)
  claim_keeps s k good = record {
    part = claim_keeps_part s k good.part;
    starts = good.starts;
    settled = λ q key. claim_cases q (good.settled q key);
  }
    where
      claim_cases : (q : K) → IsSettled cmp m s q → IsSettled cmp m (with_claim cmp s k) q
      claim_cases q (pending p) = ⊎_elim (λ still. pending still)
          (λ is. out (subst (λ x. Contains (s.out ++ k ∷ []) x) (same_key k q is) (Contains-push s.out k))) (clear_stays cmp law.keys.total s.marks k q p)
      claim_cases q (out c) = out (Contains-append_left s.out (k ∷ []) q c)
      claim_cases q (given g) = given g

  -- a key comes back: its mark is set where the facts have it
  back_marks : CoreState K V → K → List (K × Bool)
  back_marks s k = cond (is_some (fact_at cmp s.facts k)) (with_mark cmp s.marks k true) s.marks

  -- a claim that is given back keeps what a part has to keep
  pub back_keeps_part : (s : CoreState K V) (k : K) → IsPart cmp m s → IsPart cmp m (without_claim cmp s k)
  back_keeps_part s k part = record {
    fit = part.fit;
    due = part.due;
    inside = λ q p. inside_cases (is_some (fact_at cmp s.facts k)) refl q p;
    kept = record {
      rise = part.kept.rise;
      marks_rise = rise_cases (is_some (fact_at cmp s.facts k));
      room = λ q key. room_cases (is_some (fact_at cmp s.facts k)) q (part.kept.room q key);
      listed = part.kept.listed;
      read = part.kept.read;
      count = part.kept.count;
      within = part.kept.within;
    };
  }
    where
      inside_cases : (b : Bool) → is_some (fact_at cmp s.facts k) ≡ b → (q : K) → IsMarked cmp (cond b (with_mark cmp s.marks k true) s.marks) q → IsKey cmp s q
      inside_cases true is q p = ⊎_elim (λ was. part.inside q was) (λ here. subst (λ x. IsKey cmp s x) (same_key k q here) is)
          (mark_only cmp law.keys.total s.marks k q p)
      inside_cases false is q p = part.inside q p

      rise_cases : (b : Bool) → KeysRise cmp (cond b (with_mark cmp s.marks k true) s.marks)
      rise_cases true = rise_marked cmp law.keys.total s.marks k true part.kept.marks_rise
      rise_cases false = part.kept.marks_rise

      room_cases : (b : Bool) (q : K) → HasRoom cmp s.marks q → HasRoom cmp (cond b (with_mark cmp s.marks k true) s.marks) q
      room_cases true q h = mark_room cmp law.keys.total s.marks k true q h
      room_cases false q h = h

  -- a claim that is given back keeps a good core good
  pub back_keeps : (s : CoreState K V) (k : K) → IsGood cmp m s → IsGood cmp m (without_claim cmp s k)
  back_keeps s k good = record {
    part = back_keeps_part s k good.part;
    starts = good.starts;
    settled = λ q key. back_cases q key (good.settled q key);
  }
    where
      still_marked : (b : Bool) (q : K) → IsMarked cmp s.marks q → IsMarked cmp (cond b (with_mark cmp s.marks k true) s.marks) q
      still_marked true q p = mark_stays cmp law.keys.total s.marks k q p
      still_marked false q p = p

      marked_here : (b : Bool) → b ≡ true → HasRoom cmp s.marks k → IsMarked cmp (cond b (with_mark cmp s.marks k true) s.marks) k
      marked_here true is room = mark_here cmp law.keys.total s.marks k room
      marked_here false is room = cc

      back_cases : (q : K) → IsKey cmp s q → IsSettled cmp m s q → IsSettled cmp m (without_claim cmp s k) q
      back_cases q key (pending p) = pending (still_marked (is_some (fact_at cmp s.facts k)) q p)
      back_cases q key (out c) = ⊎_elim (λ left. out left)
          (λ is. let key' : IsKey cmp s k = subst (λ x. IsKey cmp s x) (sym is) key in pending
          (subst (λ x. IsMarked cmp (without_claim cmp s k).marks x) is (marked_here (is_some (fact_at cmp s.facts k)) key' (good.part.kept.room k key'))))
          (struck s.out k q c)
      back_cases q key (given g) = given g

  -- an unchanged part keeps what it has to keep
  pub unchanged_keeps_part : (old new : CoreState K V) → IsUnchanged cmp m old new → IsPart cmp m old → IsPart cmp m new
  unchanged_keeps_part old new same part = record {
    fit = subst (λ facts. AllFit m (fact_at cmp facts)) (sym same.facts) part.fit;
    due = subst (λ facts. HoldsDue m (fact_at cmp facts)) (sym same.facts) part.due;
    inside = λ q p. subst (λ facts. IsSome (fact_at cmp facts q)) (sym same.facts) (part.inside q (same.pending q p));
    kept = same.kept part.kept;
  }

  -- an unchanged core stays good
  pub unchanged_keeps : (old new : CoreState K V) → IsUnchanged cmp m old new → IsGood cmp m old → IsGood cmp m new
  unchanged_keeps old new same good = record {
    part = unchanged_keeps_part old new same good.part;
    starts = subst (λ facts. ContainsAll m (fact_at cmp facts) m.starts) (sym same.facts) good.starts;
    settled = λ q key. unchanged_cases q (good.settled q (subst (λ facts. IsSome (fact_at cmp facts q)) same.facts key));
  }
    where
      unchanged_cases : (q : K) → IsSettled cmp m old q → IsSettled cmp m new q
      unchanged_cases q (pending p) = pending (same.stays q p)
      unchanged_cases q (out c) = out (subst (λ list. Contains list q) (sym same.out) c)
      unchanged_cases q (given g) = given (subst (λ facts. ContainsAll m (fact_at cmp facts) (m.gives q (fact_at cmp facts))) (sym same.facts) g)

  -- a core is unchanged against itself
  pub same_is_unchanged : (s : CoreState K V) → IsUnchanged cmp m s s
  same_is_unchanged s = record { facts = refl; pending = λ k p. p; stays = λ k p. p; out = refl; limit = refl; kept = λ kept. kept }

  event_keeps : (event : Event K V) (old new : CoreState K V) → IsGood cmp m old → Follows cmp m event old new → IsGood cmp m new
  event_keeps event old new good (took claim is takes) = subst (λ s. IsGood cmp m s) (sym takes.state) (claim_keeps old claim.key good)
  event_keeps event old new good (merged answer n is of merges) = merge_keeps old new answer n good of merges
  event_keeps event old new good (given_back claim is of same) = subst (λ s. IsGood cmp m s) (sym same) (back_keeps old claim.key good)
  event_keeps event old new good (refused same) = unchanged_keeps old new same good

  event_grows : (event : Event K V) (old new : CoreState K V) → IsGood cmp m old → Follows cmp m event old new
      → IsBelow m (fact_at cmp old.facts) (fact_at cmp new.facts)
  event_grows event old new good (took claim is takes) = subst (λ s. IsBelow m (fact_at cmp old.facts) (fact_at cmp s.facts)) (sym takes.state)
      (below_itself cmp m law (fact_at cmp old.facts) good.part.fit)
  event_grows event old new good (merged answer n is of merges) = merges.joined.below
  event_grows event old new good (given_back claim is of same) = subst (λ s. IsBelow m (fact_at cmp old.facts) (fact_at cmp s.facts)) (sym same)
      (below_itself cmp m law (fact_at cmp old.facts) good.part.fit)
  event_grows event old new good (refused same) = subst (λ facts. IsBelow m (fact_at cmp old.facts) (fact_at cmp facts)) (sym same.facts)
      (below_itself cmp m law (fact_at cmp old.facts) good.part.fit)

  -- every run from a good state ends in a good state, and no fact has shrunk
  pub run_keeps : (events : List (Event K V)) (first last : CoreState K V) → IsGood cmp m first → IsRun cmp m events first last
      → IsGood cmp m last × IsBelow m (fact_at cmp first.facts) (fact_at cmp last.facts)
  run_keeps [] first last good run = subst (λ s. IsGood cmp m s × IsBelow m (fact_at cmp first.facts) (fact_at cmp s.facts)) (sym run)
      (good, below_itself cmp m law (fact_at cmp first.facts) good.part.fit)
  run_keeps (event ∷ events) first last good run =
      let next = run.0 in
      let good' = event_keeps event first next good run.1 in
      let rest = run_keeps events next last good' run.2 in (
        rest.0,
        below_onward cmp m law (fact_at cmp first.facts) (fact_at cmp next.facts) (fact_at cmp last.facts) good.part.fit good'.part.fit rest.0.part.fit
            (event_grows event first next good run.1) rest.1,
      )
