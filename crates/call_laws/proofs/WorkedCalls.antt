-- The worked graph of calls meets the definitions.
use Rattle.std.proofs.Common.{◌≡◌, ◌==◌, ◌||◌, ◌⊎◌, ℕ, zero, suc, ◌+◌, ◌<◌, inl, inr, Bool, true, false, List, [], ◌∷◌, ◌++◌, map, refl, sym, ap}
use Rattle.std.proofs.Common.{subst, ◌∙◌, arith}
use Rattle.std.specs.Prelude.{slice_index, slice_index_or}
use Rattle.std.specs.List.{Contains, sum}
use Rattle.std.proofs.lemmas.Bool.{eq-eqb}
use Rattle.std.proofs.lemmas.Bool.Decides.{eqb_tells}
use Rattle.std.proofs.lemmas.List.Elements.{All-nil, All-cons}
use Rattle.bt_base.specs.Graph.{has}
use Rattle.graph_laws.specs.Walk.{IsWalk}
use Rattle.graph_laws.specs.Nest.{Reaches}
use Rattle.call_laws.specs.Calls.{AreBelow, ReachesCycle, AreFollowed}
use Rattle.call_laws.specs.Needed.{IsNeeded, root, asked, IsFound}
use Rattle.call_laws.specs.Plain.{IsPlain, plain}
use Rattle.call_laws.specs.Reason.{IsReason, own, callee, IsUnbounded, EachCallGives}
use Rattle.call_laws.specs.Result.{HasResult, result, LooksAtCallees}
use Rattle.call_laws.specs.Rising.{IsReasonList}
use Rattle.call_laws.specs.Worked.{worked_graph, worked_calls, worked_follows, WorkedChainsEnd, worked_rule, WorkedResults, WorkedPlain, WorkedNeeded}
use Rattle.call_laws.specs.Worked.{worked_causes, WorkedReasons}
use Rattle.call_laws.proofs.Chains.{followed_end}
use Rattle.call_laws.proofs.Results.{results_one, results_away, plain_fit}
use Rattle.call_laws.proofs.Finds.{found_needed}
use Rattle.call_laws.proofs.Reasons.{bounded_call, reach_reason}
use Rattle.call_laws.proofs.Risings.{contains_first, contains_later, contains_cases, none_in_empty, reason_lists}

-- the members of a list of one number or of two
in_one : (n m : ℕ) → has (n ∷ []) m ≡ true → n ≡ m
in_one n m h = elim (eqb_tells m n) [
  | inl a ↦ sym a.1
  | inr a ↦ let f : (false || false) ≡ true = subst (λ (b : Bool). (b || false) ≡ true) a.0 h in cc
]

in_two : (n k m : ℕ) → has (n ∷ k ∷ []) m ≡ true → (n ≡ m) ⊎ (k ≡ m)
in_two n k m h = elim (eqb_tells m n) [
  | inl a ↦ inl (sym a.1)
  | inr a ↦ inr (in_one k m (subst (λ (b : Bool). (b || has (k ∷ []) m) ≡ true) a.0 h))
]

-- what walks from a set that has all callees of its members never leave
stays : (calls : ℕ → ℕ → Bool) (set : List ℕ) → ((n m : ℕ) → has set n ≡ true → calls n m ≡ true → has set m ≡ true)
    → (n m : ℕ) (between : List ℕ) → has set n ≡ true → IsWalk calls n (between ++ m ∷ []) → has set m ≡ true
stays calls set on n m [] h w = on n m h w.0
stays calls set on n m (k ∷ between) h w = stays calls set on k m between (on n k h w.0) w.1

two_on : (n m : ℕ) → has (2 ∷ []) n ≡ true → worked_calls n m ≡ true → has (2 ∷ []) m ≡ true
two_on n m h c = let e : 2 ≡ n = in_one 2 n h in let f : worked_calls 2 m ≡ true = subst (λ (x : ℕ). worked_calls x m ≡ true) (sym e) c in cc

one_two_on : (n m : ℕ) → has (1 ∷ 2 ∷ []) n ≡ true → worked_calls n m ≡ true → has (1 ∷ 2 ∷ []) m ≡ true
one_two_on n m h c = elim (in_two 1 2 n h) [
  | inl e ↦
      let f : has (2 ∷ []) m ≡ true = subst (λ (x : ℕ). worked_calls x m ≡ true) (sym e) c in
      let g : 2 ≡ m = in_one 2 m f in subst (λ (x : ℕ). has (1 ∷ 2 ∷ []) x ≡ true) g refl
  | inr e ↦ let f : worked_calls 2 m ≡ true = subst (λ (x : ℕ). worked_calls x m ≡ true) (sym e) c in cc
]

cycle_on : (n m : ℕ) → has (3 ∷ 4 ∷ []) n ≡ true → worked_calls n m ≡ true → has (3 ∷ 4 ∷ []) m ≡ true
cycle_on n m h c = elim (in_two 3 4 n h) [
  | inl e ↦
      let f : has (4 ∷ []) m ≡ true = subst (λ (x : ℕ). worked_calls x m ≡ true) (sym e) c in
      let g : 4 ≡ m = in_one 4 m f in subst (λ (x : ℕ). has (3 ∷ 4 ∷ []) x ≡ true) g refl
  | inr e ↦
      let f : has (3 ∷ []) m ≡ true = subst (λ (x : ℕ). worked_calls x m ≡ true) (sym e) c in
      let g : 3 ≡ m = in_one 3 m f in subst (λ (x : ℕ). has (3 ∷ 4 ∷ []) x ≡ true) g refl
]

-- a followed call is one of five
by_follows : (P : ℕ → ℕ → Type 0) → P 0 1 → P 0 2 → P 1 2 → P 5 2 → P 5 3 → (n m : ℕ) → worked_follows n m ≡ true → P n m
by_follows P a b c d e zero m h = elim (in_two 1 2 m h) [ inl f ↦ subst (P 0) f a | inr f ↦ subst (P 0) f b ]
by_follows P a b c d e (suc zero) m h = subst (P 1) (in_one 2 m h) c
by_follows P a b c d e (suc (suc zero)) m h = cc
by_follows P a b c d e (suc (suc (suc zero))) m h = cc
by_follows P a b c d e (suc (suc (suc (suc zero)))) m h = cc
by_follows P a b c d e (suc (suc (suc (suc (suc zero))))) m h = elim (in_two 2 3 m h) [ inl f ↦ subst (P 5) f d | inr f ↦ subst (P 5) f e ]
by_follows P a b c d e (suc (suc (suc (suc (suc (suc n)))))) m h = cc

no_way : (set : List ℕ) → ((n m : ℕ) → has set n ≡ true → worked_calls n m ≡ true → has set m ≡ true) → (n m : ℕ) → has set n ≡ true → has set m ≡ false
    → Reaches worked_calls n m → ⊥
no_way set on n m h o r = let i : has set m ≡ true = stays worked_calls set on n m r.between h r.walk in cc

worked_followed : AreFollowed worked_calls worked_follows
worked_followed = record {
  called = by_follows (λ n m. worked_calls n m ≡ true) refl refl refl refl refl;
  apart = by_follows (λ n m. Reaches worked_calls m n → ⊥) (no_way (1 ∷ 2 ∷ []) one_two_on 1 0 refl refl) (no_way (2 ∷ []) two_on 2 0 refl refl) (no_way
      (2 ∷ []) two_on 2 1 refl refl)
      (no_way (2 ∷ []) two_on 2 5 refl refl) (no_way (3 ∷ 4 ∷ []) cycle_on 3 5 refl refl);
}

worked_below : AreBelow worked_follows 6
worked_below = by_follows (λ n m. m < 6) (omega arith) (omega arith) (omega arith) (omega arith) (omega arith)

-- its followed calls end
pub chains : WorkedChainsEnd
chains = record { followed = worked_followed; below = worked_below; end = followed_end worked_calls worked_follows 6 worked_followed worked_below }

-- the results
abbrev worked_values : ℕ → ℕ
worked_values m = slice_index (4 ∷ 2 ∷ 1 ∷ []) m

result_two : HasResult worked_calls worked_rule 2 1
result_two = result worked_values refl (λ m c. cc)

result_one : HasResult worked_calls worked_rule 1 2
result_one = result worked_values refl (λ m c. subst (λ (x : ℕ). HasResult worked_calls worked_rule x (worked_values x)) (in_one 2 m c) result_two)

result_zero : HasResult worked_calls worked_rule 0 4
result_zero = result worked_values refl (λ m c. elim (in_two 1 2 m c) [
  | inl e ↦ subst (λ (x : ℕ). HasResult worked_calls worked_rule x (worked_values x)) e result_one
  | inr e ↦ subst (λ (x : ℕ). HasResult worked_calls worked_rule x (worked_values x)) e result_two
])

same_here : (n : ℕ) → (n == n) ≡ true
same_here n = eq-eqb n n refl

head_in : (x : ℕ) (xs : List ℕ) → has (x ∷ xs) x ≡ true
head_in x xs = ap (λ (b : Bool). b || has xs x) (same_here x)

or_true : (a b : Bool) → b ≡ true → (a || b) ≡ true
or_true true b e = refl
or_true false b e = e

later_in : (x : ℕ) (xs : List ℕ) (m : ℕ) → has xs m ≡ true → has (x ∷ xs) m ≡ true
later_in x xs m h = or_true (m == x) (has xs m) h

map_agree : (f g : ℕ → ℕ) (xs : List ℕ) → ((m : ℕ) → has xs m ≡ true → f m ≡ g m) → map f xs ≡ map g xs
map_agree f g [] h = refl
map_agree f g (x ∷ xs) h =
    let e : f x ≡ g x = h x (head_in x xs) in
    let r : map f xs ≡ map g xs = map_agree f g xs (λ m i. h m (later_in x xs m i)) in
    ap (λ (z : ℕ). z ∷ map f xs) e ∙ ap (λ (l : List ℕ). g x ∷ l) r

worked_looks : LooksAtCallees worked_calls worked_rule
worked_looks n f g h = ap (λ (l : List ℕ). 1 + sum l) (map_agree f g (slice_index_or worked_graph n []) h)

five_reaches : ReachesCycle worked_calls 5
five_reaches = record { member = 3; there = inr (record { between = []; walk = (refl, tt) }); round = record { between = 4 ∷ []; walk = (refl, (refl, tt)) } }

-- what reaches no call cycle comes to one result, and what reaches one to none
pub results : WorkedResults
results = record {
  result = result_zero;
  one = λ v r. results_one worked_calls worked_rule worked_looks 0 v 4 r result_zero;
  cycle = five_reaches;
  none = λ v r. results_away worked_calls worked_rule 5 v r five_reaches;
}

-- what is plain
plain_two : IsPlain worked_calls (λ n. true) 2
plain_two = plain refl (λ m c. cc)

plain_one : IsPlain worked_calls (λ n. true) 1
plain_one = plain refl (λ m c. subst (IsPlain worked_calls (λ n. true)) (in_one 2 m c) plain_two)

calls_below : AreBelow worked_calls 6
calls_below zero m c = elim (in_two 1 2 m c) [ inl e ↦ omega (arith, e) | inr e ↦ omega (arith, e) ]
calls_below (suc zero) m c = let e : 2 ≡ m = in_one 2 m c in omega (arith, e)
calls_below (suc (suc zero)) m c = cc
calls_below (suc (suc (suc zero))) m c = let e : 4 ≡ m = in_one 4 m c in omega (arith, e)
calls_below (suc (suc (suc (suc zero)))) m c = let e : 3 ≡ m = in_one 3 m c in omega (arith, e)
calls_below (suc (suc (suc (suc (suc zero))))) m c = elim (in_two 2 3 m c) [ inl e ↦ omega (arith, e) | inr e ↦ omega (arith, e) ]
calls_below (suc (suc (suc (suc (suc (suc n)))))) m c = cc

-- what reaches no call cycle is plain where all are fit, and what reaches one isn't
pub plains : WorkedPlain
plains = record {
  plain = plain refl (λ m c. elim (in_two 1 2 m c) [
    | inl e ↦ subst (IsPlain worked_calls (λ n. true)) e plain_one
    | inr e ↦ subst (IsPlain worked_calls (λ n. true)) e plain_two
  ]);
  other = λ p. ((plain_fit worked_calls (λ n. true) 6 calls_below 5).0 p).0 five_reaches;
}

-- what is needed
abbrev worked_asks : ℕ → List ℕ
worked_asks n = slice_index_or worked_graph n []

one_needed : IsNeeded (1 ∷ []) worked_asks 1
one_needed = root (contains_first 1 [])

two_needed : IsNeeded (1 ∷ []) worked_asks 2
two_needed = asked one_needed (contains_first 2 [])

only_in : (n k : ℕ) → Contains (n ∷ []) k → n ≡ k
only_in n k c = elim (contains_cases n [] k c) [ inl e ↦ e | inr d ↦ absurd (none_in_empty k d) ]

asked_found : (k l : ℕ) → Contains (1 ∷ 2 ∷ []) k → Contains (worked_asks k) l → Contains (1 ∷ 2 ∷ []) l
asked_found k l c a = elim (contains_cases 1 (2 ∷ []) k c) [
  | inl e ↦
      let d : Contains (2 ∷ []) l = subst (λ (x : ℕ). Contains (worked_asks x) l) (sym e) a in
      subst (Contains (1 ∷ 2 ∷ [])) (only_in 2 l d) (contains_later 1 (2 ∷ []) 2 (contains_first 2 []))
  | inr d ↦
      let e : 2 ≡ k = only_in 2 k d in
      absurd (none_in_empty l (subst (λ (x : ℕ). Contains (worked_asks x) l) (sym e) a))
]

worked_found : IsFound (1 ∷ []) worked_asks (1 ∷ 2 ∷ [])
worked_found = record {
  needed = All-cons (IsNeeded (1 ∷ []) worked_asks) 1 (2 ∷ []) one_needed (All-cons (IsNeeded (1 ∷ []) worked_asks) 2 [] two_needed (All-nil (IsNeeded
      (1 ∷ []) worked_asks)));
  begun = λ k c. subst (Contains (1 ∷ 2 ∷ [])) (only_in 1 k c) (contains_first 1 (2 ∷ []));
  asked = asked_found;
}

-- what is needed from one subprogram on
pub neededs : WorkedNeeded
neededs = record { found = worked_found; exact = found_needed (1 ∷ []) worked_asks (1 ∷ 2 ∷ []) worked_found }

-- the reasons
worked_each : EachCallGives worked_causes
worked_each c d e = (10 + d, same_here (10 + d))

three_reason : IsReason worked_causes 3 7
three_reason = own refl

none_two : (r : ℕ) → IsReason worked_causes 2 r → ⊥
none_two r (own e) = cc
none_two r (callee e g i) = cc

five_gives : (d r : ℕ) → 3 ≡ d → (r == 10 + d) ≡ true → 13 ≡ r
five_gives d r e g = elim (eqb_tells r (10 + d)) [
  | inl a ↦ let s : r ≡ 10 + d = a.1 in omega (arith, s, e)
  | inr a ↦ cc
]

five_only : (r : ℕ) → IsReason worked_causes 5 r → 13 ≡ r
five_only r (own e) = cc
five_only r (callee {d = d} {q = q} e g i) = elim (in_two 2 3 d e) [
  | inl f ↦ absurd (none_two q (subst (λ (x : ℕ). IsReason worked_causes x q) (sym f) i))
  | inr f ↦ five_gives d r f g
]

worked_list : IsReasonList worked_causes 5 (13 ∷ [])
worked_list = record {
  rising = λ k l. absurd (omega arith);
  members = λ r. (
    (λ c. subst (IsReason worked_causes 5) (only_in 13 r c) (callee {d = 3} refl refl three_reason)),
    (λ i. subst (Contains (13 ∷ [])) (five_only r i) (contains_first 13 [])),
  );
}

none_zero : IsUnbounded worked_causes 0 → ⊥
none_zero u =
    let b = bounded_call worked_causes worked_each in
    let two : IsUnbounded worked_causes 2 → ⊥ = (b 2).1 ((λ r. refl), (λ d e. cc)) in
    let one : IsUnbounded worked_causes 1 → ⊥ = (b 1).1 ((λ r. refl), (λ d e w. two (subst (IsUnbounded worked_causes) (sym (in_one 2 d e)) w))) in
    (b 0).1 (
      (λ r. refl),
      (λ d e w. elim (in_two 1 2 d e) [
        | inl f ↦ one (subst (IsUnbounded worked_causes) (sym f) w)
        | inr f ↦ two (subst (IsUnbounded worked_causes) (sym f) w)
      ]),
    ) u

-- the reasons of what calls into the cycle, and none of what doesn't
pub reasons : WorkedReasons
reasons = record {
  list = worked_list;
  one = λ other l. reason_lists worked_causes 5 other (13 ∷ []) l worked_list;
  reaches = (reach_reason worked_causes worked_each 5).0 (record { reason = 13; is = callee {d = 3} refl refl three_reason });
  none = none_zero;
}
