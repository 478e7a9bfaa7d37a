-- Results that are made from those of the callees, and the plain subprograms as one case.
use Rattle.std.proofs.Common.{◌≡◌, ℕ, zero, suc, ◌<◌, ◌⊎◌, inl, inr, Bool, true, false, List, [], ◌∷◌, ◌++◌, length, refl, sym, ap, subst, ◌∙◌, arith}
use Rattle.std.proofs.lemmas.Bool.{cases_lt}
use Rattle.graph_laws.specs.Walk.{IsWalk}
use Rattle.call_laws.specs.Calls.{AreBelow, LeadsTo, ReachesCycle}
use Rattle.call_laws.specs.Result.{HasResult, result, HasSome, LooksAtCallees, ResultsAreOne, ResultsOrCycles, ResultsReachNoCycle}
use Rattle.call_laws.specs.Plain.{IsPlain, plain, PlainReachTheFit}
use Rattle.call_laws.proofs.Chains.{CallsOne, cycle_from_callee, long_reaches}

-- results of any kind are one
pub one_result : {V : Type 0} (calls : ℕ → ℕ → Bool) (rule : ℕ → (ℕ → V) → V) → LooksAtCallees calls rule
    → (n : ℕ) (v w : V) → HasResult calls rule n v → HasResult calls rule n w → v ≡ w
one_result calls rule looks n v w (result values e below) (result others f beside) =
    e ∙ looks n values others (λ m c. one_result calls rule looks m (values m) (others m) (below m c) (beside m c)) ∙ sym f

-- a subprogram comes to at most one result, where the rule looks at nothing but its callees' results
pub results_one : ResultsAreOne
results_one calls rule looks n v w a b = one_result calls rule looks n v w a b

-- and reach no cycle
pub result_away : {V : Type 0} (calls : ℕ → ℕ → Bool) (rule : ℕ → (ℕ → V) → V) (n : ℕ) (v : V) → HasResult calls rule n v → ReachesCycle calls n → ⊥
result_away calls rule n v (result values e below) r =
    let c : CallsOne calls n = cycle_from_callee calls n r in
    result_away calls rule c.callee (values c.callee) (below c.callee c.is) c.reaches

-- what comes to a result reaches no call cycle
pub results_away : ResultsReachNoCycle
results_away calls rule n v a r = result_away calls rule n v a r

-- a chain of so many calls
record HasChain (calls : ℕ → ℕ → Bool) (n size : ℕ) : Type 0 where
  pub rest : List ℕ
  pub walk : IsWalk calls n rest
  pub long : length rest ≡ size

module _ {V : Type 0} (none : V) (calls : ℕ → ℕ → Bool) (rule : ℕ → (ℕ → V) → V) (count : ℕ) (below : AreBelow calls count) where
  -- a callee's result; where there is no call, any
  abbrev pick : (m : ℕ) (b : Bool) → (b ≡ true → HasSome calls rule m) → V
  pick m true h = (h refl).value
  pick m false h = none

  picked : (m : ℕ) (b : Bool) (h : b ≡ true → HasSome calls rule m) → b ≡ true → HasResult calls rule m (pick m b h)
  picked m true h e = (h refl).is
  picked m false h e = cc

  from_callees : (n : ℕ) → ((m : ℕ) → calls n m ≡ true → HasSome calls rule m) → HasSome calls rule n
  from_callees n h = record {
    value = rule n (λ m. pick m (calls n m) (h m));
    is = result (λ m. pick m (calls n m) (h m)) refl (λ m c. picked m (calls n m) (h m) c);
  }

  -- of the callees below a number each has a result, or one has a long chain
  record HasLong (n size : ℕ) : Type 0 where
    pub callee : ℕ
    pub is : calls n callee ≡ true
    pub chain : HasChain calls callee size

  one_more : (n size limit : ℕ) (b : Bool) → calls n limit ≡ b → HasSome calls rule limit ⊎ HasChain calls limit size → ((m : ℕ) → m < limit
      → calls n m ≡ true → HasSome calls rule m)
      → ((m : ℕ) → m < suc limit → calls n m ≡ true → HasSome calls rule m) ⊎ HasLong n size
  one_more n size limit true e (inr c) h = inr (record { callee = limit; is = e; chain = c })
  one_more n size limit true e (inl s) h = inl (λ m l c. elim (cases_lt m limit) [
    | inl k ↦ h m k c
    | inr k ↦ subst (HasSome calls rule) (let same : limit ≡ m = omega arith in same) s
  ])
  one_more n size limit false e s h = inl (λ m l c. elim (cases_lt m limit) [
    | inl k ↦ h m k c
    | inr k ↦ let same : m ≡ limit = omega arith in absurd (let f : calls n m ≡ false = ap (calls n) same ∙ e in cc)
  ])

  search : (size : ℕ) → ((m : ℕ) → HasSome calls rule m ⊎ HasChain calls m size) → (n limit : ℕ) → ((m : ℕ) → m < limit → calls n m ≡ true
      → HasSome calls rule m) ⊎ HasLong n size
  search size each n zero = inl (λ m l c. absurd (omega arith))
  search size each n (suc limit) = elim (search size each n limit) [
    | inl h ↦ one_more n size limit (calls n limit) refl (each limit) h
    | inr c ↦ inr c
  ]

  some_or_chain : (size n : ℕ) → HasSome calls rule n ⊎ HasChain calls n size
  some_or_chain zero n = inr (record { rest = []; walk = tt; long = refl })
  some_or_chain (suc size) n = elim (search size (some_or_chain size) n count) [
    | inl h ↦ inl (from_callees n (λ m c. h m (below n m c) c))
    | inr c ↦ inr (record {
      rest = c.callee ∷ c.chain.rest;
      walk = (c.is, c.chain.walk);
      long = (let e : length c.chain.rest ≡ size = c.chain.long in
          omega (arith, e));
    })
  ]

  -- a result of any kind that has a member, or a cycle
  pub some_or_cycle : (n : ℕ) → HasSome calls rule n ⊎ ReachesCycle calls n
  some_or_cycle n = elim (some_or_chain (suc count) n) [
    | inl s ↦ inl s
    | inr c ↦ inr (long_reaches calls count below n c.rest c.walk (let e : length c.rest ≡ suc count = c.long in omega (arith, e)))
  ]

-- a subprogram comes to a result or reaches a call cycle
pub or_cycles : ResultsOrCycles
or_cycles calls rule count below n = some_or_cycle 0 calls rule count below n

-- the plain ones
plain_away : (calls : ℕ → ℕ → Bool) (fits : ℕ → Bool) (n : ℕ) → IsPlain calls fits n → ReachesCycle calls n → ⊥
plain_away calls fits n (plain f below) r =
    let c : CallsOne calls n = cycle_from_callee calls n r in plain_away calls fits c.callee (below c.callee c.is) c.reaches

plain_fits : (calls : ℕ → ℕ → Bool) (fits : ℕ → Bool) (n : ℕ) → IsPlain calls fits n → fits n ≡ true
plain_fits calls fits n (plain f below) = f

plain_along : (calls : ℕ → ℕ → Bool) (fits : ℕ → Bool) (n m : ℕ) (between : List ℕ) → IsPlain calls fits n → IsWalk calls n (between ++ m ∷ []) → fits m ≡ true
plain_along calls fits n m [] (plain f below) w = plain_fits calls fits m (below m w.0)
plain_along calls fits n m (k ∷ between) (plain f below) w = plain_along calls fits k m between (below k w.0) w.1

plain_leads : (calls : ℕ → ℕ → Bool) (fits : ℕ → Bool) (n m : ℕ) → IsPlain calls fits n → LeadsTo calls n m → fits m ≡ true
plain_leads calls fits n m p (inl e) = subst (λ (x : ℕ). fits x ≡ true) e (plain_fits calls fits n p)
plain_leads calls fits n m p (inr r) = plain_along calls fits n m r.between p r.walk

-- a call leads to where its callee leads
pub leads_on : (calls : ℕ → ℕ → Bool) (n k m : ℕ) → calls n k ≡ true → LeadsTo calls k m → LeadsTo calls n m
leads_on calls n k m c (inl e) = inr (record { between = []; walk = (subst (λ (x : ℕ). calls n x ≡ true) e c, tt) })
leads_on calls n k m c (inr r) = inr (record { between = k ∷ r.between; walk = (c, r.walk) })

plain_from : (calls : ℕ → ℕ → Bool) (fits : ℕ → Bool) (n v : ℕ) → HasResult calls (λ m values. 0) n v → ((m : ℕ) → LeadsTo calls n m → fits m ≡ true)
    → IsPlain calls fits n
plain_from calls fits n v (result values e below) h =
    plain (h n (inl refl)) (λ m c. plain_from calls fits m (values m) (below m c) (λ k l. h k (leads_on calls n m k c l)))

-- the least set of what is fit with all its callees is what reaches no call cycle and leads only to what is fit
pub plain_fit : PlainReachTheFit
plain_fit calls fits count below n = (
  (λ p. ((λ r. plain_away calls fits n p r), (λ m l. plain_leads calls fits n m p l))),
  (λ h. elim (some_or_cycle 0 calls (λ m values. 0) count below n) [
    | inl s ↦ plain_from calls fits n s.value s.is h.1
    | inr r ↦ absurd (h.0 r)
  ]),
)
