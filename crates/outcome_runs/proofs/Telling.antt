-- The outcomes of a program's contexts are told: which call leads where is found by deciding which calls are followed.
use Rattle.std.proofs.Common.{◌≡◌, ◌↔◌, ◌⊎◌, ℕ, zero, suc, ◌<◌, Bool, true, false, List, [], ◌∷◌, length, get_or, Option, Some, None, Contains, inl, inr, refl, sym, ap, subst, ◌∙◌, arith}
use Rattle.std.specs.Prelude.{is_some, map, slice_get}
use Rattle.std.proofs.lemmas.Bool.{cases_lt, false≢true}
use Rattle.std.proofs.lemmas.Option.{slice_get-get_or, slice_get_past}
use Rattle.abs_state.specs.declared.key.Key.TheVariants as key
use Rattle.abs_state.specs.declared.key.Next.{Next}
use Rattle.abs_state.specs.declared.key.Next.TheVariants.{At, Into, Back}
use Rattle.abs_state.specs.declared.key.Place.{Place}
use Rattle.assert_bind.specs.Binding.{roots}
use Rattle.bt_base.specs.Graph.{has}
use Rattle.loop_nest.proofs.Lists.{IsPlace, has_where, place_of}
use Rattle.std.proofs.lemmas.Grind.{get_or_default_zero}
use Rattle.transfer_acts.specs.Reading.{is_stub}
use Rattle.wcet_report.specs.declared.context.Context.{Context}
use Rattle.wcet_report.specs.declared.outcome.Outcome.{Outcome}
use Rattle.wcet_report.specs.declared.outcome.Outcomes.{Outcomes}
use Rattle.context_outcomes.specs.Arguments.{any_arguments}
use Rattle.context_outcomes.specs.Calls.{IsEntering}
use Rattle.context_outcomes.specs.Outcomes.{AreOutcomes, HasOutcome, IsChosen, IsNeeded, IsOf, IsOutcomeIn, called, root}
use Rattle.context_outcomes.specs.Setting.{Setting, view_in}
use Rattle.outcome_runs.proofs.Reaching.{cycles_decided, is_cycle}
use Rattle.outcome_runs.specs.Laws.{OutcomesAreTold}
use Rattle.outcome_runs.specs.Told.{Entry, IsRootAt, LeadsToEntry, Told, outcome_of}

some_same : {X : Type 0} {x y : X} → Some x ≡ Some y → x ≡ y
some_same e = cc

none_some : {X : Type 0} {x : X} → None ≡ Some x → ⊥
none_some e = cc

at_not_into : (n t : ℕ) → Into t ≡ At n → ⊥
at_not_into n t e = cc

back_not_into : (t : ℕ) → Into t ≡ Back → ⊥
back_not_into t e = cc

into_same : (s t : ℕ) → Into s ≡ Into t → s ≡ t
into_same s t e = cc

among_at : {X : Type 0} (xs : List X) (k : ℕ) (x : X) → slice_get xs k ≡ Some x → Contains xs x
among_at xs k x at = elim (cases_lt k (length xs)) [
  | inl low ↦ (k, low, some_same (sym (slice_get-get_or xs k x low) ∙ at))
  | inr past ↦ absurd (none_some (sym (slice_get_past xs k past) ∙ at))
]

at_among : {X : Type 0} (xs : List X) (x : X) → (has : Contains xs x) → slice_get xs has.0 ≡ Some x
at_among xs x has = slice_get-get_or xs has.0 x has.1 ∙ ap Some has.2

-- what stands where something made of it stands
mapped_at : {A B : Type 0} (f : A → B) (xs : List A) (k : ℕ) (y : B) → slice_get (map f xs) k ≡ Some y → (x : A) × (slice_get xs k ≡ Some x) × (f x ≡ y)
mapped_at f [] k y at = absurd (none_some at)
mapped_at f (a ∷ xs) zero y at = (a, refl, some_same at)
mapped_at f (a ∷ xs) (suc k) y at = mapped_at f xs k y at

module _ (S : Setting) (outcomes : Outcomes) (are : AreOutcomes S outcomes) where
  -- an outcome whose callees' bounds are those of the list
  record Shown : Type 0 where
    entry : Entry S
    agree : (p : Place) (t : ℕ) (callee : Outcome) → IsEntering S entry.outcome.sub entry.is.within.facts p t → Contains outcomes.list callee
        → IsOf t (entry.is.next p) callee → entry.is.callees p ≡ callee.bound

  abbrev shown_of : Shown → Outcome
  shown_of shown = shown.entry.outcome

  abbrev entry_of : Shown → Entry S
  entry_of shown = shown.entry

  abbrev show : (one : Outcome) → Contains outcomes.list one → Shown
  show one among =
      let both = are.each one among in
      record { entry = record { outcome = one; needed = both.0; is = both.1.is }; agree = both.1.agree }

  abbrev show_each : (list : List Outcome) → ((k : ℕ) (one : Outcome) → slice_get list k ≡ Some one → Contains outcomes.list one) → List Shown
  show_each [] among = []
  show_each (one ∷ rest) among = show one (among 0 one refl) ∷ show_each rest (λ k other at. among (suc k) other at)

  shown_are : (list : List Outcome) (among : (k : ℕ) (one : Outcome) → slice_get list k ≡ Some one → Contains outcomes.list one)
      → map outcome_of (map entry_of (show_each list among)) ≡ list
  shown_are [] among = refl
  shown_are (one ∷ rest) among = ap (λ (more : List Outcome). one ∷ more) (shown_are rest (λ k other at. among (suc k) other at))

  abbrev all_shown : List Shown
  all_shown = show_each outcomes.list (λ k one at. among_at outcomes.list k one at)

  entries : List (Entry S)
  entries = map entry_of all_shown

  entries_are : map outcome_of entries ≡ outcomes.list
  unfolding entries
  entries_are = shown_are outcomes.list (λ k one at. among_at outcomes.list k one at)

  -- the entry of an outcome
  record IsEntryOf (outcome : Outcome) (d : ℕ) : Type 0 where
    entry : Entry S
    at : slice_get entries d ≡ Some entry
    is : entry.outcome ≡ outcome

  entry_at : (outcome : Outcome) (has : Contains outcomes.list outcome) → IsEntryOf outcome has.0
  entry_at outcome has =
      let found =
      mapped_at outcome_of entries has.0 outcome (ap (λ (list : List Outcome). slice_get list has.0) entries_are ∙ at_among outcomes.list outcome has) in
      record { entry = found.0; at = found.1; is = found.2 }

  -- which calls are entered is decided
  abbrev Enters : Entry S → Place → ℕ → Type 0
  Enters one p t = IsEntering S one.outcome.sub one.is.within.facts p t

  abbrev cyclic : ℕ → ℕ → Bool
  cyclic = is_cycle (view_in S).callings

  decide_into : (one : Entry S) (p : Place) (t : ℕ) → p.next ≡ Into t → Enters one p t ⊎ (Enters one p t → ⊥)
  decide_into one p t into =
      by (is_some (one.is.within.facts (key.Call p t))) refl (cyclic one.outcome.sub t) refl (is_stub S.binding t) refl
    where
      by : (there : Bool) → is_some (one.is.within.facts (key.Call p t)) ≡ there → (round : Bool) → cyclic one.outcome.sub t ≡ round → (stub : Bool)
          → is_stub S.binding t ≡ stub → Enters one p t ⊎ (Enters one p t → ⊥)
      by true there false round false stub =
          inl (record {
            followed = record {
              call = record { into = into; there = there };
              apart = λ part. false≢true (sym round ∙ (cycles_decided (view_in S).callings one.outcome.sub t).1 part);
            };
            plain = stub;
          })
      by false there round_is round stub_is stub = inr (λ enters. false≢true (sym there ∙ enters.followed.call.there))
      by true there true round stub_is stub = inr (λ enters. enters.followed.apart ((cycles_decided (view_in S).callings one.outcome.sub t).0 round))
      by true there false round true stub = inr (λ enters. false≢true (sym enters.plain ∙ stub))

  -- where a call that is entered leads
  callee_of : (one : Entry S) (p : Place) (t : ℕ) → Enters one p t → HasOutcome outcomes.list t (one.is.next p)
  callee_of one p t enters = are.all t (one.is.next p) (called one.needed one.is.within enters (one.is.leads p t enters))

  abbrev place_by : (one : Entry S) (p : Place) (t : ℕ) → Enters one p t ⊎ (Enters one p t → ⊥) → ℕ
  place_by one p t (inl enters) = (callee_of one p t enters).among.0
  place_by one p t (inr never) = 0

  abbrev place_to : (one : Entry S) (p : Place) (next : Next) → p.next ≡ next → ℕ
  place_to one p (At n) same = 0
  place_to one p (Into t) same = place_by one p t (decide_into one p t same)
  place_to one p Back same = 0

  abbrev place_in : Option (Entry S) → Place → ℕ
  place_in None p = 0
  place_in (Some one) p = place_to one p p.next refl

  -- the callees of an entry agree
  abbrev Agrees : Entry S → Type 0
  Agrees one = (p : Place) (t : ℕ) (callee : Outcome) → Enters one p t → Contains outcomes.list callee → IsOf t (one.is.next p) callee
      → one.is.callees p ≡ callee.bound

  agree_at : (c : ℕ) (one : Entry S) → slice_get entries c ≡ Some one → Agrees one
  unfolding entries
  agree_at c one at =
      let found = mapped_at entry_of all_shown c one at in
      subst Agrees found.2 found.0.agree

  leads_by : (one : Entry S) (p : Place) (t : ℕ) → Agrees one → (e : Enters one p t ⊎ (Enters one p t → ⊥)) → Enters one p t
      → LeadsToEntry entries one p t (place_by one p t e)
  leads_by one p t agree (inr never) enters = absurd (never enters)
  leads_by one p t agree (inl first) enters =
      let callee = callee_of one p t first in
      let e = entry_at callee.outcome callee.among in
      record {
        entry = e.entry;
        at = e.at;
        sub = ap (λ (o : Outcome). o.sub) e.is ∙ callee.is.of;
        context = ap (λ (o : Outcome). o.context) e.is ∙ callee.is.in_context;
        bound = agree p t callee.outcome first callee.among callee.is ∙ ap (λ (o : Outcome). o.bound) (sym e.is);
      }

  at_target : (one : Entry S) (p : Place) (s t : ℕ) (same : p.next ≡ Into s) → Agrees one → t ≡ s → Enters one p t
      → LeadsToEntry entries one p t (place_by one p s (decide_into one p s same))
  at_target one p s t same agree target enters =
      subst (λ (n : ℕ). LeadsToEntry entries one p n (place_by one p s (decide_into one p s same))) (sym target)
      (leads_by one p s agree (decide_into one p s same) (subst (λ (n : ℕ). Enters one p n) target enters))

  leads_to : (one : Entry S) (p : Place) (t : ℕ) (next : Next) (same : p.next ≡ next) → Agrees one → Enters one p t
      → LeadsToEntry entries one p t (place_to one p next same)
  leads_to one p t (At n) same agree enters = absurd (at_not_into n t (sym enters.followed.call.into ∙ same))
  leads_to one p t (Into s) same agree enters = at_target one p s t same agree (into_same t s (sym enters.followed.call.into ∙ same)) enters
  leads_to one p t Back same agree enters = absurd (back_not_into t (sym enters.followed.call.into ∙ same))

  leads : (c : ℕ) (one : Entry S) (p : Place) (t : ℕ) → slice_get entries c ≡ Some one → Enters one p t
      → LeadsToEntry entries one p t (place_in (slice_get entries c) p)
  leads c one p t at enters =
      subst (λ (o : Option (Entry S)). LeadsToEntry entries one p t (place_in o p)) (sym at)
      (leads_to one p t p.next refl (agree_at c one at) enters)

  -- the contexts of roots
  root_there : (r : ℕ) → has (roots S.binding) r ≡ true → Contains (roots S.binding) r
  root_there r there =
      let p : IsPlace (roots S.binding) r = place_of (roots S.binding) r there in
      (p.at, p.within, get_or_default_zero (roots S.binding) p.at r p.within ∙ p.is)

  there_root : (r : ℕ) → Contains (roots S.binding) r → has (roots S.binding) r ≡ true
  there_root r c = has_where (roots S.binding) c.0 r c.1 (sym (get_or_default_zero (roots S.binding) c.0 r c.1) ∙ c.2)

  root_outcome : (r : ℕ) (rooted : Contains (roots S.binding) r) → HasOutcome outcomes.list r (are.begun r rooted).0
  root_outcome r rooted = are.all r (are.begun r rooted).0 (root rooted (are.begun r rooted).1)

  abbrev root_if : (r : ℕ) (b : Bool) → has (roots S.binding) r ≡ b → Option ℕ
  root_if r true there = Some (root_outcome r (root_there r there)).among.0
  root_if r false there = None

  begins_if : (r c : ℕ) (b : Bool) (there : has (roots S.binding) r ≡ b) → root_if r b there ≡ Some c → IsRootAt entries r c
  begins_if r c false there is = absurd (none_some is)
  begins_if r c true there is =
      let rooted = root_there r there in
      let outcome = root_outcome r rooted in
      let e = entry_at outcome.outcome outcome.among in
      record {
        rooted = rooted;
        entry = e.entry;
        at = ap (slice_get entries) (sym (some_same is)) ∙ e.at;
        sub = ap (λ (o : Outcome). o.sub) e.is ∙ outcome.is.of;
        chosen =
            subst (λ (k : Context). IsChosen S r any_arguments k) (sym (ap (λ (o : Outcome). o.context) e.is ∙ outcome.is.in_context)) (are.begun r rooted).1;
      }

  some_if : (r : ℕ) (b : Bool) (there : has (roots S.binding) r ≡ b) → b ≡ true → is_some (root_if r b there) ≡ true
  some_if r true there is = refl
  some_if r false there is = absurd (false≢true is)

  pub are_told : Told S outcomes.list
  are_told = record {
    cyclic = cyclic;
    decides = λ sub target. cycles_decided (view_in S).callings sub target;
    entries = entries;
    are = entries_are;
    place = λ c. place_in (slice_get entries c);
    leads = leads;
    root = λ r. root_if r (has (roots S.binding) r) refl;
    begins = λ r c is. begins_if r c (has (roots S.binding) r) refl is;
    all = λ r rooted. some_if r (has (roots S.binding) r) refl (there_root r rooted);
  }

pub outcomes_are_told : OutcomesAreTold
outcomes_are_told S outcomes are = are_told S outcomes are
