-- The facts of a context are the least map of a restricted system: what it begins with and what is fixed beside it fit.
use Rattle.std.proofs.Common.{◌≡◌, ℕ, zero, suc, true, false, List, Contains, Option, Some, None, IsTrue, refl, sym, ap, subst, ◌∙◌, arith}
use Rattle.std.specs.Prelude.{is_some, length}
use Rattle.std.specs.List.{list_all}
use Rattle.std.specs.Map.{keys_of}
use Rattle.std.proofs.lemmas.Bool.{eq-eqb, false≢true}
use Rattle.abs_state.specs.Key.{compare}
use Rattle.abs_state.specs.declared.key.Key.{Key}
use Rattle.abs_state.specs.declared.key.Key.TheVariants as key
use Rattle.context_bounds.proofs.Kept.{own_keys_are_kept}
use Rattle.context_bounds.proofs.Known.{facts_are_known}
use Rattle.context_bounds.specs.Copies.{AreCopies, is_summary}
use Rattle.context_bounds.specs.Laws.{AreKept}
use Rattle.context_bounds.specs.Own.{own_keys}
use Rattle.context_facts.specs.Context.{is_local}
use Rattle.context_inside.proofs.Entered.{begins_fit, given_values}
use Rattle.context_inside.proofs.Finer.{arguments_over, more, wide}
use Rattle.context_inside.specs.Laws.{AreDue, IsEnteredWith}
use Rattle.context_outcomes.specs.Arguments.{thresholds_with}
use Rattle.context_outcomes.specs.Inside.{AreFacts, starts_with}
use Rattle.context_outcomes.specs.Setting.{Setting, facts_in, rules_with}
use Rattle.flow_system.specs.Facts.{KeysRise, fact_at}
use Rattle.local_facts.specs.Restricted.{IsLeastLocal, IsRestriction, is_listed}
use Rattle.transfer_rules.proofs.System.{fit_stays}
use Rattle.transfer_rules.specs.Fact.{Piece, fits}
use Rattle.transfer_rules.specs.Give.{Facts, entered_with, entry_of}
use Rattle.transfer_rules.specs.declared.fact.Fact.{Fact}
use Rattle.transfer_rules.specs.declared.fact.Fact.TheVariants as fact
use Rattle.value_lattice.specs.Test.{is_value}
use Rattle.value_lattice.specs.declared.value.Value.{Value}

-- a key of a subprogram's facts is none of what subprograms may do
no_summary : (sub : ℕ) (k : Key) → is_local sub k ≡ true → is_summary k ≡ false
no_summary sub (key.Node p) local = refl
no_summary sub (key.Edge p q) local = refl
no_summary sub (key.Call p t) local = refl
no_summary sub (key.Summary q) local = absurd (false≢true local)
no_summary sub (key.Gap q pc kind) local = refl

module _ (S : Setting) (sub : ℕ) (args : List Value) (fixed : List Piece) (due : AreDue S) (rising : KeysRise compare S.pieces)
    (count : length args ≡ 13) (enters : IsEnteredWith S sub args) (copies : AreCopies S.pieces fixed (own_keys (keys_of S.pieces) sub)) where
  abbrev keep : List Key
  keep = own_keys (keys_of S.pieces) sub

  -- the kept keys are those of the subprogram
  are : AreKept S.pieces sub
  are = own_keys_are_kept S.pieces sub rising

  -- the arguments are values
  values : list_all is_value args ≡ true
  values = given_values S sub args count enters

  -- the state with which it begins fits the entry
  begins : fits (thresholds_with S args) (key.Node (entry_of sub)) (fact.State (entered_with args)) ≡ true
  begins = begins_fit (thresholds_with S args) sub args (wide S args due.thresholds) (arguments_over S args values)

  -- the whole program has the entry
  there : is_some (facts_in S (key.Node (entry_of sub))) ≡ true
  there = ap is_some enters.found

  -- nothing is fixed at a kept key
  not_fixed : (k : Key) → is_listed compare keep k ≡ true → is_some (fact_at compare fixed k) ≡ false
  not_fixed k listed = by (fact_at compare fixed k) (λ v found. (copies.from k v found).1) where
    by : (o : Option Fact) → ((v : Fact) → o ≡ Some v → is_summary k ≡ true) → is_some o ≡ false
    by None summary = refl
    by (Some v) summary = absurd (false≢true (sym (no_summary sub k ((are.each k).0 listed).0) ∙ summary v refl))

  -- it begins with the entry alone
  first : (P : Key → Fact → Type 0) (k : Key) (v : Fact) → P (key.Node (entry_of sub)) (fact.State (entered_with args))
      → Contains (starts_with sub args) (k, v) → P k v
  first P k v here (zero, below, is) = subst (λ (piece : Piece). P piece.0 piece.1) is here
  first P k v here (suc i, below, is) = absurd (omega (arith, below))

  -- which is the subprogram's
  local_entry : is_local sub (key.Node (entry_of sub)) ≡ true
  local_entry = eq-eqb sub sub refl

  -- so the restricted system is one
  pub restricts : IsRestriction compare (rules_with S (thresholds_with S args)) (starts_with sub args) keep fixed
  restricts = record {
    rise = are.rise;
    starts_kept = λ k v has. first (λ j w. IsTrue (is_listed compare keep j)) k v ((are.each (key.Node (entry_of sub))).1 (local_entry, there)) has;
    starts_fit = λ k v has. first (λ j w. fits (thresholds_with S args) j w ≡ true) k v begins has;
    apart = not_fixed;
    fixed_fit = λ k v found.
        fit_stays S.thresholds (thresholds_with S args) k v (more S args due.thresholds) (due.due.closed.fit k v (copies.from k v found).0);
  }

  -- its least map is the facts of the context
  pub least_is : (facts : Facts) → IsLeastLocal compare (rules_with S (thresholds_with S args)) (starts_with sub args) keep fixed facts
      → AreFacts S sub args facts
  least_is facts least =
      facts_are_known S sub args fixed facts rising due.due.closed.fit (more S args due.thresholds) copies there begins least

  -- so it is, however what it begins with and keeps is called
  pub restricts_by : (t : List ℕ) (starts : List Piece) (kept : List Key) → t ≡ thresholds_with S args → starts ≡ starts_with sub args → kept ≡ keep
      → IsRestriction compare (rules_with S t) starts kept fixed
  restricts_by t starts kept over begin same =
      subst (λ (ts : List ℕ). IsRestriction compare (rules_with S ts) starts kept fixed) (sym over)
      (subst (λ (ps : List Piece). IsRestriction compare (rules_with S (thresholds_with S args)) ps kept fixed) (sym begin)
      (subst (λ (ks : List Key). IsRestriction compare (rules_with S (thresholds_with S args)) (starts_with sub args) ks fixed) (sym same) restricts))

  -- and so its least map is the facts of the context
  pub least_by : (t : List ℕ) (starts : List Piece) (kept : List Key) → t ≡ thresholds_with S args → starts ≡ starts_with sub args
      → kept ≡ keep → (facts : Facts)
      → IsLeastLocal compare (rules_with S t) starts kept fixed facts → AreFacts S sub args facts
  least_by t starts kept over begin same facts least =
      least_is facts
      (subst (λ (ks : List Key). IsLeastLocal compare (rules_with S (thresholds_with S args)) (starts_with sub args) ks fixed facts) same
      (subst (λ (ps : List Piece). IsLeastLocal compare (rules_with S (thresholds_with S args)) ps kept fixed facts) begin
      (subst (λ (ts : List ℕ). IsLeastLocal compare (rules_with S ts) starts kept fixed facts) over least)))
