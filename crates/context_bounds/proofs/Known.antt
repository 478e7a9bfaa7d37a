-- What the code finds are the facts of a context: what is said of the subprograms that it calls is enough.
use Rattle.std.proofs.Common.{◌≡◌, ◌⊎◌, ℕ, zero, suc, Bool, true, false, cond, List, [], ◌∷◌, Contains, Option, Some, None, IsTrue, inl, inr, refl}
use Rattle.std.proofs.Common.{sym, ap, subst, ◌∙◌, arith, if◌then◌else◌}
use Rattle.std.specs.Prelude.{is_some}
use Rattle.std.specs.List.{filter}
use Rattle.std.specs.Map.{keys_of}
use Rattle.std.specs.Ordering.{is_eq}
use Rattle.std.proofs.lemmas.Bool.{cases_Bool, eq-eqb, false≢true, or_cases}
use Rattle.abs_state.specs.Key.{compare}
use Rattle.abs_state.specs.declared.key.Key.{Key}
use Rattle.abs_state.specs.declared.key.Key.TheVariants as key
use Rattle.context_bounds.proofs.Fixed.{still_least}
use Rattle.context_bounds.proofs.Kept.{own_keys_are_kept}
use Rattle.context_bounds.proofs.Shapes.{keys_order}
use Rattle.context_bounds.specs.Copies.{AreCopies, is_summary}
use Rattle.context_bounds.specs.Known.{FactsAreKnown}
use Rattle.context_bounds.specs.Laws.{AreKept, SayTheSame}
use Rattle.context_bounds.specs.Own.{own_keys}
use Rattle.context_facts.specs.Context.{IsKept, is_local}
use Rattle.context_outcomes.specs.Arguments.{thresholds_with}
use Rattle.context_outcomes.specs.Inside.{AreFacts, starts_with}
use Rattle.context_outcomes.specs.Setting.{Setting, facts_in, program_of, rules_with}
use Rattle.flow_core.proofs.EntryLemmas.{same_key}
use Rattle.flow_system.specs.Facts.{KeysRise, fact_at}
use Rattle.flow_system.specs.State.{AllFit}
use Rattle.graph_view.proofs.Stands.{Has, has_to}
use Rattle.local_facts.specs.Restricted.{IsLeastLocal, IsRestriction, is_listed}
use Rattle.transfer_rules.proofs.System.{fit_stays}
use Rattle.transfer_rules.specs.Fact.{Piece, fits}
use Rattle.transfer_rules.specs.Give.{Facts, entered_with, entry_of}
use Rattle.transfer_rules.specs.declared.fact.Fact.{Fact}
use Rattle.transfer_rules.specs.declared.fact.Fact.TheVariants as fact
use Rattle.transfer_values.specs.Family.{family}
use Rattle.value_lattice.specs.Laws.{AreMore}
use Rattle.value_lattice.specs.declared.value.Value.{Value}

-- what is said of all subprograms
abbrev summaries : List Piece → List Piece
summaries pieces = filter (λ (piece : Piece). is_summary piece.0) pieces

-- nothing is nothing either way
none_if : (b : Bool) → ◌≡◌ {A = Option Fact} None (if b then None else None)
none_if true = refl
none_if false = refl

-- what is said of a subprogram stands among what is said of all, and nothing else does
summaries_at : (pieces : List Piece) (k : Key) → fact_at compare (summaries pieces) k ≡ (if is_summary k then fact_at compare pieces k else None)
summaries_at [] k = none_if (is_summary k)
summaries_at (piece ∷ rest) k = by (summaries_at rest k) (cases_Bool (is_eq (compare k piece.0))) (cases_Bool (is_summary piece.0))
  where
    by : (fact_at compare (summaries rest) k ≡ (if is_summary k then fact_at compare rest k else None))
        → (is_eq (compare k piece.0) ≡ true) ⊎ (is_eq (compare k piece.0) ≡ false) → (is_summary piece.0 ≡ true) ⊎ (is_summary piece.0 ≡ false)
        → fact_at compare (cond (is_summary piece.0) (piece ∷ summaries rest) (summaries rest)) k
        ≡ (if is_summary k then cond (is_eq (compare k piece.0)) (Some piece.1) (fact_at compare rest k) else None)
    by below (inl same) (inl kept) =
        let e : is_summary k ≡ true = ap is_summary (same_key compare keys_order k piece.0 same) ∙ kept in
        ap (λ (b : Bool). fact_at compare (cond b (piece ∷ summaries rest) (summaries rest)) k) kept
        ∙ (ap (λ (b : Bool). cond b (Some piece.1) (fact_at compare (summaries rest) k)) same
        ∙ sym (ap (λ (b : Bool). if b then cond (is_eq (compare k piece.0)) (Some piece.1) (fact_at compare rest k) else None) e
        ∙ ap (λ (b : Bool). cond b (Some piece.1) (fact_at compare rest k)) same))
    by below (inl same) (inr left) =
        let e : is_summary k ≡ false = ap is_summary (same_key compare keys_order k piece.0 same) ∙ left in
        ap (λ (b : Bool). fact_at compare (cond b (piece ∷ summaries rest) (summaries rest)) k) left
        ∙ (below
        ∙ (ap (λ (b : Bool). if b then fact_at compare rest k else None) e
        ∙ sym (ap (λ (b : Bool). if b then cond (is_eq (compare k piece.0)) (Some piece.1) (fact_at compare rest k) else None) e)))
    by below (inr apart) (inl kept) =
        ap (λ (b : Bool). fact_at compare (cond b (piece ∷ summaries rest) (summaries rest)) k) kept
        ∙ (ap (λ (b : Bool). cond b (Some piece.1) (fact_at compare (summaries rest) k)) apart
        ∙ (below
        ∙ sym (ap (λ (b : Bool). if is_summary k then cond b (Some piece.1) (fact_at compare rest k) else None) apart)))
    by below (inr apart) (inr left) =
        ap (λ (b : Bool). fact_at compare (cond b (piece ∷ summaries rest) (summaries rest)) k) left
        ∙ (below
        ∙ sym (ap (λ (b : Bool). if is_summary k then cond b (Some piece.1) (fact_at compare rest k) else None) apart))

-- a listed key is in the list
listed_has : (keys : List Key) (k : Key) → is_listed compare keys k ≡ true → Has keys k
listed_has [] k listed = absurd (false≢true listed)
listed_has (j ∷ keys) k listed = elim (or_cases (is_eq (compare j k)) (is_listed compare keys k) listed) [
  | inl same ↦ inl (same_key compare keys_order j k same)
  | inr later ↦ inr (listed_has keys k later)
]

-- what is a subprogram's own says nothing of subprograms
not_both : (sub : ℕ) (k : Key) → is_local sub k ≡ true → is_summary k ≡ false
not_both sub (key.Node p) local = refl
not_both sub (key.Edge p q) local = refl
not_both sub (key.Call p t) local = refl
not_both sub (key.Summary q) local = absurd (false≢true local)
not_both sub (key.Gap q pc kind) local = refl

module _ (S : Setting) (sub : ℕ) (args : List Value) (fixed : List Piece) (facts : Facts) (rising : KeysRise compare S.pieces)
    (fit : AllFit (rules_with S S.thresholds) (facts_in S)) (finer : AreMore S.thresholds (thresholds_with S args))
    (copies : AreCopies S.pieces fixed (own_keys (keys_of S.pieces) sub)) (enters : is_some (facts_in S (key.Node (entry_of sub))) ≡ true)
    (begins : fits (thresholds_with S args) (key.Node (entry_of sub)) (fact.State (entered_with args)) ≡ true) where
  -- the keys of the subprogram
  abbrev keep : List Key
  keep = own_keys (keys_of S.pieces) sub

  -- they rise, and are those that facts have
  are : AreKept S.pieces sub
  are = own_keys_are_kept S.pieces sub rising

  -- what is said of subprograms isn't among them
  outside : (k : Key) → is_summary k ≡ true → is_listed compare keep k ≡ false
  outside k is = elim (cases_Bool (is_listed compare keep k)) [
    | inl listed ↦ absurd (false≢true (sym (not_both sub k ((are.each k).0 listed).0) ∙ is))
    | inr out ↦ out
  ]

  -- what is copied says of called subprograms what all facts say
  same : SayTheSame keep fixed (summaries S.pieces)
  same = record {
    apart = λ q. outside (key.Summary q) refl;
    called = λ p t listed next.
        copies.has p t (has_to keep (key.Node p) (listed_has keep (key.Node p) listed)) next ∙ sym (summaries_at S.pieces (key.Summary t));
  }

  -- the keys, with what is said of all subprograms, are a context's
  kept : IsKept (facts_in S) sub keep (summaries S.pieces)
  kept = record { keeps = are.each; summaries = λ q. summaries_at S.pieces (key.Summary q) }

  -- no key is both kept and fixed
  not_fixed : (k : Key) → is_listed compare keep k ≡ true → is_some (fact_at compare (summaries S.pieces) k) ≡ false
  not_fixed k listed =
      ap is_some (summaries_at S.pieces k ∙ ap (λ (b : Bool). if b then fact_at compare S.pieces k else None) (not_both sub k ((are.each k).0 listed).0))

  -- what is fixed fits the context's thresholds
  fixed_fit : (k : Key) (v : Fact) → fact_at compare (summaries S.pieces) k ≡ Some v → fits (thresholds_with S args) k v ≡ true
  fixed_fit k v found = by (is_summary k) (sym (summaries_at S.pieces k) ∙ found) where
    by : (b : Bool) → (if b then fact_at compare S.pieces k else None) ≡ Some v → fits (thresholds_with S args) k v ≡ true
    by true is = fit_stays S.thresholds (thresholds_with S args) k v finer (fit k v is)
    by false is = absurd (let wrong : None ≡ Some v = is in cc)

  -- the only start is the entry
  first : (P : Key → Fact → Type 0) (k : Key) (v : Fact) → P (key.Node (entry_of sub)) (fact.State (entered_with args))
      → Contains (starts_with sub args) (k, v) → P k v
  first P k v there (zero, below, is) = subst (λ (piece : Piece). P piece.0 piece.1) is there
  first P k v there (suc i, below, is) = absurd (omega (arith, below))

  -- so the system can be restricted to these keys
  apart : IsRestriction compare (rules_with S (thresholds_with S args)) (starts_with sub args) keep (summaries S.pieces)
  apart = record {
    rise = are.rise;
    starts_kept = λ k v has. first (λ j w. IsTrue (is_listed compare keep j)) k v ((are.each (key.Node (entry_of sub))).1 (local_entry, enters)) has;
    starts_fit = λ k v has. first (λ j w. fits (thresholds_with S args) j w ≡ true) k v begins has;
    apart = not_fixed;
    fixed_fit = fixed_fit;
  }
    where
      local_entry : is_local sub (key.Node (entry_of sub)) ≡ true
      local_entry = eq-eqb sub sub refl

  -- and the least map over them has the facts of the context
  pub known : IsLeastLocal compare (rules_with S (thresholds_with S args)) (starts_with sub args) keep fixed facts → AreFacts S sub args facts
  known least = record {
    keep = keep;
    fixed = summaries S.pieces;
    kept = kept;
    apart = apart;
    least = still_least (thresholds_with S args) (family (thresholds_with S args) S.image S.binding) (program_of S) (starts_with sub args) keep fixed
        (summaries S.pieces) same facts least;
  }

-- what the code finds are the facts of a context
pub facts_are_known : FactsAreKnown
facts_are_known S sub args fixed facts rising fit finer copies enters begins least = known S sub args fixed facts rising fit finer copies enters begins least
