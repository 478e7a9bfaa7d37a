-- What is said of called subprograms, one more key gone through.
use Rattle.std.proofs.Common.{◌≡◌, ℕ, Bool, true, false, List, [], ◌∷◌, ◌++◌, Contains, Option, Some, None, inl, inr, refl, sym, ap, subst, ◌∙◌}
use Rattle.std.proofs.Common.{arith, if◌then◌else◌}
use Rattle.std.specs.Ordering.{is_eq}
use Rattle.std.proofs.lemmas.Bool.{cases_Bool}
use Rattle.std.proofs.lemmas.List.Elements.{Contains-push_cases}
use Rattle.abs_state.specs.Key.{compare}
use Rattle.abs_state.specs.declared.key.Key.{Key}
use Rattle.abs_state.specs.declared.key.Key.TheVariants as key
use Rattle.abs_state.specs.declared.key.Next.TheVariants.{Into}
use Rattle.abs_state.specs.declared.key.Place.{Place}
use Rattle.context_bounds.proofs.Shapes.{keys_order}
use Rattle.context_bounds.specs.Copies.{AreCopies, CopiesSummary, called_by, called_next, fact_or, is_summary}
use Rattle.flow_core.proofs.EntryLemmas.{same_key, self_key}
use Rattle.flow_system.specs.Facts.{Writes, fact_at}
use Rattle.transfer_rules.specs.Fact.{Piece}
use Rattle.transfer_rules.specs.declared.fact.Fact.{Fact}

-- nothing is copied where nothing is said
pub none_copied : (whole : List Piece) (t : ℕ) (old : List Piece) → fact_at compare whole (key.Summary t) ≡ None → CopiesSummary whole t old old
none_copied whole t old none k =
    sym (ap (λ (o : Option Fact). if is_eq (compare (key.Summary t) k) then fact_or o (fact_at compare old k) else fact_at compare old k) none
    ∙ either (is_eq (compare (key.Summary t) k)))
  where
    either : (b : Bool) → (if b then fact_at compare old k else fact_at compare old k) ≡ fact_at compare old k
    either true = refl
    either false = refl

-- what is said is copied
pub one_copied : (whole : List Piece) (t : ℕ) (v : Fact) (old new : List Piece) → fact_at compare whole (key.Summary t) ≡ Some v
    → Writes compare old new (key.Summary t) (Some v) → CopiesSummary whole t old new
one_copied whole t v old new is writes k =
    writes k
    ∙ sym (ap (λ (o : Option Fact). if is_eq (compare (key.Summary t) k) then fact_or o (fact_at compare old k) else fact_at compare old k) is)

-- where there is one fact it stays
some_fact : (v w : Fact) (o : Option Fact) → o ≡ Some v → fact_or o (Some w) ≡ Some v
some_fact v w o is = ap (λ (p : Option Fact). fact_or p (Some w)) is

module _ (whole old new : List Piece) (t : ℕ) (copies : CopiesSummary whole t old new) where
  -- at other keys the old facts stay
  at_other : (k : Key) → is_eq (compare (key.Summary t) k) ≡ false → fact_at compare new k ≡ fact_at compare old k
  at_other k apart =
      copies k ∙ ap (λ (b : Bool). if b then fact_or (fact_at compare whole (key.Summary t)) (fact_at compare old k) else fact_at compare old k) apart

  -- at the key itself all facts are asked first
  at_own : fact_at compare new (key.Summary t) ≡ fact_or (fact_at compare whole (key.Summary t)) (fact_at compare old (key.Summary t))
  at_own =
      copies (key.Summary t)
      ∙ ap
      (λ (b : Bool). if b then fact_or (fact_at compare whole (key.Summary t)) (fact_at compare old (key.Summary t)) else fact_at compare old (key.Summary t))
      (self_key compare keys_order (key.Summary t))

  module _ (keys : List Key) (before : AreCopies whole old keys) where
    -- what is new at the key is said by all facts
    own_from : (v : Fact) → fact_at compare new (key.Summary t) ≡ Some v → fact_at compare whole (key.Summary t) ≡ Some v
    own_from v found = by (fact_at compare whole (key.Summary t)) refl (sym at_own ∙ found) where
      by : (o : Option Fact) → fact_at compare whole (key.Summary t) ≡ o → fact_or o (fact_at compare old (key.Summary t)) ≡ Some v
          → fact_at compare whole (key.Summary t) ≡ Some v
      by None is e = (before.from (key.Summary t) v e).0
      by (Some w) is e = is ∙ e

    -- the new facts are among what all facts say of subprograms
    from : (k : Key) (v : Fact) → fact_at compare new k ≡ Some v → (fact_at compare whole k ≡ Some v) × (is_summary k ≡ true)
    from k v found = elim (cases_Bool (is_eq (compare (key.Summary t) k))) [
      | inl here ↦
          let same : key.Summary t ≡ k = same_key compare keys_order (key.Summary t) k here in
          subst (λ (j : Key). (fact_at compare whole j ≡ Some v) × (is_summary j ≡ true)) same
          (own_from v (ap (λ (j : Key). fact_at compare new j) same ∙ found), refl)
      | inr apart ↦ before.from k v (sym (at_other k apart) ∙ found)
    ]

    -- of the one that is called now all is said
    own_has : fact_at compare new (key.Summary t) ≡ fact_at compare whole (key.Summary t)
    own_has = by (fact_at compare whole (key.Summary t)) refl at_own where
      old_by : (o : Option Fact) → fact_at compare old (key.Summary t) ≡ o → fact_at compare whole (key.Summary t) ≡ None → o ≡ None
      old_by None is none = refl
      old_by (Some v) is none = let wrong : Some v ≡ None = sym (before.from (key.Summary t) v is).0 ∙ none in absurd (cc)

      by : (o : Option Fact) → fact_at compare whole (key.Summary t) ≡ o → fact_at compare new (key.Summary t) ≡ fact_or o (fact_at compare old (key.Summary t))
          → fact_at compare new (key.Summary t) ≡ fact_at compare whole (key.Summary t)
      by None is e = e ∙ (old_by (fact_at compare old (key.Summary t)) refl is ∙ sym is)
      by (Some w) is e = e ∙ sym is

    -- what was said of the subprograms before is still said
    still_has : (u : ℕ) → fact_at compare old (key.Summary u) ≡ fact_at compare whole (key.Summary u)
        → fact_at compare new (key.Summary u) ≡ fact_at compare whole (key.Summary u)
    still_has u was = elim (cases_Bool (is_eq (compare (key.Summary t) (key.Summary u)))) [
      | inl here ↦
          let same : key.Summary t ≡ key.Summary u = same_key compare keys_order (key.Summary t) (key.Summary u) here in
          subst (λ (j : Key). fact_at compare new j ≡ fact_at compare whole j) same own_has
      | inr apart ↦ at_other (key.Summary u) apart ∙ was
    ]

    -- so one more key is gone through
    pub copied_more : (k : Key) → called_by k ≡ Some t → AreCopies whole new (keys ++ k ∷ [])
    copied_more k called = record { from = from; has = has } where
      same_call : (p : Place) (u : ℕ) → called_by (key.Node p) ≡ Some t → p.next ≡ Into u → key.Summary t ≡ key.Summary u
      same_call p u is next = let e : Some t ≡ Some u = sym is ∙ ap called_next next in cc

      has : (p : Place) (u : ℕ) → Contains (keys ++ k ∷ []) (key.Node p) → p.next ≡ Into u
          → fact_at compare new (key.Summary u) ≡ fact_at compare whole (key.Summary u)
      has p u among next = elim (Contains-push_cases keys k (key.Node p) among) [
        | inl front ↦ still_has u (before.has p u front next)
        | inr end ↦
            subst (λ (j : Key). fact_at compare new j ≡ fact_at compare whole j) (same_call p u (sym (ap called_by end) ∙ called) next) own_has
      ]

-- a key that calls nothing needs nothing
pub copied_none : (whole fixed : List Piece) (keys : List Key) (k : Key) → called_by k ≡ None → AreCopies whole fixed keys
    → AreCopies whole fixed (keys ++ k ∷ [])
copied_none whole fixed keys k none before = record { from = before.from; has = has } where
  has : (p : Place) (u : ℕ) → Contains (keys ++ k ∷ []) (key.Node p) → p.next ≡ Into u
      → fact_at compare fixed (key.Summary u) ≡ fact_at compare whole (key.Summary u)
  has p u among next = elim (Contains-push_cases keys k (key.Node p) among) [
    | inl front ↦ before.has p u front next
    | inr end ↦ let wrong : None ≡ Some u = sym none ∙ (ap called_by end ∙ ap called_next next) in absurd (cc)
  ]

-- at first nothing is gone through
pub copied_nothing : (whole : List Piece) → AreCopies whole [] []
copied_nothing whole = record {
  from = λ k v found. absurd (let wrong : None ≡ Some v = found in cc);
  has = λ p t among. absurd (omega (arith, among.1));
}
