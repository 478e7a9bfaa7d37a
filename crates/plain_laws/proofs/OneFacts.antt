-- The arguments and the facts of a context are one.
use Rattle.std.proofs.Common.{◌≡◌, ℕ, Bool, true, false, List, Option, Some, None, Contains, IsTrue, inl, inr, refl, sym, ap, subst, ◌∙◌, arith}
use Rattle.std.specs.Prelude.{is_some, if◌then◌else◌}
use Rattle.std.proofs.lemmas.Bool.{cases_Bool, false≢true}
use Rattle.abs_state.specs.Key.{compare}
use Rattle.abs_state.specs.declared.key.Key.{Key}
use Rattle.abs_state.specs.declared.key.Key.TheVariants as key
use Rattle.abs_state.specs.declared.key.Place.{Place}
use Rattle.assert_bind.specs.Binding.{roots}
use Rattle.bt_base.specs.Graph.{has}
use Rattle.context_facts.proofs.Least.{same_gives}
use Rattle.context_facts.specs.Context.{IsKept}
use Rattle.flow_system.specs.Facts.{fact_at}
use Rattle.flow_system.specs.Rules.{Rules}
use Rattle.flow_system.specs.State.{ContainsPiece, IsBelow}
use Rattle.local_facts.specs.Restricted.{IsLocallyClosed, beside, is_listed}
use Rattle.transfer_rules.proofs.FactOrder.{facts_both}
use Rattle.transfer_rules.specs.Fact.{Piece, is_at_most}
use Rattle.transfer_rules.specs.Give.{Facts, gives}
use Rattle.transfer_rules.specs.declared.fact.Fact.{Fact}
use Rattle.transfer_values.specs.Family.{family}
use Rattle.value_lattice.proofs.RankLemmas.{lists_are_same}
use Rattle.value_lattice.specs.declared.value.Value.{Value}
use Rattle.wcet_report.specs.declared.context.Context.{Context}
use Rattle.wcet_report.specs.declared.context.Context.TheVariants.{Plain, With}
use Rattle.context_outcomes.specs.Arguments.{AreArgumentsOf, AreJoined, ArePlain, thresholds_with}
use Rattle.context_outcomes.specs.Inside.{AreFacts, starts_with}
use Rattle.context_outcomes.specs.Setting.{Setting, facts_in, program_of, rules_with}

some_same : {X : Type 0} {x y : X} → Some x ≡ Some y → x ≡ y
some_same e = cc

none_some : {X : Type 0} {x : X} → None ≡ Some x → ⊥
none_some e = cc

-- the joins of the arguments of all calls are one
joined_one : (S : Setting) (sub : ℕ) (x y : List Value) → AreJoined S.thresholds (facts_in S) sub x → AreJoined S.thresholds (facts_in S) sub y → x ≡ y
joined_one S sub x y one two = lists_are_same x y (one.least y two.over two.above) (two.least x one.over one.above)

-- so what holds of the arguments of every call is one
plain_one : (S : Setting) (sub : ℕ) (x y : List Value) → ArePlain S sub x → ArePlain S sub y → x ≡ y
plain_one S sub x y one two =
    elim (cases_Bool (has (roots S.binding) sub)) [
      | inl root ↦ one.root root ∙ sym (two.root root)
      | inr other ↦ joined_one S sub x y (one.called other) (two.called other)
    ]

pub arguments_one : (S : Setting) (sub : ℕ) (context : Context) (x y : List Value) → AreArgumentsOf S sub context x → AreArgumentsOf S sub context y → x ≡ y
arguments_one S sub Plain x y one two = plain_one S sub x y one two
arguments_one S sub (With list) x y one two = one ∙ sym two

-- what stands beside facts at the keys of a subprogram
module _ (S : Setting) (sub : ℕ) (keep : List Key) (fixed : List Piece) (kept : IsKept (facts_in S) sub keep fixed) where
  summary_out : (q : ℕ) → is_listed compare keep (key.Summary q) ≡ false
  summary_out q =
      elim (cases_Bool (is_listed compare keep (key.Summary q))) [
        | inl listed ↦ absurd (false≢true ((kept.keeps (key.Summary q)).0 listed).0)
        | inr out ↦ out
      ]

  beside_summary : (s : Facts) (q : ℕ) → beside compare keep fixed s (key.Summary q) ≡ facts_in S (key.Summary q)
  beside_summary s q =
      ap (λ (b : Bool). if b then s (key.Summary q) else fact_at compare fixed (key.Summary q)) (summary_out q) ∙ kept.summaries q

  beside_node : (s : Facts) (p : Place) → is_listed compare keep (key.Node p) ≡ true → beside compare keep fixed s (key.Node p) ≡ s (key.Node p)
  beside_node s p listed = ap (λ (b : Bool). if b then s (key.Node p) else fact_at compare fixed (key.Node p)) listed

-- the facts of a context are closed where others of the same context are
module _ (S : Setting) (sub : ℕ) (args : List Value) (f g : Facts) (one : AreFacts S sub args f) (two : AreFacts S sub args g) where
  abbrev rules : Rules Key Fact
  rules = rules_with S (thresholds_with S args)

  abbrev given_by : Place → Facts → List Piece
  given_by p x = gives (family (thresholds_with S args) S.image S.binding) (program_of S) (key.Node p) x

  listed_here : (k : Key) → is_listed compare two.keep k ≡ true → is_listed compare one.keep k ≡ true
  listed_here k there = (one.kept.keeps k).1 ((two.kept.keeps k).0 there)

  listed_there : (k : Key) → is_listed compare one.keep k ≡ true → is_listed compare two.keep k ≡ true
  listed_there k here = (two.kept.keeps k).1 ((one.kept.keeps k).0 here)

  given_same : (p : Place) → is_listed compare two.keep (key.Node p) ≡ true
      → given_by p (beside compare one.keep one.fixed g) ≡ given_by p (beside compare two.keep two.fixed g)
  given_same p listed =
      same_gives (family (thresholds_with S args) S.image S.binding) (program_of S) (beside compare one.keep one.fixed g) (beside compare two.keep two.fixed g) p
      (beside_node S sub one.keep one.fixed one.kept g p (listed_here (key.Node p) listed)
      ∙ sym (beside_node S sub two.keep two.fixed two.kept g p listed))
      (λ q. beside_summary S sub one.keep one.fixed one.kept g q ∙ sym (beside_summary S sub two.keep two.fixed two.kept g q))

  closed_here : IsLocallyClosed compare rules (starts_with sub args) one.keep one.fixed g
  closed_here = record {
    kept = λ k there. listed_here k (two.least.closed.kept k there);
    fit = two.least.closed.fit;
    starts = two.least.closed.starts;
    given = given;
  }
    where
      given : (k : Key) → is_some (g k) ≡ true → (j : Key) (v : Fact) → Contains (rules.gives k (beside compare one.keep one.fixed g)) (j, v)
          → IsTrue (is_listed compare one.keep j) → ContainsPiece rules g j v
      given (key.Node p) there j v has listed =
          two.least.closed.given (key.Node p) there j v
          (subst (λ (pieces : List Piece). Contains pieces (j, v)) (given_same p (two.least.closed.kept (key.Node p) there)) has)
          (listed_there j listed)
      given (key.Edge p q) there j v has listed = absurd (let low = has.1 in omega arith)
      given (key.Call p q) there j v has listed = absurd (let low = has.1 in omega arith)
      given (key.Summary q) there j v has listed = absurd (let low = has.1 in omega arith)
      given (key.Gap q pc kind) there j v has listed = absurd (let low = has.1 in omega arith)

  -- so they are no less
  pub facts_below : IsBelow rules f g
  facts_below = one.least.least g closed_here

-- so the facts of a context are one
module _ (S : Setting) (sub : ℕ) (args : List Value) (f g : Facts) (one : AreFacts S sub args f) (two : AreFacts S sub args g) where
  fact_one : (k : Key) (a b : Option Fact) → f k ≡ a → g k ≡ b → a ≡ b
  fact_one k None None here there = refl
  fact_one k None (Some v) here there =
      let has = facts_below S sub args g f two one k v there in
      absurd (none_some (sym here ∙ has.found))
  fact_one k (Some v) None here there =
      let has = facts_below S sub args f g one two k v here in
      absurd (none_some (sym there ∙ has.found))
  fact_one k (Some v) (Some w) here there =
      let up = facts_below S sub args f g one two k v here in
      let down = facts_below S sub args g f two one k w there in
      let other : up.fact ≡ w = some_same (sym up.found ∙ there) in
      let same : down.fact ≡ v = some_same (sym down.found ∙ here) in
      ap Some
      (facts_both v w (subst (λ (u : Fact). is_at_most v u ≡ true) other up.above) (subst (λ (u : Fact). is_at_most w u ≡ true) same down.above))

  pub facts_one : f ≡ g
  facts_one = λ i k. fact_one k (f k) (g k) refl refl i
