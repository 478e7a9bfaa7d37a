-- What is fixed beside the least map over kept keys.
use Rattle.std.proofs.Common.{◌≡◌, ℕ, Bool, true, cond, List, Option, Contains, IsTrue, refl, sym, ap, subst, ◌∙◌}
use Rattle.std.specs.Prelude.{is_some}
use Rattle.abs_state.specs.Key.{compare}
use Rattle.abs_state.specs.declared.key.Key.{Key}
use Rattle.abs_state.specs.declared.key.Key.TheVariants as key
use Rattle.abs_state.specs.declared.key.Next.{Next}
use Rattle.abs_state.specs.declared.key.Next.TheVariants.{At, Into, Back}
use Rattle.abs_state.specs.declared.key.Place.{Place}
use Rattle.call_effects.specs.declared.summary.Summary.{Summary as Effects}
use Rattle.context_bounds.specs.Laws.{CalledAreEnough, SayTheSame}
use Rattle.flow_system.specs.Facts.{fact_at}
use Rattle.flow_system.specs.State.{ContainsPiece}
use Rattle.local_facts.specs.Restricted.{IsLeastLocal, IsLocallyClosed, beside as beside_fixed, is_listed}
use Rattle.transfer_rules.specs.Fact.{Piece, effects_in, state_in}
use Rattle.transfer_rules.specs.Family.{Family, Program}
use Rattle.transfer_rules.specs.Give.{Facts, callee_of, gives, node_gives, pieces_of}
use Rattle.transfer_rules.specs.Lawful.{rules_of}
use Rattle.transfer_rules.specs.declared.fact.Fact.{Fact}

module _ (t : List ℕ) (f : Family) (m : Program) (starts : List Piece) (keep : List Key) where
  -- what a kept program point gives is the same
  same_given : (one two : List Piece) → SayTheSame keep one two → (s : Facts) (p : Place) → is_listed compare keep (key.Node p) ≡ true
      → gives f m (key.Node p) (beside_fixed compare keep one s) ≡ gives f m (key.Node p) (beside_fixed compare keep two s)
  same_given one two same s p listed =
      ap (λ (o : Option Fact). pieces_of (state_in o) (node_gives f m p (callee_of p.next (beside_fixed compare keep one s)))) here
      ∙ ap (λ (c : Option Effects). pieces_of (state_in (beside_fixed compare keep two s (key.Node p))) (node_gives f m p c)) (callee p.next refl)
    where
      here : beside_fixed compare keep one s (key.Node p) ≡ beside_fixed compare keep two s (key.Node p)
      here =
          ap (λ (b : Bool). cond b (s (key.Node p)) (fact_at compare one (key.Node p))) listed
          ∙ sym (ap (λ (b : Bool). cond b (s (key.Node p)) (fact_at compare two (key.Node p))) listed)

      callee : (next : Next) → p.next ≡ next → callee_of next (beside_fixed compare keep one s) ≡ callee_of next (beside_fixed compare keep two s)
      callee (At n) is = refl
      callee (Into q) is =
          ap effects_in
          (ap (λ (b : Bool). cond b (s (key.Summary q)) (fact_at compare one (key.Summary q))) (same.apart q)
          ∙ (same.called p q listed is ∙ sym (ap (λ (b : Bool). cond b (s (key.Summary q)) (fact_at compare two (key.Summary q))) (same.apart q))))
      callee Back is = refl

  -- so a map is closed beside the one as it is beside the other
  still_closed : (one two : List Piece) → SayTheSame keep one two → (s : Facts) → IsLocallyClosed compare (rules_of t f m) starts keep one s
      → IsLocallyClosed compare (rules_of t f m) starts keep two s
  still_closed one two same s closed = record { kept = closed.kept; fit = closed.fit; starts = closed.starts; given = given } where
    given : (k : Key) → is_some (s k) ≡ true → (j : Key) (v : Fact) → Contains (gives f m k (beside_fixed compare keep two s)) (j, v)
        → IsTrue (is_listed compare keep j) → ContainsPiece (rules_of t f m) s j v
    given (key.Node p) there j v has listed =
        closed.given (key.Node p) there j v
        (subst (λ (pieces : List Piece). Contains pieces (j, v)) (sym (same_given one two same s p (closed.kept (key.Node p) there))) has) listed
    given (key.Edge p q) there j v has listed = closed.given (key.Edge p q) there j v has listed
    given (key.Call p q) there j v has listed = closed.given (key.Call p q) there j v has listed
    given (key.Summary q) there j v has listed = closed.given (key.Summary q) there j v has listed
    given (key.Gap q pc kind) there j v has listed = closed.given (key.Gap q pc kind) there j v has listed

  -- the two can change places
  turned : (one two : List Piece) → SayTheSame keep one two → SayTheSame keep two one
  turned one two same = record { apart = same.apart; called = λ p q listed is. sym (same.called p q listed is) }

  -- so the least map beside the one is the least beside the other
  pub still_least : (one two : List Piece) → SayTheSame keep one two → (s : Facts) → IsLeastLocal compare (rules_of t f m) starts keep one s
      → IsLeastLocal compare (rules_of t f m) starts keep two s
  still_least one two same s least = record {
    closed = still_closed one two same s least.closed;
    least = λ u closed. least.least u (still_closed two one (turned one two same) u closed);
  }

-- what is said of called subprograms is enough
pub called_are_enough : CalledAreEnough
called_are_enough t f m starts keep one two s same least = still_least t f m starts keep one two same s least
