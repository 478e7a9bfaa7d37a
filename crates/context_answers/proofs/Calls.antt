-- The reasons of program points that call into contexts without a bound.
use Rattle.std.proofs.Common.{◌≡◌, ℕ, List, Option, inl, inr, sym, subst, ◌∙◌}
use Rattle.abs_state.specs.declared.key.Next.TheVariants.{At, Back, Into}
use Rattle.abs_state.specs.declared.key.Place.{Place}
use Rattle.assert_bind.specs.declared.body.BoundAssertion.{BoundAssertion}
use Rattle.context_answers.specs.Adding.{Adds, IsOpenAt, IsOpenTo}
use Rattle.graph_view.specs.declared.lists.Calling.{Calling}
use Rattle.transfer_rules.specs.Give.{Facts}
use Rattle.wcet_report.specs.declared.reason.Reason.{Reason}

into_same : (s t : ℕ) → Into s ≡ Into t → s ≡ t
into_same s t e = cc

pub at_not_into : (n t : ℕ) → At n ≡ Into t → ⊥
at_not_into n t e = cc

pub back_not_into : (t : ℕ) → Back ≡ Into t → ⊥
back_not_into t e = cc

module _ (binding : List BoundAssertion) (callings : List Calling) (facts : Facts) (sub : ℕ) (p : Place) (bound : Option ℕ) where
  -- a program point that calls
  pub point_added : (target : ℕ) (old new : List Reason) → p.next ≡ Into target → Adds (IsOpenTo binding callings facts sub p target bound) old new
      → Adds (IsOpenAt binding callings facts sub p bound) old new
  point_added target old new into added = record {
    has = λ one has. elim (added.has one has) [
      | inl earlier ↦ inl earlier
      | inr to ↦ inr (record { target = target; into = into; to = to })
    ];
    keeps = added.keeps;
    adds = λ one a.
        added.adds one (subst (λ (t : ℕ). IsOpenTo binding callings facts sub p t bound one) (into_same a.target target (sym a.into ∙ into)) a.to);
  }

  -- and one that doesn't
  pub point_left : (old : List Reason) → ((target : ℕ) → p.next ≡ Into target → ⊥) → Adds (IsOpenAt binding callings facts sub p bound) old old
  point_left old no_call = record { has = λ one has. inl has; keeps = λ one has. has; adds = λ one a. absurd (no_call a.target a.into) }
