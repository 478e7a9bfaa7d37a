-- What a binding answers of an instruction is all that its assertions ask of it.
use Rattle.std.proofs.Common.{◌≡◌, ℕ, ℤ, true, false, List, get_or, Option, Some, None, Contains, IfSome, is_some, refl, sym, ◌∙◌, ap, subst}
use Rattle.std.specs.Prelude.{◌==◌}
use Rattle.std.specs.Option.{option_and_then}
use Rattle.std.proofs.lemmas.Bool.{eqb-true, false≢true}
use Rattle.assert_bind.specs.Binding.{about, range, range_in, listed, targets_in, never}
use Rattle.assert_bind.specs.Sight.{Sight, IsIn, IsMetBy, MeetsEach, IsAllowed, AnswersAreAll}
use Rattle.assert_bind.specs.Subject.{is_same, subject_of}
use Rattle.assert_bind.specs.declared.body.BoundAssertion.{BoundAssertion}
use Rattle.assert_bind.specs.declared.body.BoundBody.{BoundBody}
use Rattle.assert_bind.specs.declared.body.BoundBody.TheVariants as body
use Rattle.assert_bind.specs.declared.subject.Subject.{Subject}
use Rattle.assert_bind.specs.declared.subject.Subject.TheVariants as of
use Rattle.assert_bind.proofs.AboutLemmas.{found, finds_itself}
use Rattle.assert_bind.proofs.SubjectLemmas.{and_both}

-- the one that is found is met
met_about : (list : List BoundAssertion) (sight : Sight) (s : Subject) (x : BoundAssertion) → MeetsEach list sight
    → about list s ≡ Some x → (is_same (subject_of x.body) s ≡ true) × IsMetBy x.body sight
met_about list sight s x meets is =
    let a = found list s x is in
    (a.same, subst (λ (y : BoundAssertion). IsMetBy y.body sight) a.there (meets a.place x a.within))

-- an assertion on whether this instruction is reached isn't met
not_reached : (says : BoundBody) (sight : Sight) → is_same (subject_of says) (of.Reach sight.pc) ≡ true → IsMetBy says sight → ⊥
not_reached (body.Root entry) sight same met = false≢true same
not_reached (body.Never pc) sight same met = met (sym (eqb-true pc sight.pc same))
not_reached (body.At pc reg lo hi) sight same met = false≢true same
not_reached (body.Jump pc to) sight same met = false≢true same
not_reached (body.CallTo pc to) sight same met = false≢true same
not_reached (body.Loop pc count) sight same met = false≢true same
not_reached (body.Stub entry time) sight same met = false≢true same

abbrev InRange : Sight → ℕ → Option (ℤ × ℤ) → Type 0
InRange sight reg ends = IfSome ends (λ (lo, hi). IsIn lo hi (sight.register reg))

in_range : (says : BoundBody) (sight : Sight) (reg : ℕ) → is_same (subject_of says) (of.Word sight.pc reg) ≡ true
    → IsMetBy says sight → InRange sight reg (range_in says)
in_range (body.Root entry) sight reg same met = absurd (false≢true same)
in_range (body.Never pc) sight reg same met = absurd (false≢true same)
in_range (body.At pc r lo hi) sight reg same met =
    let p = and_both (pc == sight.pc) (r == reg) same in
    subst (λ (x : ℕ). IsIn lo hi (sight.register x)) (eqb-true r reg p.1) (met (sym (eqb-true pc sight.pc p.0)))
in_range (body.Jump pc to) sight reg same met = absurd (false≢true same)
in_range (body.CallTo pc to) sight reg same met = absurd (false≢true same)
in_range (body.Loop pc count) sight reg same met = absurd (false≢true same)
in_range (body.Stub entry time) sight reg same met = absurd (false≢true same)

abbrev GoesTo : Sight → Option (List ℕ) → Type 0
GoesTo sight list = IfSome list (λ to. IfSome sight.target (Contains to))

goes_to : (says : BoundBody) (sight : Sight) → is_same (subject_of says) (of.Targets sight.pc) ≡ true → IsMetBy says sight → GoesTo sight (targets_in says)
goes_to (body.Root entry) sight same met = absurd (false≢true same)
goes_to (body.Never pc) sight same met = absurd (false≢true same)
goes_to (body.At pc reg lo hi) sight same met = absurd (false≢true same)
goes_to (body.Jump pc to) sight same met = met (sym (eqb-true pc sight.pc same))
goes_to (body.CallTo pc to) sight same met = met (sym (eqb-true pc sight.pc same))
goes_to (body.Loop pc count) sight same met = absurd (false≢true same)
goes_to (body.Stub entry time) sight same met = absurd (false≢true same)

allowed : (list : List BoundAssertion) (sight : Sight) → MeetsEach list sight → IsAllowed list sight
allowed list sight meets = record {
  reached = reached (about list (of.Reach sight.pc)) refl;
  ranged = λ reg. ranged reg (about list (of.Word sight.pc reg)) refl;
  listed = to (about list (of.Targets sight.pc)) refl;
}
  where
    reached : (x : Option BoundAssertion) → about list (of.Reach sight.pc) ≡ x → is_some x ≡ false
    reached None is = refl
    reached (Some x) is = let m = met_about list sight (of.Reach sight.pc) x meets is in absurd (not_reached x.body sight m.0 m.1)

    ranged : (reg : ℕ) (x : Option BoundAssertion) → about list (of.Word sight.pc reg) ≡ x
        → InRange sight reg (option_and_then (λ assertion. range_in assertion.body) x)
    ranged reg None is = tt
    ranged reg (Some x) is = let m = met_about list sight (of.Word sight.pc reg) x meets is in in_range x.body sight reg m.0 m.1

    to : (x : Option BoundAssertion) → about list (of.Targets sight.pc) ≡ x → GoesTo sight (option_and_then (λ assertion. targets_in assertion.body) x)
    to None is = tt
    to (Some x) is = let m = met_about list sight (of.Targets sight.pc) x meets is in goes_to x.body sight m.0 m.1

-- where the answers are kept to, an assertion that is found is met
met_by : (list : List BoundAssertion) (sight : Sight) (line : ℕ) (says : BoundBody) → IsAllowed list sight
    → about list (subject_of says) ≡ Some (record { line = line; body = says }) → IsMetBy says sight
met_by list sight line (body.Root entry) allowed is = tt
met_by list sight line (body.Never pc) allowed is = λ at.
    false≢true (sym allowed.reached ∙ ap (λ (a : ℕ). never list a) at ∙ ap (λ (o : Option BoundAssertion). is_some o) is)
met_by list sight line (body.At pc reg lo hi) allowed is = λ at.
    subst (InRange sight reg) (ap (λ (a : ℕ). range list a reg) at
    ∙ ap (λ (o : Option BoundAssertion). option_and_then (λ assertion. range_in assertion.body) o) is) (allowed.ranged reg)
met_by list sight line (body.Jump pc to) allowed is = λ at.
    subst (GoesTo sight) (ap (λ (a : ℕ). listed list a) at ∙ ap
    (λ (o : Option BoundAssertion). option_and_then (λ assertion. targets_in assertion.body) o) is) allowed.listed
met_by list sight line (body.CallTo pc to) allowed is = λ at.
    subst (GoesTo sight) (ap (λ (a : ℕ). listed list a) at ∙ ap
    (λ (o : Option BoundAssertion). option_and_then (λ assertion. targets_in assertion.body) o) is) allowed.listed
met_by list sight line (body.Loop pc count) allowed is = tt
met_by list sight line (body.Stub entry time) allowed is = tt

-- what the look-ups answer of an instruction is all that a run must meet there
pub answers_all : AnswersAreAll
answers_all list sight sound = (
  allowed list sight,
  λ keeps k d within. met_by list sight (get_or list k d).line
      (get_or list k d).body keeps (finds_itself list k d sound.apart within),
)
