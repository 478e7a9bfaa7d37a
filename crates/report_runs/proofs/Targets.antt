-- Assertions are bound to an accepted image whose code they speak of.
use Rattle.std.proofs.Common.{◌≡◌, ℕ, true, List, Option, Some, None, All, refl}
use Rattle.std.specs.Prelude.{Contains, IfSome}
use Rattle.std.specs.Option.{option_and_then}
use Rattle.std.proofs.lemmas.List.Elements.{All-contains}
use Rattle.assert_bind.proofs.AboutLemmas.{IsAbout, found}
use Rattle.assert_bind.specs.Binding.{about, listed, targets_in}
use Rattle.assert_bind.specs.Body.{IsCode, SpeaksOfCode, SpeaksOfCodeIn}
use Rattle.assert_bind.specs.declared.body.BoundAssertion.{BoundAssertion}
use Rattle.assert_bind.specs.declared.body.BoundBody.{BoundBody}
use Rattle.assert_bind.specs.declared.body.BoundBody.TheVariants as body
use Rattle.assert_bind.specs.declared.subject.Subject.TheVariants as of
use Rattle.bt_image.specs.Image.{is_code}
use Rattle.report_runs.specs.Laws.{CodeBinds}

-- the targets of an assertion that speaks of code are code
targets_are : (image : List ℕ) (a : ℕ) (says : BoundBody) → SpeaksOfCode image says → IfSome (targets_in says) (λ to. Contains to a → is_code image a ≡ true)
targets_are image a (body.Root entry) speaks = tt
targets_are image a (body.Never pc) speaks = tt
targets_are image a (body.At pc reg lo hi) speaks = tt
targets_are image a (body.Jump pc to) speaks = λ has. All-contains (IsCode image) to a speaks.1 has
targets_are image a (body.CallTo pc to) speaks = λ has. All-contains (IsCode image) to a speaks.1 has
targets_are image a (body.Loop pc count) speaks = tt
targets_are image a (body.Stub entry time) speaks = tt

-- those that are listed for an instruction are
listed_are : (image : List ℕ) (list : List BoundAssertion) (pc a : ℕ) → All (SpeaksOfCodeIn image) list
    → IfSome (listed list pc) (λ to. Contains to a → is_code image a ≡ true)
listed_are image list pc a speak = by (about list (of.Targets pc)) refl where
  by : (o : Option BoundAssertion) → about list (of.Targets pc) ≡ o
      → IfSome (option_and_then (λ assertion. targets_in assertion.body) o) (λ to. Contains to a → is_code image a ≡ true)
  by None is = tt
  by (Some x) is =
      let at : IsAbout list (of.Targets pc) x = found list (of.Targets pc) x is in
      targets_are image a x.body (All-contains (SpeaksOfCodeIn image) list x speak (at.place, at.within, at.there))

-- assertions are bound to the image whose code they speak of
pub code_binds : CodeBinds
code_binds image list accepted sound speak = record {
  accepted = accepted.unrefused;
  bytes = accepted.bytes;
  sound = sound;
  code = λ pc a. listed_are image list pc a speak;
}
