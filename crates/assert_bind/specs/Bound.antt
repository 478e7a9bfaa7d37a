-- What it means that assertions are bound to an image, and that they are refused: laws above `binding`.
use Rattle.std.specs.Prelude.{◌≡◌, ℕ, true, List, [], ◌∷◌, ◌++◌, Ok, Err, ◌↔◌, Contains}
use Rattle.std.specs.List.{AllPairs}
use Rattle.assert_lang.specs.declared.assertion.Assertion.{Assertion}
use Rattle.assert_bind.specs.Binding.{binding}
use Rattle.assert_bind.specs.Index.{AreApart}
use Rattle.assert_bind.specs.Says.{Says, SaysNothing}
use Rattle.assert_bind.specs.Subject.{subject_of, is_same}
use Rattle.assert_bind.specs.declared.body.BoundAssertion.{BoundAssertion}
use Rattle.assert_bind.specs.declared.body.BoundBody.{BoundBody}
use Rattle.assert_bind.specs.declared.refusal.BindRefusal.{BindRefusal}
use Rattle.assert_bind.specs.declared.refusal.BindRefusal.TheVariants.{Conflict}

-- a bound assertion stands in the line of a written one, and says what that one says
pub record IsBoundTo (image : List ℕ) (assertion : Assertion) (bound : BoundAssertion) : Type 0 where
  pub line : bound.line ≡ assertion.line
  pub says : Says image assertion.body bound.body

-- bound assertions are those of written ones, one for each in their order
pub data AreBoundTo (image : List ℕ) : List Assertion → List BoundAssertion → Type 0 where
  NoneYet : AreBoundTo image [] []
  OneMore : (assertion : Assertion) (bound : BoundAssertion) (assertions : List Assertion) (list : List BoundAssertion)
      → IsBoundTo image assertion bound → AreBoundTo image assertions list
      → AreBoundTo image (assertion ∷ assertions) (bound ∷ list)

-- a list is bound to an image: each assertion says what is written, and no two speak of the same
pub record IsBound (image : List ℕ) (assertions : List Assertion) (list : List BoundAssertion) : Type 0 where
  pub each : AreBoundTo image assertions list
  pub apart : AllPairs AreApart list

-- an assertion behind bound ones is refused: it says nothing, or an earlier one speaks of the same
pub data IsRefusedBehind (image : List ℕ) (earlier : List BoundAssertion) (assertion : Assertion) : BindRefusal → Type 0 where
  OfItself : (why : BindRefusal) → SaysNothing image assertion.line assertion.body why → IsRefusedBehind image earlier assertion why
  ForAnother : (says : BoundBody) (other : BoundAssertion) → Says image assertion.body says → Contains earlier other
      → is_same (subject_of other.body) (subject_of says) ≡ true
      → IsRefusedBehind image earlier assertion (Conflict assertion.line other.line)

-- the first assertion of a list that is refused: those before it are bound
pub record IsFirstRefused (image : List ℕ) (assertions : List Assertion) (why : BindRefusal) : Type 0 where
  pub earlier : List Assertion
  pub assertion : Assertion
  pub later : List Assertion
  pub list : List BoundAssertion
  pub are : assertions ≡ earlier ++ assertion ∷ later
  pub before : IsBound image earlier list
  pub refused : IsRefusedBehind image list assertion why

-- a list has a binding exactly where that is what it means, and so it has one at most
abbrev pub BindingsAreMeant : Type 0
BindingsAreMeant = (image : List ℕ) (assertions : List Assertion) (list : List BoundAssertion)
    → (binding image assertions ≡ Ok list) ↔ IsBound image assertions list

-- a list is refused exactly for its first assertion that is refused
abbrev pub RefusalsAreFirst : Type 0
RefusalsAreFirst = (image : List ℕ) (assertions : List Assertion) (why : BindRefusal)
    → (binding image assertions ≡ Err why) ↔ IsFirstRefused image assertions why
