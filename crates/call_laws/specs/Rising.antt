-- Lists that rise strictly, in any order of their members.
use Rattle.std.specs.Prelude.{◌≡◌, ℕ, ◌↔◌, List, [], ◌∷◌}
use Rattle.std.specs.List.{Contains, All}
use Rattle.std.specs.List.Sorted.{IsStrictlyIncreasing}
use Rattle.call_laws.specs.Reason.{Causes, IsReason}

-- each member is below all that follow it
abbrev pub IsRisingBy : {A : Type 0} → (A → A → Type 0) → List A → Type 0
IsRisingBy below [] = Unit {0}
IsRisingBy below (x ∷ xs) = All (below x) xs × IsRisingBy below xs

-- nothing is below itself, nor below what is below it
pub record IsStrict {A : Type 0} (below : A → A → Type 0) : Type 0 where
  pub apart : (a b : A) → below a b → below b a → ⊥

-- two lists of numbers that rise strictly and have the same members are one
abbrev pub RisingListsAreOne : Type 0
RisingListsAreOne = (xs ys : List ℕ) → IsStrictlyIncreasing xs → IsStrictlyIncreasing ys → ((n : ℕ) → Contains xs n ↔ Contains ys n) → xs ≡ ys

-- the list of the reasons of a context: it rises strictly, and its members are exactly the reasons
pub record IsReasonList (causes : Causes) (c : ℕ) (list : List ℕ) : Type 0 where
  pub rising : IsStrictlyIncreasing list
  pub members : (r : ℕ) → Contains list r ↔ IsReason causes c r

abbrev pub ReasonListsAreOne : Type 0
ReasonListsAreOne = (causes : Causes) (c : ℕ) (one two : List ℕ) → IsReasonList causes c one → IsReasonList causes c two → one ≡ two
