-- What is needed from some roots on, as a least set.
use Rattle.std.specs.Prelude.{◌≡◌, ℕ, ◌↔◌, Bool, true, List}
use Rattle.std.specs.List.{Contains, All}

-- the roots are needed, and what something that is needed asks for
pub data IsNeeded {K : Type 0} (roots : List K) (asks : K → List K) : K → Type 0 where
  root : {k : K} → Contains roots k → IsNeeded roots asks k
  asked : {k l : K} → IsNeeded roots asks k → Contains (asks k) l → IsNeeded roots asks l

-- what has the roots and all that its members ask for has all that is needed
abbrev pub NeededAreLeast : Type 0
NeededAreLeast = (roots : List ℕ) (asks : ℕ → List ℕ) (has : ℕ → Bool) → ((k : ℕ) → Contains roots k → has k ≡ true)
    → ((k l : ℕ) → has k ≡ true → Contains (asks k) l → has l ≡ true) → (k : ℕ) → IsNeeded roots asks k → has k ≡ true

-- a list of needed ones that has the roots and what its members ask for
pub record IsFound {K : Type 0} (roots : List K) (asks : K → List K) (found : List K) : Type 0 where
  pub needed : All (IsNeeded roots asks) found
  pub begun : (k : K) → Contains roots k → Contains found k
  pub asked : (k l : K) → Contains found k → Contains (asks k) l → Contains found l

-- it has exactly the needed ones
abbrev pub FoundAreTheNeeded : Type 0
FoundAreTheNeeded = (roots : List ℕ) (asks : ℕ → List ℕ) (found : List ℕ) → IsFound roots asks found → (k : ℕ) → Contains found k ↔ IsNeeded roots asks k
