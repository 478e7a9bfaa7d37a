-- What is needed from some roots on, and lists that have it.
use Rattle.std.proofs.Common.{◌≡◌, ℕ, true, List}
use Rattle.std.specs.List.{Contains}
use Rattle.std.proofs.lemmas.List.Elements.{All-contains}
use Rattle.call_laws.specs.Needed.{IsNeeded, root, asked, NeededAreLeast, IsFound, FoundAreTheNeeded}

-- what holds of the roots and of all that is asked for holds of all that is needed, whatever the keys are
pub needed_least : {K : Type 0} (roots : List K) (asks : K → List K) (Has : K → Type 0) → ((k : K) → Contains roots k → Has k)
    → ((k l : K) → Has k → Contains (asks k) l → Has l) → (k : K) → IsNeeded roots asks k → Has k
needed_least roots asks Has at_root on k (root c) = at_root k c
needed_least roots asks Has at_root on k (asked {k = j} n c) = on j k (needed_least roots asks Has at_root on j n) c

-- what has the roots and all that its members ask for has all that is needed
pub are_least : NeededAreLeast
are_least roots asks has at_root on k n = needed_least roots asks (λ (x : ℕ). has x ≡ true) at_root on k n

-- a list that was found has exactly what is needed, whatever the keys are
pub found_exactly : {K : Type 0} (roots : List K) (asks : K → List K) (found : List K) → IsFound roots asks found
    → (k : K) → (Contains found k → IsNeeded roots asks k) × (IsNeeded roots asks k → Contains found k)
found_exactly roots asks found f k =
    ((λ c. All-contains (IsNeeded roots asks) found k f.needed c), (λ n. needed_least roots asks (Contains found) f.begun f.asked k n))

-- a list of needed ones that has the roots and all that its members ask for has exactly what is needed
pub found_needed : FoundAreTheNeeded
found_needed roots asks found f k = found_exactly roots asks found f k
