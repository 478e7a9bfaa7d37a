-- Contexts by subprogram, and the number of each in their list.
use Rattle.std.specs.Prelude.{◌≡◌, ℕ, ℤ, ◌⊎◌, List, [], ◌∷◌, ◌++◌, Contains, length, slice_get, Option, Some, None, Vec}
use Rattle.std.specs.BTreeMap.{BTreeMap, get}
use Rattle.std.specs.Cmp.Lexicographic.{slice_cmp}
use Rattle.std.specs.Ordering.{int_cmp}
use Rattle.std.specs.declared.alloc.Global.{Global}
use Rattle.std.specs.declared.cmp.Ordering.{Ordering}
use Rattle.wcet_report.specs.declared.context.Context.{Context}
use Rattle.context_list.specs.Code.{code_of}

-- a subprogram and its context
abbrev pub One : Type 0
One = ℕ × Context

-- where one stands in a list, if it does
abbrev pub IsNumberOf : List One → One → Option ℕ → Type 0
IsNumberOf list one None = Contains list one → ⊥
IsNumberOf list one (Some n) = slice_get list n ≡ Some one

-- one stands in a list already, or comes to its end
abbrev pub IsPut : List One → List One → One → ℕ → Type 0
IsPut old new one n =
    ((new ≡ old) × (slice_get old n ≡ Some one))
    ⊎ ((new ≡ old ++ one ∷ []) × (n ≡ length old) × (Contains old one → ⊥))

-- how two lists of numbers compare
abbrev pub code_cmp : Vec ℤ Global → Vec ℤ Global → Ordering
code_cmp a b = slice_cmp int_cmp a.items b.items

-- the one at a number has this code
pub record HasCodeAt (list : List One) (n : ℕ) (code : List ℤ) : Type 0 where
  pub one : One
  pub at : slice_get list n ≡ Some one
  pub is : code_of one ≡ code

-- the numbers are those of all in the list, by their codes
pub record AreNumbered (list : List One) (numbers : BTreeMap (Vec ℤ Global) ℕ) : Type 0 where
  pub has : (q : Vec ℤ Global) (n : ℕ) → get code_cmp numbers q ≡ Some n → HasCodeAt list n q.items
  pub all : (q : Vec ℤ Global) (n : ℕ) (one : One) → slice_get list n ≡ Some one → code_of one ≡ q.items → get code_cmp numbers q ≡ Some n
