-- The classes of a version: where they stand, and which of them a line can name.
use Rattle.std.proofs.Common.{◌≡◌, ℕ, ◌<◌, inl, inr, Bool, true, ◌&&◌, List, [], ◌∷◌, length, get_or, Option, Some, None, Ok, refl, sym, ap, subst}
use Rattle.std.proofs.Common.{◌∙◌, arith, ltb}
use Rattle.std.specs.Prelude.{find}
use Rattle.std.specs.Str.{bytes_eq}
use Rattle.std.proofs.lemmas.Bool.{cases_Bool, ltb-true, and_parts}
use Rattle.std.proofs.lemmas.List.{get_or-take}
use Rattle.cycle_table.specs.Class.{classes, classes_of, class_named, place_of, count_of, name_of}
use Rattle.cycle_table.specs.Row.{says, names_as, costs_as, ends_with, greatest_cost}
use Rattle.line_text.specs.Numeral.{number_up_to}
use Rattle.cycle_table.specs.declared.classes.Version.{Version}
use Rattle.cycle_table.specs.declared.classes.Version.TheVariants.{One, Two}
use Rattle.sparc_decode.specs.declared.cost_class.CostClass.{CostClass}
use Rattle.sparc_decode.specs.declared.cost_class.CostClass.TheVariants.{Alu, Shift, Sethi, Tagged, Mulscc, Save, Restore, Branch, Floatbranch, Call}
use Rattle.sparc_decode.specs.declared.cost_class.CostClass.TheVariants.{Jump, Load, Loaddouble, Store, Storedouble, Atomic, Ready, Writey, Flush}
use Rattle.sparc_decode.specs.declared.cost_class.CostClass.TheVariants.{Floatop, Floatcmp, Floatload, Floatloaddouble, Floatstore, Floatstoredouble}
use Rattle.sparc_decode.specs.declared.cost_class.CostClass.TheVariants.{Trap, Annulled, Loaduse, Multiply, Divide, Unmodelled}

-- the class at a place
pub class_at : (class : CostClass) → get_or classes (place_of class) Unmodelled ≡ class
class_at Alu = refl
class_at Shift = refl
class_at Sethi = refl
class_at Tagged = refl
class_at Mulscc = refl
class_at Save = refl
class_at Restore = refl
class_at Branch = refl
class_at Floatbranch = refl
class_at Call = refl
class_at Jump = refl
class_at Load = refl
class_at Loaddouble = refl
class_at Store = refl
class_at Storedouble = refl
class_at Atomic = refl
class_at Ready = refl
class_at Writey = refl
class_at Flush = refl
class_at Floatop = refl
class_at Floatcmp = refl
class_at Floatload = refl
class_at Floatloaddouble = refl
class_at Floatstore = refl
class_at Floatstoredouble = refl
class_at Trap = refl
class_at Annulled = refl
class_at Loaduse = refl
class_at Multiply = refl
class_at Divide = refl
class_at Unmodelled = refl

-- two classes at one place are one
pub same_class : (one other : CostClass) → place_of one ≡ place_of other → one ≡ other
same_class one other same = sym (class_at one) ∙ ap (λ (n : ℕ). get_or classes n Unmodelled) same ∙ class_at other

-- a place of a version's class is one of all
pub inside_all : (version : Version) (n : ℕ) → n < count_of version → n < 30
inside_all One n within = omega arith
inside_all Two n within = within

-- a version's classes are as many as it has
pub as_many : (version : Version) → length (classes_of version) ≡ count_of version
as_many One = refl
as_many Two = refl

-- a class of a version stands at its place in the list of its classes
pub stands_in : (version : Version) (class : CostClass) → place_of class < count_of version → get_or (classes_of version) (place_of class) Unmodelled ≡ class
stands_in One class within = get_or-take 27 classes (place_of class) Unmodelled within ∙ class_at class
stands_in Two class within = class_at class

abbrev all_pass : (CostClass → Bool) → List CostClass → Bool
all_pass q [] = true
all_pass q (x ∷ xs) = q x && all_pass q xs

-- what is found passes a test that all pass
found_passes : (q p : CostClass → Bool) (xs : List CostClass) (x : CostClass) → all_pass q xs ≡ true → find p xs ≡ Some x → q x ≡ true
found_passes q p [] x all found = cc
found_passes q p (first ∷ xs) x all found = elim (cases_Bool (p first)) [
  | inl passes ↦
      (let same : first ≡ x = (let e = rw passes at found in cc) in subst (λ (c : CostClass). q c ≡ true) same (and_parts (q first) (all_pass q xs) all).0)
  | inr fails ↦ found_passes q p xs x (and_parts (q first) (all_pass q xs) all).1 (rw fails at found)
]

all_within : (version : Version) → all_pass (λ c. ltb (place_of c) (count_of version)) (classes_of version) ≡ true
all_within One = refl
all_within Two = refl

-- a word names a class of the version
names_within : (version : Version) (word : List ℕ) (class : CostClass) → class_named version word ≡ Some class → place_of class < count_of version
unfolding class_named
names_within version word class named =
    ltb-true (place_of class) (count_of version)
    (found_passes (λ c. ltb (place_of c) (count_of version)) (λ c. bytes_eq (name_of c) word) (classes_of version) class (all_within version) named)

-- what follows the name of a class is said of it
of_this : (class other : CostClass) (cost : ℕ) (more : List (List ℕ)) → costs_as class more ≡ Ok (other, cost) → class ≡ other
of_this class other cost [] said = cc
of_this class other cost (word ∷ more) said = go (number_up_to greatest_cost word) more said where
  go : (number : Option ℕ) (rest : List (List ℕ)) → ends_with class number rest ≡ Ok (other, cost) → class ≡ other
  go None rest e = cc
  go (Some n) [] e = (let pairs : (class, n) ≡ (other, cost) = cc in ap (λ (p : CostClass × ℕ). p.0) pairs)
  go (Some n) (extra ∷ rest) e = cc

-- a line says the cost of a class of its version
pub says_within : (version : Version) (words : List (List ℕ)) (class : CostClass) (cost : ℕ) → says version words ≡ Ok (class, cost)
    → place_of class < count_of version
says_within version [] class cost said = cc
says_within version (name ∷ more) class cost said = go (class_named version name) refl said where
  go : (named : Option CostClass) → class_named version name ≡ named → names_as named more ≡ Ok (class, cost) → place_of class < count_of version
  go None is e = cc
  go (Some this) is e = subst (λ (c : CostClass). place_of c < count_of version) (of_this this class cost more e) (names_within version name this is)
