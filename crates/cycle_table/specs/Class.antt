-- The classes of instructions in a table of cycles: their order, their places and their names.
use Rattle.std.specs.Prelude.{◌==◌, ℕ, Bool, not, if◌then◌else◌, List, [], ◌∷◌, take, Option, find, slice_index, codes}
use Rattle.std.specs.Str.{bytes_eq}
use Rattle.cycle_table.specs.declared.classes.Version.{Version}
use Rattle.cycle_table.specs.declared.classes.Version.TheVariants.{One, Two}
use Rattle.sparc_decode.specs.declared.cost_class.CostClass.{CostClass}
use Rattle.sparc_decode.specs.declared.cost_class.CostClass.TheVariants.{Alu, Shift, Sethi, Tagged, Mulscc, Save, Restore, Branch, Floatbranch, Call}
use Rattle.sparc_decode.specs.declared.cost_class.CostClass.TheVariants.{Jump, Load, Loaddouble, Store, Storedouble, Atomic, Ready, Writey, Flush}
use Rattle.sparc_decode.specs.declared.cost_class.CostClass.TheVariants.{Floatop, Floatcmp, Floatload, Floatloaddouble, Floatstore, Floatstoredouble}
use Rattle.sparc_decode.specs.declared.cost_class.CostClass.TheVariants.{Trap, Annulled, Loaduse, Multiply, Divide, Unmodelled}

-- the classes in the order of a table
abbrev pub classes : List CostClass
classes =
    Alu ∷ Shift ∷ Sethi ∷ Tagged ∷ Mulscc ∷ Save ∷ Restore ∷ Branch
    ∷ Floatbranch ∷ Call ∷ Jump ∷ Load ∷ Loaddouble ∷ Store ∷ Storedouble ∷ Atomic
    ∷ Ready ∷ Writey ∷ Flush ∷ Floatop ∷ Floatcmp
    ∷ Floatload ∷ Floatloaddouble ∷ Floatstore ∷ Floatstoredouble ∷ Trap ∷ Annulled ∷ Loaduse ∷ Multiply ∷ Divide ∷ []

-- the place of a class in that order; the class that has no cost comes after them
abbrev pub place_of : CostClass → ℕ
place_of Alu = 0
place_of Shift = 1
place_of Sethi = 2
place_of Tagged = 3
place_of Mulscc = 4
place_of Save = 5
place_of Restore = 6
place_of Branch = 7
place_of Floatbranch = 8
place_of Call = 9
place_of Jump = 10
place_of Load = 11
place_of Loaddouble = 12
place_of Store = 13
place_of Storedouble = 14
place_of Atomic = 15
place_of Ready = 16
place_of Writey = 17
place_of Flush = 18
place_of Floatop = 19
place_of Floatcmp = 20
place_of Floatload = 21
place_of Floatloaddouble = 22
place_of Floatstore = 23
place_of Floatstoredouble = 24
place_of Trap = 25
place_of Annulled = 26
place_of Loaduse = 27
place_of Multiply = 28
place_of Divide = 29
place_of Unmodelled = 30

-- the name of a class in a table
abbrev pub name_of : CostClass → List ℕ
name_of Alu = codes "alu"
name_of Shift = codes "shift"
name_of Sethi = codes "sethi"
name_of Tagged = codes "tagged"
name_of Mulscc = codes "mulscc"
name_of Save = codes "save"
name_of Restore = codes "restore"
name_of Branch = codes "branch"
name_of Floatbranch = codes "floatbranch"
name_of Call = codes "call"
name_of Jump = codes "jump"
name_of Load = codes "load"
name_of Loaddouble = codes "loaddouble"
name_of Store = codes "store"
name_of Storedouble = codes "storedouble"
name_of Atomic = codes "atomic"
name_of Ready = codes "ready"
name_of Writey = codes "writey"
name_of Flush = codes "flush"
name_of Floatop = codes "floatop"
name_of Floatcmp = codes "floatcmp"
name_of Floatload = codes "floatload"
name_of Floatloaddouble = codes "floatloaddouble"
name_of Floatstore = codes "floatstore"
name_of Floatstoredouble = codes "floatstoredouble"
name_of Trap = codes "trap"
name_of Annulled = codes "annulled"
name_of Loaduse = codes "loaduse"
name_of Multiply = codes "multiply"
name_of Divide = codes "divide"
name_of Unmodelled = codes "unmodelled"

-- how many classes a version has: the second has three behind those of the first
abbrev pub count_of : Version → ℕ
count_of One = 27
count_of Two = 30

-- the classes of a version, in that order
abbrev pub classes_of : Version → List CostClass
classes_of One = take 27 classes
classes_of Two = classes

-- the class of a version that a word names
unfoldable pub class_named : Version → List ℕ → Option CostClass
class_named version word = find (λ class. bytes_eq (name_of class) word) (classes_of version)

-- the cost of a class among the costs in that order, and 0 where it has none
abbrev pub cost_at : List ℕ → CostClass → ℕ
cost_at costs class = slice_index costs (place_of class)

-- the first class of a version whose cost is 0
unfoldable pub first_free : Version → List ℕ → Option CostClass
first_free version costs = find (λ class. cost_at costs class == 0) (classes_of version)

-- the version of a table with these costs: a class that its version hasn't costs 0, and every other at least 1
abbrev pub version_of : List ℕ → Version
version_of costs = if cost_at costs Loaduse == 0 then One else Two

-- whether a table is of version 2, by which it charges the multiplications and divisions of SPARC Version 8
abbrev pub has_eight : List ℕ → Bool
has_eight costs = not (cost_at costs Loaduse == 0)
