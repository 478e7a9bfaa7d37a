-- Lists of assertions bound to an image, and what is looked up in them. A binding is seen as the list of its
-- assertions, in their file's order.
use Rattle.std.specs.Prelude.{ℕ, ℤ, Bool, List, [], ◌∷◌, ◌++◌, Option, Some, None, is_some, Result, Ok, Err}
use Rattle.std.specs.List.{find, filter_map, flat_map}
use Rattle.std.specs.Option.{option_and_then}
use Rattle.assert_lang.specs.declared.assertion.Assertion.{Assertion}
use Rattle.assert_bind.specs.Body.{bound_body, followed}
use Rattle.assert_bind.specs.Subject.{subject_of, is_same}
use Rattle.assert_bind.specs.declared.body.BoundAssertion.{BoundAssertion}
use Rattle.assert_bind.specs.declared.body.BoundBody.{BoundBody}
use Rattle.assert_bind.specs.declared.body.BoundBody.TheVariants as body
use Rattle.assert_bind.specs.declared.body.LoopLine.{LoopLine}
use Rattle.assert_bind.specs.declared.refusal.BindRefusal.{BindRefusal}
use Rattle.assert_bind.specs.declared.refusal.BindRefusal.TheVariants.{Conflict}
use Rattle.assert_bind.specs.declared.subject.Subject.{Subject}
use Rattle.assert_bind.specs.declared.subject.Subject.TheVariants as of

-- the assertion speaks of the subject
abbrev pub speaks_of : Subject → BoundAssertion → Bool
speaks_of subject assertion = is_same (subject_of assertion.body) subject

-- the first assertion of a list that speaks of a subject
abbrev pub about : List BoundAssertion → Subject → Option BoundAssertion
about list subject = find (speaks_of subject) list

-- an assertion of a line, unless an earlier one speaks of the same
abbrev pub alone : ℕ → BoundBody → Option BoundAssertion → Result BoundAssertion BindRefusal
alone line says None = Ok (record { line = line; body = says })
alone line says (Some earlier) = Err (Conflict line earlier.line)

-- an assertion bound behind earlier ones, or its first refusal
abbrev pub bound_behind : List ℕ → List BoundAssertion → Assertion → Result BoundAssertion BindRefusal
bound_behind image earlier assertion =
    followed (λ says. alone assertion.line says (about earlier (subject_of says))) (bound_body image assertion.line assertion.body)

-- assertions bound behind earlier ones, or the refusal of the first that has one
abbrev pub all_behind : List ℕ → List BoundAssertion → List Assertion → Result (List BoundAssertion) BindRefusal
all_behind image earlier [] = Ok earlier
all_behind image earlier (assertion ∷ rest) = followed (λ bound. all_behind image (earlier ++ bound ∷ []) rest) (bound_behind image earlier assertion)

-- the binding of a list, or the refusal of its first assertion that has one
abbrev pub binding : List ℕ → List Assertion → Result (List BoundAssertion) BindRefusal
binding image list = all_behind image [] list

-- the entry of a root
abbrev pub root_in : BoundBody → Option ℕ
root_in (body.Root entry) = Some entry
root_in _ = None

-- the entry of a stub
abbrev pub stub_in : BoundBody → Option ℕ
stub_in (body.Stub entry time) = Some entry
stub_in _ = None

-- the time of a stub
abbrev pub time_in : BoundBody → Option ℕ
time_in (body.Stub entry time) = Some time
time_in _ = None

-- the ends of a register's range
abbrev pub range_in : BoundBody → Option (ℤ × ℤ)
range_in (body.At pc reg lo hi) = Some (lo, hi)
range_in _ = None

-- the targets of a jump or a call
abbrev pub targets_in : BoundBody → Option (List ℕ)
targets_in (body.Jump pc to) = Some to
targets_in (body.CallTo pc to) = Some to
targets_in _ = None

-- the count of a loop
abbrev pub count_in : BoundBody → Option ℕ
count_in (body.Loop pc count) = Some count
count_in _ = None

-- the line of a loop
abbrev pub loop_in : ℕ → BoundBody → Option LoopLine
loop_in line (body.Loop pc count) = Some (record { line = line; pc = pc; count = count })
loop_in line _ = None

-- the two ends of a range
abbrev pub ends_in : BoundBody → List ℤ
ends_in (body.At pc reg lo hi) = lo ∷ hi ∷ []
ends_in _ = []

-- the entries of the roots, in the file's order
abbrev pub roots : List BoundAssertion → List ℕ
roots list = filter_map (λ assertion. root_in assertion.body) list

-- the entries of the stubs, in the file's order
abbrev pub stubs : List BoundAssertion → List ℕ
stubs list = filter_map (λ assertion. stub_in assertion.body) list

-- the loops, in the file's order
abbrev pub loops : List BoundAssertion → List LoopLine
loops list = filter_map (λ assertion. loop_in assertion.line assertion.body) list

-- the lower and then the upper end of each range, in the file's order
abbrev pub ends : List BoundAssertion → List ℤ
ends list = flat_map (λ assertion. ends_in assertion.body) list

-- what the assertion about a subject gives, where there is one
abbrev pub told : {A : Type 0} → (BoundBody → Option A) → List BoundAssertion → Subject → Option A
told give list subject = option_and_then (λ assertion. give assertion.body) (about list subject)

-- the time of the stub with this entry
abbrev pub stub : List BoundAssertion → ℕ → Option ℕ
stub list entry = told time_in list (of.Entry entry)

-- the instruction is asserted not to be reached
abbrev pub never : List BoundAssertion → ℕ → Bool
never list pc = is_some (about list (of.Reach pc))

-- the range of a register's word at an instruction
abbrev pub range : List BoundAssertion → ℕ → ℕ → Option (ℤ × ℤ)
range list pc reg = told range_in list (of.Word pc reg)

-- the targets that are listed for the jump or call of an instruction
abbrev pub listed : List BoundAssertion → ℕ → Option (List ℕ)
listed list pc = told targets_in list (of.Targets pc)

-- how often the loop's head is passed at most
abbrev pub repeats : List BoundAssertion → ℕ → Option ℕ
repeats list pc = told count_in list (of.Loop pc)
