-- What assertions are bound to.
use Rattle.std.specs.Prelude.{◌≡◌, ℕ, ℤ, true, List, Result, Ok, Err, if◌then◌else◌, int_le, All}
use Rattle.assert_lang.specs.Bounds.{IsCount, IsRegister}
use Rattle.assert_lang.specs.declared.assertion.Body.{Body}
use Rattle.assert_lang.specs.declared.assertion.Body.TheVariants as written
use Rattle.bt_image.specs.Image.{is_code}
use Rattle.assert_bind.specs.Address.{bound_place, bound_places}
use Rattle.assert_bind.specs.declared.body.BoundAssertion.{BoundAssertion}
use Rattle.assert_bind.specs.declared.body.BoundBody.{BoundBody}
use Rattle.assert_bind.specs.declared.body.BoundBody.TheVariants as body
use Rattle.assert_bind.specs.declared.refusal.BindRefusal.{BindRefusal}
use Rattle.assert_bind.specs.declared.refusal.BindRefusal.TheVariants.{EmptyRange, Want}

-- what follows of a value, or the refusal before it
abbrev pub followed : {A B : Type 0} → (A → Result B BindRefusal) → Result A BindRefusal → Result B BindRefusal
followed more (Err refusal) = Err refusal
followed more (Ok value) = more value

-- what is made of a value, or the refusal before it
abbrev pub made : {A B : Type 0} → (A → B) → Result A BindRefusal → Result B BindRefusal
made make (Err refusal) = Err refusal
made make (Ok value) = Ok (make value)

-- a range of a register's word at an instruction, which isn't to be empty
abbrev pub ranged : ℕ → ℕ → ℤ → ℤ → ℕ → Result BoundBody BindRefusal
ranged line reg lo hi pc = if int_le lo hi then Ok (body.At pc reg lo hi) else Err (EmptyRange line)

-- what an assertion in a line is bound to, or its first refusal: its places from left to right, then its range
abbrev pub bound_body : List ℕ → ℕ → Body → Result BoundBody BindRefusal
bound_body image line (written.Root spot) = made body.Root (bound_place image line spot)
bound_body image line (written.Never spot) = made body.Never (bound_place image line spot)
bound_body image line (written.At spot reg lo hi) = followed (ranged line reg lo hi) (bound_place image line spot)
bound_body image line (written.Jump spot to) = followed (λ pc. made (body.Jump pc) (bound_places image line to)) (bound_place image line spot)
bound_body image line (written.CallTo spot to) = followed (λ pc. made (body.CallTo pc) (bound_places image line to)) (bound_place image line spot)
bound_body image line (written.Loop spot count) = made (λ pc. body.Loop pc count) (bound_place image line spot)
bound_body image line (written.Stub spot time) = made (λ entry. body.Stub entry time) (bound_place image line spot)

-- a refusal that something answers in place of what is defined: that one, or want of memory
abbrev pub IsRefusalOf : {A : Type 0} → Result A BindRefusal → BindRefusal → Type 0
IsRefusalOf defined Want = Unit {0}
IsRefusalOf defined refusal = defined ≡ Err refusal

-- each count and time is one, and each register too
abbrev pub IsWithin : BoundBody → Type 0
IsWithin (body.Root entry) = Unit {0}
IsWithin (body.Never pc) = Unit {0}
IsWithin (body.At pc reg lo hi) = IsRegister reg
IsWithin (body.Jump pc to) = Unit {0}
IsWithin (body.CallTo pc to) = Unit {0}
IsWithin (body.Loop pc count) = IsCount count
IsWithin (body.Stub entry time) = IsCount time

-- the same of an assertion of a list
abbrev pub SaysWithin : BoundAssertion → Type 0
SaysWithin assertion = IsWithin assertion.body

-- the address is one of code
abbrev pub IsCode : List ℕ → ℕ → Type 0
IsCode image address = is_code image address ≡ true

-- each address of an assertion is one of code
abbrev pub SpeaksOfCode : List ℕ → BoundBody → Type 0
SpeaksOfCode image (body.Root entry) = IsCode image entry
SpeaksOfCode image (body.Never pc) = IsCode image pc
SpeaksOfCode image (body.At pc reg lo hi) = IsCode image pc
SpeaksOfCode image (body.Jump pc to) = IsCode image pc × All (IsCode image) to
SpeaksOfCode image (body.CallTo pc to) = IsCode image pc × All (IsCode image) to
SpeaksOfCode image (body.Loop pc count) = IsCode image pc
SpeaksOfCode image (body.Stub entry time) = IsCode image entry

-- the same of an assertion of a list
abbrev pub SpeaksOfCodeIn : List ℕ → BoundAssertion → Type 0
SpeaksOfCodeIn image assertion = SpeaksOfCode image assertion.body
