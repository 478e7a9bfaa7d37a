-- The numbers of code, gathered one address after the other.
use Rattle.std.proofs.Common.{◌≡◌, ℕ, ℤ, ◌+◌, ◌%◌, ◌<◌, ◌≤◌, ◌^◌, ◌&&◌, if◌then◌else◌, IfSome, Bool, true, false, List, [], ◌++◌, Option, Some, None}
use Rattle.std.proofs.Common.{MatchOption, Contains, refl, sym, ◌∙◌, subst, arith, eqb, is_some, inl, inr}
use Rattle.std.specs.Option.{option_map}
use Rattle.std.proofs.lemmas.Bool.{cases_lt}
use Rattle.bt_image.specs.Image.{is_code, held, word, IsNextCode, HasNoCodeFrom}
use Rattle.bt_image.specs.Section.{is_code_section}
use Rattle.sparc_decode.specs.Instr.{instruction_of}
use Rattle.sparc_decode.specs.declared.instruction.Instr.{Instr}
use Rattle.sparc_machine.specs.Straight.{code_instruction}
use Rattle.code_thresholds.specs.Noted.{AreGathered, AreNotedTo, IsNoted}
use Rattle.code_thresholds.specs.Number.{AreOfCode, IsOfCode, numbers_of}
use Rattle.std.proofs.lemmas.List.Elements.{Contains-append_left, Contains-append_right, Contains-append_cases}
use borrow.Author.Tests.{eqb-true}

both : (a b : Bool) → (a && b) ≡ true → (a ≡ true) × (b ≡ true)
both true true h = (refl, refl)
both true false h = cc
both false b h = cc

pub aligned : (image : List ℕ) (a : ℕ) → is_code image a ≡ true → a % 4 ≡ 0
aligned image a code = eqb-true (a % 4) 0 (both (eqb (a % 4) 0) (is_some (held is_code_section image a 4)) code).0

clash : {A : Type 0} (b : Bool) → b ≡ false → b ≡ true → A
clash b off on = cc

-- noted are those below the address from which the next one is sought
below_sought : (image : List ℕ) (list : List ℤ) (x f a : ℕ) → is_code image x ≡ true → f ≤ x + 4
    → ((b : ℕ) → b < x + 1 → is_code image b ≡ true → IsNoted image list b) → a < f → is_code image a ≡ true → IsNoted image list a
below_sought image list x f a here near noted lt code = elim (cases_lt a (x + 1)) [
  | inl small ↦ noted a small code
  | inr large ↦
      let one : x % 4 ≡ 0 = aligned image x here in
      let other : a % 4 ≡ 0 = aligned image a code in
      absurd (omega arith)
]

-- so are those up to the next address that is found from there on
pub noted_to : (image : List ℕ) (list : List ℤ) (f : ℕ) (o : Option ℕ)
    → ((a : ℕ) → a < f → is_code image a ≡ true → IsNoted image list a) → MatchOption o (HasNoCodeFrom image f) (IsNextCode image f)
    → AreNotedTo image list o
noted_to image list f None noted none = λ a code. elim (cases_lt a f) [
  | inl small ↦ noted a small code
  | inr large ↦ clash (is_code image a) (none a large) code
]
noted_to image list f (Some y) noted next = (
  next.code,
  λ a lt code. elim (cases_lt a f) [
    | inl small ↦ noted a small code
    | inr large ↦ clash (is_code image a) (next.least a large lt) code
  ],
)

-- up to the next word of code all is noted
pub noted_behind : (image : List ℕ) (list : List ℤ) (x f : ℕ) (o : Option ℕ) → is_code image x ≡ true → f ≤ x + 4
    → ((b : ℕ) → b < x + 1 → is_code image b ≡ true → IsNoted image list b) → MatchOption o (HasNoCodeFrom image f) (IsNextCode image f)
    → AreNotedTo image list o
noted_behind image list x f o here near noted next =
    noted_to image list f o (λ a lt code. below_sought image list x f a here near noted lt code) next

-- an address more
one_more : (image : List ℕ) (list : List ℤ) (x : ℕ) → ((a : ℕ) → a < x → is_code image a ≡ true → IsNoted image list a) → IsNoted image list x
    → (a : ℕ) → a < x + 1 → is_code image a ≡ true → IsNoted image list a
one_more image list x noted here a lt code = elim (cases_lt a x) [
  | inl small ↦ noted a small code
  | inr large ↦ let same : x ≡ a = omega arith in subst (λ (b : ℕ). IsNoted image list b) same here
]

-- where no instruction stands, nothing has to be noted
pub noted_none : (image : List ℕ) (list : List ℤ) (x : ℕ) → code_instruction image x ≡ None → ((a : ℕ) → a < x → is_code image a ≡ true → IsNoted image list a)
    → (a : ℕ) → a < x + 1 → is_code image a ≡ true → IsNoted image list a
noted_none image list x none noted = one_more image list x noted (λ i is z has. let clash : Some i ≡ None = sym is ∙ none in absurd (cc))

-- the numbers of one instruction more are noted
pub noted_some : (image : List ℕ) (list items : List ℤ) (x : ℕ) (i : Instr) → code_instruction image x ≡ Some i
    → ((a : ℕ) → a < x → is_code image a ≡ true → IsNoted image list a) → items ≡ list ++ numbers_of i
    → (a : ℕ) → a < x + 1 → is_code image a ≡ true → IsNoted image items a
noted_some image list items x i is noted same =
    one_more image items x
    (λ a lt code j at z has. subst (λ (l : List ℤ). Contains l z) (sym same) (Contains-append_left list (numbers_of i) z (noted a lt code j at z has)))
    (λ j at z has.
    let one : i ≡ j = cc in
    subst (λ (l : List ℤ). Contains l z) (sym same)
    (Contains-append_right list (numbers_of i) z (subst (λ (k : Instr). Contains (numbers_of k) z) (sym one) has)))

-- each number that is added is of the code
pub each_some : (image : List ℕ) (list items : List ℤ) (x : ℕ) (i : Instr) → code_instruction image x ≡ Some i
    → ((z : ℤ) → Contains list z → IsOfCode image z) → items ≡ list ++ numbers_of i
    → (z : ℤ) → Contains items z → IsOfCode image z
each_some image list items x i is each same z has =
    elim (Contains-append_cases list (numbers_of i) z (subst (λ (l : List ℤ). Contains l z) same has)) [
      | inl old ↦ each z old
      | inr new ↦ record { place = x; instruction = i; stands = is; number = new }
    ]

code_where : (b : Bool) (w : Option ℕ) (i : Instr) → option_map instruction_of (if b then w else None) ≡ Some i → b ≡ true
code_where true w i same = refl
code_where false w i same = cc

-- where no address is left, all are noted
pub gathered : (image : List ℕ) (list : List ℤ) → AreGathered image list None → AreOfCode image list
gathered image list is = record {
  each = is.each;
  all = λ z of. is.noted of.place (code_where (is_code image of.place) (word image of.place) of.instruction of.stands) of.instruction of.stands z of.number;
}

pub nothing_yet : (image : List ℕ) (o : Option ℕ) → MatchOption o (HasNoCodeFrom image 0) (IsNextCode image 0) → AreGathered image [] o
nothing_yet image o next = record {
  each = λ z has. absurd (omega (arith, has.1));
  noted = noted_to image [] 0 o (λ a lt code. absurd (omega arith)) next;
}

-- an address of code has another behind it
pub has_behind : (image : List ℕ) (x : ℕ) → is_code image x ≡ true → x < 2 ^ 32 → x < 4294967295
has_behind image x here fits = let is : x % 4 ≡ 0 = aligned image x here in omega arith

-- the next word of code is greater
pub greater_than : (image : List ℕ) (x f : ℕ) (o : Option ℕ) → x < f → MatchOption o (HasNoCodeFrom image f) (IsNextCode image f) → IfSome o (λ y. x < y)
greater_than image x f None lt none = tt
greater_than image x f (Some y) lt next = let above : f ≤ y = next.above in omega arith
