-- Which places of the registers a step writes.
use Rattle.std.proofs.Common.{◌≡◌, ◌≢◌, ℕ, suc, ◌+◌, ◌%◌, ◌<◌, ◌⊎◌, inl, inr, Bool, true, false, List, [], ◌∷◌, Contains, refl, sym, ap, subst, ◌∙◌}
use Rattle.std.proofs.Common.{arith, eq-eqb}
use Rattle.std.specs.Prelude.{◌==◌, if◌then◌else◌}
use Rattle.std.proofs.lemmas.Bool.{false≢true}
use Rattle.std.proofs.lemmas.Bool.Decides.{eqb_tells}
use Rattle.value_lattice.proofs.LeastLemmas.{head_or_tail}
use Rattle.sparc_decode.proofs.FieldRanges.{all_in_range}
use Rattle.sparc_decode.specs.Instr.{InRange}
use Rattle.sparc_decode.specs.Register.{registers_written}
use Rattle.sparc_decode.specs.declared.instruction.Instr.{Instr}
use Rattle.sparc_decode.specs.declared.instruction.Instr.TheVariants.{Call, Unimp, Sethi, Branch, FloatBranch, Alu, Tagged, MulStep, Shift, ReadY}
use Rattle.sparc_decode.specs.declared.instruction.Instr.TheVariants.{WriteY, FloatOp, FloatCmp, Jmpl, Flush, Save, Restore, Ticc, Load, Store}
use Rattle.sparc_decode.specs.declared.instruction.Instr.TheVariants.{Atomic, FloatMem, Unmodelled as UnmodelledWord, Unknown, Multiply, Divide}
use Rattle.sparc_decode.specs.declared.instruction.LoadKind.{LoadKind}
use Rattle.sparc_decode.specs.declared.instruction.LoadKind.TheVariants.{Ld, Ldub, Lduh, Ldd, Ldsb, Ldsh}
use Rattle.sparc_decode.specs.declared.instruction.Second.{Second}
use Rattle.sparc_machine.specs.Effect.{Done, Trapped, effect_of, address_in, load_effect, read_into}
use Rattle.sparc_machine.specs.Memory.{load_size}
use Rattle.sparc_machine.specs.Reads.{AreElsewhere, IsElsewhere}
use Rattle.sparc_machine.specs.Register.{physical_of}
use Rattle.sparc_machine.specs.declared.free.Free.{Free}
use Rattle.sparc_machine.specs.declared.machine.Machine.{Machine}
use Rattle.sparc_machine.specs.declared.trap.Trap.TheVariants.{Misaligned, Unmodelled}
use Rattle.sparc_runs.proofs.StepLaws.{writes_only}
use Rattle.sparc_runs.proofs.Stepping.{parts, same_instruction}
use Rattle.step_covers.specs.Covered.{PlacesAreWritten}

-- registers that are written are below 32, where a step is taken
near_none : (r : ℕ) → Contains [] r → r < 32
near_none r there = absurd (omega (arith, there.1))

near_one : (rd r : ℕ) → rd < 32 → Contains (rd ∷ []) r → r < 32
near_one rd r low there = elim (head_or_tail rd [] r there) [
  | inl same ↦ omega arith
  | inr more ↦ near_none r more
]

near_two : (rd r : ℕ) → rd + 1 < 32 → Contains (rd ∷ (rd + 1) ∷ []) r → r < 32
near_two rd r low there = elim (head_or_tail rd ((rd + 1) ∷ []) r there) [
  | inl same ↦ omega arith
  | inr more ↦ near_one (rd + 1) r low more
]

-- a double word needs an even register
even_double : (image : List ℕ) (free : Free) (m after : Machine) (annulled : Bool) (rd a : ℕ) → load_effect image free m Ldd rd a ≡ Done after annulled
    → rd % 2 ≢ 1
even_double image free m after annulled rd a does odd = by (rd % 2 == 1) (eq-eqb (rd % 2) 1 odd) does where
  by : (b : Bool) → b ≡ true
      → (if b then Trapped Unmodelled else (if a % load_size Ldd == 0 then read_into image free m Ldd rd a else Trapped Misaligned)) ≡ Done after annulled → ⊥
  by true is there = cc
  by false is there = false≢true is

near_load : (image : List ℕ) (free : Free) (m after : Machine) (annulled : Bool) (kind : LoadKind) (rd rs1 : ℕ) (second : Second) (r : ℕ) → rd < 32
    → load_effect image free m kind rd (address_in m rs1 second) ≡ Done after annulled → Contains (registers_written (Load kind rd rs1 second)) r → r < 32
near_load image free m after annulled Ld rd rs1 second r low does there = near_one rd r low there
near_load image free m after annulled Ldub rd rs1 second r low does there = near_one rd r low there
near_load image free m after annulled Lduh rd rs1 second r low does there = near_one rd r low there
near_load image free m after annulled Ldd rd rs1 second r low does there =
    let even = even_double image free m after annulled rd (address_in m rs1 second) does in near_two rd r (omega arith) there
near_load image free m after annulled Ldsb rd rs1 second r low does there = near_one rd r low there
near_load image free m after annulled Ldsh rd rs1 second r low does there = near_one rd r low there

near : (image : List ℕ) (free : Free) (m after : Machine) (annulled : Bool) (i : Instr) (r : ℕ) → InRange i → effect_of image free m i ≡ Done after annulled
    → Contains (registers_written i) r → r < 32
near image free m after annulled (Call disp) r range does there = near_one 15 r (omega arith) there
near image free m after annulled (Unimp imm) r range does there = near_none r there
near image free m after annulled (Sethi rd imm) r range does there = near_one rd r range.0 there
near image free m after annulled (Branch annul condition disp) r range does there = near_none r there
near image free m after annulled (FloatBranch annul condition disp) r range does there = near_none r there
near image free m after annulled (Alu o cc rd rs1 second) r range does there = near_one rd r range.0 there
near image free m after annulled (Tagged o rd rs1 second) r range does there = near_one rd r range.0 there
near image free m after annulled (MulStep rd rs1 second) r range does there = near_one rd r range.0 there
near image free m after annulled (Shift o rd rs1 second) r range does there = near_one rd r range.0 there
near image free m after annulled (ReadY rd) r range does there = near_one rd r range there
near image free m after annulled (WriteY rs1 second) r range does there = near_none r there
near image free m after annulled (FloatOp these) r range does there = near_none r there
near image free m after annulled (FloatCmp these) r range does there = near_none r there
near image free m after annulled (Jmpl rd rs1 second) r range does there = near_one rd r range.0 there
near image free m after annulled (Flush rs1 second) r range does there = near_none r there
near image free m after annulled (Save rd rs1 second) r range does there = near_one rd r range.0 there
near image free m after annulled (Restore rd rs1 second) r range does there = near_one rd r range.0 there
near image free m after annulled (Ticc condition rs1 second) r range does there = near_none r there
near image free m after annulled (Load kind rd rs1 second) r range does there = near_load image free m after annulled kind rd rs1 second r range.0 does there
near image free m after annulled (Store kind rd rs1 second) r range does there = near_none r there
near image free m after annulled (Atomic swap rd rs1 second) r range does there = near_one rd r range.0 there
near image free m after annulled (FloatMem kind rd rs1 second) r range does there = near_none r there
near image free m after annulled (UnmodelledWord these) r range does there = near_none r there
near image free m after annulled (Unknown these) r range does there = near_none r there
near image free m after annulled (Multiply cc rd rs1 second) r range does there = near_one rd r range.0 there
near image free m after annulled (Divide cc rd rs1 second) r range does there = near_one rd r range.0 there

-- a place is that of one of these registers, or of none
record IsOneOf (next : Machine) (place : ℕ) (rs : List ℕ) : Type 0 where
  register : ℕ
  some : register ≢ 0
  among : Contains rs register
  is : physical_of next.cwp register ≡ place

one_or_none : (next : Machine) (place : ℕ) (rs : List ℕ) → AreElsewhere next place rs ⊎ IsOneOf next place rs
one_or_none next place [] = inl tt
one_or_none next place (r ∷ rest) = first (eqb_tells r 0) (eqb_tells (physical_of next.cwp r) place) (one_or_none next place rest) where
  behind : IsElsewhere next place r → AreElsewhere next place rest ⊎ IsOneOf next place rest
      → AreElsewhere next place (r ∷ rest) ⊎ IsOneOf next place (r ∷ rest)
  behind here (inl none) = inl (here, none)
  behind here (inr one) =
      inr (record { register = one.register; some = one.some; among = (suc one.among.0, omega (arith, one.among.1), one.among.2); is = one.is })

  first : ((r == 0) ≡ true × r ≡ 0) ⊎ ((r == 0) ≡ false × r ≢ 0)
      → ((physical_of next.cwp r == place) ≡ true × physical_of next.cwp r ≡ place)
      ⊎ ((physical_of next.cwp r == place) ≡ false × physical_of next.cwp r ≢ place)
      → AreElsewhere next place rest ⊎ IsOneOf next place rest → AreElsewhere next place (r ∷ rest) ⊎ IsOneOf next place (r ∷ rest)
  first (inl none) where_it_is more = behind (λ some. absurd (some none.1)) more
  first (inr some) (inl here) more = inr (record { register = r; some = some.1; among = (0, omega arith, refl); is = here.1 })
  first (inr some) (inr other) more = behind (λ any. other.1) more

-- a step writes no place of the registers but those of the registers that its instruction writes, in the window behind it
pub places_written : PlacesAreWritten
places_written image cycles m next i place step is = elim (one_or_none next place (registers_written i)) [
  | inl none ↦ inl (writes_only image cycles m next i step is place none)
  | inr one ↦
      (let s = parts image cycles m next step in
      let same = same_instruction image m.pc s.this i s.code is in
      let range : InRange i = subst InRange same (all_in_range s.this) in
      let does : effect_of image s.free m i ≡ Done s.after s.annulled = sym (ap (effect_of image s.free m) same) ∙ s.does in
      inr (record {
        register = one.register;
        within = near image s.free m s.after s.annulled i one.register range does one.among;
        some = one.some;
        writes = one.among;
        is = one.is;
      }))
]
