-- What is known of the condition codes: the order, the join, and which cells it speaks of.
use Rattle.std.proofs.Common.{◌≡◌, ℕ, ◌⊎◌, inl, inr, ◌&&◌, ◌||◌, Bool, true, false, refl, sym, ap, subst, ◌∙◌, eq-eqb}
use Rattle.std.specs.Prelude.{◌==◌, if◌then◌else◌}
use Rattle.std.proofs.lemmas.Bool.{and_parts, and_from, cases_Bool, eqb-true, false≢true}
use Rattle.abs_state.specs.Flags.{names, is_right_cell, right_eq, flags_eq, is_unknown, joined_flags, flags_at_most}
use Rattle.abs_state.specs.declared.flags.Flags.{Flags}
use Rattle.abs_state.specs.declared.flags.Flags.TheVariants.{Unknown, Cmp, Res}
use Rattle.abs_state.specs.declared.flags.Right.{Right}
use Rattle.abs_state.specs.declared.flags.Right.TheVariants.{Cell, Word}

-- where one of two tests holds, the first or the second does
pub or_cases : (a b : Bool) → (a || b) ≡ true → (a ≡ true) ⊎ (b ≡ true)
or_cases true b e = inl refl
or_cases false b e = inr e

-- one of two tests holds where the first does
pub or_first : (a b : Bool) → a ≡ true → (a || b) ≡ true
or_first a b e = ap (λ (x : Bool). x || b) e

-- one of two tests holds where the second does
pub or_second : (a b : Bool) → b ≡ true → (a || b) ≡ true
or_second true b e = refl
or_second false b e = e

right_same : (r : Right) → right_eq r r ≡ true
right_same (Cell c) = eq-eqb c c refl
right_same (Word w) = eq-eqb w w refl

right_exact : (r s : Right) → right_eq r s ≡ true → r ≡ s
right_exact (Cell c) (Cell d) e = ap (λ (x : ℕ). Cell x) (eqb-true c d e)
right_exact (Cell c) (Word w) e = absurd (false≢true e)
right_exact (Word v) (Cell d) e = absurd (false≢true e)
right_exact (Word v) (Word w) e = ap (λ (x : ℕ). Word x) (eqb-true v w e)

pub flags_same : (f : Flags) → flags_eq f f ≡ true
flags_same Unknown = refl
flags_same (Cmp left right) = and_from (left == left) (right_eq right right) (eq-eqb left left refl) (right_same right)
flags_same (Res cell) = eq-eqb cell cell refl

pub flags_exact : (f g : Flags) → flags_eq f g ≡ true → f ≡ g
flags_exact Unknown Unknown e = refl
flags_exact Unknown (Cmp c d) e = absurd (false≢true e)
flags_exact Unknown (Res d) e = absurd (false≢true e)
flags_exact (Cmp a b) Unknown e = absurd (false≢true e)
flags_exact (Cmp a b) (Cmp c d) e =
    let parts = and_parts (a == c) (right_eq b d) e in
    let left = eqb-true a c parts.0 in
    let right = right_exact b d parts.1 in
    cc
flags_exact (Cmp a b) (Res d) e = absurd (false≢true e)
flags_exact (Res c) Unknown e = absurd (false≢true e)
flags_exact (Res c) (Cmp a b) e = absurd (false≢true e)
flags_exact (Res c) (Res d) e = ap (λ (x : ℕ). Res x) (eqb-true c d e)

unknown_exact : (f : Flags) → is_unknown f ≡ true → f ≡ Unknown
unknown_exact Unknown e = refl
unknown_exact (Cmp a b) e = absurd (false≢true e)
unknown_exact (Res c) e = absurd (false≢true e)

-- the one says no less where both say the same, or the other says nothing
pub up_cases : (f g : Flags) → flags_at_most f g ≡ true → (f ≡ g) ⊎ (g ≡ Unknown)
up_cases f g e =
    elim (or_cases (flags_eq f g) (is_unknown g) e) [
      | inl same ↦ inl (flags_exact f g same)
      | inr none ↦ inr (unknown_exact g none)
    ]

-- the same is at most itself
pub up_same : (f g : Flags) → f ≡ g → flags_at_most f g ≡ true
up_same f g e = subst (λ (x : Flags). flags_at_most f x ≡ true) e (or_first (flags_eq f f) (is_unknown f) (flags_same f))

-- all flags are at most unknown ones
pub up_unknown : (f g : Flags) → g ≡ Unknown → flags_at_most f g ≡ true
up_unknown f g e = or_second (flags_eq f g) (is_unknown g) (ap is_unknown e)

-- the order of flags goes on from one to the next
pub up_onward : (f g h : Flags) → flags_at_most f g ≡ true → flags_at_most g h ≡ true → flags_at_most f h ≡ true
up_onward f g h one two =
    elim (up_cases g h two) [
      | inr none ↦ up_unknown f h none
      | inl same ↦ subst (λ (x : Flags). flags_at_most f x ≡ true) same one
    ]

-- flags that are at most each other are the same
pub up_both : (f g : Flags) → flags_at_most f g ≡ true → flags_at_most g f ≡ true → f ≡ g
up_both f g one two =
    elim (up_cases f g one) [
      | inl same ↦ same
      | inr none ↦
          elim (up_cases g f two) [
            | inl same ↦ sym same
            | inr nothing ↦ nothing ∙ sym none
          ]
    ]

-- the join says what both say, or nothing
pub joined_cases : (f g : Flags) → ((f ≡ g) × (joined_flags f g ≡ f)) ⊎ (joined_flags f g ≡ Unknown)
joined_cases f g =
    elim (cases_Bool (flags_eq f g)) [
      | inl same ↦ inl (flags_exact f g same, rw same refl)
      | inr other ↦ inr (rw other refl)
    ]

-- the first flags are at most the joined ones
pub joined_first : (f g : Flags) → flags_at_most f (joined_flags f g) ≡ true
joined_first f g =
    elim (joined_cases f g) [
      | inl same ↦ up_same f (joined_flags f g) (sym same.1)
      | inr none ↦ up_unknown f (joined_flags f g) none
    ]

-- the second flags are at most the joined ones
pub joined_second : (f g : Flags) → flags_at_most g (joined_flags f g) ≡ true
joined_second f g =
    elim (joined_cases f g) [
      | inl same ↦ up_same g (joined_flags f g) (sym same.0 ∙ sym same.1)
      | inr none ↦ up_unknown g (joined_flags f g) none
    ]

-- joined flags are at most what both are at most
pub joined_least : (f g h : Flags) → flags_at_most f h ≡ true → flags_at_most g h ≡ true → flags_at_most (joined_flags f g) h ≡ true
joined_least f g h one two =
    elim (up_cases f h one) [
      | inr none ↦ up_unknown (joined_flags f g) h none
      | inl same ↦
          elim (up_cases g h two) [
            | inr none ↦ up_unknown (joined_flags f g) h none
            | inl also ↦
                (let e : f ≡ g = same ∙ sym also in
                let t : flags_eq f g ≡ true = subst (λ (x : Flags). flags_eq f x ≡ true) e (flags_same f) in
                let j : joined_flags f g ≡ f = rw t refl in
                up_same (joined_flags f g) h (j ∙ same))
          ]
    ]

-- a cell written is forgotten by what is known in order
without_cell : ℕ → Flags → Flags
without_cell c f = if names f c then Unknown else f

-- flags stay ordered where those that name a cell are forgotten
pub forget_up : (f g : Flags) (c : ℕ) → flags_at_most f g ≡ true → flags_at_most (if names f c then Unknown else f) (if names g c then Unknown else g) ≡ true
unfolding without_cell
forget_up f g c up =
    elim (up_cases f g up) [
      | inl same ↦ up_same (without_cell c f) (without_cell c g) (ap (without_cell c) same)
      | inr none ↦ up_unknown (without_cell c f) (without_cell c g) (ap (without_cell c) none)
    ]
