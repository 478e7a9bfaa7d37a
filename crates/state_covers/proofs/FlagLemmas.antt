-- What the condition codes say of contents.
use Rattle.std.proofs.Common.{◌≡◌, ℕ, ◌%◌, ◌^◌, ◌<◌, inl, inr, ◌||◌, Bool, true, false, refl, sym, ap, subst, ◌∙◌, arith}
use Rattle.std.specs.Prelude.{◌==◌, not, nat_le, if◌then◌else◌}
use Rattle.std.proofs.lemmas.Bool.{false≢true}
use Rattle.abs_state.specs.declared.flags.Flags.{Flags as Known}
use Rattle.abs_state.specs.declared.flags.Flags.TheVariants.{Unknown, Cmp, Res}
use Rattle.abs_state.specs.declared.flags.Right.{Right}
use Rattle.abs_state.specs.declared.flags.Right.TheVariants.{Cell, Word}
use Rattle.abs_state.proofs.FlagsLemmas.{or_first, or_second}
use Rattle.abs_state.specs.Flags.{names}
use Rattle.cell_places.specs.Place.{with_content}
use Rattle.cell_places.proofs.PlaceLemmas.{with_content-other}
use Rattle.state_covers.specs.Covers.{FlagsMean, ShowsWord, right_in}
use Rattle.state_covers.specs.Law.{ConditionsAreKnown}
use Rattle.std.proofs.lemmas.Bool.Decides.{nat_tests, eqb_tells}
use Rattle.word_ops.specs.Condition.{holds_of}
use Rattle.word_ops.specs.Flags.{difference_flags_of}
use Rattle.word_ops.specs.Word.{difference_of}
use Rattle.word_ops.specs.declared.arithmetic.Flags.{Flags}

-- flags stay right where the cells that they name hold what they held
pub mean_same : (known : Known) (old new : ℕ → ℕ) (f : Flags) → ((c : ℕ) → names known c ≡ true → new c ≡ old c) → FlagsMean known old f → FlagsMean known new f
mean_same Unknown old new f same means = tt
mean_same (Cmp left (Cell c)) old new f same means =
    let t : (left == left) ≡ true = grind (arith, nat_tests) in
    let u : (c == c) ≡ true = grind (arith, nat_tests) in
    let a : new left ≡ old left = same left (or_first (left == left) (c == left) t) in
    let b : new c ≡ old c = same c (or_second (left == c) (c == c) u) in
    means ∙ (λ i. difference_flags_of (sym a i) (sym b i) false)
mean_same (Cmp left (Word w)) old new f same means =
    let t : (left == left) ≡ true = grind (arith, nat_tests) in
    let a : new left ≡ old left = same left (or_first (left == left) false t) in
    means ∙ (λ i. difference_flags_of (sym a i) w false)
mean_same (Res cell) old new f same means =
    let t : (cell == cell) ≡ true = grind (arith, nat_tests) in
    let a : new cell ≡ old cell = same cell t in
    subst (λ (w : ℕ). ShowsWord w f) (sym a) means

-- what is written to a cell leaves flags right that don't name it; those that do are forgotten
pub mean_written : (known : Known) (contents : ℕ → ℕ) (f : Flags) (c w : ℕ) → FlagsMean known contents f
    → FlagsMean (if names known c then Unknown else known) (with_content contents c w) f
mean_written known contents f c w means = by (names known c) refl where
  by : (b : Bool) → names known c ≡ b → FlagsMean (if b then Unknown else known) (with_content contents c w) f
  by true is = tt
  by false is =
      mean_same known contents (with_content contents c w) f
      (λ k named. with_content-other contents c w k (λ same. false≢true (sym is ∙ subst (λ (x : ℕ). names known x ≡ true) same named))) means

compared : (left condition : ℕ) (right : Right) (contents : ℕ → ℕ) (f : Flags) → FlagsMean (Cmp left right) contents f
    → holds_of condition f ≡ holds_of condition (difference_flags_of (contents left) (right_in contents right) false)
compared left condition right contents f means = ap (λ (x : Flags). holds_of condition x) means

-- a word less 0 is the word
less_zero : (w : ℕ) → w < 2 ^ 32 → difference_of w 0 false ≡ w
less_zero w within = omega arith

-- conditions that ask for the zero or the sign alone
zero_asked : (condition : ℕ) → condition < 16 → condition % 8 ≡ 1 → (f g : Flags) → f.z ≡ g.z → holds_of condition f ≡ holds_of condition g
zero_asked condition few is f g same = elim (eqb_tells condition 1) [
  | inl one ↦ subst (λ (c : ℕ). holds_of c f ≡ holds_of c g) (sym one.1) same
  | inr other ↦ (let nine : condition ≡ 9 = (let o = other.1 in omega arith) in subst (λ (c : ℕ). holds_of c f ≡ holds_of c g) (sym nine) (ap not same))
]

sign_asked : (condition : ℕ) → condition < 16 → condition % 8 ≡ 6 → (f g : Flags) → f.n ≡ g.n → holds_of condition f ≡ holds_of condition g
sign_asked condition few is f g same = elim (eqb_tells condition 6) [
  | inl six ↦ subst (λ (c : ℕ). holds_of c f ≡ holds_of c g) (sym six.1) same
  | inr other ↦
      (let fourteen : condition ≡ 14 = (let o = other.1 in omega arith) in subst (λ (c : ℕ). holds_of c f ≡ holds_of c g) (sym fourteen) (ap not same))
]

result : (cell condition : ℕ) (contents : ℕ → ℕ) (f : Flags) → condition < 16 → ((condition % 8 == 1) || (condition % 8 == 6)) ≡ true
    → contents cell < 2 ^ 32 → FlagsMean (Res cell) contents f → holds_of condition f ≡ holds_of condition (difference_flags_of (contents cell) 0 false)
result cell condition contents f few asks word shows = elim (eqb_tells (condition % 8) 1) [
  | inl one ↦ zero_asked condition few one.1 f (difference_flags_of (contents cell) 0 false)
      (shows.zero ∙ sym (ap (λ (w : ℕ). w == 0) (less_zero (contents cell) word)))
  | inr other ↦ elim (eqb_tells (condition % 8) 6) [
    | inl six ↦
        sign_asked condition few six.1 f (difference_flags_of (contents cell) 0 false)
        (shows.negative ∙ sym (ap (λ (w : ℕ). nat_le (2 ^ 31) w) (less_zero (contents cell) word)))
    | inr none ↦ (let no : ((condition % 8 == 1) || (condition % 8 == 6)) ≡ false =
        (let t = other.0 in let u = none.0 in rw (t, u) refl) in absurd (false≢true (sym no ∙ asks)))
  ]
]

-- what a condition over the condition codes says of the cells that a state names
pub conditions_are_known : ConditionsAreKnown
conditions_are_known = record { compared = compared; result = result }
