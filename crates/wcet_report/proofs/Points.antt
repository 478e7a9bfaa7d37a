-- Texts of program points and cells tell what they are of, and have no byte but their own.
use Rattle.std.proofs.Common.{◌≡◌, ℕ, ◌+◌, ◌-◌, ◌/◌, ◌%◌, ◌^◌, ◌<◌, ◌≤◌, Bool, true, false, List, [], ◌∷◌, ◌++◌, refl, ap, sym, ◌∙◌, subst, arith}
use Rattle.std.proofs.Common.{get_or, codes, if◌then◌else◌}
use Rattle.std.proofs.lemmas.Bool.{eqb-true, ltb-true, ltb-false}
use Rattle.std.proofs.lemmas.Bool.Decides.{nat_tests}
use Rattle.std.proofs.lemmas.Fmt.{decimal_injective}
use Rattle.std.specs.Prelude.{◌==◌, decimal, nat_lt}
use Rattle.abs_state.specs.declared.key.Next.{Next}
use Rattle.abs_state.specs.declared.key.Next.TheVariants.{At, Into, Back}
use Rattle.abs_state.specs.declared.key.Place.{Place}
use Rattle.bt_base.specs.Text.{hex_digit, hex8_of}
use Rattle.wcet_report.proofs.Cuts.{Lacks, lacks-append, cut_once, bytes_behind}
use Rattle.wcet_report.proofs.Numbers.{NoDigit, hex8_tells, lacks_hex8, lacks_decimal}
use Rattle.wcet_report.specs.Laws.{NextInRange, IsPointOf}
use Rattle.wcet_report.specs.Node.{next_text, node_text, group_letter, register, cell_text}

-- an address behind an angle, or nothing where it is the next word
at_text : Bool → ℕ → List ℕ
at_text true n = []
at_text false n = 62 ∷ hex8_of n

digit_below : (d : ℕ) → hex_digit (d % 16) < 103
digit_below d = grind arith

at_tells : (b c : Bool) (m n x : ℕ) → (b ≡ true → m ≡ x) → (c ≡ true → n ≡ x) → m < 2 ^ 32 → n < 2 ^ 32 → at_text b m ≡ at_text c n → m ≡ n
unfolding at_text bytes_behind
at_tells true true m n x at_m at_n m_less n_less same = at_m refl ∙ sym (at_n refl)
at_tells true false m n x at_m at_n m_less n_less same =
    let wrong : 0 ≡ 62 = ap (λ (text : List ℕ). get_or text 0 0) same in absurd (omega (arith, wrong))
at_tells false true m n x at_m at_n m_less n_less same =
    let wrong : 62 ≡ 0 = ap (λ (text : List ℕ). get_or text 0 0) same in absurd (omega (arith, wrong))
at_tells false false m n x at_m at_n m_less n_less same =
    (hex8_tells m n [] [] m_less n_less (cc (ap bytes_behind same))).0

at_is : (b : Bool) (n : ℕ) → (if b then [] else codes ">" ++ hex8_of n) ≡ at_text b n
unfolding at_text
at_is true n = refl
at_is false n = refl

not_into : (b : Bool) (n t : ℕ) → at_text b n ≡ next_text 0 (Into t) → ⊥
unfolding at_text
not_into true n t same = let wrong : 0 ≡ 62 = ap (λ (text : List ℕ). get_or text 0 0) same in omega (arith, wrong)
not_into false n t same =
    let wrong : hex_digit (n / 2 ^ 28 % 16) ≡ 105 = ap (λ (text : List ℕ). get_or text 1 0) same in
    let below : hex_digit (n / 2 ^ 28 % 16) < 103 = digit_below (n / 2 ^ 28) in omega (arith, wrong, below)

not_back : (b : Bool) (n : ℕ) → at_text b n ≡ next_text 0 Back → ⊥
unfolding at_text
not_back true n same = let wrong : 0 ≡ 62 = ap (λ (text : List ℕ). get_or text 0 0) same in omega (arith, wrong)
not_back false n same =
    let wrong : hex_digit (n / 2 ^ 16 % 16) ≡ 107 = ap (λ (text : List ℕ). get_or text 4 0) same in
    let below : hex_digit (n / 2 ^ 16 % 16) < 103 = digit_below (n / 2 ^ 16) in omega (arith, wrong, below)

next_tells : (pc : ℕ) (m n : Next) → NextInRange m → NextInRange n → next_text pc m ≡ next_text pc n → m ≡ n
unfolding bytes_behind
next_tells pc (At m) (At n) m_in n_in same =
    let x : ℕ = (pc + 4) % 2 ^ 32 in
    ap At (at_tells (m == x) (n == x) m n x (eqb-true m x) (eqb-true n x) m_in n_in
    (sym (at_is (m == x) m) ∙ same ∙ at_is (n == x) n))
next_tells pc (At m) (Into t) m_in n_in same =
    absurd (not_into (m == (pc + 4) % 2 ^ 32) m t (sym (at_is (m == (pc + 4) % 2 ^ 32) m) ∙ same))
next_tells pc (At m) Back m_in n_in same =
    absurd (not_back (m == (pc + 4) % 2 ^ 32) m (sym (at_is (m == (pc + 4) % 2 ^ 32) m) ∙ same))
next_tells pc (Into t) (At n) m_in n_in same =
    absurd (not_into (n == (pc + 4) % 2 ^ 32) n t (sym (at_is (n == (pc + 4) % 2 ^ 32) n) ∙ sym same))
next_tells pc (Into t) (Into u) m_in n_in same =
    ap Into (hex8_tells t u [] [] m_in n_in
    (cc (ap (λ text. bytes_behind (bytes_behind (bytes_behind (bytes_behind (bytes_behind (bytes_behind text)))))) same))).0
next_tells pc (Into t) Back m_in n_in same =
    let wrong : 105 ≡ 98 = ap (λ (text : List ℕ). get_or text 1 0) same in absurd (omega (arith, wrong))
next_tells pc Back (At n) m_in n_in same =
    absurd (not_back (n == (pc + 4) % 2 ^ 32) n (sym (at_is (n == (pc + 4) % 2 ^ 32) n) ∙ sym same))
next_tells pc Back (Into u) m_in n_in same =
    let wrong : 98 ≡ 105 = ap (λ (text : List ℕ). get_or text 1 0) same in absurd (omega (arith, wrong))
next_tells pc Back Back m_in n_in same = refl

-- a byte of no program point: no digit, and no letter of what comes behind an angle
pub record NoPoint (stops : ℕ → Bool) : Type 0 where
  pub digit : NoDigit stops
  pub into : Lacks stops (codes ">into:")
  pub back : Lacks stops (codes ">back")
  pub angle : Lacks stops (codes ">")
  pub slash : Lacks stops (codes "/")

-- the one or the other has nothing that ends a word
pub lacks_either : (stops : ℕ → Bool) (b : Bool) (xs ys : List ℕ) → Lacks stops xs → Lacks stops ys → Lacks stops (if b then xs else ys)
lacks_either stops true xs ys one other = one
lacks_either stops false xs ys one other = other

lacks_next : (stops : ℕ → Bool) → NoDigit stops → Lacks stops (codes ">into:") → Lacks stops (codes ">back") → Lacks stops (codes ">")
    → (pc : ℕ) (n : Next) → Lacks stops (next_text pc n)
lacks_next stops digit into back angle pc (At n) =
    lacks_either stops (n == (pc + 4) % 2 ^ 32) [] (codes ">" ++ hex8_of n) (record { is = refl })
    (lacks-append stops (codes ">") (hex8_of n) angle (lacks_hex8 stops digit n))
lacks_next stops digit into back angle pc (Into t) =
    lacks-append stops (codes ">into:") (hex8_of t) into (lacks_hex8 stops digit t)
lacks_next stops digit into back angle pc Back = back

-- a program point has no such byte
pub lacks_node : (stops : ℕ → Bool) → NoPoint stops → (sub : ℕ) (place : Place) → IsPointOf sub place → Lacks stops (node_text place)
unfolding node_text
lacks_node stops none sub place point =
    lacks-append stops (hex8_of place.pc) (next_text place.pc place.next ++ (codes "/" ++ decimal place.depth)) (lacks_hex8 stops none.digit place.pc)
    (lacks-append stops (next_text place.pc place.next) (codes "/" ++ decimal place.depth)
    (lacks_next stops none.digit none.into none.back none.angle place.pc place.next)
    (lacks-append stops (codes "/") (decimal place.depth) none.slash
    (lacks_decimal stops none.digit place.depth (omega (arith, point.depth)))))

abbrev is_slash : ℕ → Bool
is_slash b = b == 47

slash_free : NoDigit is_slash
slash_free = record {
  decimal = λ d less. grind (arith, nat_tests);
  hexadecimal = λ d less. grind (arith, nat_tests);
  sign = refl;
}

-- the text of a program point of a subprogram tells it
pub node_tells : (sub : ℕ) (a b : Place) → IsPointOf sub a → IsPointOf sub b → node_text a ≡ node_text b → a ≡ b
unfolding node_text
node_tells sub a b at_a at_b same =
    let pcs : (a.pc ≡ b.pc) × (next_text a.pc a.next ++ (47 ∷ decimal a.depth) ≡ next_text b.pc b.next ++ (47 ∷ decimal b.depth)) =
    hex8_tells a.pc b.pc _ _ at_a.address at_b.address same in
    let cut : (next_text a.pc a.next ≡ next_text b.pc b.next) × (47 ∷ decimal a.depth ≡ 47 ∷ decimal b.depth) =
    cut_once is_slash _ _ (decimal a.depth) (decimal b.depth) 47 47
    (lacks_next is_slash slash_free (record { is = refl }) (record { is = refl }) (record { is = refl }) a.pc a.next)
    (lacks_next is_slash slash_free (record { is = refl }) (record { is = refl }) (record { is = refl }) b.pc b.next)
    refl refl pcs.1 in
    let depths : a.depth ≡ b.depth =
    decimal_injective a.depth b.depth (omega (arith, at_a.depth)) (omega (arith, at_b.depth)) (cc (ap bytes_behind cut.1)) in
    let nexts : a.next ≡ b.next =
    next_tells b.pc a.next b.next at_a.next at_b.next (subst (λ pc. next_text pc a.next ≡ next_text b.pc b.next) pcs.0 cut.0) in
    let subs : a.sub ≡ b.sub = at_a.of ∙ sym at_b.of in
    λ i. record { sub = subs i; pc = pcs.0 i; next = nexts i; depth = depths i }

letter_tells : (g h : ℕ) → g < 4 → h < 4 → group_letter g ≡ group_letter h → g ≡ h
letter_tells g h g_less h_less same = grind arith

register_tells : (r s : ℕ) → r < 32 → s < 32 → group_letter (r / 8) ≡ group_letter (s / 8) → 48 + r % 8 ≡ 48 + s % 8 → r ≡ s
register_tells r s r_less s_less letters digits =
    let groups : r / 8 ≡ s / 8 = letter_tells (r / 8) (s / 8) (omega arith) (omega arith) letters in omega (arith, groups, digits)

-- a cell by whether it stands in the entry's window
window_text : Bool → ℕ → List ℕ
window_text true c = register c
window_text false c = register (c - 24) ++ codes ".1"

window_is : (b : Bool) (c : ℕ) → (if b then register c else register (c - 24) ++ codes ".1") ≡ window_text b c
unfolding window_text
window_is true c = refl
window_is false c = refl

windows_tell : (a b : Bool) (c d : ℕ) → (a ≡ true → c < 32) → (a ≡ false → 32 ≤ c) → (b ≡ true → d < 32) → (b ≡ false → 32 ≤ d)
    → c < 48 → d < 48 → window_text a c ≡ window_text b d → c ≡ d
unfolding window_text
windows_tell true true c d c_low c_high d_low d_high c_less d_less same =
    register_tells c d (c_low refl) (d_low refl)
    (ap (λ (text : List ℕ). get_or text 1 0) same) (ap (λ (text : List ℕ). get_or text 2 0) same)
windows_tell true false c d c_low c_high d_low d_high c_less d_less same =
    let wrong : 0 ≡ 46 = ap (λ (text : List ℕ). get_or text 3 0) same in absurd (omega (arith, wrong))
windows_tell false true c d c_low c_high d_low d_high c_less d_less same =
    let wrong : 46 ≡ 0 = ap (λ (text : List ℕ). get_or text 3 0) same in absurd (omega (arith, wrong))
windows_tell false false c d c_low c_high d_low d_high c_less d_less same =
    let regs : c - 24 ≡ d - 24 = register_tells (c - 24) (d - 24) (omega (arith, c_less)) (omega (arith, d_less))
    (ap (λ (text : List ℕ). get_or text 1 0) same) (ap (λ (text : List ℕ). get_or text 2 0) same) in
    omega (arith, regs, c_high refl, d_high refl)

-- the text of a cell tells it
pub cell_tells : (c d : ℕ) → c < 48 → d < 48 → cell_text c ≡ cell_text d → c ≡ d
cell_tells c d c_less d_less same =
    windows_tell (nat_lt c 32) (nat_lt d 32) c d (ltb-true c 32) (ltb-false c 32) (ltb-true d 32) (ltb-false d 32) c_less d_less
    (sym (window_is (nat_lt c 32) c) ∙ same ∙ window_is (nat_lt d 32) d)
