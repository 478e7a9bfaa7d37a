-- The words of the lines of a report have neither a space nor the end of a line in them, and tell what they are of.
use Rattle.std.proofs.Common.{◌≡◌, ℕ, ◌+◌, ◌-◌, ◌*◌, ◌/◌, ◌%◌, ◌^◌, ◌<◌, ◌≤◌, Bool, true, false, List, [], ◌∷◌, ◌++◌, drop, length, suc, refl, ap}
use Rattle.std.proofs.Common.{arith, get_or, codes, if◌then◌else◌}
use Rattle.std.proofs.lemmas.Bool.{and_parts}
use Rattle.std.proofs.lemmas.Bool.Decides.{nat_tests}
use Rattle.std.proofs.lemmas.Fmt.{decimal_injective, signed_decimal_injective}
use Rattle.std.specs.Fmt.{signed_decimal}
use Rattle.std.specs.Int.{w32, w64}
use Rattle.std.specs.Int.Signed.{mag}
use Rattle.std.specs.Prelude.{◌==◌, ◌&&◌, not, ℤ, All, FitsSigned, IfSome, Option, Some, None, decimal, nat_le, nat_lt}
use Rattle.abs_state.specs.declared.key.Place.{Place}
use Rattle.bt_base.specs.Text.{hex_digit, hex8_of}
use Rattle.bt_image.specs.Symbol.{name_of}
use Rattle.value_lattice.specs.Value.{IsValue}
use Rattle.value_lattice.specs.declared.value.Value.{Value}
use Rattle.wcet_report.proofs.Cuts.{Lacks, lacks-append}
use Rattle.wcet_report.proofs.LineTexts.{ends_word, AreClean, clean-cons, clean-append}
use Rattle.wcet_report.proofs.Numbers.{NoDigit, hex8_tells, lacks_one, lacks_decimal, lacks_signed, lacks_hex8}
use Rattle.wcet_report.proofs.Points.{NoPoint, lacks_node, lacks_either, node_tells, cell_tells}
use Rattle.wcet_report.proofs.ValueTexts.{lacks_value}
use Rattle.wcet_report.specs.Context.{argument_names, argument_words, known, known_or_any, context_word, context_rest}
use Rattle.wcet_report.specs.Laws.{IsPointOf, ByInRange, IsReasonOf, ContextInRange}
use Rattle.wcet_report.specs.Line.{shown_byte, shown, shown_name, function_words}
use Rattle.wcet_report.specs.Node.{node_text, group_letter, register, cell_text}
use Rattle.wcet_report.specs.Outcome.{bound_words, by_words, reason_words}
use Rattle.wcet_report.specs.Value.{value_text, is_any}
use Rattle.wcet_report.specs.declared.context.Context.{Context}
use Rattle.wcet_report.specs.declared.context.Context.TheVariants.{Plain, With}
use Rattle.wcet_report.specs.declared.loops.By.{By}
use Rattle.wcet_report.specs.declared.loops.By.TheVariants.{Counter, Asserted, Nothing}
use Rattle.wcet_report.specs.declared.reason.Reason.{Reason}
use Rattle.wcet_report.specs.declared.reason.Reason.TheVariants.{Jump, Call, Instr, Loop, Irreducible, Callee, Recursion, Windows, TooLarge}

pub word_free : NoDigit ends_word
word_free = record {
  decimal = λ d less. grind (arith, nat_tests);
  hexadecimal = λ d less. grind (arith, nat_tests);
  sign = refl;
}

point_free : NoPoint ends_word
point_free = record {
  digit = word_free;
  into = record { is = refl };
  back = record { is = refl };
  angle = record { is = refl };
  slash = record { is = refl };
}

none_clean : AreClean []
none_clean = record { is = refl }

one_clean : (word : List ℕ) → Lacks ends_word word → AreClean (word ∷ [])
one_clean word free = clean-cons word [] free none_clean

two_clean : (first second : List ℕ) → Lacks ends_word first → Lacks ends_word second → AreClean (first ∷ second ∷ [])
two_clean first second free also = clean-cons first (second ∷ []) free (one_clean second also)

-- names

visible : (b : ℕ) → 33 ≤ b → ends_word b ≡ false
visible b low = grind (arith, nat_tests)

shown_by : (t : Bool) (b : ℕ) → (t ≡ true → 33 ≤ b) → Lacks ends_word (if t then b ∷ [] else 92 ∷ drop 6 (hex8_of b))
shown_by true b low = lacks_one ends_word b [] (visible b (low refl)) (record { is = refl })
shown_by false b low =
    lacks_one ends_word 92 (hex_digit (b / 2 ^ 4 % 16) ∷ hex_digit (b % 16) ∷ []) refl
    (lacks_one ends_word (hex_digit (b / 2 ^ 4 % 16)) (hex_digit (b % 16) ∷ []) (word_free.hexadecimal (b / 2 ^ 4 % 16) (omega arith))
    (lacks_one ends_word (hex_digit (b % 16)) [] (word_free.hexadecimal (b % 16) (omega arith)) (record { is = refl })))

byte_free : (b : ℕ) → Lacks ends_word (shown_byte b)
byte_free b =
    shown_by (nat_le 33 b && (nat_le b 126 && not (b == 92))) b
    (λ t. let low : nat_le 33 b ≡ true = (and_parts (nat_le 33 b) (nat_le b 126 && not (b == 92)) t).0 in grind (arith, nat_tests))

shown_free : (name : List ℕ) → Lacks ends_word (shown name)
shown_free [] = record { is = refl }
shown_free (b ∷ bs) = lacks-append ends_word (shown_byte b) (shown bs) (byte_free b) (shown_free bs)

name_free : (name : Option (List ℕ)) → Lacks ends_word (shown_name name)
name_free None = record { is = refl }
name_free (Some name) = shown_free name

-- an address and its name are two words
pub function_clean : (image : List ℕ) (entry : ℕ) → AreClean (function_words image entry)
unfolding function_words
function_clean image entry =
    two_clean (hex8_of entry) (shown_name (name_of image entry)) (lacks_hex8 ends_word word_free entry) (name_free (name_of image entry))

first_of : List (List ℕ) → List ℕ
first_of [] = []
first_of (word ∷ words) = word

behind_first : List (List ℕ) → List (List ℕ)
behind_first [] = []
behind_first (word ∷ words) = words

hex8_is : (v w : ℕ) → v < 2 ^ 32 → w < 2 ^ 32 → hex8_of v ≡ hex8_of w → v ≡ w
hex8_is v w v_less w_less same = (hex8_tells v w [] [] v_less w_less (ap (λ text. text ++ []) same)).0

-- the words of the function at an address before others tell the address and the others
pub function_tells : (image : List ℕ) (a b : ℕ) (t u : List (List ℕ)) → a < 2 ^ 32 → b < 2 ^ 32
    → function_words image a ++ t ≡ function_words image b ++ u → (a ≡ b) × (t ≡ u)
unfolding function_words first_of behind_first
function_tells image a b t u a_less b_less same =
    (hex8_is a b a_less b_less (ap first_of same), ap (λ words. behind_first (behind_first words)) same)

-- bounds

-- a bound is a list of words
pub bound_clean : (bound : Option ℕ) → IfSome bound (λ n. n < 2 ^ 64) → AreClean (bound_words bound)
bound_clean None small = one_clean (codes "unbounded") (record { is = refl })
bound_clean (Some n) small = two_clean (codes "bounded") (decimal n) (record { is = refl }) (lacks_decimal ends_word word_free n small)

-- the words of a bound tell it
pub bound_tells : (a b : Option ℕ) → IfSome a (λ n. n < 2 ^ 64) → IfSome b (λ n. n < 2 ^ 64) → bound_words a ≡ bound_words b → a ≡ b
unfolding first_of
bound_tells None None small also same = refl
bound_tells None (Some n) small also same = let wrong : 1 ≡ 2 = ap length same in absurd (omega (arith, wrong))
bound_tells (Some m) None small also same = let wrong : 2 ≡ 1 = ap length same in absurd (omega (arith, wrong))
bound_tells (Some m) (Some n) small also same =
    ap Some (decimal_injective m n small also (ap (λ words. get_or words 1 []) same))

-- contexts

names_free : (name : List ℕ) (value : Value) → Lacks ends_word name → IsValue value → Lacks ends_word (name ++ (codes "=" ++ value_text value))
names_free name value free at =
    lacks-append ends_word name (codes "=" ++ value_text value) free
    (lacks-append ends_word (codes "=") (value_text value) (record { is = refl }) (lacks_value value at))

argument_by : (b : Bool) (name : List ℕ) (value : Value) → Lacks ends_word name → IsValue value
    → AreClean (if b then [] else (name ++ (codes "=" ++ value_text value)) ∷ [])
argument_by true name value free at = none_clean
argument_by false name value free at = one_clean (name ++ (codes "=" ++ value_text value)) (names_free name value free at)

-- names without a space, for recursion
abbrev AreFree : List (List ℕ) → Type 0
AreFree [] = Unit {0}
AreFree (name ∷ names) = Lacks ends_word name × AreFree names

abbrev AreValues : List Value → Type 0
AreValues [] = Unit {0}
AreValues (v ∷ vs) = IsValue v × AreValues vs

known_clean : (names : List (List ℕ)) (values : List Value) → AreFree names → AreValues values → AreClean (known names values)
known_clean [] values free at = none_clean
known_clean (n ∷ ns) [] free at = none_clean
known_clean (n ∷ ns) (v ∷ vs) free at =
    clean-append (argument_words n v) (known ns vs) (argument_by (is_any v) n v free.0 at.0) (known_clean ns vs free.1 at.1)

some_clean : (words : List (List ℕ)) → AreClean words → AreClean (known_or_any words)
some_clean [] clean = one_clean (codes "any") (record { is = refl })
some_clean (w ∷ ws) clean = clean

names_are_free : AreFree argument_names
names_are_free = (
  record { is = refl },
  (
    record { is = refl },
    (
      record { is = refl },
      (
        record { is = refl },
        (
          record { is = refl },
          (
            record { is = refl },
            (
              record { is = refl },
              (
                record { is = refl },
                (record { is = refl }, (record { is = refl }, (record { is = refl }, (record { is = refl }, (record { is = refl }, tt))))),
              ),
            ),
          ),
        ),
      ),
    ),
  ),
)

values_from : (vs : List Value) → All IsValue vs → AreValues vs
values_from [] all = tt
values_from (v ∷ vs) all = (all 0 v (omega arith), values_from vs (λ k d less. all (suc k) d (omega (arith, less))))

-- what is known of arguments is a list of words
pub context_clean : (context : Context) → ContextInRange context → AreClean (context_word context ∷ context_rest context)
context_clean Plain at = one_clean (codes "plain") (record { is = refl })
context_clean (With args) at =
    clean-cons (codes "args") (known_or_any (known argument_names args)) (record { is = refl })
    (some_clean (known argument_names args) (known_clean argument_names args names_are_free (values_from args at)))

-- loops

fits_small : (z : ℤ) → FitsSigned w64 z → mag z < 2 ^ 63
fits_small z fits = omega (arith, fits.sfits)

end_small : (z : ℤ) → FitsSigned w32 z → mag z < 2 ^ 63
end_small z fits = omega (arith, fits.sfits)

letter_free : (g : ℕ) → ends_word (group_letter g) ≡ false
letter_free g = grind (arith, nat_tests)

register_free : (r : ℕ) → Lacks ends_word (register r)
register_free r =
    lacks_one ends_word 37 (group_letter (r / 8) ∷ (48 + r % 8) ∷ []) refl
    (lacks_one ends_word (group_letter (r / 8)) ((48 + r % 8) ∷ []) (letter_free (r / 8))
    (lacks_one ends_word (48 + r % 8) [] (word_free.decimal (r % 8) (omega arith)) (record { is = refl })))

cell_free : (c : ℕ) → Lacks ends_word (cell_text c)
cell_free c =
    lacks_either ends_word (nat_lt c 32) (register c) (register (c - 24) ++ codes ".1") (register_free c)
    (lacks-append ends_word (register (c - 24)) (codes ".1") (register_free (c - 24)) (record { is = refl }))

signed_clean : (z : ℤ) → mag z < 2 ^ 63 → Lacks ends_word (signed_decimal z)
signed_clean z small = lacks_signed ends_word word_free z small

-- what bounds a loop is a list of words
pub by_clean : (by : By) → ByInRange by → AreClean (by_words by)
by_clean (Counter b) at =
    clean-cons (codes "at") _ (record { is = refl })
    (clean-cons (codes "most") _ (record { is = refl })
    (clean-cons (decimal b.passes) _ (lacks_decimal ends_word word_free b.passes at.1)
    (clean-cons (codes "by") _ (record { is = refl })
    (clean-cons (cell_text b.cell) _ (cell_free b.cell)
    (clean-cons (codes "step") _ (record { is = refl })
    (clean-cons (signed_decimal b.step) _ (signed_clean b.step (fits_small b.step at.2))
    (clean-cons (codes "from") _ (record { is = refl })
    (clean-cons (signed_decimal b.lo) _ (signed_clean b.lo (end_small b.lo at.3))
    (two_clean (codes "to") (signed_decimal b.hi) (record { is = refl }) (signed_clean b.hi (end_small b.hi at.4)))))))))))
by_clean (Asserted count) at =
    clean-cons (codes "at") _ (record { is = refl })
    (clean-cons (codes "most") _ (record { is = refl })
    (clean-cons (decimal count) _ (lacks_decimal ends_word word_free count at)
    (two_clean (codes "by") (codes "assertion") (record { is = refl }) (record { is = refl }))))
by_clean Nothing at = one_clean (codes "unbounded") (record { is = refl })

word_at : (k : ℕ) (one other : List (List ℕ)) → one ≡ other → get_or one k [] ≡ get_or other k []
word_at k one other same = ap (λ words. get_or words k []) same

-- the words of what bounds a loop tell it
pub by_tells : (a b : By) → ByInRange a → ByInRange b → by_words a ≡ by_words b → a ≡ b
by_tells (Counter a) (Counter b) at_a at_b same =
    let passes : a.passes ≡ b.passes = decimal_injective a.passes b.passes at_a.1 at_b.1 (word_at 2 _ _ same) in
    let cells : a.cell ≡ b.cell = cell_tells a.cell b.cell at_a.0 at_b.0 (word_at 4 _ _ same) in
    let steps : a.step ≡ b.step =
    signed_decimal_injective a.step b.step (fits_small a.step at_a.2) (fits_small b.step at_b.2) (word_at 6 _ _ same) in
    let lows : a.lo ≡ b.lo = signed_decimal_injective a.lo b.lo (end_small a.lo at_a.3) (end_small b.lo at_b.3) (word_at 8 _ _ same) in
    let highs : a.hi ≡ b.hi = signed_decimal_injective a.hi b.hi (end_small a.hi at_a.4) (end_small b.hi at_b.4) (word_at 10 _ _ same) in
    λ i. Counter (record { cell = cells i; step = steps i; lo = lows i; hi = highs i; passes = passes i })
by_tells (Counter a) (Asserted n) at_a at_b same = let wrong : 11 ≡ 5 = ap length same in absurd (omega (arith, wrong))
by_tells (Counter a) Nothing at_a at_b same = let wrong : 11 ≡ 1 = ap length same in absurd (omega (arith, wrong))
by_tells (Asserted m) (Counter b) at_a at_b same = let wrong : 5 ≡ 11 = ap length same in absurd (omega (arith, wrong))
by_tells (Asserted m) (Asserted n) at_a at_b same = ap Asserted (decimal_injective m n at_a at_b (word_at 2 _ _ same))
by_tells (Asserted m) Nothing at_a at_b same = let wrong : 5 ≡ 1 = ap length same in absurd (omega (arith, wrong))
by_tells Nothing (Counter b) at_a at_b same = let wrong : 1 ≡ 11 = ap length same in absurd (omega (arith, wrong))
by_tells Nothing (Asserted n) at_a at_b same = let wrong : 1 ≡ 5 = ap length same in absurd (omega (arith, wrong))
by_tells Nothing Nothing at_a at_b same = refl

-- the text of a program point is one word
pub node_clean : (sub : ℕ) (place : Place) → IsPointOf sub place → Lacks ends_word (node_text place)
node_clean sub place point = lacks_node ends_word point_free sub place point

-- reasons

hex8_clean : (word : List ℕ) (v : ℕ) → Lacks ends_word word → AreClean (word ∷ hex8_of v ∷ [])
hex8_clean word v free = two_clean word (hex8_of v) free (lacks_hex8 ends_word word_free v)

-- a reason is a list of words
pub reason_clean : (image : List ℕ) (sub : ℕ) (reason : Reason) → IsReasonOf sub reason → AreClean (reason_words image reason)
reason_clean image sub (Jump pc) at = hex8_clean (codes "jump") pc (record { is = refl })
reason_clean image sub (Call pc) at = hex8_clean (codes "call") pc (record { is = refl })
reason_clean image sub (Instr pc) at = hex8_clean (codes "instr") pc (record { is = refl })
reason_clean image sub (Loop head) at = two_clean (codes "loop") (node_text head) (record { is = refl }) (node_clean sub head at)
reason_clean image sub (Irreducible x y) at =
    clean-cons (codes "irreducible") (node_text x ∷ node_text y ∷ []) (record { is = refl })
    (two_clean (node_text x) (node_text y) (node_clean sub x at.0) (node_clean sub y at.1))
reason_clean image sub (Callee call callee) at =
    clean-cons (codes "callee") (hex8_of call ∷ function_words image callee) (record { is = refl })
    (clean-cons (hex8_of call) (function_words image callee) (lacks_hex8 ends_word word_free call) (function_clean image callee))
reason_clean image sub (Recursion pc) at = hex8_clean (codes "recursion") pc (record { is = refl })
reason_clean image sub (Windows need) at =
    two_clean (codes "windows") (decimal need) (record { is = refl }) (lacks_decimal ends_word word_free need (omega (arith, at)))
reason_clean image sub (TooLarge node) at = two_clean (codes "toolarge") (node_text node) (record { is = refl }) (node_clean sub node at)

-- three bytes of a first word, which tell the kinds of reasons apart
kind_of : List (List ℕ) → ℕ
kind_of words = (get_or (first_of words) 0 0 * 256 + get_or (first_of words) 1 0) * 256 + get_or (first_of words) 4 0

-- the words of a reason of a subprogram tell it
pub reason_tells : (image : List ℕ) (sub : ℕ) (a b : Reason) → IsReasonOf sub a → IsReasonOf sub b → reason_words image a ≡ reason_words image b
    → a ≡ b
unfolding first_of behind_first kind_of
reason_tells image sub (Jump p) (Jump q) at_a at_b same = ap Jump (hex8_is p q at_a at_b (word_at 1 _ _ same))
reason_tells image sub (Call p) (Call q) at_a at_b same = ap Call (hex8_is p q at_a at_b (word_at 1 _ _ same))
reason_tells image sub (Instr p) (Instr q) at_a at_b same = ap Instr (hex8_is p q at_a at_b (word_at 1 _ _ same))
reason_tells image sub (Loop h) (Loop k) at_a at_b same = ap Loop (node_tells sub h k at_a at_b (word_at 1 _ _ same))
reason_tells image sub (Irreducible x y) (Irreducible v w) at_a at_b same =
    let one : x ≡ v = node_tells sub x v at_a.0 at_b.0 (word_at 1 _ _ same) in
    let other : y ≡ w = node_tells sub y w at_a.1 at_b.1 (word_at 2 _ _ same) in
    λ i. Irreducible (one i) (other i)
reason_tells image sub (Callee p s) (Callee q t) at_a at_b same =
    let calls : p ≡ q = hex8_is p q at_a.0 at_b.0 (word_at 1 _ _ same) in
    let callees : s ≡ t =
    (function_tells image s t [] [] at_a.1 at_b.1 (ap (λ words. behind_first (behind_first words) ++ []) same)).0 in
    λ i. Callee (calls i) (callees i)
reason_tells image sub (Recursion p) (Recursion q) at_a at_b same = ap Recursion (hex8_is p q at_a at_b (word_at 1 _ _ same))
reason_tells image sub (Windows m) (Windows n) at_a at_b same =
    ap Windows (decimal_injective m n (omega (arith, at_a)) (omega (arith, at_b)) (word_at 1 _ _ same))
reason_tells image sub (TooLarge h) (TooLarge k) at_a at_b same = ap TooLarge (node_tells sub h k at_a at_b (word_at 1 _ _ same))
reason_tells image sub a b at_a at_b same =
    let wrong : kind_of (reason_words image a) ≡ kind_of (reason_words image b) = ap kind_of same in absurd (omega (arith, wrong))
