-- Codes tell subprograms and their contexts apart.
use Rattle.std.proofs.Common.{◌≡◌, ℕ, List, [], ◌∷◌, ◌++◌, map, refl, sym, ap, ◌∙◌, append_assoc, arith}
use Rattle.std.specs.Prelude.{ℤ, pos, negsuc}
use Rattle.context_list.specs.Code.{args_code, code_of, context_code, value_code}
use Rattle.context_list.specs.Numbered.{One}
use Rattle.value_lattice.specs.declared.value.Value.{Value}
use Rattle.value_lattice.specs.declared.value.Value.TheVariants.{Words, Range, Ret}
use Rattle.wcet_report.specs.declared.context.Context.{Context}
use Rattle.wcet_report.specs.declared.context.Context.TheVariants.{Plain, With}

first_is : {X : Type 0} {x y : X} {xs ys : List X} → x ∷ xs ≡ y ∷ ys → x ≡ y
first_is e = cc

rest_is : {X : Type 0} {x y : X} {xs ys : List X} → x ∷ xs ≡ y ∷ ys → xs ≡ ys
rest_is e = cc

none_is_not : {X : Type 0} {x : X} {xs : List X} → [] ≡ x ∷ xs → ⊥
none_is_not e = cc

pos_is : {a b : ℕ} → pos a ≡ pos b → a ≡ b
pos_is e = cc

pos_negsuc : {a b : ℕ} → pos a ≡ negsuc b → ⊥
pos_negsuc e = cc

cons_is : {X : Type 0} {x y : X} {xs ys : List X} → x ≡ y → xs ≡ ys → x ∷ xs ≡ y ∷ ys
cons_is a b = cc

-- words with an end behind them are told from what follows
words_apart : (ws us : List ℕ) (r s : List ℤ) → map pos ws ++ negsuc 0 ∷ r ≡ map pos us ++ negsuc 0 ∷ s → (ws ≡ us) × (r ≡ s)
words_apart [] [] r s e = (refl, rest_is e)
words_apart [] (u ∷ us) r s e = absurd (pos_negsuc (sym (first_is e)))
words_apart (w ∷ ws) [] r s e = absurd (pos_negsuc (first_is e))
words_apart (w ∷ ws) (u ∷ us) r s e = let rest = words_apart ws us r s (rest_is e) in (cons_is (pos_is (first_is e)) rest.0, rest.1)

ended : (ws : List ℕ) (r : List ℤ) → (map pos ws ++ negsuc 0 ∷ []) ++ r ≡ map pos ws ++ negsuc 0 ∷ r
ended ws r = append_assoc (map pos ws) (negsuc 0 ∷ []) r

-- two kinds of values have different numbers
kinds_apart : {a b : ℕ} {r s : List ℤ} → pos a ∷ r ≡ pos b ∷ s → a ≡ b
kinds_apart e = pos_is (first_is e)

-- and so is a value
value_apart : (v w : Value) (r s : List ℤ) → value_code v ++ r ≡ value_code w ++ s → (v ≡ w) × (r ≡ s)
value_apart (Words ws) (Words us) r s e =
    let parts = words_apart ws us r s (sym (ended ws r) ∙ (rest_is e ∙ ended us s)) in
    (ap Words parts.0, parts.1)
value_apart (Words ws) (Range lo hi) r s e = let clash : 0 ≡ 1 = kinds_apart e in absurd (omega (arith, clash))
value_apart (Words ws) Ret r s e = let clash : 0 ≡ 2 = kinds_apart e in absurd (omega (arith, clash))
value_apart (Range lo hi) (Words us) r s e = let clash : 1 ≡ 0 = kinds_apart e in absurd (omega (arith, clash))
value_apart (Range lo hi) (Range low high) r s e = (cc, rest_is (rest_is (rest_is e)))
value_apart (Range lo hi) Ret r s e = let clash : 1 ≡ 2 = kinds_apart e in absurd (omega (arith, clash))
value_apart Ret (Words us) r s e = let clash : 2 ≡ 0 = kinds_apart e in absurd (omega (arith, clash))
value_apart Ret (Range low high) r s e = let clash : 2 ≡ 1 = kinds_apart e in absurd (omega (arith, clash))
value_apart Ret Ret r s e = (refl, rest_is e)

some_code : (v : Value) (r : List ℤ) → [] ≡ value_code v ++ r → ⊥
some_code (Words ws) r e = none_is_not e
some_code (Range lo hi) r e = none_is_not e
some_code Ret r e = none_is_not e

args_apart : (a b : List Value) → args_code a ≡ args_code b → a ≡ b
args_apart [] [] e = refl
args_apart [] (w ∷ b) e = absurd (some_code w (args_code b) e)
args_apart (v ∷ a) [] e = absurd (some_code v (args_code a) (sym e))
args_apart (v ∷ a) (w ∷ b) e = let parts = value_apart v w (args_code a) (args_code b) e in cons_is parts.0 (args_apart a b parts.1)

context_apart : (a b : Context) → context_code a ≡ context_code b → a ≡ b
context_apart Plain Plain e = refl
context_apart Plain (With b) e = absurd (none_is_not e)
context_apart (With a) Plain e = absurd (none_is_not (sym e))
context_apart (With a) (With b) e = ap With (args_apart a b (rest_is e))

-- what has one code is one
pub codes_apart : (one two : One) → code_of one ≡ code_of two → one ≡ two
codes_apart one two e = both (pos_is (first_is e)) (context_apart one.1 two.1 (rest_is e))
  where
    both : one.0 ≡ two.0 → one.1 ≡ two.1 → one ≡ two
    both a b = ap (λ (s : ℕ). (s, one.1)) a ∙ ap (λ (c : Context). (two.0, c)) b
