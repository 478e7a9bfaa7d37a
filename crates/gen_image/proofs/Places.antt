-- Where pieces stand among others.
use Rattle.std.proofs.Common.{◌≡◌, ℕ, zero, suc, ◌+◌, ◌-◌, ◌*◌, ◌/◌, ◌%◌, ◌^◌, ◌≤◌, ◌<◌, List, [], ◌∷◌, ◌++◌, codes, length, take, drop, refl, sym, subst, ap, ◌∙◌, arith, append_assoc, length-append, take_all, ⊎_elim}
use Rattle.std.proofs.lemmas.Bool.{cases_lt}
use Rattle.std.proofs.lemmas.List.{take-append-le, append-nil}
use Rattle.std.proofs.lemmas.List.Prefix.{front_rest}
use Rattle.gen_image.specs.Code.{function_at, function_code, call_at, call_word, main_code, text}
use Rattle.gen_image.specs.File.{header, file_of}
use Rattle.gen_image.specs.Law.{called_from}
use Rattle.gen_image.specs.Layout.{layout_of}
use Rattle.gen_image.specs.Name.{function_name, name_at, strings}
use Rattle.gen_image.specs.Number.{each, half_bytes, word_bytes}
use Rattle.gen_image.specs.Symbol.{symbols}
use Rattle.gen_image.proofs.Eaches.{each_suc, length-each}
use Rattle.gen_image.proofs.Sizes.{function_code_size}

-- a list begins with the pieces below k and piece k
record BeginsWith (f : ℕ → List ℕ) (start : List ℕ) (k : ℕ) (whole : List ℕ) : Type 0 where
  rest : List ℕ
  is : whole ≡ (start ++ each f k) ++ (f k ++ rest)

-- and so does a longer one
longer : (f : ℕ → List ℕ) (start : List ℕ) (k : ℕ) (whole more : List ℕ) → BeginsWith f start k whole
    → BeginsWith f start k (whole ++ more)
longer f start k whole more begins = record {
  rest = begins.rest ++ more;
  is = ap (λ (xs : List ℕ). xs ++ more) begins.is ∙ append_assoc (start ++ each f k) (f k ++ begins.rest) more
      ∙ ap (λ (xs : List ℕ). (start ++ each f k) ++ xs) (append_assoc (f k) begins.rest more);
}

-- the pieces below n begin with those below k and piece k
begins : (f : ℕ → List ℕ) (start : List ℕ) (n k : ℕ) → k < n → BeginsWith f start k (start ++ each f n)
begins f start zero k below = absurd (omega arith)
begins f start (suc n) k below =
    ⊎_elim (λ lt. subst (BeginsWith f start k) (each_suc f start n) (longer f start k (start ++ each f n) (f n) (begins f start n k lt)))
    (λ over. let e : n ≡ k = omega arith in
    subst (λ (m : ℕ). BeginsWith f start k (start ++ each f (suc m))) (sym e)
    (record { rest = []; is = sym (each_suc f start k) ∙ ap (λ (xs : List ℕ). (start ++ each f k) ++ xs) (sym (append-nil (f k))) }))
    (cases_lt k n)

-- piece k stands behind the pieces below k
piece : (f : ℕ → List ℕ) (start : List ℕ) (k at : ℕ) (whole : List ℕ) → BeginsWith f start k whole
    → at ≡ length (start ++ each f k) → take (length (f k)) (drop at whole) ≡ f k
piece f start k at whole begins place =
    let rest : drop at whole ≡ f k ++ begins.rest =
    ap (λ (m : ℕ). drop m whole) place ∙ front_rest whole (start ++ each f k) (f k ++ begins.rest) begins.is in
    ap (λ (xs : List ℕ). take (length (f k)) xs) rest
    ∙ take-append-le (length (f k)) (f k) begins.rest (omega arith)
    ∙ take_all (length (f k)) (f k) (omega arith)

-- the header has 52 bytes
header_size : (at : ℕ) → length (header at) ≡ 52
unfolding header half_bytes word_bytes
header_size at = refl

-- the file begins with its header and the code of its functions
file_begins : (n k : ℕ) → k < n → BeginsWith (λ k. function_code) (header (layout_of n).sections_at) k (file_of n)
unfolding file_of text
file_begins n k below =
    let f : ℕ → List ℕ = λ k. function_code in
    let start : List ℕ = header (layout_of n).sections_at in
    let with_main = longer f start k (start ++ each f n) (main_code n) (begins f start n k below) in
    let with_text = subst (BeginsWith f start k) (append_assoc start (each f n) (main_code n)) with_main in
    longer f start k _ _ (longer f start k _ _ (longer f start k _ _ (longer f start k _ (symbols n) with_text)))

-- the code of a function stands where its address says
pub functions_have_code : (n k : ℕ) → k < n → take 20 (drop (52 + 20 * k) (file_of n)) ≡ function_code
functions_have_code n k below =
    let f : ℕ → List ℕ = λ k. function_code in
    let start : List ℕ = header (layout_of n).sections_at in
    let before = length-append start (each f k) in
    let front = header_size (layout_of n).sections_at in
    let functions = length-each f 20 k (λ k. function_code_size) in
    let place : 52 + 20 * k ≡ length (start ++ each f k) = omega arith in
    subst (λ (m : ℕ). take m (drop (52 + 20 * k) (file_of n)) ≡ function_code) function_code_size
    (piece f start k (52 + 20 * k) (file_of n) (file_begins n k below) place)

-- the name of a function stands where its symbol says
pub symbols_have_names : (n k : ℕ) → k < n → take (length (function_name k)) (drop (name_at k) (strings n)) ≡ function_name k
unfolding name_at strings
symbols_have_names n k below =
    piece function_name (0 ∷ []) k (name_at k) (strings n)
    (longer function_name (0 ∷ []) k _ (0 ∷ []) (longer function_name (0 ∷ []) k _ (codes "main") (begins function_name (0 ∷ []) n k below)))
    refl

-- a call leads to its function
pub calls_lead : (n k : ℕ) → n ≤ 4000 → k < n → called_from (call_at n k) (call_word (call_at n k) (function_at k)) ≡ function_at k
calls_lead n k few below =
    let from : ℕ = call_at n k in
    let away : (function_at k + 2 ^ 32 - call_at n k) % 2 ^ 32 / 4 + (5 * n + 1) ≡ 2 ^ 30 + 3 * k = omega arith in
    omega arith
