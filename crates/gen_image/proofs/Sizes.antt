-- The sizes of the parts.
use Rattle.std.proofs.Common.{◌≡◌, ℕ, ◌+◌, ◌*◌, ◌≤◌, ◌<◌, [], ◌∷◌, ◌++◌, length, refl, ◌∙◌, arith, add-one, decimal, codes, length-append}
use Rattle.std.proofs.lemmas.Fmt.{length-decimal-le}
use Rattle.gen_image.specs.Code.{function_code, call_code, main_code, text}
use Rattle.gen_image.specs.Name.{function_name, names_before, name_at, strings}
use Rattle.gen_image.specs.Number.{each, word_bytes, half_bytes, words_of}
use Rattle.gen_image.specs.Symbol.{symbol_bytes, null_symbol, function_symbol, main_symbol, symbols}
use Rattle.gen_image.specs.declared.symbols.Symbol.{Symbol}
use Rattle.gen_image.proofs.Eaches.{length-each, length-each-le, length-each_suc}

-- a function has five words of code
pub function_code_size : length function_code ≡ 20
unfolding function_code word_bytes
function_code_size = refl

-- a call has two
call_code_size : (n k : ℕ) → length (call_code n k) ≡ 8
unfolding call_code word_bytes
call_code_size n k = refl

-- main begins with one word, and ends with two
length-first : (w : ℕ) → length (words_of (w ∷ [])) ≡ 4
unfolding word_bytes
length-first w = refl

length-last : (v w : ℕ) → length (words_of (v ∷ w ∷ [])) ≡ 8
unfolding word_bytes
length-last v w = refl

-- main with n calls
pub main_code_size : (n : ℕ) → length (main_code n) ≡ 8 * n + 12
main_code_size n =
    let calls = length-each (call_code n) 8 n (call_code_size n) in
    let first = length-first 0x9de3bfa0 in
    let last = length-last 0x81c7e008 0x81e80000 in
    let front = length-append (words_of (0x9de3bfa0 ∷ [])) (each (call_code n) n) in
    let whole = length-append (words_of (0x9de3bfa0 ∷ []) ++ each (call_code n) n) (words_of (0x81c7e008 ∷ 0x81e80000 ∷ [])) in
    omega arith

-- all code
pub text_size : (n : ℕ) → length (text n) ≡ 28 * n + 12
unfolding text
text_size n =
    let functions = length-each (λ k. function_code) 20 n (λ k. function_code_size) in
    let main = main_code_size n in
    length-append (each (λ k. function_code) n) (main_code n) ∙ omega arith

-- a symbol
symbol_size : (symbol : Symbol) → length (symbol_bytes symbol) ≡ 16
unfolding symbol_bytes word_bytes half_bytes
symbol_size symbol = refl

-- the symbol table
pub symbols_size : (n : ℕ) → length (symbols n) ≡ 16 * (n + 2)
unfolding symbols
symbols_size n =
    let null = symbol_size null_symbol in
    let functions = length-each (λ k. symbol_bytes (function_symbol k)) 16 n (λ k. symbol_size (function_symbol k)) in
    let main = symbol_size (main_symbol n) in
    let front = length-append (symbol_bytes null_symbol) (each (λ k. symbol_bytes (function_symbol k)) n) in
    let whole = length-append (symbol_bytes null_symbol ++ each (λ k. symbol_bytes (function_symbol k)) n) (symbol_bytes (main_symbol n)) in
    whole ∙ omega arith

-- a name with its zero byte
pub name_size : (k : ℕ) → length (function_name k) ≡ length (decimal k) + 2
unfolding function_name
name_size k =
    let front = length-append (codes "f") (decimal k) in
    let whole = length-append (codes "f" ++ decimal k) (0 ∷ []) in
    whole ∙ omega arith

-- a number below 4,000 has few digits
pub digits_are_few : (k : ℕ) → k < 4000 → length (decimal k) ≤ 4
digits_are_few k below = length-decimal-le 4 k (omega arith) (omega arith) (omega arith)

-- a name is short
pub name_is_short : (k : ℕ) → k < 4000 → length (function_name k) ≤ 6
name_is_short k below =
    let e = name_size k in
    let short = digits_are_few k below in
    omega arith

-- the first name begins behind the empty one, and each behind the one before
pub first_name : name_at 0 ≡ 1
unfolding name_at
first_name = refl

pub next_name : (k : ℕ) → name_at (k + 1) ≡ name_at k + length (function_name k)
unfolding name_at
next_name k = rw (add-one k) (let more = length-each_suc function_name k in omega arith)

-- names are short together
pub name_at_is_short : (n : ℕ) → n ≤ 4000 → name_at n ≤ 6 * n + 1
unfolding name_at
name_at_is_short n few =
    let names = length-each-le function_name 6 n (λ k below. name_is_short k (omega arith)) in
    omega arith

-- and the table of strings
pub strings_are_short : (n : ℕ) → n ≤ 4000 → length (strings n) ≤ 24006
unfolding strings
strings_are_short n few =
    let names = length-each-le function_name 6 n (λ k below. name_is_short k (omega arith)) in
    let front = length-append (names_before n) (codes "main") in
    let whole = length-append (names_before n ++ codes "main") (0 ∷ []) in
    rw whole (omega arith)
