-- What stands where in the file, as laws.
use Rattle.std.specs.Prelude.{◌≡◌, ℕ, ◌+◌, ◌*◌, ◌%◌, ◌^◌, ◌<◌, ◌≤◌, length, take, drop}
use Rattle.gen_image.specs.Code.{function_at, function_code, call_at, call_word}
use Rattle.gen_image.specs.File.{file_of}
use Rattle.gen_image.specs.Name.{function_name, name_at, strings}

-- the code of function k stands behind the header, at the place of its address in the code
abbrev pub FunctionsHaveTheirCode : Type 0
FunctionsHaveTheirCode = (n k : ℕ) → k < n → take 20 (drop (52 + 20 * k) (file_of n)) ≡ function_code

-- the name of function k stands in the strings where its symbol says
abbrev pub SymbolsHaveTheirNames : Type 0
SymbolsHaveTheirNames =
    (n k : ℕ) → k < n → take (length (function_name k)) (drop (name_at k) (strings n)) ≡ function_name k

-- where a CALL at an address leads: as many words on as its low 30 bits say, modulo 2^32
abbrev pub called_from : ℕ → ℕ → ℕ
called_from at word = (at + 4 * (word % 2 ^ 30)) % 2 ^ 32

-- main's call of function k leads to it
abbrev pub CallsLeadToTheirFunctions : Type 0
CallsLeadToTheirFunctions =
    (n k : ℕ) → n ≤ 4000 → k < n → called_from (call_at n k) (call_word (call_at n k) (function_at k)) ≡ function_at k
