-- The code: functions that count their argument down to zero, and main, which calls one after the other (SPARC
-- Architecture Manual Version 7, instruction formats).
use Rattle.std.specs.Prelude.{ℕ, ◌+◌, ◌-◌, ◌*◌, ◌/◌, ◌%◌, ◌^◌, List, [], ◌∷◌, ◌++◌}
use Rattle.gen_image.specs.Number.{each, words_of}

-- the address of function k; main stands behind the last one, as function n would
abbrev pub function_at : ℕ → ℕ
function_at k = 0x02000000 + 20 * k

-- the instructions of each function: SUBcc %o0, 1, %o0; BNE back to it; NOP; the return of a leaf; NOP
abbrev pub function_words : List ℕ
function_words = 0x90a22001 ∷ 0x12bfffff ∷ 0x01000000 ∷ 0x81c3e008 ∷ 0x01000000 ∷ []

unfoldable pub function_code : List ℕ
function_code = words_of function_words

-- how often function k takes the branch's place: from 1 to 100
abbrev pub count_of : ℕ → ℕ
count_of k = 1 + (37 * k + 11) % 100

-- where main calls function k: behind its SAVE and the calls of the functions before, each with its delay instruction
abbrev pub call_at : ℕ → ℕ → ℕ
call_at n k = function_at n + 4 + 8 * k

-- a CALL at an address of a callee: how many words on the callee is, modulo 2^30
abbrev pub call_word : ℕ → ℕ → ℕ
call_word from to = 0x40000000 + (to + 2 ^ 32 - from) % 2 ^ 32 / 4

-- main calls function k, and hands it its count, by OR %g0, count, %o0 in the delay slot
abbrev pub call_words : ℕ → ℕ → List ℕ
call_words n k = call_word (call_at n k) (function_at k) ∷ (0x90102000 + count_of k) ∷ []

unfoldable pub call_code : ℕ → ℕ → List ℕ
call_code n k = words_of (call_words n k)

-- main: SAVE %sp, -96, %sp; the calls; the return, and RESTORE in its delay slot
abbrev pub main_code : ℕ → List ℕ
main_code n = words_of (0x9de3bfa0 ∷ []) ++ each (call_code n) n ++ words_of (0x81c7e008 ∷ 0x81e80000 ∷ [])

-- the code of n functions and main
unfoldable pub text : ℕ → List ℕ
text n = each (λ k. function_code) n ++ main_code n
