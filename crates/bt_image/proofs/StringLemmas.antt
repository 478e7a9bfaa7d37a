-- The last zero byte of the strings.
use Rattle.std.proofs.Common.{◌≡◌, ◌≢◌, ℕ, ◌+◌, ◌-◌, ◌<◌, ◌≤◌, true, false, List, length, get_or, drop, sym, ◌∙◌, ap, arith, ⊎_elim}
use Rattle.std.specs.Prelude.{◌==◌, nat_lt}
use Rattle.std.proofs.lemmas.Bool.{cases_lt}
use Rattle.std.proofs.lemmas.Bool.Decides.{nat_tests}
use Rattle.std.proofs.lemmas.List.{get_or-drop, get_or_default, length-drop}
use Rattle.std.proofs.lemmas.List.Folds.{list_any_none, list_any_at}
use Rattle.bt_image.specs.Symbol.{is_ended}

-- a name ends exactly where it begins before the last zero byte, or at it
pub ended-before : (strings : List ℕ) (ended at : ℕ) → ended ≤ length strings → ((k : ℕ) → ended ≡ k + 1 → get_or strings k 0 ≡ 0)
    → ((k : ℕ) → ended ≤ k → k < length strings → get_or strings k 0 ≢ 0) → is_ended strings at ≡ nat_lt at ended
ended-before strings ended at le zero none =
    let long = length-drop at strings in
    ⊎_elim
    (λ lt.
    let k = ended - 1 - at in
    let e : get_or (drop at strings) k 0 ≡ get_or strings (at + k) 0 = get_or-drop at strings k 0 in
    let f : at + k ≡ ended - 1 = omega arith in
    let z : get_or strings (ended - 1) 0 ≡ 0 = zero (ended - 1) (omega arith) in
    let y : get_or (drop at strings) k 0 ≡ 0 = e ∙ ap (λ i. get_or strings i 0) f ∙ z in
    let t : nat_lt at ended ≡ true = grind (arith, nat_tests) in
    list_any_at (λ b. b == 0) (drop at strings) k 0 (omega arith) (grind (arith, nat_tests)) ∙ sym t)
    (λ ge.
    let t : nat_lt at ended ≡ false = grind (arith, nat_tests) in
    list_any_none (λ b. b == 0) (drop at strings) (λ k d lt.
    let e : get_or (drop at strings) k d ≡ get_or strings (at + k) d = get_or-drop at strings k d in
    let g = get_or_default strings (at + k) d 0 (omega arith) in
    let n = none (at + k) (omega arith) (omega arith) in
    grind (arith, nat_tests))
    ∙ sym t)
    (cases_lt at ended)
