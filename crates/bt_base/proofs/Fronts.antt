-- Fronts of a told text, as a reader gathers them and a writer appends them.
use Rattle.std.proofs.Common.{◌≡◌, ℕ, ◌+◌, ◌<◌, ◌≤◌, List, [], ◌++◌, length, take, drop, Option, Some, None, IfSome, ap, sym, ◌∙◌, append_assoc, arith, rules}
use Rattle.std.specs.Option.{option_map}
use Rattle.std.proofs.Math.Seq.{take-add}
use Rattle.std.proofs.lemmas.List.{length-append, length-take, length-drop, take_all}
use Rattle.bt_base.specs.Sink.{Appended}

-- nothing is a front of each text
pub front_none : (told : Option (List ℕ)) (bytes : List ℕ) (k : ℕ) → bytes ≡ [] → k ≡ 0 → IfSome told (λ t. bytes ≡ take k t)
front_none None bytes k b e = search rules
front_none (Some t) bytes k b e = b ∙ ap (λ (i : ℕ). take i t) (sym e)

-- nothing is within the file
pub within_none : (told : Option (List ℕ)) (k : ℕ) → k ≡ 0 → IfSome told (λ t. k ≤ length t)
within_none None k e = search rules
within_none (Some t) k e = omega arith

-- a front of a text and the next piece behind it make a longer front
pub front_more : (told again : Option (List ℕ)) (old new : List ℕ) (k m n : ℕ) → again ≡ told → m ≡ k + n → IfSome told (λ t. old ≡ take k t)
    → IfSome again (λ t. new ≡ old ++ take n (drop k t)) → IfSome told (λ t. new ≡ take m t)
front_more None again old new k m n e s f g = search rules
front_more (Some t) again old new k m n e s f g =
    let h : new ≡ old ++ take n (drop k t) = rw e at g in
    h ∙ ap (λ (l : List ℕ). l ++ take n (drop k t)) f ∙ sym (take-add k n t) ∙ ap (λ (i : ℕ). take i t) (sym s)

-- what was given behind what was read is within the file
pub within_more : (told again : Option (List ℕ)) (old new : List ℕ) (k m n : ℕ) → again ≡ told → k ≡ length old → m ≡ length new → m ≡ k + n
    → IfSome told (λ t. k ≤ length t) → IfSome again (λ t. new ≡ old ++ take n (drop k t)) → IfSome told (λ t. m ≤ length t)
within_more None again old new k m n e a b s f g = search rules
within_more (Some t) again old new k m n e a b s f g =
    let h : new ≡ old ++ take n (drop k t) = rw e at g in
    let q = ap length h in
    omega (arith, q, length-append old (take n (drop k t)), length-take n (drop k t), length-drop k t)

-- a front that the text doesn't pass is the whole text
pub front_all : (told again : Option (List ℕ)) (new : List ℕ) (k m n : ℕ) → again ≡ told → m ≡ k + n → n ≡ 0 → IfSome told (λ t. new ≡ take m t)
    → IfSome again (λ t. n ≡ 0 → length t ≤ k) → IfSome told (λ t. new ≡ t)
front_all None again new k m n e s z f g = search rules
front_all (Some t) again new k m n e s z f g =
    let h : n ≡ 0 → length t ≤ k = rw e at g in
    let b : length t ≤ k = h z in
    f ∙ take_all m t (omega arith)

-- a front past a limit shows a text past it
pub past_limit : (told : Option (List ℕ)) (k limit : ℕ) → limit < k → IfSome told (λ t. k ≤ length t) → IfSome told (λ t. limit < length t)
past_limit None k limit l f = search rules
past_limit (Some t) k limit l f = omega arith

-- appending nothing changes nothing
pub appended_none : (told : Option (List ℕ)) (bytes : List ℕ) → Appended told told (take 0 bytes)
appended_none None bytes = search rules
appended_none (Some t) bytes = search rules

-- appending a front of a text and then the next piece behind it appends a longer front
pub appended_more : (first then last : Option (List ℕ)) (bytes : List ℕ) (k n : ℕ) → Appended first then (take k bytes)
    → Appended then last (take n (drop k bytes)) → Appended first last (take (k + n) bytes)
appended_more None then last bytes k n f g =
    g ∙ ap (option_map (λ (before : List ℕ). before ++ take n (drop k bytes))) f
appended_more (Some t) then last bytes k n f g =
    g ∙ ap (option_map (λ (before : List ℕ). before ++ take n (drop k bytes))) f
    ∙ ap Some (append_assoc t (take k bytes) (take n (drop k bytes)) ∙ ap (λ (l : List ℕ). t ++ l) (sym (take-add k n bytes)))
