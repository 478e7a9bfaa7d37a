-- Each line falls into its words.
use Rattle.std.proofs.Common.{◌≡◌, ℕ, zero, suc, ◌+◌, ◌≤◌, inl, inr, true, false, List, [], ◌∷◌, ◌++◌, length, take, drop, All, refl, sym, ap, subst}
use Rattle.std.proofs.Common.{◌∙◌, arith}
use Rattle.std.proofs.lemmas.Bool.{cases_Bool, eqb-true}
use Rattle.std.proofs.lemmas.List.{length-drop}
use Rattle.std.proofs.lemmas.List.Elements.{All-cons, All-nil}
use Rattle.line_text.specs.LineText.{is_blank}
use Rattle.line_text.proofs.LineTexts.{drop_one}
use Rattle.assert_lang.specs.Parting.{IsWord, AreParted, LinesAreParted}
use Rattle.assert_lang.specs.Phrase.{Token, is_comma, is_plain, head_of, tokens_from}
use Rattle.assert_lang.proofs.Phrases.{more_of, blank_first, head_plain, head_plain_len, head_comma, head_front, take_one, plain_byte, word_first}

-- the bytes of a word behind its first one
plain_run : (xs : List ℕ) → All (λ b. is_plain b ≡ true) (take (more_of xs) xs)
plain_run [] = All-nil (λ b. is_plain b ≡ true)
plain_run (x ∷ xs) = elim (cases_Bool (is_plain x)) [
  | inl plain ↦
      let longer : more_of (x ∷ xs) ≡ 1 + more_of xs = rw plain refl in
      let is : x ∷ take (more_of xs) xs ≡ take (more_of (x ∷ xs)) (x ∷ xs) = sym (ap (λ (k : ℕ). take k (x ∷ xs)) longer ∙ take_one (more_of xs) x xs) in
      subst (λ (w : List ℕ). All (λ b. is_plain b ≡ true) w) is (All-cons (λ b. is_plain b ≡ true) x (take (more_of xs) xs) plain (plain_run xs))
  | inr parts ↦
      let none : more_of (x ∷ xs) ≡ 0 = rw parts refl in
      let is : [] ≡ take (more_of (x ∷ xs)) (x ∷ xs) = sym (ap (λ (k : ℕ). take k (x ∷ xs)) none) in
      subst (λ (w : List ℕ). All (λ b. is_plain b ≡ true) w) is (All-nil (λ b. is_plain b ≡ true))
]

-- no plain byte stands behind them
run_ends : (xs : List ℕ) (b : ℕ) (more : List ℕ) → drop (more_of xs) xs ≡ b ∷ more → is_plain b ≡ false
run_ends [] b more is = (let e = is in cc)
run_ends (x ∷ xs) b more is = elim (cases_Bool (is_plain x)) [
  | inl plain ↦
      let longer : more_of (x ∷ xs) ≡ 1 + more_of xs = rw plain refl in
      let back : drop (more_of xs) xs ≡ drop (more_of (x ∷ xs)) (x ∷ xs) = sym (ap (λ (k : ℕ). drop k (x ∷ xs)) longer ∙ drop_one (more_of xs) x xs) in
      run_ends xs b more (back ∙ is)
  | inr parts ↦
      let none : more_of (x ∷ xs) ≡ 0 = rw parts refl in
      let all : x ∷ xs ≡ drop (more_of (x ∷ xs)) (x ∷ xs) = sym (ap (λ (k : ℕ). drop k (x ∷ xs)) none) in
      let same : x ∷ xs ≡ b ∷ more = all ∙ is in
      let first : x ≡ b = cc in
      subst (λ (n : ℕ). is_plain n ≡ false) first parts
]

-- the front of a list and what follows it
whole : (n : ℕ) (xs : List ℕ) → xs ≡ take n xs ++ drop n xs
whole zero xs = refl
whole (suc n) [] = refl
whole (suc n) (x ∷ xs) = ap (λ (l : List ℕ). x ∷ l) (whole n xs)

-- a word has a byte
head_some : (x : ℕ) (xs : List ℕ) → 1 ≤ length (head_of (x ∷ xs))
head_some x xs = elim (cases_Bool (is_comma x)) [
  | inl comma ↦ (let one = ap length (head_comma x xs comma) in omega (arith, one))
  | inr other ↦ (let len = head_plain_len x xs other in omega (arith, len))
]

-- a word that begins with a plain byte
plain_is_word : (x : ℕ) (xs : List ℕ) → is_comma x ≡ false → is_plain x ≡ true → IsWord (head_of (x ∷ xs)) (drop (length (head_of (x ∷ xs))) (x ∷ xs))
plain_is_word x xs other plain =
    let head : x ∷ take (more_of xs) xs ≡ head_of (x ∷ xs) = sym (head_plain x xs other) in
    let len : 1 + more_of xs ≡ length (head_of (x ∷ xs)) = sym (head_plain_len x xs other) in
    let back : drop (more_of xs) xs ≡ drop (length (head_of (x ∷ xs))) (x ∷ xs) = sym (drop_one (more_of xs) x xs) ∙ ap (λ (k : ℕ). drop k (x ∷ xs)) len in
    IsWord.Plain (omega (arith, len))
    (subst (λ (w : List ℕ). All (λ b. is_plain b ≡ true) w) head (All-cons (λ b. is_plain b ≡ true) x (take (more_of xs) xs) plain (plain_run xs)))
    (λ b more is. run_ends xs b more (back ∙ is))

-- a word takes a byte at least
shorter : (n x : ℕ) (xs : List ℕ) → length (x ∷ xs) ≤ suc n → length (drop (length (head_of (x ∷ xs))) (x ∷ xs)) ≤ n
shorter n x xs few =
    let some : 1 ≤ length (head_of (x ∷ xs)) = head_some x xs in
    omega (arith, few, some, length-drop (length (head_of (x ∷ xs))) (x ∷ xs))

-- the first word of some bytes is one
first_is_word : (x : ℕ) (xs : List ℕ) → is_blank x ≡ false → IsWord (head_of (x ∷ xs)) (drop (length (head_of (x ∷ xs))) (x ∷ xs))
first_is_word x xs lacks = elim (cases_Bool (is_comma x)) [
  | inl comma ↦ IsWord.Comma (head_comma x xs comma ∙ ap (λ (b : ℕ). b ∷ []) (eqb-true x 44 comma))
  | inr other ↦ plain_is_word x xs other (plain_byte x lacks other)
]

-- each line falls into its words, by its length
parted_by : (n column : ℕ) (bytes : List ℕ) → length bytes ≤ n → AreParted column bytes (tokens_from column false bytes)
parted_by n column [] few = AreParted.Nothing column
parted_by zero column (x ∷ xs) few = absurd (omega arith)
parted_by (suc n) column (x ∷ xs) few = elim (cases_Bool (is_blank x)) [
  | inl blank ↦
      subst (λ (ts : List Token). AreParted column (x ∷ xs) ts) (sym (blank_first column x xs blank))
      (AreParted.Blank column x xs (tokens_from (column + 1) false xs) blank (parted_by n (column + 1) xs (omega arith)))
  | inr lacks ↦
      let word : List ℕ = head_of (x ∷ xs) in
      let rest : List ℕ = drop (length word) (x ∷ xs) in
      subst (λ (ts : List Token). AreParted column (x ∷ xs) ts) (sym (word_first column x xs lacks))
      (AreParted.Word column (x ∷ xs) word rest (tokens_from (column + length word) false rest)
      (whole (length word) (x ∷ xs) ∙ ap (λ (l : List ℕ). l ++ rest) (head_front x xs))
      (first_is_word x xs lacks)
      (parted_by n (column + length word) rest (shorter n x xs few)))
]

-- a line is parted into its words and blanks, and nothing else
pub lines_parted : LinesAreParted
lines_parted line = parted_by (length line) 1 line (omega arith)
