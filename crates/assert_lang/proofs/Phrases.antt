-- The words of a line, one after the other.
use Rattle.std.proofs.Common.{◌≡◌, ◌≢◌, ℕ, suc, ◌+◌, ◌-◌, ◌≤◌, inl, inr, true, false, not, List, [], ◌∷◌, length, take, drop, refl, sym, ap, subst, ◌∙◌, arith}
use Rattle.std.specs.List.{position_or_len}
use Rattle.std.proofs.lemmas.Bool.{cases_Bool, eqb-true, ne_eqb}
use Rattle.std.proofs.lemmas.List.{length-take, length-drop}
use Rattle.line_text.specs.LineText.{is_blank, unblanked}
use Rattle.line_text.proofs.LineTexts.{drop_one, position_le, unblanked_first}
use Rattle.assert_lang.specs.Phrase.{Token, is_comma, is_plain, head_of, tokens_from}

-- how many bytes of a word are at the head of these
abbrev pub more_of : List ℕ → ℕ
more_of xs = position_or_len (λ c. not (is_plain c)) xs

-- a comma is no blank
blank_no_comma : (x : ℕ) → is_blank x ≡ true → is_comma x ≡ false
blank_no_comma x blank = ne_eqb x 44 (λ comma. (let e = subst (λ (n : ℕ). is_blank n ≡ true) comma blank in cc))

-- a blank in front of words
pub blank_first : (column x : ℕ) (xs : List ℕ) → is_blank x ≡ true → tokens_from column false (x ∷ xs) ≡ tokens_from (column + 1) false xs
blank_first column x xs blank = rw (blank, blank_no_comma x blank) refl

left_le : (xs : List ℕ) → length (unblanked xs) ≤ length xs
left_le xs = omega (arith, length-drop (position_or_len (λ b. not (is_blank b)) xs) xs)

-- the blanks in front don't count, but for the columns
pub after_blanks : (column k : ℕ) (line rest : List ℕ) → rest ≡ unblanked line → k + length rest ≡ length line
    → tokens_from column false line ≡ tokens_from (column + k) false rest
after_blanks column k [] rest is total = rw is refl
after_blanks column k (x ∷ xs) rest is total = elim (cases_Bool (is_blank x)) [
  | inl blank ↦
      let skip : unblanked (x ∷ xs) ≡ unblanked xs = rw blank (drop_one _ x xs) in
      let same : rest ≡ unblanked xs = is ∙ skip in
      let fewer : length rest ≤ length xs = rw same (left_le xs) in
      let n : column + 1 + (k - 1) ≡ column + k = omega arith in
      blank_first column x xs blank
      ∙ after_blanks (column + 1) (k - 1) xs rest same (omega arith)
      ∙ ap (λ (c : ℕ). tokens_from c false rest) n
  | inr lacks ↦
      let stay : rest ≡ x ∷ xs = is ∙ rw lacks refl in
      let none : k ≡ 0 = (let e : length rest ≡ length (x ∷ xs) = ap length stay in omega arith) in
      let n : column ≡ column + k = omega arith in
      (λ i. tokens_from (n i) false (sym stay i))
]

-- a byte that isn't plain starts as much inside a word as outside
parted : (column y : ℕ) (ys : List ℕ) → is_plain y ≡ false → tokens_from column true (y ∷ ys) ≡ tokens_from column false (y ∷ ys)
parted column y ys parts = rw parts refl

-- a plain byte is no comma
plain_no_comma : (y : ℕ) → is_plain y ≡ true → is_comma y ≡ false
plain_no_comma y plain = elim (cases_Bool (is_comma y)) [
  | inl comma ↦ (let e = subst (λ (n : ℕ). is_plain n ≡ true) (eqb-true y 44 comma) plain in cc)
  | inr other ↦ other
]

-- a plain byte inside a word
inside : (column y : ℕ) (ys : List ℕ) → is_plain y ≡ true → tokens_from column true (y ∷ ys) ≡ tokens_from (column + 1) true ys
inside column y ys plain = rw (plain, plain_no_comma y plain) refl

-- what follows the rest of a word
rest_of_word : (column : ℕ) (xs : List ℕ) → tokens_from column true xs ≡ tokens_from (column + more_of xs) false (drop (more_of xs) xs)
rest_of_word column [] = refl
rest_of_word column (y ∷ ys) = elim (cases_Bool (is_plain y)) [
  | inl plain ↦
      let longer : more_of (y ∷ ys) ≡ 1 + more_of ys = rw plain refl in
      let n : column + 1 + more_of ys ≡ column + more_of (y ∷ ys) = omega (arith, longer) in
      let back : drop (more_of ys) ys ≡ drop (more_of (y ∷ ys)) (y ∷ ys) = sym (ap (λ (k : ℕ). drop k (y ∷ ys)) longer ∙ drop_one (more_of ys) y ys) in
      inside column y ys plain ∙ rest_of_word (column + 1) ys ∙ (λ i. tokens_from (n i) false (back i))
  | inr parts ↦
      let none : more_of (y ∷ ys) ≡ 0 = rw parts refl in
      let n : column ≡ column + more_of (y ∷ ys) = omega (arith, none) in
      let back : y ∷ ys ≡ drop (more_of (y ∷ ys)) (y ∷ ys) = sym (ap (λ (k : ℕ). drop k (y ∷ ys)) none) in
      parted column y ys parts ∙ (λ i. tokens_from (n i) false (back i))
]

-- the beginning of a list begins with its first
pub take_one : (n x : ℕ) (xs : List ℕ) → take (1 + n) (x ∷ xs) ≡ x ∷ take n xs
take_one n x xs = let more : 1 + n ≡ suc n = omega arith in rw more refl

-- the head of some bytes that begin with no comma
pub head_plain : (x : ℕ) (xs : List ℕ) → is_comma x ≡ false → head_of (x ∷ xs) ≡ x ∷ take (more_of xs) xs
head_plain x xs other = rw other refl

-- a word is its first byte and the plain ones behind it
pub head_plain_len : (x : ℕ) (xs : List ℕ) → is_comma x ≡ false → length (head_of (x ∷ xs)) ≡ 1 + more_of xs
head_plain_len x xs other =
    let same : length (head_of (x ∷ xs)) ≡ length (x ∷ take (more_of xs) xs) = ap length (head_plain x xs other) in
    omega (arith, same, length-take (more_of xs) xs, position_le (λ c. not (is_plain c)) xs)

-- a comma is a word of its own
pub head_comma : (x : ℕ) (xs : List ℕ) → is_comma x ≡ true → head_of (x ∷ xs) ≡ x ∷ []
head_comma x xs comma = rw comma refl

-- the head stands at the front
pub head_front : (x : ℕ) (xs : List ℕ) → take (length (head_of (x ∷ xs))) (x ∷ xs) ≡ head_of (x ∷ xs)
head_front x xs = elim (cases_Bool (is_comma x)) [
  | inl comma ↦ ap (λ (w : List ℕ). take (length w) (x ∷ xs)) (head_comma x xs comma) ∙ sym (head_comma x xs comma)
  | inr other ↦ ap (λ (k : ℕ). take k (x ∷ xs)) (head_plain_len x xs other) ∙ take_one (more_of xs) x xs ∙ sym (head_plain x xs other)
]

-- a byte that is no blank and no comma is plain
pub plain_byte : (x : ℕ) → is_blank x ≡ false → is_comma x ≡ false → is_plain x ≡ true
plain_byte x lacks other = rw (lacks, other) refl

comma_parts : (x : ℕ) → is_comma x ≡ true → is_plain x ≡ false
comma_parts x comma = rw (eqb-true x 44 comma) refl

-- a comma in front of words, and a plain byte
comma_first : (column x : ℕ) (xs : List ℕ) → is_comma x ≡ true
    → tokens_from column false (x ∷ xs) ≡ record { word = head_of (x ∷ xs); column = column } ∷ tokens_from (column + 1) false xs
comma_first column x xs comma = rw (comma_parts x comma, comma) refl

plain_first : (column x : ℕ) (xs : List ℕ) → is_comma x ≡ false → is_plain x ≡ true
    → tokens_from column false (x ∷ xs) ≡ record { word = head_of (x ∷ xs); column = column } ∷ tokens_from (column + 1) true xs
plain_first column x xs other plain = rw (plain, other) refl

-- a word at the head of some bytes, and the words behind it
pub word_first : (column x : ℕ) (xs : List ℕ) → is_blank x ≡ false
    → tokens_from column false (x ∷ xs) ≡ record { word = head_of (x ∷ xs); column = column }
    ∷ tokens_from (column + length (head_of (x ∷ xs))) false (drop (length (head_of (x ∷ xs))) (x ∷ xs))
word_first column x xs lacks = elim (cases_Bool (is_comma x)) [
  | inl comma ↦
      let one : 1 ≡ length (head_of (x ∷ xs)) = sym (ap length (head_comma x xs comma)) in
      comma_first column x xs comma
      ∙ (λ i. record { word = head_of (x ∷ xs); column = column } ∷ tokens_from (column + one i) false (drop (one i) (x ∷ xs)))
  | inr other ↦
      let len : 1 + more_of xs ≡ length (head_of (x ∷ xs)) = sym (head_plain_len x xs other) in
      let n : column + 1 + more_of xs ≡ column + length (head_of (x ∷ xs)) = omega (arith, len) in
      let back : drop (more_of xs) xs ≡ drop (length (head_of (x ∷ xs))) (x ∷ xs) = sym (drop_one (more_of xs) x xs) ∙ ap (λ (k : ℕ). drop k (x ∷ xs)) len in
      plain_first column x xs other (plain_byte x lacks other)
      ∙ ap (λ (ts : List Token). record { word = head_of (x ∷ xs); column = column } ∷ ts) (rest_of_word (column + 1) xs)
      ∙ (λ i. record { word = head_of (x ∷ xs); column = column } ∷ tokens_from (n i) false (back i))
]

-- the first word of some bytes without the blanks in front, and the words behind it
pub next_word : (column : ℕ) (bytes line word rest : List ℕ) (n : ℕ) → line ≡ unblanked bytes → length line ≢ 0 → n ≡ length (head_of line)
    → word ≡ take n line → rest ≡ drop n line → length line ≤ length bytes
    → tokens_from column false bytes ≡ record { word = word; column = column + (length bytes - length line) }
    ∷ tokens_from (column + (length bytes - length line) + length word) false rest
next_word column bytes [] word rest n is some len front back fewer = absurd (some refl)
next_word column bytes (x ∷ xs) word rest n is some len front back fewer =
    let head : head_of (x ∷ xs) ≡ word = sym (front ∙ ap (λ (k : ℕ). take k (x ∷ xs)) len ∙ head_front x xs) in
    let behind : drop (length (head_of (x ∷ xs))) (x ∷ xs) ≡ rest = sym (back ∙ ap (λ (k : ℕ). drop k (x ∷ xs)) len) in
    let at : ℕ = column + (length bytes - length (x ∷ xs)) in
    after_blanks column (length bytes - length (x ∷ xs)) bytes (x ∷ xs) is (omega arith)
    ∙ word_first at x xs (unblanked_first bytes x xs (sym is))
    ∙ (λ i. record { word = head i; column = at } ∷ tokens_from (at + length (head i)) false (behind i))

-- bytes that are blanks have no word
pub no_word : (column : ℕ) (bytes line : List ℕ) → line ≡ unblanked bytes → length line ≡ 0 → tokens_from column false bytes ≡ []
no_word column bytes [] is none = after_blanks column (length bytes) bytes [] is (omega arith)
no_word column bytes (x ∷ xs) is none = absurd (omega arith)
