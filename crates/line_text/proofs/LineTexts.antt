-- The lines and words of a text, one after the other.
use Rattle.std.proofs.Common.{◌≡◌, ◌≢◌, ℕ, suc, ◌+◌, ◌<◌, ◌≤◌, inl, inr, ◌⊎◌, Bool, true, false, not, List, [], ◌∷◌, length, take, drop, filter}
use Rattle.std.proofs.Common.{get_or, refl, sym, ap, subst, ◌∙◌, arith, eqb, unwrap_or, position}
use Rattle.std.specs.List.{slice_split, position_or_len, before_first, after_first}
use Rattle.std.specs.Str.Lines.{lines, lines_of_parts, strip_carriage_return}
use Rattle.std.proofs.Math.Dec.{eqb-suc-zero}
use Rattle.std.proofs.lemmas.Bool.{cases_Bool, cases_lt, ne_eqb, lt-ltb, le-ltb}
use Rattle.std.proofs.lemmas.List.{drop_more, drop_all, take_all, length-take}
use Rattle.std.proofs.lemmas.List.Sums.{passes_at_first}
use Rattle.std.proofs.lemmas.List.Splits.{slice_split_first, length-slice_split}
use Rattle.line_text.specs.LineText.{is_blank, words_of, unblanked}

-- a first place is within the list
pub position_le : (p : ℕ → Bool) (xs : List ℕ) → position_or_len p xs ≤ length xs
position_le p [] = omega arith
position_le p (x ∷ xs) = elim (cases_Bool (p x)) [
  | inl passes ↦ rw passes (omega arith)
  | inr fails ↦ rw fails (let rest = position_le p xs in omega arith)
]

-- the first place, or the length
pub place_is : (p : ℕ → Bool) (xs : List ℕ) → unwrap_or (position p xs) (length xs) ≡ position_or_len p xs
place_is p xs = elim (cases_lt (position_or_len p xs) (length xs)) [
  | inl within ↦ rw (lt-ltb (position_or_len p xs) (length xs) within) refl
  | inr past ↦ rw (le-ltb (position_or_len p xs) (length xs) past) (let within = position_le p xs in omega arith)
]

-- a list without elements
pub nothing : (xs : List ℕ) → length xs ≡ 0 → xs ≡ []
nothing [] none = refl
nothing (x ∷ xs) none = absurd (omega arith)

-- where nothing passes, there is one part
split_whole : (p : ℕ → Bool) (xs : List ℕ) → length xs ≤ position_or_len p xs → slice_split p xs ≡ xs ∷ []
split_whole p [] none = refl
split_whole p (x ∷ xs) none = elim (cases_Bool (p x)) [
  | inl passes ↦ absurd (let e = rw passes at none in omega arith)
  | inr fails ↦ rw fails (rw (split_whole p xs (let e = rw fails at none in omega arith)) refl)
]

-- the first of several parts is a line that ended in LF
parts_more : (x : List ℕ) (parts : List (List ℕ)) (n : ℕ) → length parts ≡ n + 1 → lines_of_parts (x ∷ parts) ≡ strip_carriage_return x ∷ lines_of_parts parts
parts_more x [] n some = absurd (omega arith)
parts_more x (y ∷ more) n some = refl

-- a text without LF is one line
pub line_alone : (text : List ℕ) → length text ≤ position_or_len (λ b. eqb b 10) text → text ≢ [] → lines text ≡ text ∷ []
line_alone [] none some = absurd (some refl)
line_alone (x ∷ xs) none some = ap lines_of_parts (split_whole (λ b. eqb b 10) (x ∷ xs) none) ∙ rw (eqb-suc-zero (length xs)) refl

-- a text with an LF begins with the line before it
pub line_before : (text : List ℕ) → position_or_len (λ b. eqb b 10) text < length text
    → lines text ≡ strip_carriage_return (before_first (λ b. eqb b 10) text) ∷ lines (after_first (λ b. eqb b 10) text)
line_before text within =
    ap lines_of_parts (slice_split_first (λ b. eqb b 10) text 0 within)
    ∙ parts_more (before_first (λ b. eqb b 10) text) (slice_split (λ b. eqb b 10) (after_first (λ b. eqb b 10) text)) _
    (length-slice_split (λ b. eqb b 10) (after_first (λ b. eqb b 10) text))

-- blanks in front of a word don't count
blank_first : (x : ℕ) (xs : List ℕ) → is_blank x ≡ true → words_of (x ∷ xs) ≡ words_of xs
blank_first x xs blank = rw blank refl

-- one more is dropped from behind the first
pub drop_one : (n x : ℕ) (xs : List ℕ) → drop (1 + n) (x ∷ xs) ≡ drop n xs
drop_one n x xs = let more : 1 + n ≡ suc n = omega arith in rw more refl

unblanked_same : (line : List ℕ) → words_of (unblanked line) ≡ words_of line
unblanked_same [] = refl
unblanked_same (x ∷ xs) = elim (cases_Bool (is_blank x)) [
  | inl blank ↦
      let skip : unblanked (x ∷ xs) ≡ unblanked xs = rw blank (drop_one _ x xs) in
      ap words_of skip ∙ unblanked_same xs ∙ sym (blank_first x xs blank)
  | inr lacks ↦ let stay : unblanked (x ∷ xs) ≡ x ∷ xs = rw lacks refl in ap words_of stay
]

-- what is left begins with no blank
pub unblanked_first : (line : List ℕ) (x : ℕ) (xs : List ℕ) → unblanked line ≡ x ∷ xs → is_blank x ≡ false
unblanked_first [] x xs is = cc
unblanked_first (y ∷ ys) x xs is = elim (cases_Bool (is_blank y)) [
  | inl blank ↦ unblanked_first ys x xs (let skip : unblanked (y ∷ ys) ≡ unblanked ys = rw blank (drop_one _ y ys) in sym skip ∙ is)
  | inr lacks ↦ let stay : unblanked (y ∷ ys) ≡ y ∷ ys = rw lacks refl in let same : y ≡ x = cc in subst (λ (b : ℕ). is_blank b ≡ false) same lacks
]

-- a word in front of others
kept : (word : List ℕ) (parts : List (List ℕ)) → length word ≢ 0
    → filter (λ w. not (eqb (length w) 0)) (word ∷ parts) ≡ word ∷ filter (λ w. not (eqb (length w) 0)) parts
kept word parts some = rw (ne_eqb (length word) 0 some) refl

-- a line that begins with no blank begins with a word
pub word_first : (x : ℕ) (xs : List ℕ) → is_blank x ≡ false
    → words_of (x ∷ xs) ≡ take (position_or_len is_blank (x ∷ xs)) (x ∷ xs) ∷ words_of (drop (position_or_len is_blank (x ∷ xs)) (x ∷ xs))
word_first x xs lacks = cases (cases_lt (position_or_len is_blank (x ∷ xs)) (length (x ∷ xs))) where
  longer : position_or_len is_blank (x ∷ xs) ≡ 1 + position_or_len is_blank xs
  longer = rw lacks refl

  cases : (position_or_len is_blank (x ∷ xs) < length (x ∷ xs)) ⊎ (length (x ∷ xs) ≤ position_or_len is_blank (x ∷ xs))
      → words_of (x ∷ xs) ≡ take (position_or_len is_blank (x ∷ xs)) (x ∷ xs) ∷ words_of (drop (position_or_len is_blank (x ∷ xs)) (x ∷ xs))
  cases (inl within) =
      let end = position_or_len is_blank (x ∷ xs) in
      let front : List ℕ = take end (x ∷ xs) in
      let some : length front ≢ 0 = λ none. omega (arith, none, longer, length-take end (x ∷ xs)) in
      let rest : words_of (drop end (x ∷ xs)) ≡ words_of (drop (end + 1) (x ∷ xs)) =
      ap words_of (drop_more (x ∷ xs) end 0 within)
      ∙ blank_first (get_or (x ∷ xs) end 0) (drop (end + 1) (x ∷ xs)) (passes_at_first is_blank (x ∷ xs) 0 within) in
      ap (filter (λ w. not (eqb (length w) 0))) (slice_split_first is_blank (x ∷ xs) 0 within)
      ∙ kept front (slice_split is_blank (drop (end + 1) (x ∷ xs))) some
      ∙ ap (λ (ws : List (List ℕ)). front ∷ ws) (sym rest)
  cases (inr past) =
      let end = position_or_len is_blank (x ∷ xs) in
      let all : take end (x ∷ xs) ≡ x ∷ xs = take_all end (x ∷ xs) past in
      let none : drop end (x ∷ xs) ≡ [] = drop_all end (x ∷ xs) past in
      ap (filter (λ w. not (eqb (length w) 0))) (split_whole is_blank (x ∷ xs) past)
      ∙ kept (x ∷ xs) [] (λ e. omega (arith, e))
      ∙ (λ i. sym all i ∷ words_of (sym none i))

-- the first word of a line, where something is left without the blanks in front
pub word_of_rest : (line rest : List ℕ) → unblanked line ≡ rest → rest ≢ []
    → words_of line ≡ take (position_or_len is_blank rest) rest ∷ words_of (drop (position_or_len is_blank rest) rest)
word_of_rest line [] is some = absurd (some refl)
word_of_rest line (x ∷ xs) is some = sym (unblanked_same line) ∙ ap words_of is ∙ word_first x xs (unblanked_first line x xs is)

-- a line of blanks has no word
pub word_of_none : (line : List ℕ) → unblanked line ≡ [] → words_of line ≡ []
word_of_none line is = sym (unblanked_same line) ∙ ap words_of is
