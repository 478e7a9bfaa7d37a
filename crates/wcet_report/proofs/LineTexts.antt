-- A text of lines tells its lines, and a line its words.
use Rattle.std.proofs.Common.{◌≡◌, ℕ, Bool, true, false, List, [], ◌∷◌, ◌++◌, refl, ap, sym, ◌∙◌, append_assoc, arith, codes}
use Rattle.std.specs.Prelude.{◌==◌, ◌&&◌, ◌||◌}
use Rattle.std.specs.List.{flat_map}
use Rattle.std.proofs.lemmas.Bool.{and_parts, and_from, false≢true}
use Rattle.wcet_report.proofs.Cuts.{lacks, Lacks, cut_once, first_byte, bytes_behind}
use Rattle.wcet_report.specs.Line.{spaced, line_of}

-- a word ends at a space or at the end of its line
abbrev pub ends_word : ℕ → Bool
ends_word b = b == 32 || (b == 10)

abbrev pub are_clean : List (List ℕ) → Bool
are_clean [] = true
are_clean (word ∷ words) = lacks ends_word word && are_clean words

-- no word has a space or the end of a line in it
pub record AreClean (words : List (List ℕ)) : Type 0 where
  pub is : are_clean words ≡ true

-- a line: its first word and those behind it
pub record Words : Type 0 where
  pub first : List ℕ
  pub rest : List (List ℕ)

-- the text of words
abbrev pub words_text : Words → List ℕ
words_text line = line_of line.first line.rest

-- a line whose words are clean
pub record IsClean (line : Words) : Type 0 where
  pub first : Lacks ends_word line.first
  pub rest : AreClean line.rest

-- words behind spaces, the end of their line, and what follows
abbrev behind : List (List ℕ) → List ℕ → List ℕ
behind [] text = 10 ∷ text
behind (word ∷ words) text = 32 ∷ (word ++ behind words text)

behind_is : (words : List (List ℕ)) (text : List ℕ) → spaced words ++ (10 ∷ text) ≡ behind words text
behind_is [] text = refl
behind_is (word ∷ words) text =
    append_assoc (32 ∷ word) (spaced words) (10 ∷ text) ∙ ap (λ more. 32 ∷ (word ++ more)) (behind_is words text)

line_is : (first : List ℕ) (rest : List (List ℕ)) (text : List ℕ) → line_of first rest ++ text ≡ first ++ behind rest text
unfolding line_of
line_is first rest text =
    append_assoc first (spaced rest ++ codes "\n") text
    ∙ ap (λ more. first ++ more) (append_assoc (spaced rest) (codes "\n") text ∙ behind_is rest text)

-- the first of such words is one
pub word_clean : (word : List ℕ) (words : List (List ℕ)) → AreClean (word ∷ words) → Lacks ends_word word
word_clean word words clean = record { is = (and_parts (lacks ends_word word) (are_clean words) clean.is).0 }

-- the others of such words are such words
pub words_clean : (word : List ℕ) (words : List (List ℕ)) → AreClean (word ∷ words) → AreClean words
words_clean word words clean = record { is = (and_parts (lacks ends_word word) (are_clean words) clean.is).1 }

-- a word that ends nowhere inside, before others, is one of such words
pub clean-cons : (word : List ℕ) (words : List (List ℕ)) → Lacks ends_word word → AreClean words → AreClean (word ∷ words)
clean-cons word words one all = record { is = and_from (lacks ends_word word) (are_clean words) one.is all.is }

-- two lists of such words are one
pub clean-append : (xs ys : List (List ℕ)) → AreClean xs → AreClean ys → AreClean (xs ++ ys)
clean-append [] ys one other = other
clean-append (x ∷ xs) ys one other =
    clean-cons x (xs ++ ys) (word_clean x xs one) (clean-append xs ys (words_clean x xs one) other)

behind_tells : (f g : List ℕ) (r s : List (List ℕ)) (t u : List ℕ) → Lacks ends_word f → Lacks ends_word g → AreClean r → AreClean s
    → f ++ behind r t ≡ g ++ behind s u → (f ≡ g) × (r ≡ s) × (t ≡ u)
unfolding first_byte bytes_behind
behind_tells f g [] [] t u f_free g_free r_clean s_clean same =
    let cut : (f ≡ g) × (10 ∷ t ≡ 10 ∷ u) = cut_once ends_word f g t u 10 10 f_free g_free refl refl same in
    (cut.0, refl, ap bytes_behind cut.1)
behind_tells f g [] (w ∷ ws) t u f_free g_free r_clean s_clean same =
    let cut : (f ≡ g) × (10 ∷ t ≡ 32 ∷ (w ++ behind ws u)) =
    cut_once ends_word f g t (w ++ behind ws u) 10 32 f_free g_free refl refl same in
    let wrong : 10 ≡ 32 = ap first_byte cut.1 in
    absurd (omega (arith, wrong))
behind_tells f g (v ∷ vs) [] t u f_free g_free r_clean s_clean same =
    let cut : (f ≡ g) × (32 ∷ (v ++ behind vs t) ≡ 10 ∷ u) =
    cut_once ends_word f g (v ++ behind vs t) u 32 10 f_free g_free refl refl same in
    let wrong : 32 ≡ 10 = ap first_byte cut.1 in
    absurd (omega (arith, wrong))
behind_tells f g (v ∷ vs) (w ∷ ws) t u f_free g_free r_clean s_clean same =
    let cut : (f ≡ g) × (32 ∷ (v ++ behind vs t) ≡ 32 ∷ (w ++ behind ws u)) =
    cut_once ends_word f g (v ++ behind vs t) (w ++ behind ws u) 32 32 f_free g_free refl refl same in
    let rest : (v ≡ w) × (vs ≡ ws) × (t ≡ u) =
    behind_tells v w vs ws t u (word_clean v vs r_clean) (word_clean w ws s_clean) (words_clean v vs r_clean) (words_clean w ws s_clean)
    (ap bytes_behind cut.1) in
    (cut.0, cc (rest.0, rest.1), rest.2)

-- a line before a text tells its words and that text
pub line_tells : (one other : Words) (t u : List ℕ) → IsClean one → IsClean other → words_text one ++ t ≡ words_text other ++ u
    → (one ≡ other) × (t ≡ u)
line_tells one other t u clean also same =
    let cut : (one.first ≡ other.first) × (one.rest ≡ other.rest) × (t ≡ u) =
    behind_tells one.first other.first one.rest other.rest t u clean.first also.first clean.rest also.rest
    (sym (line_is one.first one.rest t) ∙ same ∙ line_is other.first other.rest u) in
    (λ i. record { first = cut.0 i; rest = cut.1 i }, cut.2)

-- the text of lines
abbrev pub lines_text : List Words → List ℕ
lines_text lines = flat_map words_text lines

-- lines that are all clean
abbrev pub AllClean : List Words → Type 0
AllClean [] = Unit {0}
AllClean (line ∷ lines) = IsClean line × AllClean lines

-- whether a list has an item
some_byte : List ℕ → Bool
some_byte [] = false
some_byte (b ∷ bs) = true

behind_some : (f : List ℕ) (r : List (List ℕ)) (t : List ℕ) → some_byte (f ++ behind r t) ≡ true
unfolding some_byte
behind_some [] [] t = refl
behind_some [] (w ∷ ws) t = refl
behind_some (b ∷ bs) r t = refl

not_empty : (f : List ℕ) (r : List (List ℕ)) (t : List ℕ) → [] ≡ f ++ behind r t → ⊥
unfolding some_byte
not_empty f r t same = false≢true (ap some_byte same ∙ behind_some f r t)

-- a text tells its lines
pub lines_tell : (one other : List Words) → AllClean one → AllClean other → lines_text one ≡ lines_text other → one ≡ other
lines_tell [] [] clean also same = refl
lines_tell [] (m ∷ ms) clean also same =
    absurd (not_empty m.first m.rest (lines_text ms) (same ∙ line_is m.first m.rest (lines_text ms)))
lines_tell (l ∷ ls) [] clean also same =
    absurd (not_empty l.first l.rest (lines_text ls) (sym same ∙ line_is l.first l.rest (lines_text ls)))
lines_tell (l ∷ ls) (m ∷ ms) clean also same =
    let cut : (l ≡ m) × (lines_text ls ≡ lines_text ms) = line_tells l m (lines_text ls) (lines_text ms) clean.0 also.0 same in
    cc (cut.0, lines_tell ls ms clean.1 also.1 cut.1)
