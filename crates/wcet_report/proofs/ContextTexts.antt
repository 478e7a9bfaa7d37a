-- The words of a context tell the context.
use Rattle.std.proofs.Common.{◌≡◌, ℕ, ◌+◌, ◌-◌, ◌≤◌, Bool, true, false, List, [], ◌∷◌, ◌++◌, length, suc, refl, ap, sym, ◌∙◌, arith, get_or, codes}
use Rattle.std.proofs.Common.{pos, negsuc, if◌then◌else◌}
use Rattle.std.proofs.lemmas.Bool.{and_parts, false≢true}
use Rattle.std.proofs.lemmas.Bool.Decides.{Decides-int_eq}
use Rattle.std.proofs.lemmas.List.{append_cancel_left}
use Rattle.std.proofs.lemmas.List.Elements.{All-head, All-tail}
use Rattle.std.specs.Ordering.{int_eq}
use Rattle.std.specs.Prelude.{◌==◌, All, Option, Some, None}
use Rattle.value_lattice.specs.Value.{IsValue}
use Rattle.value_lattice.specs.declared.value.Value.{Value}
use Rattle.value_lattice.specs.declared.value.Value.TheVariants.{Words, Range, Ret}
use Rattle.wcet_report.proofs.Cuts.{bytes_behind}
use Rattle.wcet_report.proofs.ValueTexts.{value_tells}
use Rattle.wcet_report.specs.Context.{argument_names, known, known_or_any, context_word, context_rest, HasArguments}
use Rattle.wcet_report.specs.Laws.{ContextInRange}
use Rattle.wcet_report.specs.Outcome.{bound_words}
use Rattle.wcet_report.specs.Value.{value_text, is_any}
use Rattle.wcet_report.specs.declared.context.Context.{Context}
use Rattle.wcet_report.specs.declared.context.Context.TheVariants.{Plain, With}

-- the place of an argument's register by its letter and digit, which no word of a bound has
pub rank : List ℕ → ℕ
rank word = if get_or word 1 0 == 111 then get_or word 2 0 - 48 else get_or word 2 0 - 43

-- names of three letters whose places are one after the other
abbrev AreRanked : ℕ → List (List ℕ) → Type 0
AreRanked k [] = Unit {0}
AreRanked k (name ∷ names) = ((rest : List ℕ) → rank (name ++ rest) ≡ k) × AreRanked (suc k) names

names_ranked : AreRanked 0 argument_names
unfolding rank
names_ranked = (
  λ rest. refl,
  (
    λ rest. refl,
    (
      λ rest. refl,
      (
        λ rest. refl,
        (
          λ rest. refl,
          (
            λ rest. refl,
            (λ rest. refl, (λ rest. refl, (λ rest. refl, (λ rest. refl, (λ rest. refl, (λ rest. refl, (λ rest. refl, tt))))))),
          ),
        ),
      ),
    ),
  ),
)

pub first_word : List (List ℕ) → List ℕ
first_word [] = []
first_word (word ∷ words) = word

words_behind : List (List ℕ) → List (List ℕ)
words_behind [] = []
words_behind (word ∷ words) = words

-- the words from one argument on, by whether nothing is known of it
abbrev words_from : Bool → List ℕ → Value → List (List ℕ) → List (List ℕ)
words_from b n v rest = (if b then [] else (n ++ (codes "=" ++ value_text v)) ∷ []) ++ rest

place_by : (b : Bool) (k : ℕ) (n : List ℕ) (v : Value) (rest t : List (List ℕ)) → ((more : List ℕ) → rank (n ++ more) ≡ k)
    → suc k ≤ rank (first_word (rest ++ t)) → k ≤ rank (first_word (words_from b n v rest ++ t))
unfolding first_word
place_by true k n v rest t at up = omega (arith, up)
place_by false k n v rest t at up = omega (arith, at (codes "=" ++ value_text v))

-- the first word, if it is a known argument, has a place from k on
first_place : (k : ℕ) (names : List (List ℕ)) (values : List Value) (t : List (List ℕ)) → AreRanked k names → k + length names ≤ rank (first_word t)
    → k ≤ rank (first_word (known names values ++ t))
first_place k [] values t ranked behind = omega (arith, behind)
first_place k (n ∷ ns) [] t ranked behind = omega (arith, behind)
first_place k (n ∷ ns) (v ∷ vs) t ranked behind =
    place_by (is_any v) k n v (known ns vs) t ranked.0 (first_place (suc k) ns vs t ranked.1 (omega (arith, behind)))

abbrev any : Value
any = Range (negsuc 2147483647) (pos 2147483647)

-- there is one range of all words
any_is : (v : Value) → is_any v ≡ true → v ≡ any
any_is (Words words) wrong = absurd (false≢true wrong)
any_is (Range lo hi) all =
    let both : (int_eq lo (negsuc 2147483647) ≡ true) × (int_eq hi (pos 2147483647) ≡ true) =
    and_parts (int_eq lo (negsuc 2147483647)) (int_eq hi (pos 2147483647)) all in
    let low : lo ≡ negsuc 2147483647 = (Decides-int_eq lo (negsuc 2147483647)).0 both.0 in
    let high : hi ≡ pos 2147483647 = (Decides-int_eq hi (pos 2147483647)).0 both.1 in
    λ i. Range (low i) (high i)
any_is Ret wrong = absurd (false≢true wrong)

step_tells : (b c : Bool) (k : ℕ) (n : List ℕ) (ns : List (List ℕ)) (v w : Value) (vs ws : List Value) (t u : List (List ℕ))
    → (b ≡ true → v ≡ any) → (c ≡ true → w ≡ any) → IsValue v → IsValue w → ((rest : List ℕ) → rank (n ++ rest) ≡ k)
    → suc k ≤ rank (first_word (known ns vs ++ t)) → suc k ≤ rank (first_word (known ns ws ++ u))
    → (known ns vs ++ t ≡ known ns ws ++ u → (vs ≡ ws) × (t ≡ u))
    → words_from b n v (known ns vs) ++ t ≡ words_from c n w (known ns ws) ++ u → (v ∷ vs ≡ w ∷ ws) × (t ≡ u)
unfolding first_word words_behind bytes_behind value_text
step_tells true true k n ns v w vs ws t u v_any w_any at_v at_w at first second rest same =
    let one : v ≡ w = v_any refl ∙ sym (w_any refl) in
    let others : (vs ≡ ws) × (t ≡ u) = rest same in (cc (one, others.0), others.1)
step_tells true false k n ns v w vs ws t u v_any w_any at_v at_w at first second rest same =
    let wrong : rank (first_word (known ns vs ++ t)) ≡ k = ap (λ words. rank (first_word words)) same ∙ at (codes "=" ++ value_text w) in
    absurd (omega (arith, wrong, first))
step_tells false true k n ns v w vs ws t u v_any w_any at_v at_w at first second rest same =
    let wrong : rank (first_word (known ns ws ++ u)) ≡ k =
    sym (ap (λ words. rank (first_word words)) same) ∙ at (codes "=" ++ value_text v) in
    absurd (omega (arith, wrong, second))
step_tells false false k n ns v w vs ws t u v_any w_any at_v at_w at first second rest same =
    let texts : codes "=" ++ value_text v ≡ codes "=" ++ value_text w =
    append_cancel_left n (codes "=" ++ value_text v) (codes "=" ++ value_text w) (ap first_word same) in
    let one : v ≡ w = value_tells v w at_v at_w (ap bytes_behind texts) in
    let others : (vs ≡ ws) × (t ≡ u) = rest (ap words_behind same) in (cc (one, others.0), others.1)

-- values, for recursion
abbrev AreValues : List Value → Type 0
AreValues [] = Unit {0}
AreValues (v ∷ vs) = IsValue v × AreValues vs

known_tells : (k : ℕ) (names : List (List ℕ)) (vs ws : List Value) (t u : List (List ℕ)) → AreRanked k names
    → length vs ≡ length names → length ws ≡ length names → AreValues vs → AreValues ws
    → k + length names ≤ rank (first_word t) → k + length names ≤ rank (first_word u)
    → known names vs ++ t ≡ known names ws ++ u → (vs ≡ ws) × (t ≡ u)
known_tells k [] [] [] t u ranked long also at_vs at_ws first second same = (refl, same)
known_tells k [] (v ∷ vs) ws t u ranked long also at_vs at_ws first second same = absurd (omega (arith, long))
known_tells k [] [] (w ∷ ws) t u ranked long also at_vs at_ws first second same = absurd (omega (arith, also))
known_tells k (n ∷ ns) [] ws t u ranked long also at_vs at_ws first second same = absurd (omega (arith, long))
known_tells k (n ∷ ns) (v ∷ vs) [] t u ranked long also at_vs at_ws first second same = absurd (omega (arith, also))
known_tells k (n ∷ ns) (v ∷ vs) (w ∷ ws) t u ranked long also at_vs at_ws first second same =
    step_tells (is_any v) (is_any w) k n ns v w vs ws t u (any_is v) (any_is w) at_vs.0 at_ws.0 ranked.0
    (first_place (suc k) ns vs t ranked.1 (omega (arith, first))) (first_place (suc k) ns ws u ranked.1 (omega (arith, second)))
    (known_tells (suc k) ns vs ws t u ranked.1 (omega (arith, long)) (omega (arith, also)) at_vs.1 at_ws.1
    (omega (arith, first)) (omega (arith, second)))
    same

-- the words behind those of the arguments: one stands in where there are none
abbrev others : List (List ℕ) → List (List ℕ) → List (List ℕ)
others [] t = codes "any" ∷ t
others (k ∷ ks) t = t

others_are : (words t : List (List ℕ)) → known_or_any words ++ t ≡ words ++ others words t
others_are [] t = refl
others_are (w ∷ ws) t = refl

others_behind : (words t : List (List ℕ)) → 13 ≤ rank (first_word t) → 13 ≤ rank (first_word (others words t))
unfolding first_word rank
others_behind [] t behind = omega arith
others_behind (w ∷ ws) t behind = behind

values_of_all : (vs : List Value) → All IsValue vs → AreValues vs
values_of_all [] all = tt
values_of_all (v ∷ vs) all = (All-head IsValue v vs all, values_of_all vs (All-tail IsValue v vs all))

rests_tell : (vs ws : List Value) (t u : List (List ℕ)) → All IsValue vs → All IsValue ws → length vs ≡ 13 → length ws ≡ 13
    → 13 ≤ rank (first_word t) → 13 ≤ rank (first_word u)
    → known_or_any (known argument_names vs) ++ t ≡ known_or_any (known argument_names ws) ++ u → (vs ≡ ws) × (t ≡ u)
rests_tell vs ws t u at_vs at_ws long also first second same =
    let cut : (vs ≡ ws) × (others (known argument_names vs) t ≡ others (known argument_names ws) u) =
    known_tells 0 argument_names vs ws (others (known argument_names vs) t) (others (known argument_names ws) u) names_ranked long also
    (values_of_all vs at_vs) (values_of_all ws at_ws)
    (others_behind (known argument_names vs) t first) (others_behind (known argument_names ws) u second)
    (sym (others_are (known argument_names vs) t) ∙ same ∙ others_are (known argument_names ws) u) in
    let words : known_or_any (known argument_names vs) ≡ known_or_any (known argument_names ws) =
    ap (λ list. known_or_any (known argument_names list)) cut.0 in
    (cut.0, append_cancel_left (known_or_any (known argument_names ws)) t u (ap (λ ks. ks ++ t) (sym words) ∙ same))

-- words that no argument begins with
pub record NoArgument (words : List (List ℕ)) : Type 0 where
  pub is : 13 ≤ rank (first_word words)

-- the words of a context before others that no argument begins with tell it and them
pub context_words_tell : (a b : Context) (t u : List (List ℕ)) → ContextInRange a → ContextInRange b → HasArguments a → HasArguments b
    → NoArgument t → NoArgument u → context_word a ∷ (context_rest a ++ t) ≡ context_word b ∷ (context_rest b ++ u) → (a ≡ b) × (t ≡ u)
unfolding first_word words_behind
context_words_tell Plain Plain t u at_a at_b long also first second same = (refl, ap words_behind same)
context_words_tell Plain (With ws) t u at_a at_b long also first second same =
    let wrong : 112 ≡ 97 = ap (λ words. get_or (first_word words) 0 0) same in absurd (omega (arith, wrong))
context_words_tell (With vs) Plain t u at_a at_b long also first second same =
    let wrong : 97 ≡ 112 = ap (λ words. get_or (first_word words) 0 0) same in absurd (omega (arith, wrong))
context_words_tell (With vs) (With ws) t u at_a at_b long also first second same =
    let both : (vs ≡ ws) × (t ≡ u) = rests_tell vs ws t u at_a at_b long also first.is second.is (ap words_behind same) in
    (ap With both.0, both.1)

-- the word `any` is no argument
pub no_argument_any : NoArgument (codes "any" ∷ [])
unfolding first_word rank
no_argument_any = record { is = omega arith }

-- the words of a bound are no argument
pub no_argument_bound : (bound : Option ℕ) → NoArgument (bound_words bound)
unfolding first_word rank
no_argument_bound None = record { is = omega arith }
no_argument_bound (Some n) = record { is = omega arith }
