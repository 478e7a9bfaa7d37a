-- The assertions of the lines of a text, one after the other.
use Rattle.std.proofs.Common.{◌≡◌, ℕ, suc, ◌+◌, ◌-◌, ◌<◌, ◌≤◌, List, [], ◌∷◌, ◌++◌, length, take, Result, Ok, Err, refl, sym, ap, ◌∙◌, arith}
use Rattle.std.proofs.lemmas.List.{append_assoc, length-append}
use Rattle.assert_lang.specs.Text.{Row, all_of, assertion_of, before, limited, IsRefusalOf}
use Rattle.assert_lang.specs.declared.assertion.Assertion.{Assertion}
use Rattle.assert_lang.specs.declared.refusal.AssertRefusal.{AssertRefusal}
use Rattle.assert_lang.specs.declared.refusal.AssertRefusal.TheVariants as refusal

-- assertions in front of others
abbrev pub behind : List Assertion → Result (List Assertion) AssertRefusal → Result (List Assertion) AssertRefusal
behind list (Err refusal) = Err refusal
behind list (Ok more) = Ok (list ++ more)

-- what lines decide behind these assertions, where there may be 4,096
abbrev pub decided : List Assertion → List Row → Result (List Assertion) AssertRefusal
decided list rows = limited (behind list (all_of (take (4097 - length list) rows)))

-- the whole list is what is decided from no statement on
pub nothing_yet : (rows : List Row) → limited (all_of (take 4097 rows)) ≡ decided [] rows
nothing_yet rows = ap limited (of (all_of (take 4097 rows))) where
  of : (rest : Result (List Assertion) AssertRefusal) → rest ≡ behind [] rest
  of (Err refusal) = refl
  of (Ok more) = refl

-- one line more is looked at
one_taken : (n : ℕ) (row : Row) (rest : List Row) → n < 4097 → take (4097 - n) (row ∷ rest) ≡ row ∷ take (4097 - (n + 1)) rest
one_taken n row rest few = let more : 4097 - n ≡ suc (4097 - (n + 1)) = omega arith in ap (λ (k : ℕ). take k (row ∷ rest)) more

pub one_more : (list : List Assertion) (row : Row) (rest : List Row) (assertion : Assertion) → length list ≤ 4096 → assertion_of row ≡ Ok assertion
    → decided list (row ∷ rest) ≡ limited (behind (list ++ assertion ∷ []) (all_of (take (4097 - (length list + 1)) rest)))
one_more list row rest assertion few is =
    ap (λ (rows : List Row). limited (behind list (all_of rows))) (one_taken (length list) row rest (omega arith))
    ∙ ap (λ (read : Result Assertion AssertRefusal). limited (behind list (before read (all_of (take (4097 - (length list + 1)) rest))))) is
    ∙ ap limited (both (all_of (take (4097 - (length list + 1)) rest))) where
      both : (later : Result (List Assertion) AssertRefusal) → behind list (before (Ok assertion) later) ≡ behind (list ++ assertion ∷ []) later
      both (Err refusal) = refl
      both (Ok more) = ap (λ (l : List Assertion). Ok l) (sym (append_assoc list (assertion ∷ []) more))

longer : (list : List Assertion) (assertion : Assertion) → length (list ++ assertion ∷ []) ≡ length list + 1
longer list assertion = length-append list (assertion ∷ [])

-- the next line is an assertion
pub next_read : (all : Result (List Assertion) AssertRefusal) (list : List Assertion) (row : Row) (rest : List Row) (assertion : Assertion)
    → length list ≤ 4096 → all ≡ decided list (row ∷ rest) → assertion_of row ≡ Ok assertion
    → all ≡ decided (list ++ assertion ∷ []) rest
next_read all list row rest assertion few so_far is =
    so_far ∙ one_more list row rest assertion few is
    ∙ ap (λ (n : ℕ). limited (behind (list ++ assertion ∷ []) (all_of (take (4097 - n) rest)))) (sym (longer list assertion))

-- the next line is refused
pub next_refused : (all : Result (List Assertion) AssertRefusal) (list : List Assertion) (row : Row) (rest : List Row) (why : AssertRefusal)
    → length list ≤ 4096 → all ≡ decided list (row ∷ rest) → assertion_of row ≡ Err why → all ≡ Err why
next_refused all list row rest why few so_far is =
    so_far
    ∙ ap (λ (rows : List Row). limited (behind list (all_of rows))) (one_taken (length list) row rest (omega arith))
    ∙ ap (λ (read : Result Assertion AssertRefusal). limited (behind list (before read (all_of (take (4097 - (length list + 1)) rest))))) is

-- the refusal of the next line is that of the text
pub refused_next : (all : Result (List Assertion) AssertRefusal) (list : List Assertion) (row : Row) (rest : List Row) (why : AssertRefusal)
    → length list ≤ 4096 → all ≡ decided list (row ∷ rest) → IsRefusalOf (assertion_of row) why → IsRefusalOf all why
refused_next all list row rest refusal.Want few so_far fails = tt
refused_next all list row rest (refusal.Line number column expected) few so_far fails =
    next_refused all list row rest (refusal.Line number column expected) few so_far fails
refused_next all list row rest (refusal.Limit count) few so_far fails = next_refused all list row rest (refusal.Limit count) few so_far fails
