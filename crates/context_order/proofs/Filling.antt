-- A table that is filled.
use Rattle.std.proofs.Common.{◌≡◌, ℕ, zero, suc, false, ◌+◌, ◌<◌, ◌≤◌, List, [], ◌∷◌, length, get_or, map, set, replicate, Option, Some, None, inl, inr, refl, sym, ap, subst, ◌∙◌, arith}
use Rattle.std.specs.Prelude.{is_some, slice_get}
use Rattle.std.proofs.lemmas.Bool.{cases_lt}
use Rattle.std.proofs.lemmas.Bool.Decides.{eqb_tells}
use Rattle.std.proofs.lemmas.List.{get_or-set_other, get_or-set_same, length-map, length-set}
use Rattle.std.proofs.lemmas.Option.{slice_get-get_or, slice_get_past, slice_get_read, slice_get_within}
use Rattle.context_answers.proofs.Lists.{get_there, mapped_at, none_some, some_same}
use Rattle.context_answers.specs.declared.answer.Answer.{Answer}
use Rattle.context_list.specs.Numbered.{One}
use Rattle.context_order.specs.Answered.{AreAnswers, IsAnsweredBy, IsToldBy, Standing, stands_in}
use Rattle.context_order.specs.Filled.{AreFilled, Table, filled, stands_at}
use Rattle.context_outcomes.specs.Setting.{Setting}
use Rattle.wcet_report.specs.declared.context.Context.{Context}

-- an entry without an answer
abbrev nothing : Option Answer
nothing = None

-- what is answered by some answers is by more
told_more : (list : List One) (few more : Standing) → ((n : ℕ) (answer : Answer) → few n answer → more n answer)
    → (t : ℕ) (context : Context) (bound : Option ℕ) → IsToldBy list few t context bound → IsToldBy list more t context bound
told_more list few more up t context bound told = record {
  number = told.number;
  at = told.at;
  answer = told.answer;
  there = up told.number told.answer told.there;
  is = told.is;
}

-- so is the context
pub answered_more : (S : Setting) (list : List One) (few more : Standing) → ((n : ℕ) (answer : Answer) → few n answer → more n answer)
    → (one : One) (answer : Answer) → IsAnsweredBy S list few one answer → IsAnsweredBy S list more one answer
answered_more S list few more up one answer by = record {
  within = by.within;
  callees = by.callees;
  next = by.next;
  leads = by.leads;
  bounds = by.bounds;
  told = λ p t enters. told_more list few more up t (by.next p) (by.callees p) (by.told p t enters);
  is = by.is;
}

-- an entry of an empty table has no answer
none_at : (n k : ℕ) (answer : Answer) → slice_get (replicate n nothing) k ≡ Some (Some answer) → ⊥
none_at zero k answer at = absurd (none_some at)
none_at (suc n) zero answer at = absurd (none_some (some_same at))
none_at (suc n) (suc k) answer at = none_at n k answer at

-- of an empty table all is so
pub none_filled : (S : Setting) (list : List One) (n : ℕ) (table : Table) → table ≡ replicate n None → length table ≡ length list
    → AreFilled S list table
none_filled S list n table is count = record {
  count = count;
  each = λ k one answer at there. absurd (none_at n k answer (sym (ap (λ (t : Table). slice_get t k) is) ∙ there));
}

-- a place that is written, and another
set_same : (table : Table) (n : ℕ) (v : Option Answer) → n < length table → slice_get (set table n v) n ≡ Some v
set_same table n v low =
    let long : length (set table n v) ≡ length table = length-set table n v in
    slice_get-get_or (set table n v) n None (omega (arith, low, long)) ∙ ap (λ (x : Option Answer). Some x) (get_or-set_same table n v None low)

pub set_other : (table : Table) (n k : ℕ) (v : Option Answer) → (k ≡ n → ⊥) → slice_get (set table n v) k ≡ slice_get table k
set_other table n k v other =
    let long : length (set table n v) ≡ length table = length-set table n v in
    elim (cases_lt k (length table)) [
      | inl low ↦
          slice_get-get_or (set table n v) k None (omega (arith, low, long))
          ∙ (ap (λ (x : Option Answer). Some x) (get_or-set_other table n k v None other) ∙ sym (slice_get-get_or table k None low))
      | inr past ↦ slice_get_past (set table n v) k (omega (arith, past, long)) ∙ sym (slice_get_past table k past)
    ]

-- with one answer more all is so
pub more_filled : (S : Setting) (list : List One) (table : Table) → AreFilled S list table → (n : ℕ) (answer : Answer) → slice_get table n ≡ Some None
    → ((one : One) → slice_get list n ≡ Some one → IsAnsweredBy S list (stands_at table) one answer) → AreFilled S list (set table n (Some answer))
more_filled S list table right n answer none shown = record {
  count = length-set table n (Some answer) ∙ right.count;
  each = λ k one other at there.
      answered_more S list (stands_at table) (stands_at (set table n (Some answer))) kept one other
      (elim (eqb_tells k n) [
        | inl same ↦
            let e : Some (Some other) ≡ Some (Some answer) =
            sym there ∙ (ap (slice_get (set table n (Some answer))) same.1 ∙ set_same table n (Some answer) low) in
            subst (λ (a : Answer). IsAnsweredBy S list (stands_at table) one a) (sym (some_same (some_same e)))
            (shown one (sym (ap (slice_get list) same.1) ∙ at))
        | inr apart ↦ right.each k one other at (sym (set_other table n k (Some answer) apart.1) ∙ there)
      ]);
}
  where
    low : n < length table
    low = slice_get_within table n None none

    kept : (k : ℕ) (a : Answer) → stands_at table k a → stands_at (set table n (Some answer)) k a
    kept k a there = set_other table n k (Some answer) (λ same. none_some (some_same (sym none ∙ (sym (ap (slice_get table) same) ∙ there)))) ∙ there

-- there are no more answers than entries
pub filled_within : (table : Table) → filled table ≤ length table
filled_within [] = omega arith
filled_within (None ∷ table) = let e : filled table ≤ length table = filled_within table in omega (arith, e)
filled_within (Some n ∷ table) = let e : filled table ≤ length table = filled_within table in omega (arith, e)

-- one that is written is one more
pub filled_set : (table : Table) (k : ℕ) (answer : Answer) → slice_get table k ≡ Some None → filled (set table k (Some answer)) ≡ 1 + filled table
filled_set [] k answer is = absurd (none_some is)
filled_set (None ∷ table) zero answer is = refl
filled_set (Some a ∷ table) zero answer is = absurd (none_some (sym (some_same is)))
filled_set (None ∷ table) (suc k) answer is = filled_set table k answer is
filled_set (Some a ∷ table) (suc k) answer is = ap (λ x. 1 + x) (filled_set table k answer is)

-- what isn't there is nothing
not_some : (o : Option Answer) → is_some o ≡ false → o ≡ None
not_some None e = refl
not_some (Some n) e = cc

-- an entry without an answer, as code finds it
pub none_there : (table : Table) (k : ℕ) (x : Option Answer) → k < length table → x ≡ get_or table k x → false ≡ is_some x
    → slice_get table k ≡ Some None
none_there table k x low at none = slice_get-get_or table k x low ∙ ap (λ (o : Option Answer). Some o) (sym at ∙ not_some x (sym none))

-- an entry that is still in a table was there from the beginning
pub entry_there : (start left : Table) (place : ℕ) (x entry : Option Answer) → place < length left
    → ((k : ℕ) → place ≤ k → slice_get left k ≡ slice_get start k) → x ≡ get_or left place x → entry ≡ x
    → slice_get start place ≡ Some entry
entry_there start left place x entry low rest at is =
    sym (rest place (omega arith)) ∙ (slice_get_read left (length left) place x refl low at ∙ ap (λ (o : Option Answer). Some o) (sym is))

-- the answers of a full table
pub full_answers : (S : Setting) (list : List One) (table : Table) (answers : List Answer) → map Some answers ≡ table → AreFilled S list table
    → AreAnswers S list answers
full_answers S list table answers is right = record {
  count = sym (length-map answers Some) ∙ (ap length is ∙ right.count);
  each = λ n one answer at there.
      answered_more S list (stands_at table) (stands_in answers) back one answer (right.each n one answer at (forth n answer there));
}
  where
    forth : (n : ℕ) (a : Answer) → stands_in answers n a → stands_at table n a
    forth n a there = sym (ap (λ (t : Table). slice_get t n) is) ∙ mapped_at Some answers n a there

    back : (n : ℕ) (a : Answer) → stands_at table n a → stands_in answers n a
    back n a there =
        let low : n < length table = slice_get_within table n (Some a) there in
        let long : length (map Some answers) ≡ length answers = length-map answers Some in
        let same : length (map Some answers) ≡ length table = ap length is in
        let found = get_there answers n (omega (arith, low, long, same)) in
        found.1 ∙ ap Some (some_same (some_same (sym (forth n found.0 found.1) ∙ there)))
