-- The symbol table of a file that passes the checks.
use Rattle.std.proofs.Common.{◌≡◌, ℕ, ◌+◌, ◌%◌, ◌<◌, ◌≤◌, Bool, true, false, ◌&&◌, ◌||◌, not, cond, List, length}
use Rattle.std.proofs.Common.{Option, Some, None, refl, sym, ◌∙◌, ap, eq-eqb, arith, ⊎_elim}
use Rattle.std.specs.Prelude.{◌==◌, nat_lt, is_some, IfSome}
use Rattle.std.specs.List.{list_any}
use Rattle.std.proofs.lemmas.Bool.{false≢true, cases_lt}
use Rattle.std.proofs.lemmas.List.{drop_all}
use Rattle.std.proofs.lemmas.Bool.Decides.{nat_tests}
use Rattle.bt_image.specs.File.{section_count}
use Rattle.bt_image.specs.Refusal.{section_fault, fault_of, serves_symbols, is_outside, is_table, is_unnamed, sections_refusal, symbols_refusal, table_refusal}
use Rattle.bt_image.specs.Least.{first_passing, where_true}
use Rattle.bt_image.specs.Section.{section_at, is_loaded, is_compressed, symbol_table}
use Rattle.bt_image.specs.Symbol.{HasSymbols, is_ended, names_code, symbol_at, symbol_count, symbol_strings, symbols_start}
use Rattle.bt_image.proofs.LeastLemmas.{none_below}
use Rattle.bt_image.proofs.LoadingLemmas.{and_false, cond_none, or_false}

or_true : (b c : Bool) → c ≡ true → (b || c) ≡ true
or_true true c h = refl
or_true false c h = h

or_first : (b c : Bool) → b ≡ true → (b || c) ≡ true
or_first true c h = refl
or_first false c h = absurd (false≢true h)

-- a section that serves the symbols of a file that passes the check is within the file
inside_serving : (file : List ℕ) (table : Option ℕ) (n : ℕ) → table ≡ symbol_table file → sections_refusal file ≡ None → n < section_count file
    → serves_symbols file table n ≡ true → (section_at file n).offset + (section_at file n).size ≤ length file
unfolding sections_refusal section_fault
inside_serving file table n is sound lt serves =
    let fault : section_fault file (symbol_table file) n ≡ None = none_below (section_fault file (symbol_table file)) (section_count file) sound n lt in
    let s : serves_symbols file (symbol_table file) n ≡ true = ap (λ t. serves_symbols file t n) (sym is) ∙ serves in
    let l = or_true (is_loaded (section_at file n)) _ s in
    let e : fault_of file n (section_at file n) ≡ None = looked _ _ l fault in
    let a = cond_none (is_compressed (section_at file n)) _ _ e in
    let b = cond_none (is_outside file (section_at file n)) _ _ a.1 in
    let o = or_false (nat_lt (length file) ((section_at file n).offset + (section_at file n).size)) _ b.0 in
    let h = o.0 in grind (arith, nat_tests)
  where
    looked : {X : Type 0} (b : Bool) (o : Option X) → b ≡ true → cond b o None ≡ None → o ≡ None
    looked true o e h = h
    looked false o e h = absurd (false≢true e)

-- the symbol table is within the file
pub has_symbols : (file : List ℕ) (n : ℕ) → Some n ≡ symbol_table file → sections_refusal file ≡ None → n < section_count file
    → HasSymbols file (section_at file n)
unfolding symbol_count symbols_start
has_symbols file n is sound lt = record {
  start = rw (← is) refl;
  count = rw (← is) refl;
  inside = inside_serving file (Some n) n is sound lt (or_first _ _ (eq-eqb n n refl));
}

-- the section that the symbol table links to is within the file
pub inside_linked : (file : List ℕ) (n : ℕ) → Some n ≡ symbol_table file → sections_refusal file ≡ None → (section_at file n).link < section_count file
    → (section_at file (section_at file n).link).offset + (section_at file (section_at file n).link).size ≤ length file
inside_linked file n is sound lt =
    inside_serving file (Some n) (section_at file n).link is sound lt (or_true _ _ (eq-eqb (section_at file n).link _ refl))

-- what a symbol table that passes the check has
sound_from_none : {X : Type 0} (b : Bool) (x : X) → cond b None (Some x) ≡ None → b ≡ true
sound_from_none true x h = refl
sound_from_none false x h = absurd cc

-- both tests hold where both together do
pub and_both : (b c : Bool) → (b && c) ≡ true → (b ≡ true) × (c ≡ true)
and_both true c h = (refl, h)
and_both false c h = absurd (false≢true h)

none_from_not : {X : Type 0} (o : Option X) → not (is_some o) ≡ true → o ≡ None
none_from_not None h = refl
none_from_not (Some x) h = absurd (false≢true h)

where_none : (b : Bool) (k : ℕ) → where_true b k ≡ None → b ≡ false
where_none true k h = absurd cc
where_none false k h = refl

checked_table : (file : List ℕ) (n : ℕ) → Some n ≡ symbol_table file → symbols_refusal file ≡ None
    → (is_table file (section_at file n) ≡ true) × (first_passing (is_unnamed file) (symbol_count file) ≡ None)
unfolding symbols_refusal
checked_table file n is sound =
    let h : table_refusal file (Some n) ≡ None = ap (table_refusal file) is ∙ sound in
    let p = and_both _ _ (sound_from_none _ _ h) in
    (p.0, none_from_not _ p.1)

pub linked_from_check : (file : List ℕ) (n : ℕ) → Some n ≡ symbol_table file → symbols_refusal file ≡ None → (section_at file n).link < section_count file
linked_from_check file n is sound =
    let p = checked_table file n is sound in
    let a = and_both ((section_at file n).entry_size == 16) _ p.0 in
    let b = and_both ((section_at file n).size % 16 == 0) _ a.1 in
    let c = and_both (nat_lt (section_at file n).link (section_count file)) _ b.1 in
    let d = c.0 in grind (arith, nat_tests)

within_from_ended : (strings : List ℕ) (at : ℕ) → is_ended strings at ≡ true → at ≤ length strings
within_from_ended strings at h =
    ⊎_elim
    (λ lt. absurd (false≢true (sym (ap (list_any (λ b. b == 0)) (drop_all at strings (omega arith))) ∙ h)))
    (λ ge. ge)
    (cases_lt (length strings) at)

named_in : (file : List ℕ) (n k : ℕ) → Some n ≡ symbol_table file → symbols_refusal file ≡ None → k < symbol_count file
    → names_code file (symbol_at file k) ≡ true
    → (symbol_at file k).name ≤ length (symbol_strings file)
unfolding is_unnamed
named_in file n k is sound lt names =
    let p = checked_table file n is sound in
    let h = none_below (λ j. where_true (is_unnamed file j) j) (symbol_count file) p.1 k lt in
    let u : is_unnamed file k ≡ false = where_none (is_unnamed file k) k h in
    let e = and_false (names_code file (symbol_at file k)) _ u names in
    within_from_ended (symbol_strings file) (symbol_at file k).name (true_from_not _ e)
  where
    true_from_not : (b : Bool) → not b ≡ false → b ≡ true
    true_from_not true h = refl
    true_from_not false h = absurd (false≢true (sym h))

no_symbols : (file : List ℕ) → None ≡ symbol_table file → symbol_count file ≡ 0
unfolding symbol_count
no_symbols file is = rw (← is) refl

-- the name of a symbol that names code is within the strings
pub named_within : (file : List ℕ) (k : ℕ) → symbols_refusal file ≡ None → k < symbol_count file → names_code file (symbol_at file k) ≡ true
    → (symbol_at file k).name ≤ length (symbol_strings file)
named_within file k sound lt names = by (symbol_table file) refl
  where
    by : (o : Option ℕ) → o ≡ symbol_table file → (symbol_at file k).name ≤ length (symbol_strings file)
    by None e = absurd (let z = no_symbols file e in omega arith)
    by (Some n) e = named_in file n k e sound lt names

-- the symbol table links to a section
pub linked_of : (file : List ℕ) (number : Option ℕ) → number ≡ symbol_table file → symbols_refusal file ≡ None
    → IfSome number (λ n. (section_at file n).link < section_count file)
linked_of file None is sound = tt
linked_of file (Some n) is sound = linked_from_check file n is sound
