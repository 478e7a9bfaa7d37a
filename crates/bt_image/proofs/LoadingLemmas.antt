-- The making of a table of the loaded sections.
use Rattle.std.proofs.Common.{◌≡◌, ℕ, ◌+◌, ◌-◌, ◌<◌, ◌≤◌, ◌%◌, ◌⊎◌, inl, inr, Bool, true, false, not, ◌&&◌, ◌||◌, cond}
use Rattle.std.proofs.Common.{List, [], length, get_or, All, Contains, Option, Some, None, IsSome, nat_lt, refl, sym}
use Rattle.std.proofs.Common.{◌∙◌, ap, subst, arith, ⊎_elim}
use Rattle.std.specs.Prelude.{◌==◌}
use Rattle.std.specs.List.{insert}
use Rattle.std.proofs.lemmas.Bool.{cases_lt, cases_eq, false≢true}
use Rattle.std.proofs.lemmas.Bool.Decides.{nat_tests}
use Rattle.std.proofs.lemmas.List.{get_or_default}
use Rattle.std.proofs.lemmas.List.Edits.{length-insert, get_or-insert_below, get_or-insert_at, get_or-insert_above}
use Rattle.bt_image.specs.File.{section_count}
use Rattle.bt_image.specs.Least.{first_of}
use Rattle.bt_image.specs.Loaded.{AreApart, AreLoaded, IsWhole, SharesWith, IsPlaceFor, EndBelow, BeginAbove, LastEndsAbove, NextBeginsBelow}
use Rattle.bt_image.specs.Refusal.{section_fault, fault_of, is_outside, sections_refusal, overlap, overlap_refusal}
use Rattle.bt_image.specs.Section.{section_at, is_loaded, is_code_section, is_compressed, share, symbol_table}
use Rattle.bt_image.specs.declared.refusal.ImageRefusal.TheVariants.{SectionOverlap}
use Rattle.bt_image.specs.declared.section.Section.{Section}
use Rattle.bt_image.proofs.LeastLemmas.{none_below, first_of-none}

-- a header of zeros, which a read past the end of a table would give
abbrev pub no_section : Section
no_section = record { kind = 0; flags = 0; address = 0; offset = 0; size = 0; link = 0; entry_size = 0 }

-- a section ends at or below where another begins
abbrev Ends : Section → Section → Type 0
Ends s t = s.address + s.size ≤ t.address

ends_same : (s t s' t' : Section) → s ≡ s' → t ≡ t' → Ends s' t' → Ends s t
ends_same s t s' t' e f h =
    let a = ap (λ (x : Section). x.address) e in
    let b = ap (λ (x : Section). x.size) e in
    let c = ap (λ (x : Section). x.address) f in
    omega arith

-- where an element of a list with one put in comes from
abbrev IsBefore : List Section → ℕ → Section → ℕ → Section → Type 0
IsBefore items place s k d = (k < place) × (get_or (insert items place s) k d ≡ get_or items k d)

abbrev IsPut : List Section → ℕ → Section → ℕ → Section → Type 0
IsPut items place s k d = (k ≡ place) × (get_or (insert items place s) k d ≡ s)

abbrev IsBehind : List Section → ℕ → Section → ℕ → Section → Type 0
IsBehind items place s k d = (m : ℕ) × (k ≡ m + 1) × (place ≤ m) × (m < length items) × (get_or (insert items place s) k d ≡ get_or items m d)

comes_from : (items : List Section) (place : ℕ) (s : Section) (k : ℕ) (d : Section) → place ≤ length items → k < length (insert items place s)
    → IsBefore items place s k d ⊎ (IsPut items place s k d ⊎ IsBehind items place s k d)
comes_from items place s k d le lt =
    let long = length-insert items place s le in
    ⊎_elim
    (λ below. inl (below, get_or-insert_below items place s d k below le))
    (λ ge. ⊎_elim
    (λ eq. inr (inl (eq, ap (λ (j : ℕ). get_or (insert items place s) j d) eq ∙ get_or-insert_at items place s d le)))
    (λ ne.
    let e : k ≡ (k - 1) + 1 = omega arith in
    inr (inr (
      k - 1,
      e,
      omega arith,
      omega arith,
      ap (λ (j : ℕ). get_or (insert items place s) j d) e
          ∙ get_or-insert_above items place s d (k - 1) (omega arith) le,
    )))
    (cases_eq k place))
    (cases_lt k place)

-- what holds of each element of a list, and of one more, holds of each once that is put in
pub all-insert : (P : Section → Type 0) (items : List Section) (place : ℕ) (s : Section) → place ≤ length items → All P items → P s
    → All P (insert items place s)
all-insert P items place s le all here = λ k d lt.
    ⊎_elim
    (λ before. subst P (sym before.1) (all k d (omega arith)))
    (λ others. ⊎_elim (λ put. subst P (sym put.1) here) (λ behind. subst P (sym behind.4) (all behind.0 d behind.3)) others)
    (comes_from items place s k d le lt)

-- what is in a list is in it with one put in
pub stays_in : (items : List Section) (place : ℕ) (s t : Section) → place ≤ length items → Contains items t → Contains (insert items place s) t
stays_in items place s t le c =
    let long = length-insert items place s le in
    ⊎_elim
    (λ below. (c.0, omega (arith, c.1), get_or-insert_below items place s t c.0 below le ∙ c.2))
    (λ ge. (c.0 + 1, omega (arith, c.1), get_or-insert_above items place s t c.0 ge le ∙ c.2))
    (cases_lt c.0 place)

pub put_in : (items : List Section) (place : ℕ) (s : Section) → place ≤ length items → Contains (insert items place s) s
put_in items place s le =
    let long = length-insert items place s le in
    (place, omega arith, get_or-insert_at items place s s le)

-- sections that lie apart still do with one more at its place
apart_behind : (items : List Section) (place : ℕ) (s : Section) (i j : ℕ) (d : Section) → AreApart items → IsPlaceFor items s place → i < j
    → IsBehind items place s j d → IsBefore items place s i d ⊎ (IsPut items place s i d ⊎ IsBehind items place s i d)
    → Ends (get_or (insert items place s) i d) (get_or (insert items place s) j d)
apart_behind items place s i j d apart fits lt behind from =
    let m = behind.0 in
    let above = fits.behind m d behind.2 behind.3 in
    ⊎_elim
    (λ before. let below = fits.before i d before.0 in ends_same _ _ _ _ before.1 behind.4 (omega arith))
    (λ others. ⊎_elim
    (λ put. ends_same _ _ _ _ put.1 behind.4 above)
    (λ other. ends_same _ _ _ _ other.4 behind.4 (apart other.0 m d (let e = other.1 in let f = behind.1 in omega arith) behind.3))
    others)
    from

pub apart-insert : (items : List Section) (place : ℕ) (s : Section) → AreApart items → IsPlaceFor items s place → AreApart (insert items place s)
apart-insert items place s apart fits = λ i j d lt jlt.
    let le = fits.within in
    let long = length-insert items place s le in
    let from = comes_from items place s i d le (omega arith) in
    ⊎_elim
    (λ jbefore.
    let ie = get_or-insert_below items place s d i (let h = jbefore.0 in omega arith) le in
    ends_same _ _ _ _ ie jbefore.1 (apart i j d lt (let h = jbefore.0 in omega arith)))
    (λ others. ⊎_elim
    (λ jput.
    let below : i < place = (let h = jput.0 in omega arith) in
    let ie = get_or-insert_below items place s d i below le in
    ends_same _ _ _ _ ie jput.1 (fits.before i d below))
    (λ jbehind. apart_behind items place s i j d apart fits lt jbehind from)
    others)
    (comes_from items place s j d le jlt)

-- the last section before a place is that which ends highest
pub below_from_last : (items : List Section) (place a : ℕ) (e : Section) → AreApart items → place ≤ length items → 0 < place
    → (get_or items (place - 1) e).address + (get_or items (place - 1) e).size ≤ a → EndBelow items place a
below_from_last items place a e apart le some last = λ k d lt.
    let same = get_or_default items (place - 1) d e (omega arith) in
    let b = ap (λ (x : Section). x.address) same in
    let c = ap (λ (x : Section). x.size) same in
    ⊎_elim
    (λ below. let h = apart k (place - 1) d below (omega arith) in omega arith)
    (λ ge.
    let eq : k ≡ place - 1 = omega arith in
    subst (λ (i : ℕ). (get_or items i d).address + (get_or items i d).size ≤ a) (sym eq) (omega arith))
    (cases_lt k (place - 1))

-- the section at a place is that which begins lowest
pub above_from_next : (items : List Section) (place a : ℕ) (e : Section) → AreApart items → place < length items
    → a ≤ (get_or items place e).address → BeginAbove items place a
above_from_next items place a e apart plt next = λ k d le lt.
    let same = get_or_default items place d e plt in
    let b = ap (λ (x : Section). x.address) same in
    ⊎_elim
    (λ above. let h = apart place k d above lt in omega arith)
    (λ le2.
    let eq : place ≡ k = omega arith in
    subst (λ (i : ℕ). a ≤ (get_or items i d).address) eq (omega arith))
    (cases_lt place k)

-- a section that doesn't end below a place, or doesn't begin above it, shares an address with one of the table
pub shares_last : (items : List Section) (place : ℕ) (s : Section) → place ≤ length items → 0 < s.size
    → ((k : ℕ) (d : Section) → k < place → (get_or items k d).address ≤ s.address) → LastEndsAbove items place s.address → SharesWith items s
shares_last items place s le some below last =
    let t = get_or items (place - 1) s in
    let b = below (place - 1) s (let h = last.0 in omega arith) in
    let a = last.1 s in
    (t, (place - 1, (let h = last.0 in omega arith), get_or_default items (place - 1) t s (let h = last.0 in omega arith)), grind (arith, nat_tests))

pub shares_next : (items : List Section) (place : ℕ) (s : Section) → place ≤ length items
    → ((k : ℕ) (d : Section) → place ≤ k → k < length items → s.address < (get_or items k d).address)
    → NextBeginsBelow items place (s.address + s.size) → SharesWith items s
shares_next items place s le above next =
    let t = get_or items place s in
    let b = above place s (omega arith) next.0 in
    let a = next.1 s in
    (t, (place, next.0, get_or_default items place t s next.0), grind (arith, nat_tests))

-- tests that fail
pub cond_none : {X : Type 0} (b : Bool) (x : X) (o : Option X) → cond b (Some x) o ≡ None → (b ≡ false) × (o ≡ None)
cond_none true x o h = absurd cc
cond_none false x o h = (refl, h)

-- both tests fail where neither holds
pub or_false : (b c : Bool) → (b || c) ≡ false → (b ≡ false) × (c ≡ false)
or_false true c h = absurd (false≢true (sym h))
or_false false c h = (refl, h)

-- the second test fails where both together do and the first holds
pub and_false : (b c : Bool) → (b && c) ≡ false → b ≡ true → c ≡ false
and_false true c h e = h
and_false false c h e = absurd (false≢true e)

pub looked_at : {X : Type 0} (b c : Bool) (o : Option X) → b ≡ true → cond (b || c) o None ≡ None → o ≡ None
looked_at true c o e h = h
looked_at false c o e h = absurd (false≢true e)

-- a loaded section that passes the check is whole
pub whole_from_check : (file : List ℕ) (n : ℕ) → sections_refusal file ≡ None → n < section_count file → is_loaded (section_at file n) ≡ true
    → IsWhole file (n + 1) (section_at file n)
unfolding sections_refusal section_fault
whole_from_check file n sound lt loaded =
    let s = section_at file n in
    let fault : section_fault file (symbol_table file) n ≡ None = none_below (section_fault file (symbol_table file)) (section_count file) sound n lt in
    let e : fault_of file n (section_at file n) ≡ None = looked_at (is_loaded (section_at file n)) _ _ loaded fault in
    let a = cond_none (is_compressed (section_at file n)) _ _ e in
    let b = cond_none (is_outside file (section_at file n)) _ _ a.1 in
    let c = cond_none (is_code_section (section_at file n) && not ((section_at file n).address % 4 == 0)) _ _ b.1 in
    let o = or_false (nat_lt (length file) ((section_at file n).offset + (section_at file n).size)) _ b.0 in
    let m = and_false (is_loaded (section_at file n)) _ o.1 loaded in
    record {
      number = n;
      below = omega arith;
      is = refl;
      loaded = loaded;
      inside = (let h = o.0 in grind (arith, nat_tests));
      fits = (let h = m in grind (arith, nat_tests));
      aligned = λ code. let h = and_false (is_code_section (section_at file n)) _ c.0 code in grind (arith, nat_tests);
    }

-- the table with one more section of the file looked at
more_whole : (file : List ℕ) (n : ℕ) (s : Section) → IsWhole file n s → IsWhole file (n + 1) s
more_whole file n s w = record {
  number = w.number;
  below = omega (arith, w.below);
  is = w.is;
  loaded = w.loaded;
  inside = w.inside;
  fits = w.fits;
  aligned = w.aligned;
}

pub loaded_added : (file : List ℕ) (n place : ℕ) (items : List Section) → AreLoaded file n items → IsWhole file (n + 1) (section_at file n)
    → IsPlaceFor items (section_at file n) place → AreLoaded file (n + 1) (insert items place (section_at file n))
loaded_added file n place items table whole fits = record {
  apart = apart-insert items place (section_at file n) table.apart fits;
  whole = all-insert (IsWhole file (n + 1)) items place (section_at file n) fits.within (λ k d lt. more_whole file n _ (table.whole k d lt)) whole;
  all = λ k lt loaded. ⊎_elim
      (λ below. stays_in items place (section_at file n) (section_at file k) fits.within (table.all k below loaded))
      (λ ge. let e : n ≡ k = omega arith in subst (λ (j : ℕ). Contains (insert items place (section_at file n)) (section_at file j))
      e (put_in items place (section_at file n) fits.within))
      (cases_lt k n);
}

pub loaded_skipped : (file : List ℕ) (n : ℕ) (items : List Section) → AreLoaded file n items → is_loaded (section_at file n) ≡ false
    → AreLoaded file (n + 1) items
loaded_skipped file n items table out = record {
  apart = table.apart;
  whole = λ k d lt. more_whole file n _ (table.whole k d lt);
  all = λ k lt loaded. ⊎_elim
      (λ below. table.all k below loaded)
      (λ ge. let e : k ≡ n = omega arith in absurd (false≢true (sym (ap (λ (j : ℕ). is_loaded (section_at file j)) e ∙ out) ∙ loaded)))
      (cases_lt k n);
}

pub loaded_none : (file : List ℕ) → AreLoaded file 0 []
loaded_none file = record { apart = λ i j d lt jlt. absurd (omega arith); whole = λ k d lt. absurd (omega arith); all = λ k lt loaded. absurd (omega arith) }

-- no two of the first n sections overlap
overlap_from_share : (file : List ℕ) (a b : ℕ) → is_loaded (section_at file a) ≡ true
    → share (section_at file a) (section_at file b) ≡ false → overlap file a b ≡ None
unfolding overlap
overlap_from_share file a b loaded apart = by (nat_lt a b) (is_loaded (section_at file b)) refl refl
  where
    by : (p q : Bool) → nat_lt a b ≡ p → is_loaded (section_at file b) ≡ q → overlap file a b ≡ None
    by false q e f = rw e refl
    by true false e f = rw (e, loaded, f) refl
    by true true e f = rw (e, loaded, f, apart) refl

overlap_from_first : (file : List ℕ) (a b : ℕ) → is_loaded (section_at file a) ≡ false → overlap file a b ≡ None
unfolding overlap
overlap_from_first file a b out = by (nat_lt a b) refl
  where
    by : (p : Bool) → nat_lt a b ≡ p → overlap file a b ≡ None
    by false e = rw e refl
    by true e = rw (e, out) refl

overlap_from_second : (file : List ℕ) (a b : ℕ) → is_loaded (section_at file b) ≡ false → overlap file a b ≡ None
unfolding overlap
overlap_from_second file a b out = by (nat_lt a b) (is_loaded (section_at file a)) refl refl
  where
    by : (p q : Bool) → nat_lt a b ≡ p → is_loaded (section_at file a) ≡ q → overlap file a b ≡ None
    by false q e f = rw e refl
    by true false e f = rw (e, f) refl
    by true true e f = rw (e, f, out) refl

overlap_unordered : (file : List ℕ) (a b : ℕ) → b ≤ a → overlap file a b ≡ None
unfolding overlap
overlap_unordered file a b le = let e : nat_lt a b ≡ false = grind (arith, nat_tests) in rw e refl

apart_from_place : (items : List Section) (place : ℕ) (s t : Section) → IsPlaceFor items s place → Contains items t → share t s ≡ false
apart_from_place items place s t fits c =
    let e = ap (λ (x : Section). x.address) c.2 in
    let f = ap (λ (x : Section). x.size) c.2 in
    ⊎_elim
    (λ below. let h = fits.before c.0 t below in grind (arith, nat_tests))
    (λ ge. let h = fits.behind c.0 t ge c.1 in grind (arith, nat_tests))
    (cases_lt c.0 place)

-- no two of the first sections that are loaded share an address
abbrev pub AreClear : List ℕ → ℕ → Type 0
AreClear file n = (a b : ℕ) → b < n → overlap file a b ≡ None

pub clear_none : (file : List ℕ) → AreClear file 0
clear_none file = λ a b lt. absurd (omega arith)

pub clear_skipped : (file : List ℕ) (n : ℕ) → AreClear file n → is_loaded (section_at file n) ≡ false → AreClear file (n + 1)
clear_skipped file n clear out = λ a b lt. ⊎_elim
    (λ below. clear a b below)
    (λ ge. let e : b ≡ n = omega arith in ap (overlap file a) e ∙ overlap_from_second file a n out)
    (cases_lt b n)

pub clear_added : (file : List ℕ) (n place : ℕ) (items : List Section) → AreLoaded file n items → IsPlaceFor items (section_at file n) place
    → AreClear file n → AreClear file (n + 1)
clear_added file n place items table fits clear = λ a b lt. ⊎_elim
    (λ below. clear a b below)
    (λ ge.
    let e : b ≡ n = omega arith in
    ap (overlap file a) e
    ∙ ⊎_elim (λ less. by a less (is_loaded (section_at file a)) refl) (λ more. overlap_unordered file a n more) (cases_lt a n))
    (cases_lt b n)
  where
    by : (a : ℕ) → a < n → (q : Bool) → is_loaded (section_at file a) ≡ q → overlap file a n ≡ None
    by a less true e = overlap_from_share file a n e (apart_from_place items place (section_at file n) (section_at file a) fits (table.all a less e))
    by a less false e = overlap_from_first file a n e

-- sections that share no address are no overlap
pub overlap-none : (file : List ℕ) → AreClear file (section_count file) → overlap_refusal file ≡ None
unfolding overlap_refusal
overlap-none file clear =
    first_of-none (λ a. first_of (overlap file a) (section_count file)) (section_count file)
    (λ a alt. first_of-none (overlap file a) (section_count file) (λ b blt. clear a b blt))

-- what isn't nothing is something
some_unless : {X : Type 0} (o : Option X) → (o ≡ None → ⊥) → IsSome o
some_unless None h = absurd (h refl)
some_unless (Some x) h = refl

-- a section that shares an address with one before it is an overlap
pub overlap_shared : (file : List ℕ) (a b : ℕ) → a < b → is_loaded (section_at file a) ≡ true → is_loaded (section_at file b) ≡ true
    → share (section_at file a) (section_at file b) ≡ true → overlap file a b ≡ Some (SectionOverlap a b)
unfolding overlap
overlap_shared file a b lt p q r = let e : nat_lt a b ≡ true = grind (arith, nat_tests) in rw (e, p, q, r) refl

pub overlap_found : (file : List ℕ) (n : ℕ) (items : List Section) → n < section_count file → is_loaded (section_at file n) ≡ true
    → AreLoaded file n items → SharesWith items (section_at file n) → IsSome (overlap_refusal file)
unfolding overlap_refusal
overlap_found file n items lt loaded table shares =
    let t = shares.0 in
    let w : IsWhole file n t = subst (IsWhole file n) shares.1.2 (table.whole shares.1.0 t shares.1.1) in
    let mlt = w.below in
    let ml : is_loaded (section_at file w.number) ≡ true = ap is_loaded w.is ∙ w.loaded in
    let sh : share (section_at file w.number) (section_at file n) ≡ true = ap (λ (x : Section). share x (section_at file n)) w.is ∙ shares.2 in
    some_unless (overlap_refusal file) (λ none.
    let h = none_below (λ a. first_of (overlap file a) (section_count file)) (section_count file) none w.number (omega arith) in
    let g = none_below (overlap file w.number) (section_count file) h n lt in
    let o = overlap_shared file w.number n mlt ml loaded sh in
    cc)

-- a step of the loop that makes the table: the section that it read is put in, skipped, or refused
pub step_added : (file : List ℕ) (n place : ℕ) (items held new : List Section) (s : Section) → sections_refusal file ≡ None → n < section_count file
    → is_loaded s ≡ true → s ≡ section_at file n → held ≡ items → IsPlaceFor held s place → new ≡ insert items place s
    → AreLoaded file n items → AreClear file n → AreLoaded file (n + 1) new × AreClear file (n + 1)
step_added file n place items held new s sound lt loaded is same fits put table clear =
    let here : IsPlaceFor items (section_at file n) place =
    subst (λ xs. IsPlaceFor xs (section_at file n) place) same (subst (λ (t : Section). IsPlaceFor held t place) is fits) in
    let ld : is_loaded (section_at file n) ≡ true = ap is_loaded (sym is) ∙ loaded in (
      subst (AreLoaded file (n + 1)) (sym (put ∙ ap (insert items place) is))
          (loaded_added file n place items table (whole_from_check file n sound lt ld) here),
      clear_added file n place items table here clear,
    )

-- a section that isn't loaded is skipped
pub step_skipped : (file : List ℕ) (n : ℕ) (items new : List Section) (s : Section) → is_loaded s ≡ false → s ≡ section_at file n → new ≡ items
    → AreLoaded file n items → AreClear file n → AreLoaded file (n + 1) new × AreClear file (n + 1)
step_skipped file n items new s out is same table clear =
    let o : is_loaded (section_at file n) ≡ false = ap is_loaded (sym is) ∙ out in
    (subst (AreLoaded file (n + 1)) (sym same) (loaded_skipped file n items table o), clear_skipped file n clear o)

-- a section that shares an address with one before is the first overlap
pub step_refused : (file : List ℕ) (n : ℕ) (items held : List Section) (s : Section) → n < section_count file → is_loaded s ≡ true → s ≡ section_at file n
    → held ≡ items → SharesWith held s → AreLoaded file n items → IsSome (overlap_refusal file)
step_refused file n items held s lt loaded is same shares table =
    overlap_found file n items lt (ap is_loaded (sym is) ∙ loaded) table
    (subst (λ xs. SharesWith xs (section_at file n)) same (subst (λ (t : Section). SharesWith held t) is shares))
