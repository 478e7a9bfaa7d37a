-- The code addresses that stand in the words of sections.
use Rattle.std.proofs.Common.{◌≡◌, ℕ, ◌+◌, ◌*◌, ◌/◌, ◌%◌, ◌<◌, ◌≤◌, inl, inr, Bool, true, false, List, [], ◌∷◌, ◌++◌}
use Rattle.std.proofs.Common.{length, get_or, set, take, drop, Contains, Option, Some, None, refl, sym, ◌∙◌, ap, subst}
use Rattle.std.proofs.Common.{eq-eqb, arith, ⊎_elim, replicate, if◌then◌else◌}
use Rattle.std.specs.Prelude.{◌==◌}
use Rattle.std.specs.Option.{option_map}
use Rattle.std.proofs.lemmas.Bool.{cases_lt, cases_eq, false≢true}
use Rattle.std.proofs.lemmas.Bool.Decides.{nat_tests}
use Rattle.std.proofs.lemmas.List.{get_or_default, get_or-set_other, length-set, length-replicate, get_or-replicate}
use Rattle.std.proofs.lemmas.List.Elements.{Contains-push, Contains-push_cases, Contains-append_left, Contains-get_or}
use Rattle.bt_image.specs.Extent.{Rise}
use Rattle.bt_image.specs.File.{section_count, word_field}
use Rattle.bt_image.specs.Image.{held, holder, holding, is_code, place_in, word_of}
use Rattle.bt_image.specs.Label.{AreExactly, IsCodeIn}
use Rattle.bt_image.specs.Loaded.{AreLoaded}
use Rattle.bt_image.specs.Section.{section_at, holds, test_of}
use Rattle.bt_image.specs.Values.{value_at, AreSeen, IsNoted, IsWordOf, AreNoted, AreGathered, AreValues}
use Rattle.bt_image.specs.declared.section.Access.{Access}
use Rattle.bt_image.specs.declared.section.Section.{Section}
use Rattle.bt_image.proofs.LeastLemmas.{first_of-found}
use Rattle.bt_image.proofs.LoadedLemmas.{asks_loaded, held_passing, holding_cases, holds_means}

-- a place that was looked at before
pub noted_before : (file : List ℕ) (at : ℕ) (marks : List Bool) (found : List ℕ) → length marks ≡ length file → AreSeen file marks found
    → at < length marks → get_or marks at false ≡ true → IsNoted file at marks found found
noted_before file at marks found long seen lt is = record {
  long = long;
  seen = seen;
  keeps = λ a c. c;
  adds = λ a c. inl c;
  here = λ code. seen at lt is code;
}

-- one more mark
seen_more : (file : List ℕ) (at : ℕ) (marks : List Bool) (old new : List ℕ) → AreSeen file marks old → ((a : ℕ) → Contains old a → Contains new a)
    → (is_code file (value_at file at) ≡ true → Contains new (value_at file at)) → AreSeen file (set marks at true) new
seen_more file at marks old new seen keeps here = λ k lt is code.
    let long = length-set marks at true in
    ⊎_elim
    (λ eq. subst (λ (i : ℕ). Contains new (value_at file i)) (sym eq) (here (subst (λ (i : ℕ). is_code file (value_at file i) ≡ true) eq code)))
    (λ ne. keeps (value_at file k) (seen k (omega arith) (sym (get_or-set_other marks at k true false ne) ∙ is) code))
    (cases_eq k at)

-- a word that is an address of code is noted
pub noted_code : (file : List ℕ) (at : ℕ) (marks : List Bool) (old new : List ℕ) → length marks ≡ length file → AreSeen file marks old
    → is_code file (value_at file at) ≡ true → new ≡ old ++ value_at file at ∷ [] → IsNoted file at (set marks at true) old new
noted_code file at marks old new long seen code is = subst (IsNoted file at (set marks at true) old) (sym is) (record {
  long = length-set marks at true ∙ long;
  seen = seen_more file at marks old (old ++ value_at file at ∷ []) seen
      (λ a c. Contains-append_left old (value_at file at ∷ []) a c) (λ h. Contains-push old (value_at file at));
  keeps = λ a c. Contains-append_left old (value_at file at ∷ []) a c;
  adds = λ a c. ⊎_elim (λ old. inl old) (λ e. inr (subst (λ (x : ℕ). is_code file x ≡ true) e code, e)) (Contains-push_cases old (value_at file at) a c);
  here = λ h. Contains-push old (value_at file at);
})

pub noted_other : (file : List ℕ) (at : ℕ) (marks : List Bool) (found : List ℕ) → length marks ≡ length file → AreSeen file marks found
    → is_code file (value_at file at) ≡ false → IsNoted file at (set marks at true) found found
noted_other file at marks found long seen out = record {
  long = length-set marks at true ∙ long;
  seen = seen_more file at marks found found seen (λ a c. c) (λ h. absurd (false≢true (sym out ∙ h)));
  keeps = λ a c. c;
  adds = λ a c. inl c;
  here = λ h. absurd (false≢true (sym out ∙ h));
}

-- no word of a section was looked at
pub none_noted : (file : List ℕ) (s : Section) (n : ℕ) (marks : List Bool) (found : List ℕ) → length marks ≡ length file → AreSeen file marks found
    → ((k : ℕ) → s.address ≤ 4 * k → k < n → ⊥) → AreNoted file s n marks found found
none_noted file s n marks found long seen none = record {
  long = long;
  seen = seen;
  keeps = λ a c. c;
  adds = λ a c. inl c;
  all = λ k low lt. absurd (none k low lt);
}

-- one more word of a section was looked at
pub more_noted : (file : List ℕ) (s : Section) (n : ℕ) (before marks : List Bool) (first old new : List ℕ) → s.address ≤ 4 * n → 4 * n + 4 ≤ s.address + s.size
    → AreNoted file s n before first old → IsNoted file (place_in s (4 * n)) marks old new → AreNoted file s (n + 1) marks first new
more_noted file s n before marks first old new low high are one = record {
  long = one.long;
  seen = one.seen;
  keeps = λ a c. one.keeps a (are.keeps a c);
  adds = λ a c. ⊎_elim
      (λ there. are.adds a there)
      (λ here. inr (here.0, record { place = 4 * n; aligned = omega arith; begins = low; ends = high; value = here.1 }))
      (one.adds a c);
  all = λ k klow lt code. ⊎_elim
      (λ below. one.keeps _ (are.all k klow below code))
      (λ ge. let e : n ≡ k = omega arith in
      subst (λ (i : ℕ). Contains new (value_at file (place_in s (4 * i)))) e
      (one.here (subst (λ (i : ℕ). is_code file (value_at file (place_in s (4 * i))) ≡ true) (sym e) code)))
      (cases_lt k n);
}

-- the word of a section of the table is one of the image
word_stands : (access : Access) (file : List ℕ) (loaded : List Section) (s : Section) (a : ℕ) → AreLoaded file (section_count file) loaded → Contains loaded s
    → test_of access s ≡ true → (w : IsWordOf file s a) → word_of (test_of access) file w.place ≡ Some a
word_stands access file loaded s a table has test w =
    let m : (w.place % 4 == 0) ≡ true = eq-eqb _ 0 w.aligned in
    let b = w.begins in
    let e = w.ends in
    let h : holds s w.place 4 ≡ true = grind (arith, nat_tests) in
    let held_here = held_passing access file w.place 4 loaded s (omega arith) table (has, h) test in
    rw (m, held_here) (ap (λ (x : ℕ). Some x) w.value)

-- a word of the image is one of a section of the table
word_found : (access : Access) (file : List ℕ) (loaded : List Section) (x a : ℕ) → AreLoaded file (section_count file) loaded
    → word_of (test_of access) file x ≡ Some a → (s : Section) × Contains loaded s × (test_of access s ≡ true) × IsWordOf file s a
unfolding held holder
word_found access file loaded x a table h = by (x % 4 == 0) refl h
  where
    Found : Type 0
    Found = (s : Section) × Contains loaded s × (test_of access s ≡ true) × IsWordOf file s a

    in_section : x % 4 ≡ 0 → (s : Section) → Contains loaded s → test_of access s ≡ true → holds s x 4 ≡ true → value_at file (place_in s x) ≡ a → Found
    in_section m s has test hs value = let p = holds_means s x 4 hs in
        (s, has, test, record { place = x; aligned = m; begins = p.0; ends = p.1; value = value })

    at : x % 4 ≡ 0 → (o : Option Section) → holder (test_of access) file x 4 ≡ o
        → option_map (λ bytes. word_field bytes 0) (option_map (λ s. take 4 (drop (place_in s x) file)) o) ≡ Some a → Found
    at m None e h = absurd cc
    at m (Some s) e h =
        let f = first_of-found (λ k. holding (test_of access) x 4 (section_at file k)) (section_count file) s e in
        ⊎_elim
        (λ none. let g = f.2 in absurd cc)
        (λ p.
        let g = f.2 in
        let i = p.2 in
        let same : section_at file f.0 ≡ s = cc in
        in_section m s (subst (Contains loaded) same (table.all f.0 f.1 (asks_loaded access (section_at file f.0) p.0)))
        (subst (λ (t : Section). test_of access t ≡ true) same p.0) (subst (λ (t : Section). holds t x 4 ≡ true) same p.1) cc)
        (holding_cases (test_of access) x 4 (section_at file f.0))

    by : (b : Bool) → (x % 4 == 0) ≡ b → (if b then option_map (λ bytes. word_field bytes 0) (held (test_of access) file x 4) else None) ≡ Some a → Found
    by false e h = absurd cc
    by true e h = at (grind (arith, nat_tests)) (holder (test_of access) file x 4) refl h

-- no section was looked at
pub none_gathered : (test : Section → Bool) (file : List ℕ) (loaded : List Section) (marks : List Bool) (found : List ℕ)
    → marks ≡ replicate (length file) false → found ≡ []
    → AreGathered test file loaded 0 marks found
none_gathered test file loaded marks found clear none = subst (AreGathered test file loaded 0 marks) (sym none) (record {
  long = ap length clear ∙ length-replicate (length file) false;
  seen = λ at lt is. (let long : length marks ≡ length file = ap length clear ∙ length-replicate (length file) false in
      absurd (false≢true (sym (ap (λ ms. get_or ms at false) clear ∙ get_or-replicate (length file) at false false (omega arith)) ∙ is)));
  each = λ a c. absurd (let h = c.1 in omega arith);
  all = λ i s lt. absurd (omega arith);
})

-- one more section was looked at
pub more_gathered : (access : Access) (file : List ℕ) (loaded : List Section) (i : ℕ) (s : Section) (before marks : List Bool) (old new : List ℕ)
    → AreLoaded file (section_count file) loaded → i < length loaded → get_or loaded i s ≡ s → test_of access s ≡ true
    → AreGathered (test_of access) file loaded i before old → AreNoted file s ((s.address + s.size) / 4) marks old new
    → AreGathered (test_of access) file loaded (i + 1) marks new
more_gathered access file loaded i s before marks old new table lt is test are noted = record {
  long = noted.long;
  seen = noted.seen;
  each = λ a c. ⊎_elim
      (λ there. are.each a there)
      (λ here. record { code = here.0; place = here.1.place; word = word_stands access file loaded s a table (i, lt, is) test here.1 })
      (noted.adds a c);
  all = λ j t jlt at passes a code w. ⊎_elim
      (λ below. noted.keeps a (are.all j t below at passes a code w))
      (λ ge. let e : j ≡ i = omega arith in
      let same : t ≡ s = sym at ∙ ap (λ (k : ℕ). get_or loaded k t) e ∙ get_or_default loaded i t s lt ∙ is in
      here a code (subst (λ (u : Section). IsWordOf file u a) same w))
      (cases_lt j i);
}
  where
    here : (a : ℕ) → is_code file a ≡ true → IsWordOf file s a → Contains new a
    here a code w =
        let m = w.aligned in
        let b = w.begins in
        let e = w.ends in
        let q : w.place ≡ 4 * (w.place / 4) = omega arith in
        let v : value_at file (place_in s (4 * (w.place / 4))) ≡ a = ap (λ (x : ℕ). value_at file (place_in s x)) (sym q) ∙ w.value in
        subst (Contains new) v (noted.all (w.place / 4) (omega arith) (omega arith) (subst (λ (x : ℕ). is_code file x ≡ true) (sym v) code))

-- a section that isn't of the kind is passed over
pub skip_gathered : (test : Section → Bool) (file : List ℕ) (loaded : List Section) (i : ℕ) (s : Section) (marks : List Bool)
    (found : List ℕ) → i < length loaded → get_or loaded i s ≡ s
    → test s ≡ false → AreGathered test file loaded i marks found → AreGathered test file loaded (i + 1) marks found
skip_gathered test file loaded i s marks found lt is out are = record {
  long = are.long;
  seen = are.seen;
  each = are.each;
  all = λ j t jlt at passes a code w. ⊎_elim
      (λ below. are.all j t below at passes a code w)
      (λ ge. let e : j ≡ i = omega arith in
      let same : t ≡ s = sym at ∙ ap (λ (k : ℕ). get_or loaded k t) e ∙ get_or_default loaded i t s lt ∙ is in
      absurd (false≢true (sym out ∙ sym (ap test same) ∙ passes)))
      (cases_lt j i);
}

-- all sections were looked at
pub all_gathered : (access : Access) (file : List ℕ) (loaded : List Section) (n : ℕ) (marks : List Bool) (found : List ℕ)
    → AreLoaded file (section_count file) loaded → length loaded ≤ n
    → AreGathered (test_of access) file loaded n marks found → AreValues (test_of access) file found
all_gathered access file loaded n marks found table le are = record {
  each = are.each;
  all = λ a c. (let p = word_found access file loaded c.place a table c.word in
      let i = p.1 in are.all i.0 p.0 (let h = i.1 in omega arith) i.2 p.2 a c.code p.3);
}

-- put in order they are exactly the code addresses in words
pub exactly_values : (test : Section → Bool) (file : List ℕ) (old new : List ℕ) → AreValues test file old → Rise new
    → ((a : ℕ) → Contains old a → Contains new a)
    → ((a : ℕ) → Contains new a → Contains old a) → AreExactly (IsCodeIn test file) new
exactly_values test file old new are rise keeps adds_none = record {
  rise = rise;
  each = λ k d lt. are.each (get_or new k d) (adds_none (get_or new k d) (Contains-get_or new k d lt));
  all = λ a c. keeps a (are.all a c);
}
