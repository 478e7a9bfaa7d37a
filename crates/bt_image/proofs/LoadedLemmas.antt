-- The section in which bytes stand, found in a table of the loaded sections.
use Rattle.std.proofs.Common.{◌≡◌, ℕ, ◌+◌, ◌<◌, ◌≤◌, ◌⊎◌, inl, inr, Bool, true, false, ◌&&◌, ◌||◌, not, take, drop}
use Rattle.std.proofs.Common.{List, length, get_or, Contains, Option, Some, None, refl, sym, ◌∙◌, ap, subst, arith}
use Rattle.std.proofs.Common.{⊎_elim, if◌then◌else◌}
use Rattle.std.specs.List.Sorted.{IsNonDecreasingBy}
use Rattle.std.specs.Option.{option_map}
use Rattle.std.proofs.lemmas.Bool.{cases_lt, cases_eq, false≢true}
use Rattle.std.proofs.lemmas.Bool.Decides.{nat_tests}
use Rattle.std.proofs.lemmas.List.{get_or_default}
use Rattle.bt_image.specs.File.{section_count}
use Rattle.bt_image.specs.Image.{holder, holding, held, place_in}
use Rattle.bt_image.specs.Least.{first_of}
use Rattle.bt_image.specs.Loaded.{AreApart, AreLoaded, IsWhole, IsHolder}
use Rattle.bt_image.specs.Section.{section_at, is_loaded, is_writable, is_executable, holds, test_of}
use Rattle.bt_image.specs.declared.section.Access.{Access}
use Rattle.bt_image.specs.declared.section.Access.TheVariants.{Loaded, ReadOnly, Code}
use Rattle.bt_image.specs.declared.section.Section.{Section}
use Rattle.bt_image.proofs.LeastLemmas.{first_of-none, first_of-only}

-- sections that lie apart rise
pub rising_from_apart : (items : List Section) → AreApart items → IsNonDecreasingBy (λ s. s.address) items
rising_from_apart items apart = λ i j d le lt.
    ⊎_elim
    (λ below. let h = apart i j d below lt in omega arith)
    (λ ge. let e : i ≡ j = omega arith in subst (λ (k : ℕ). (get_or items i d).address ≤ (get_or items k d).address) e (omega arith))
    (cases_lt i j)

-- what a test of a place says in numbers
pub holds_means : (s : Section) (a n : ℕ) → holds s a n ≡ true → (s.address ≤ a) × (a + n ≤ s.address + s.size)
holds_means s a n h = grind (arith, nat_tests)

-- the first of two sections of a table ends before the second begins, so they hold no same bytes
apart_holders : (items : List Section) (s t : Section) (a n i j : ℕ) → 0 < n → AreApart items → i < j → j < length items
    → get_or items i s ≡ s → get_or items j t ≡ t → holds s a n ≡ true → holds t a n ≡ true → s ≡ t
apart_holders items s t a n i j some apart lt jlt iat jat hs ht =
    let p = holds_means s a n hs in
    let q = holds_means t a n ht in
    let h = apart i j s lt jlt in
    let e = get_or_default items j s t jlt in
    let a1 = ap (λ (x : Section). x.address) iat in
    let a2 = ap (λ (x : Section). x.size) iat in
    let a3 = ap (λ (x : Section). x.address) (e ∙ jat) in
    absurd (omega arith)

-- two sections of a table that hold the same bytes are one
pub same_holder : (items : List Section) (s t : Section) (a n : ℕ) → 0 < n → AreApart items → Contains items s → Contains items t
    → holds s a n ≡ true → holds t a n ≡ true → s ≡ t
same_holder items s t a n some apart cs ct hs ht =
    ⊎_elim
    (λ lt. apart_holders items s t a n cs.0 ct.0 some apart lt ct.1 cs.2 ct.2 hs ht)
    (λ ge. ⊎_elim
    (λ eq. sym cs.2 ∙ ap (λ (k : ℕ). get_or items k s) eq ∙ get_or_default items ct.0 s t ct.1 ∙ ct.2)
    (λ ne. sym (apart_holders items t s a n ct.0 cs.0 some apart (omega arith) cs.1 ct.2 cs.2 ht hs))
    (cases_eq cs.0 ct.0))
    (cases_lt cs.0 ct.0)

-- a section, where it passes a test
abbrev pub filtered : (Section → Bool) → Option Section → Option Section
filtered test None = None
filtered test (Some s) = if test s then Some s else None

-- nothing stands in a section that fails a test that only loaded sections pass
none_failing : (test : Section → Bool) (a n : ℕ) (s : Section) → test s ≡ false → holding test a n s ≡ None
none_failing test a n s h = rw h refl

none_beside : (test : Section → Bool) (a n : ℕ) (s : Section) → holds s a n ≡ false → holding test a n s ≡ None
none_beside test a n s h = by (test s) refl
  where
    by : (b : Bool) → test s ≡ b → holding test a n s ≡ None
    by true e = rw (e, h) refl
    by false e = rw e refl

-- what stands in a section, by cases on the test and the place
pub holding_cases : (test : Section → Bool) (a n : ℕ) (s : Section) → (holding test a n s ≡ None)
    ⊎ ((test s ≡ true) × (holds s a n ≡ true) × (holding test a n s ≡ Some s))
holding_cases test a n s = by (test s) refl
  where
    at : (b : Bool) → test s ≡ true → holds s a n ≡ b → (holding test a n s ≡ None) ⊎ ((test s ≡ true) × (holds s a n ≡ true) × (holding test a n s ≡ Some s))
    at true t e = inr (t, e, rw (t, e) refl)
    at false t e = inl (rw (t, e) refl)

    by : (b : Bool) → test s ≡ b → (holding test a n s ≡ None) ⊎ ((test s ≡ true) × (holds s a n ≡ true) × (holding test a n s ≡ Some s))
    by true e = at (holds s a n) e refl
    by false e = inl (rw e refl)

-- each loaded section of the file that passes a test and holds the bytes is the one of the table that holds them
same_found : (test : Section → Bool) (file : List ℕ) (a n k : ℕ) (items : List Section) (s : Section) → 0 < n
    → ((t : Section) → test t ≡ true → is_loaded t ≡ true) → AreLoaded file (section_count file) items → Contains items s → holds s a n ≡ true
    → k < section_count file → (holding test a n (section_at file k) ≡ None) ⊎ ((section_at file k ≡ s) × (holding test a n (section_at file k) ≡ Some s))
same_found test file a n k items s some only table cs hs lt =
    ⊎_elim
    (λ none. inl none)
    (λ h. let e = same_holder items (section_at file k) s a n some table.apart
    (table.all k lt (only (section_at file k) h.0)) cs h.1 hs in inr (e, h.2 ∙ ap (λ (x : Section). Some x) e))
    (holding_cases test a n (section_at file k))

-- the section that passes a test and holds the bytes is the one that the table has, where that passes the test
pub holder_is : (test : Section → Bool) (file : List ℕ) (a n : ℕ) (items : List Section) (found : Option Section) → 0 < n
    → ((t : Section) → test t ≡ true → is_loaded t ≡ true) → AreLoaded file (section_count file) items → IsHolder items a n found
    → holder test file a n ≡ filtered test found
unfolding holder
holder_is test file a n items None some only table h =
    first_of-none (λ k. holding test a n (section_at file k)) (section_count file) (λ k lt.
    ⊎_elim
    (λ none. none)
    (λ p. let c = table.all k lt (only (section_at file k) p.0) in let no =
    subst (λ x. holds x a n ≡ false) c.2 (h c.0 (section_at file k) c.1) in absurd (false≢true (sym no ∙ p.1)))
    (holding_cases test a n (section_at file k)))
holder_is test file a n items (Some s) some only table h =
    by (test s) refl
  where
    by : (b : Bool) → test s ≡ b → first_of (λ k. holding test a n (section_at file k)) (section_count file) ≡ filtered test (Some s)
    by true e =
        let w : IsWhole file (section_count file) s = subst (IsWhole file (section_count file)) h.0.2 (table.whole h.0.0 s h.0.1) in
        let hs = h.1 in
        let at : holding test a n s ≡ Some s = rw (e, hs) refl in
        first_of-only (λ k. holding test a n (section_at file k)) (section_count file) w.number s w.below (ap (holding test a n) w.is ∙ at)
        (λ k lt. ⊎_elim (λ none. inl none) (λ p. inr p.1) (same_found test file a n k items s some only table h.0 h.1 lt))
        ∙ sym (rw e refl)
    by false e =
        first_of-none (λ k. holding test a n (section_at file k)) (section_count file)
        (λ k lt. ⊎_elim (λ none. none) (λ p. ap (holding test a n) p.0 ∙ none_failing test a n s e)
        (same_found test file a n k items s some only table h.0 h.1 lt))
        ∙ sym (rw e refl)

-- only loaded sections are asked for
and_first : (b c : Bool) → (b && c) ≡ true → b ≡ true
and_first true c h = refl
and_first false c h = h

-- a section that passes a test of an access is loaded
pub asks_loaded : (access : Access) (s : Section) → test_of access s ≡ true → is_loaded s ≡ true
asks_loaded Loaded s h = h
asks_loaded ReadOnly s h = and_first (is_loaded s) (is_executable s || not (is_writable s)) h
asks_loaded Code s h = and_first (is_loaded s) (is_executable s) h

-- the bytes that a section holds
abbrev pub bytes_in : List ℕ → ℕ → ℕ → Section → List ℕ
bytes_in file a n s = take n (drop (place_in s a) file)

-- the bytes that the section of the table holds, where that passes the test
pub held_is : (access : Access) (file : List ℕ) (a n : ℕ) (items : List Section) (found : Option Section) → 0 < n
    → AreLoaded file (section_count file) items → IsHolder items a n found
    → held (test_of access) file a n ≡ option_map (bytes_in file a n) (filtered (test_of access) found)
unfolding held
held_is access file a n items found some table h =
    ap (option_map (bytes_in file a n)) (holder_is (test_of access) file a n items found some (asks_loaded access) table h)

-- bytes are held where the section that has them passes the test
pub held_passing : (access : Access) (file : List ℕ) (a n : ℕ) (items : List Section) (s : Section) → 0 < n
    → AreLoaded file (section_count file) items → IsHolder items a n (Some s) → test_of access s ≡ true
    → held (test_of access) file a n ≡ Some (bytes_in file a n s)
held_passing access file a n items s some table h test =
    held_is access file a n items (Some s) some table h ∙ rw test refl

-- bytes aren't held where the section that has them fails the test
pub held_failing : (access : Access) (file : List ℕ) (a n : ℕ) (items : List Section) (s : Section) → 0 < n
    → AreLoaded file (section_count file) items → IsHolder items a n (Some s) → test_of access s ≡ false
    → held (test_of access) file a n ≡ None
held_failing access file a n items s some table h test =
    held_is access file a n items (Some s) some table h ∙ rw test refl

-- a section of the table is whole
pub whole_member : (file : List ℕ) (n : ℕ) (items : List Section) (s : Section) → AreLoaded file n items → Contains items s → IsWhole file n s
whole_member file n items s table c = subst (IsWhole file n) c.2 (table.whole c.0 s c.1)
