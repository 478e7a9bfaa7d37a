-- What stands at the addresses of a file that was accepted: each byte in one section.
use Rattle.std.proofs.Common.{◌≡◌, ℕ, ◌+◌, ◌-◌, ◌%◌, ◌^◌, ◌==◌, ◌<◌, ◌≤◌, ◌⊎◌, inl, inr, Bool, true, false, ◌&&◌, ◌||◌, not, zero, suc}
use Rattle.std.proofs.Common.{take, drop, List, [], ◌∷◌, length, get_or, Option, Some, None, is_some, refl, sym, ◌∙◌, ap, subst, arith, ⊎_elim}
use Rattle.std.specs.Option.{option_map}
use Rattle.std.proofs.lemmas.Bool.{cases_lt, eqb-true, false≢true}
use Rattle.std.proofs.lemmas.Bool.Decides.{nat_tests}
use Rattle.std.proofs.lemmas.List.{get_or-take, get_or-drop, length-drop, length-take-le}
use Rattle.byteorder.specs.Endian.{big_number}
use Rattle.bt_image.specs.File.{section_count, word_field}
use Rattle.bt_image.specs.Image.{holder, holding, held, place_in, is_code, word}
use Rattle.bt_image.specs.Law.{AreBytesAt, IsOfReadOnlyBytes}
use Rattle.bt_image.specs.Least.{first_of}
use Rattle.bt_image.specs.Refusal.{checked_refusal, first_refusal, overlap, overlap_refusal, sections_refusal}
use Rattle.bt_image.specs.Section.{section_at, is_loaded, is_code_section, is_executable, is_read_only_section, is_writable, holds, share, test_of}
use Rattle.bt_image.specs.declared.section.Access.{Access}
use Rattle.bt_image.specs.declared.section.Access.TheVariants.{Code, ReadOnly}
use Rattle.bt_image.specs.declared.section.Section.{Section}
use Rattle.bt_image.proofs.LeastLemmas.{first_of-found, first_of-only, none_below, or_none}
use Rattle.bt_image.proofs.LoadedLemmas.{asks_loaded, holding_cases, holds_means}
use Rattle.bt_image.proofs.LoadingLemmas.{overlap_shared, whole_from_check}

-- the checks of an accepted file: its sections are whole, and no two share an address
sections_sound : (image : List ℕ) → first_refusal image ≡ None → sections_refusal image ≡ None
unfolding first_refusal checked_refusal
sections_sound image ok = (or_none _ _ (or_none _ _ (or_none _ _ ok).0).1).1

no_overlap : (image : List ℕ) → first_refusal image ≡ None → overlap_refusal image ≡ None
unfolding first_refusal
no_overlap image ok = (or_none _ _ (or_none _ _ ok).1).0

-- two sections in which a byte stands share its address
share_from : (s t : Section) (a : ℕ) → s.address ≤ a → a + 1 ≤ s.address + s.size → t.address ≤ a → a + 1 ≤ t.address + t.size → share s t ≡ true
share_from s t a sl sh tl th = grind (arith, nat_tests)

apart : (image : List ℕ) (a i j : ℕ) → overlap_refusal image ≡ None → i < section_count image → j < section_count image → i < j
    → is_loaded (section_at image i) ≡ true → is_loaded (section_at image j) ≡ true
    → holds (section_at image i) a 1 ≡ true → holds (section_at image j) a 1 ≡ true → ⊥
unfolding overlap_refusal
apart image a i j none il jl lt li lj hi hj =
    let first = none_below (λ m. first_of (overlap image m) (section_count image)) (section_count image) none i il in
    let both = none_below (overlap image i) (section_count image) first j jl in
    let p = holds_means (section_at image i) a 1 hi in
    let q = holds_means (section_at image j) a 1 hj in
    let shares = share_from (section_at image i) (section_at image j) a p.0 p.1 q.0 q.1 in
    let found = overlap_shared image i j lt li lj shares in
    cc

-- a byte stands in one loaded section
one_section : (image : List ℕ) (a i j : ℕ) → overlap_refusal image ≡ None → i < section_count image → j < section_count image
    → is_loaded (section_at image i) ≡ true → is_loaded (section_at image j) ≡ true
    → holds (section_at image i) a 1 ≡ true → holds (section_at image j) a 1 ≡ true → i ≡ j
one_section image a i j none il jl li lj hi hj =
    ⊎_elim
    (λ lt. absurd (apart image a i j none il jl lt li lj hi hj))
    (λ ge. ⊎_elim (λ lt. absurd (apart image a j i none jl il lt lj li hj hi)) (λ le. omega arith) (cases_lt j i))
    (cases_lt i j)

-- a section that holds bytes holds each of them
holds_part : (s : Section) (a n k : ℕ) → holds s a n ≡ true → k < n → holds s (a + k) 1 ≡ true
holds_part s a n k h lt = let p = holds_means s a n h in holds_from s (a + k) (omega arith) (omega arith)
  where
    holds_from : (s : Section) (b : ℕ) → s.address ≤ b → b + 1 ≤ s.address + s.size → holds s b 1 ≡ true
    holds_from s b low high = grind (arith, nat_tests)

-- the section in which bytes stand is the one in which each of them stands
holder_part : (access : Access) (image : List ℕ) (a n k number : ℕ) → overlap_refusal image ≡ None → number < section_count image
    → test_of access (section_at image number) ≡ true → holds (section_at image number) a n ≡ true → k < n
    → holder (test_of access) image (a + k) 1 ≡ Some (section_at image number)
unfolding holder
holder_part access image a n k number none lt test h klt =
    let here = holds_part (section_at image number) a n k h klt in
    let at : holding (test_of access) (a + k) 1 (section_at image number) ≡ Some (section_at image number) = rw (test, here) refl in
    first_of-only (λ i. holding (test_of access) (a + k) 1 (section_at image i)) (section_count image) number (section_at image number) lt at
    (λ i ilt. ⊎_elim
    (λ out. inl out)
    (λ p. let same = one_section image (a + k) i number none ilt lt (asks_loaded access (section_at image i) p.0)
    (asks_loaded access (section_at image number) test) p.1 here in
    inr (p.2 ∙ ap (λ m. Some (section_at image m)) same))
    (holding_cases (test_of access) (a + k) 1 (section_at image i)))

-- the number of the section in which bytes stand
pub record IsFound (test : Section → Bool) (image : List ℕ) (a n : ℕ) (s : Section) : Type 0 where
  pub number : ℕ
  pub below : number < section_count image
  pub is : section_at image number ≡ s
  pub passes : test (section_at image number) ≡ true
  pub here : holds (section_at image number) a n ≡ true

found_at : (test : Section → Bool) (image : List ℕ) (a n : ℕ) (s : Section) → holder test image a n ≡ Some s → IsFound test image a n s
unfolding holder
found_at test image a n s h =
    let at = first_of-found (λ k. holding test a n (section_at image k)) (section_count image) s h in
    ⊎_elim
    (λ none. absurd (let no = sym none ∙ at.2 in cc))
    (λ p. let one : Some (section_at image at.0) ≡ Some s = sym p.2 ∙ at.2 in record { number = at.0; below = at.1; is = cc; passes = p.0; here = p.1 })
    (holding_cases test a n (section_at image at.0))

-- one element at a place of a list, and at a place of a part of it
one_at : (xs : List ℕ) (i : ℕ) → i < length xs → take 1 (drop i xs) ≡ get_or xs i 0 ∷ []
one_at [] i lt = absurd (omega arith)
one_at (x ∷ xs) zero lt = refl
one_at (x ∷ xs) (suc i) lt = one_at xs i (omega arith)

one_of_part : (xs : List ℕ) (p n k : ℕ) → k < n → p + n ≤ length xs → take 1 (drop (p + k) xs) ≡ get_or (take n (drop p xs)) k 0 ∷ []
one_of_part xs p n k lt le =
    one_at xs (p + k) (omega arith) ∙ ap (λ (b : ℕ). b ∷ []) (sym (get_or-take n (drop p xs) k 0 lt ∙ get_or-drop p xs k 0))

-- the bytes of the section in which they stand, one by one
bytes_of_number : (access : Access) (image : List ℕ) (a n number : ℕ) → first_refusal image ≡ None → number < section_count image
    → test_of access (section_at image number) ≡ true → holds (section_at image number) a n ≡ true
    → AreBytesAt (test_of access) image a n (take n (drop (place_in (section_at image number) a) image))
unfolding held
bytes_of_number access image a n number ok lt test here =
    let whole = whole_from_check image number (sections_sound image ok) lt (asks_loaded access (section_at image number) test) in
    let inside = whole.inside in
    let at = holds_means (section_at image number) a n here in
    let place = place_in (section_at image number) a in
    let rest = length-drop place image in
    record {
      long = length-take-le n (drop place image) (omega arith);
      each = λ k klt.
          let holder_is = holder_part access image a n k number (no_overlap image ok) lt test here klt in
          let moved : place_in (section_at image number) (a + k) ≡ place + k = omega arith in
          ap (option_map (λ (s : Section). take 1 (drop (place_in s (a + k)) image))) holder_is
          ∙ ap (λ (p : ℕ). Some (take 1 (drop p image))) moved
          ∙ ap (λ (xs : List ℕ). Some xs) (one_of_part image place n k klt (omega arith));
    }

-- the bytes from an address on stand there one by one
pub bytes_stand : (access : Access) (image : List ℕ) (a n : ℕ) (bytes : List ℕ) → first_refusal image ≡ None
    → held (test_of access) image a n ≡ Some bytes → AreBytesAt (test_of access) image a n bytes
unfolding held
bytes_stand access image a n bytes ok is = by (holder (test_of access) image a n) refl
  where
    by : (found : Option Section) → holder (test_of access) image a n ≡ found → AreBytesAt (test_of access) image a n bytes
    by None e = absurd (let none = sym (ap (option_map (λ (s : Section). take n (drop (place_in s a) image))) e) ∙ is in cc)
    by (Some s) e =
        let found = found_at (test_of access) image a n s e in
        let some : Some (take n (drop (place_in s a) image)) ≡ Some bytes = sym (ap (option_map (λ (s : Section). take n (drop (place_in s a) image))) e)
        ∙ is in
        let same : take n (drop (place_in (section_at image found.number) a) image) ≡ bytes = ap (λ (s : Section). take n (drop (place_in s a) image))
        found.is ∙ (let e : take n (drop (place_in s a) image) ≡ bytes = cc in e) in
        subst (AreBytesAt (test_of access) image a n) same (bytes_of_number access image a n found.number ok found.below found.passes found.here)

-- a word that can be read is the number of the bytes that stand there
pub word_stands : (image : List ℕ) (a w : ℕ) → first_refusal image ≡ None → word image a ≡ Some w → IsOfReadOnlyBytes image a w
unfolding word_field
word_stands image a w ok is = by (a % 4 == 0) (held is_read_only_section image a 4) refl refl
  where
    by : (even : Bool) (bytes : Option (List ℕ)) → (a % 4 == 0) ≡ even → held is_read_only_section image a 4 ≡ bytes → IsOfReadOnlyBytes image a w
    by false bytes e h = absurd (let none : None ≡ Some w = sym (rw e refl) ∙ is in cc)
    by true None e h = absurd (let none : None ≡ Some w = sym (rw (e, h) refl) ∙ is in cc)
    by true (Some bytes) e h =
        let some : Some (big_number 4 bytes) ≡ Some w = sym (rw (e, h) refl) ∙ is in
        record {
          aligned = eqb-true (a % 4) 0 e;
          bytes = bytes;
          stand = bytes_stand ReadOnly image a 4 bytes ok h;
          number = (let back : w ≡ big_number 4 bytes = cc in back);
        }

-- a section with instructions is read-only
code_passes : (s : Section) → is_code_section s ≡ true → is_read_only_section s ≡ true
code_passes s h = by (is_loaded s) (is_executable s) (not (is_writable s)) h
  where
    by : (loaded executable fixed : Bool) → (loaded && executable) ≡ true → (loaded && (executable || fixed)) ≡ true
    by true true fixed h = refl
    by true false fixed h = absurd (false≢true h)
    by false executable fixed h = absurd (false≢true h)

-- where a section with instructions holds bytes, a read-only one is found
read_only_found : (image : List ℕ) (a : ℕ) (s : Section) → IsFound is_code_section image a 4 s → holder is_read_only_section image a 4 ≡ None → ⊥
unfolding holder
read_only_found image a s found none =
    let at = none_below (λ k. holding is_read_only_section a 4 (section_at image k)) (section_count image) none found.number found.below in
    let passes = code_passes (section_at image found.number) found.passes in
    let here : holding is_read_only_section a 4 (section_at image found.number) ≡ Some (section_at image found.number) = rw (passes, found.here) refl in
    cc

-- each word of code can be read
pub code_reads : (image : List ℕ) (a : ℕ) → is_code image a ≡ true → (w : ℕ) × (word image a ≡ Some w)
unfolding held
code_reads image a code =
    by (a % 4 == 0) (holder is_code_section image a 4) (holder is_read_only_section image a 4) refl refl refl
  where
    by : (even : Bool) (one other : Option Section) → (a % 4 == 0) ≡ even → holder is_code_section image a 4 ≡ one
        → holder is_read_only_section image a 4 ≡ other → (w : ℕ) × (word image a ≡ Some w)
    by false one other e h r = absurd (false≢true (let no : false ≡ is_code image a = sym (rw e refl) in no ∙ code))
    by true None other e h r = absurd (false≢true (let no : false ≡ is_code image a = sym (rw (e, h) refl) in no ∙ code))
    by true (Some s) None e h r = absurd (read_only_found image a s (found_at is_code_section image a 4 s h) r)
    by true (Some s) (Some t) e h r = (word_field (take 4 (drop (place_in t a) image)) 0, rw (e, r) refl)

-- a word of code ends within memory, as its section does
pub code_fits : (image : List ℕ) (a : ℕ) → first_refusal image ≡ None → is_code image a ≡ true → a + 4 ≤ 2 ^ 32
unfolding held
code_fits image a ok code = by (a % 4 == 0) (holder is_code_section image a 4) refl refl
  where
    by : (even : Bool) (one : Option Section) → (a % 4 == 0) ≡ even → holder is_code_section image a 4 ≡ one → a + 4 ≤ 2 ^ 32
    by false one e h = absurd (false≢true (let no : false ≡ is_code image a = sym (rw e refl) in no ∙ code))
    by true None e h = absurd (false≢true (let no : false ≡ is_code image a = sym (rw (e, h) refl) in no ∙ code))
    by true (Some s) e h =
        let found = found_at is_code_section image a 4 s h in
        let whole = whole_from_check image found.number (sections_sound image ok) found.below
        (asks_loaded Code (section_at image found.number) found.passes) in
        let fits = whole.fits in
        let here = holds_means (section_at image found.number) a 4 found.here in
        omega (arith, here.1, fits)
