-- The next code address.
use Rattle.std.proofs.Common.{◌≡◌, ℕ, ◌+◌, ◌-◌, ◌*◌, ◌/◌, ◌%◌, ◌<◌, ◌≤◌, ◌⊎◌, inl, inr, Bool, true, false, ◌&&◌, List}
use Rattle.std.proofs.Common.{[], ◌∷◌, ◌++◌, length, get_or, All, Contains, Option, Some, None, refl, sym, ◌∙◌, ap}
use Rattle.std.proofs.Common.{subst, eq-eqb, arith, ⊎_elim}
use Rattle.std.specs.Prelude.{◌==◌, is_some, nat_le}
use Rattle.std.proofs.lemmas.Bool.{cases_lt, cases_eq, false≢true}
use Rattle.std.proofs.lemmas.Bool.Decides.{nat_tests}
use Rattle.std.proofs.lemmas.List.{get_or_default, get_or_append_left, get_or_push, length_push}
use Rattle.bt_image.specs.Loaded.{AreApart, AreLoaded}
use Rattle.bt_image.specs.NextCode.{IsCodeTable, HasWord, HasNone, IsNextWord, HasNoWordFrom, LastReaches, NoneReaches}
use Rattle.bt_image.specs.File.{section_count}
use Rattle.bt_image.specs.Image.{held, holder, holding, is_code, IsNextCode, HasNoCodeFrom}
use Rattle.bt_image.specs.Section.{section_at, is_code_section, holds}
use Rattle.bt_image.specs.declared.section.Access.TheVariants.{Code}
use Rattle.bt_image.specs.declared.section.Section.{Section}
use Rattle.bt_image.proofs.ExtentLemmas.{code_held}
use Rattle.bt_image.proofs.LeastLemmas.{first_of-found}
use Rattle.bt_image.proofs.LoadedLemmas.{asks_loaded, bytes_in, held_passing, holding_cases, holds_means, whole_member}
use Rattle.bt_image.proofs.LoadingLemmas.{no_section}

-- an element of a list with one more at its end
pushed_cases : (items : List Section) (s : Section) (k : ℕ) (d : Section) → k < length (items ++ s ∷ [])
    → ((k < length items) × (get_or (items ++ s ∷ []) k d ≡ get_or items k d)) ⊎ ((k ≡ length items) × (get_or (items ++ s ∷ []) k d ≡ s))
pushed_cases items s k d lt =
    let long = length_push items s in
    ⊎_elim
    (λ below. inl (below, get_or_append_left items (s ∷ []) d k below))
    (λ ge. let e : length items ≡ k = omega arith in inr (sym e, get_or_push items s d k e))
    (cases_lt k (length items))

still_in : (items : List Section) (s t : Section) → Contains items t → Contains (items ++ s ∷ []) t
still_in items s t c = let long = length_push items s in (c.0, omega (arith, c.1), get_or_append_left items (s ∷ []) t c.0 c.1 ∙ c.2)

pushed_in : (items : List Section) (s : Section) → Contains (items ++ s ∷ []) s
pushed_in items s = let long = length_push items s in (length items, omega arith, get_or_push items s s (length items) refl)

-- the table with the next section, which is code and has a word
pub code_added : (loaded items new : List Section) (n : ℕ) (s e : Section) → AreApart loaded → n < length loaded → s ≡ get_or loaded n e
    → is_code_section s ≡ true → 4 ≤ s.size → new ≡ items ++ s ∷ [] → IsCodeTable loaded n items → IsCodeTable loaded (n + 1) new
code_added loaded items new n s e apart lt is code big same table = subst (IsCodeTable loaded (n + 1)) (sym same) (record {
  apart = λ i j d ij jlt. ⊎_elim
      (λ jin. let q = get_or_append_left items (s ∷ []) d i (let h = jin.0 in omega arith) in
      let a = ap (λ (x : Section). x.address) q in let b = ap (λ (x : Section). x.size) q in let c = ap (λ (x : Section). x.address) jin.1 in
      let h = table.apart i j d ij jin.0 in omega arith)
      (λ jnew. let ilt : i < length items = (let h = jnew.0 in omega arith) in
      let q = get_or_append_left items (s ∷ []) d i ilt in
      let a = ap (λ (x : Section). x.address) q in let b = ap (λ (x : Section). x.size) q in let c = ap (λ (x : Section). x.address) jnew.1 in
      let f = here d in let g = ap (λ (x : Section). x.address) f in
      let h = table.before i n d ilt (omega arith) lt in omega arith)
      (pushed_cases items s j d jlt);
  before = λ k j d klt le jlt. ⊎_elim
      (λ kin. let a = ap (λ (x : Section). x.address) kin.1 in let b = ap (λ (x : Section). x.size) kin.1 in
      let h = table.before k j d kin.0 (omega arith) jlt in omega arith)
      (λ knew. let a = ap (λ (x : Section). x.address) knew.1 in let b = ap (λ (x : Section). x.size) knew.1 in
      let f = here d in let g = ap (λ (x : Section). x.address) f in let i = ap (λ (x : Section). x.size) f in
      let h = apart n j d (omega arith) jlt in omega arith)
      (pushed_cases items s k d klt);
  each = λ k d klt. ⊎_elim
      (λ kin. subst P (sym kin.1) (table.each k d kin.0))
      (λ knew. subst P (sym knew.1) ((n, lt, sym (here s)), code, big))
      (pushed_cases items s k d klt);
  all = λ k d klt c b. ⊎_elim
      (λ below. still_in items s (get_or loaded k d) (table.all k d below c b))
      (λ ge. let q : n ≡ k = omega arith in
      subst (λ (x : Section). Contains (items ++ s ∷ []) x) (here d ∙ ap (λ (i : ℕ). get_or loaded i d) q) (pushed_in items s))
      (cases_lt k n);
})
  where
    here : (d : Section) → s ≡ get_or loaded n d
    here d = is ∙ get_or_default loaded n e d lt

    P : Section → Type 0
    P x = Contains loaded x × (is_code_section x ≡ true) × (4 ≤ x.size)

-- the table where the next section isn't code or has no word
pub code_skipped : (loaded items : List Section) (n : ℕ) (s e : Section) → n < length loaded → s ≡ get_or loaded n e
    → (is_code_section s ≡ true → 4 ≤ s.size → ⊥) → IsCodeTable loaded n items → IsCodeTable loaded (n + 1) items
code_skipped loaded items n s e lt is out table = record {
  apart = table.apart;
  before = λ k j d klt le jlt. table.before k j d klt (omega arith) jlt;
  each = table.each;
  all = λ k d klt c b. ⊎_elim
      (λ below. table.all k d below c b)
      (λ ge. let q : k ≡ n = omega arith in
      let f = ap (λ (i : ℕ). get_or loaded i d) q ∙ get_or_default loaded n d e lt ∙ sym is in
      absurd (out (sym (ap is_code_section f) ∙ c) (let g = ap (λ (x : Section). x.size) f in omega arith)))
      (cases_lt k n);
}

pub code_none : (loaded items : List Section) → items ≡ [] → IsCodeTable loaded 0 items
code_none loaded items none = subst (IsCodeTable loaded 0) (sym none) (record {
  apart = λ i j d ij jlt. absurd (omega arith);
  before = λ k j d klt le jlt. absurd (omega arith);
  each = λ k d klt. absurd (omega arith);
  all = λ k d klt c b. absurd (omega arith);
})

-- the last section before a place reaches highest
pub none_reaches : (items : List Section) (place end : ℕ) (e : Section) → AreApart items → place ≤ length items → 0 < place
    → (get_or items (place - 1) e).address + (get_or items (place - 1) e).size < end → NoneReaches items place end
none_reaches items place end e apart le some last = λ k d lt.
    let same = get_or_default items (place - 1) d e (omega arith) in
    let b = ap (λ (x : Section). x.address) same in
    let c = ap (λ (x : Section). x.size) same in
    ⊎_elim
    (λ below. let h = apart k (place - 1) d below (omega arith) in omega arith)
    (λ ge.
    let eq : k ≡ place - 1 = omega arith in
    subst (λ (i : ℕ). (get_or items i d).address + (get_or items i d).size < end) (sym eq) (omega arith))
    (cases_lt k (place - 1))

-- the last section before a place reaches to the end
pub last_reaches : (items : List Section) (place end : ℕ) (e : Section) → place ≤ length items → 0 < place
    → end ≤ (get_or items (place - 1) e).address + (get_or items (place - 1) e).size → LastReaches items place end
last_reaches items place end e le some last = (
  some,
  λ d.
      let same = get_or_default items (place - 1) d e (omega arith) in
      let b = ap (λ (x : Section). x.address) same in
      let c = ap (λ (x : Section). x.size) same in omega arith,
)

-- the multiple of 4 at or above an address
up_aligned : (a : ℕ) → ((a + 3) / 4 * 4) % 4 ≡ 0
up_aligned a = omega arith

up_above : (a : ℕ) → a ≤ (a + 3) / 4 * 4
up_above a = omega arith

up_least : (a y : ℕ) → a ≤ y → y % 4 ≡ 0 → (a + 3) / 4 * 4 ≤ y
up_least a y le m = omega arith

-- the next word is at x where the section before its place reaches behind it
pub next_here : (items : List Section) (place a x : ℕ) → x ≡ (a + 3) / 4 * 4 → place ≤ length items
    → ((k : ℕ) (d : Section) → k < place → (get_or items k d).address ≤ x) → LastReaches items place (x + 4) → IsNextWord items a x
next_here items place a x is le below last = record {
  above = subst (λ (n : ℕ). a ≤ n) (sym is) (up_above a);
  aligned = subst (λ (n : ℕ). n % 4 ≡ 0) (sym is) (up_aligned a);
  place = place - 1;
  within = (let h = last.0 in omega arith);
  begins = λ d. below (place - 1) d (let h = last.0 in omega arith);
  ends = λ d. last.1 d;
  least = λ y ay yx m. absurd (let h = up_least a y ay m in omega arith);
}

-- the next word is the first of the section at its place where none before it reaches behind x
pub next_there : (items : List Section) (place a x : ℕ) (e : Section) → x ≡ (a + 3) / 4 * 4 → AreApart items → All HasWord items → place < length items
    → ((k : ℕ) (d : Section) → place ≤ k → k < length items → x < (get_or items k d).address) → NoneReaches items place (x + 4)
    → IsNextWord items a (get_or items place e).address
next_there items place a x e is apart words lt above none =
    let w = words place e lt in
    let w1 = w.1 in
    let up = above place e (omega arith) lt in
    let ax : a ≤ x = subst (λ (n : ℕ). a ≤ n) (sym is) (up_above a) in
    record {
      above = omega arith;
      aligned = w.0;
      place = place;
      within = lt;
      begins = λ d. (let same = get_or_default items place d e lt in let b = ap (λ (s : Section). s.address) same in omega arith);
      ends = λ d. (let same = get_or_default items place d e lt in let b = ap (λ (s : Section). s.address) same in let c =
          ap (λ (s : Section). s.size) same in omega arith);
      least = λ y ay yx m k d klt low high.
          (let xy : x ≤ y = subst (λ (n : ℕ). n ≤ y) (sym is) (up_least a y ay m) in
          ⊎_elim
          (λ before. let h = none k d before in omega arith)
          (λ ge. ⊎_elim
          (λ same. let f = ap (λ (i : ℕ). (get_or items i d).address) same in let g =
          ap (λ (s : Section). s.address) (get_or_default items place d e lt) in omega arith)
          (λ ne. let h = apart place k e (omega arith) klt in let g = ap (λ (s : Section). s.address) (get_or_default items k d e klt) in omega arith)
          (cases_eq k place))
          (cases_lt k place));
    }

-- there is no next word where no section reaches behind x
pub next_nowhere : (items : List Section) (place a x : ℕ) → x ≡ (a + 3) / 4 * 4 → length items ≤ place → NoneReaches items place (x + 4) → HasNoWordFrom items a
next_nowhere items place a x is ge none = λ y ay m k d klt low high.
    let xy : x ≤ y = subst (λ (n : ℕ). n ≤ y) (sym is) (up_least a y ay m) in
    let h = none k d (omega arith) in omega arith

-- a section is code and has a word, or not
both_true : (b c : Bool) → (b && c) ≡ true → (b ≡ true) × (c ≡ true)
both_true true c h = (refl, h)
both_true false c h = absurd (false≢true h)

-- a section in the table has code and a word
pub word_yes : (s : Section) (b : Bool) → b ≡ (is_code_section s && nat_le 4 s.size) → b ≡ true → (is_code_section s ≡ true) × (4 ≤ s.size)
word_yes s b e h = let p = both_true (is_code_section s) _ (sym e ∙ h) in let q = p.1 in (p.0, grind (arith, nat_tests))

-- a section that isn't in the table has no word of code
pub word_no : (s : Section) (b : Bool) → b ≡ (is_code_section s && nat_le 4 s.size) → b ≡ false → is_code_section s ≡ true → 4 ≤ s.size → ⊥
word_no s b e h code big =
    let t : nat_le 4 s.size ≡ true = grind (arith, nat_tests) in
    let f : (is_code_section s && nat_le 4 s.size) ≡ true = rw (code, t) refl in
    false≢true (sym h ∙ e ∙ f)

-- each section of the table begins at a multiple of 4, has a word, and is within memory
pub have_words : (file : List ℕ) (loaded items : List Section) → AreLoaded file (section_count file) loaded
    → IsCodeTable loaded (length loaded) items → All HasWord items
have_words file loaded items table code = λ k d lt.
    let p = code.each k d lt in
    let w = whole_member file (section_count file) loaded (get_or items k d) table p.0 in
    (w.aligned p.1, p.2, w.fits)

-- a code address is a whole word of a section of the table
code_in_table : (file : List ℕ) (loaded items : List Section) (y : ℕ) → AreLoaded file (section_count file) loaded → IsCodeTable loaded (length loaded) items
    → is_code file y ≡ true → (y % 4 ≡ 0) × (HasNone items y → ⊥)
unfolding holder
code_in_table file loaded items y table code is =
    let p = both_true (y % 4 == 0) _ is in
    let m = p.0 in
    (grind (arith, nat_tests), λ none. found none (code_held file y is) _ refl)
  where
    found : HasNone items y → is_some (holder is_code_section file y 4) ≡ true → (o : Option Section) → holder is_code_section file y 4 ≡ o → ⊥
    found none some None e = false≢true (sym (ap is_some e) ∙ some)
    found none some (Some s) e =
        let f = first_of-found (λ k. holding is_code_section y 4 (section_at file k)) (section_count file) s e in
        ⊎_elim
        (λ out. let g = f.2 in cc)
        (λ h.
        let t = section_at file f.0 in
        let c = table.all f.0 f.1 (asks_loaded Code (section_at file f.0) h.0) in
        let m = holds_means (section_at file f.0) y 4 h.1 in
        let m0 = m.0 in let m1 = m.1 in
        let here : get_or loaded c.0 (section_at file f.0) ≡ section_at file f.0 = c.2 in
        let i = code.all c.0 (section_at file f.0) c.1 (ap is_code_section here ∙ h.0) (let z = ap (λ (x : Section). x.size) here in omega arith) in
        let at : get_or items i.0 (section_at file f.0) ≡ section_at file f.0 =
        get_or_default items i.0 (section_at file f.0) (get_or loaded c.0 (section_at file f.0)) i.1 ∙ i.2 ∙ here in
        let a = ap (λ (x : Section). x.address) at in
        let b = ap (λ (x : Section). x.size) at in
        none i.0 (section_at file f.0) i.1 (omega arith) (omega arith))
        (holding_cases is_code_section y 4 (section_at file f.0))

none_code : (file : List ℕ) (loaded items : List Section) (y : ℕ) → AreLoaded file (section_count file) loaded → IsCodeTable loaded (length loaded) items
    → (y % 4 ≡ 0 → HasNone items y) → is_code file y ≡ false
none_code file loaded items y table code none = by (is_code file y) refl
  where
    by : (b : Bool) → is_code file y ≡ b → is_code file y ≡ false
    by false e = e
    by true e = let p = code_in_table file loaded items y table code e in absurd (p.1 (none p.0))

-- the next word of the table is the next code address
pub next_code_from : (file : List ℕ) (loaded items : List Section) (a x : ℕ) → AreLoaded file (section_count file) loaded
    → IsCodeTable loaded (length loaded) items
    → IsNextWord items a x → IsNextCode file a x
next_code_from file loaded items a x table code next = record {
  above = next.above;
  code = is;
  least = λ y ay yx. none_code file loaded items y table code (λ m. next.least y ay yx m);
}
  where
    s : Section
    s = get_or items next.place no_section

    c : Contains loaded s
    c = (code.each next.place no_section next.within).0

    p : is_code_section s ≡ true
    p = (code.each next.place no_section next.within).1

    h : holds s x 4 ≡ true
    h = let b = next.begins no_section in let e = next.ends no_section in grind (arith, nat_tests)

    held_here : held is_code_section file x 4 ≡ Some (bytes_in file x 4 s)
    held_here = held_passing Code file x 4 loaded s (omega arith) table (c, h) p

    is : is_code file x ≡ true
    is = let m : (x % 4 == 0) ≡ true = eq-eqb _ 0 next.aligned in rw (m, held_here) refl

-- where the table of code has no word from an address on, the image has none
pub no_code_from : (file : List ℕ) (loaded items : List Section) (a : ℕ) → AreLoaded file (section_count file) loaded → IsCodeTable loaded (length loaded) items
    → HasNoWordFrom items a → HasNoCodeFrom file a
no_code_from file loaded items a table code none = λ y ay. none_code file loaded items y table code (λ m. none y ay m)
