-- The extents of functions.
use Rattle.std.proofs.Common.{◌≡◌, ℕ, ◌+◌, ◌-◌, ◌%◌, ◌<◌, ◌≤◌, ◌⊎◌, inl, inr, Bool, true, false, ◌&&◌, List, length}
use Rattle.std.proofs.Common.{get_or, Contains, Option, Some, None, refl, sym, ◌∙◌, ap, subst, arith, ⊎_elim}
use Rattle.std.specs.Prelude.{◌==◌, is_some}
use Rattle.std.specs.Option.{option_map}
use Rattle.std.specs.List.Sorted.{IsNonDecreasing}
use Rattle.std.proofs.lemmas.Bool.{cases_lt, false≢true}
use Rattle.std.proofs.lemmas.List.{get_or_default}
use Rattle.bt_image.specs.Extent.{IsExtent, IsStart, IsEnd, Rise}
use Rattle.bt_image.specs.File.{section_count}
use Rattle.bt_image.specs.Image.{held, holder, is_code}
use Rattle.bt_image.specs.Loaded.{AreLoaded, IsHolder}
use Rattle.bt_image.specs.Section.{is_code_section}
use Rattle.bt_image.specs.Symbol.{functions}
use Rattle.bt_image.specs.declared.section.Section.{Section}
use Rattle.bt_image.specs.declared.section.Access.TheVariants.{Code}
use Rattle.bt_image.proofs.LoadedLemmas.{asks_loaded, filtered, holder_is, holds_means}

-- numbers that rise don't fall
pub non_decreasing : (xs : List ℕ) → Rise xs → IsNonDecreasing xs
non_decreasing xs rise = λ i j d le lt.
    ⊎_elim
    (λ below.
    let h = rise i j below lt in
    let a = get_or_default xs i d 0 (omega arith) in
    let b = get_or_default xs j d 0 lt in omega arith)
    (λ ge. let e : i ≡ j = omega arith in subst (λ (k : ℕ). get_or xs i d ≤ get_or xs k d) e (omega arith))
    (cases_lt i j)

-- the section that holds a code word
is_some_map : {A B : Type 0} (f : A → B) (o : Option A) → is_some (option_map f o) ≡ true → is_some o ≡ true
is_some_map f None h = h
is_some_map f (Some x) h = refl

and_second : (b c : Bool) → (b && c) ≡ true → c ≡ true
and_second true c h = h
and_second false c h = absurd (false≢true h)

-- an address of code is in a section of code
pub code_held : (file : List ℕ) (a : ℕ) → is_code file a ≡ true → is_some (holder is_code_section file a 4) ≡ true
unfolding held
code_held file a h = is_some_map _ (holder is_code_section file a 4) (and_second (a % 4 == 0) _ h)

-- the section that is found for an address of code has it
pub code_holder : (file : List ℕ) (a : ℕ) (items : List Section) (found : Option Section) → AreLoaded file (section_count file) items → IsHolder items a 4 found
    → is_code file a ≡ true → (s : Section) × (found ≡ Some s) × (holder is_code_section file a 4 ≡ Some s) × (s.address ≤ a) × (a + 4 ≤ s.address + s.size)
code_holder file a items None table h code =
    let e = holder_is is_code_section file a 4 items None (omega arith) (asks_loaded Code) table h in
    absurd (let c = code_held file a code in let d = sym (ap is_some e) ∙ c in false≢true d)
code_holder file a items (Some s) table h code = by (is_code_section s) refl
  where
    e : holder is_code_section file a 4 ≡ filtered is_code_section (Some s)
    e = holder_is is_code_section file a 4 items (Some s) (omega arith) (asks_loaded Code) table h

    by : (b : Bool) → is_code_section s ≡ b → (t : Section) × (Some s ≡ Some t) × (holder is_code_section file a 4 ≡ Some t)
        × (t.address ≤ a) × (a + 4 ≤ t.address + t.size)
    by true q = let m = holds_means s a 4 h.1 in (let f : filtered is_code_section (Some s) ≡ Some s = rw q refl in (s, refl, e ∙ f, m.0, m.1))
    by false q = absurd (let f : filtered is_code_section (Some s) ≡ None = rw q refl in let c = code_held file a code in let d =
        sym (ap is_some (e ∙ f)) ∙ c in false≢true d)

-- the extent, from the functions on both sides of an address
pub extent_from : (file : List ℕ) (a place low high : ℕ) (s : Section) (xs : List ℕ) → holder is_code_section file a 4 ≡ Some s
    → s.address ≤ a → a + 4 ≤ s.address + s.size
    → xs ≡ functions file → place ≤ length xs → ((k : ℕ) → k < place → get_or xs k 0 ≤ a) → ((k : ℕ) → place ≤ k → k < length xs → a < get_or xs k 0)
    → Rise xs → IsStart xs place s.address low → IsEnd xs place (s.address + s.size) high → IsExtent file a low high
extent_from file a place low high s xs code from to same within below above rise start end = record {
  section = s;
  code = code;
  inside = (start.above, end.below);
  around = (
    ⊎_elim (λ e. omega arith) (λ f. let b = below f.0 f.1 in let q = f.2 in omega arith) start.one,
    ⊎_elim (λ e. omega arith) (λ f. let b = above place (omega arith) f.0 in let q = f.1 in omega arith) end.one,
  );
  starts = ⊎_elim (λ e. inl e) (λ f. inr (subst (λ ys. Contains ys low) same
      (f.0, (let h = f.1 in omega arith), get_or_default xs f.0 low 0 (let h = f.1 in omega arith) ∙ f.2))) start.one;
  ends = ⊎_elim (λ e. inl e) (λ f. inr (subst (λ ys. Contains ys high) same (place, f.0, get_or_default xs place high 0 f.0 ∙ f.1))) end.one;
  none = λ f c. none f (subst (λ ys. Contains ys f) (sym same) c);
}
  where
    none : (f : ℕ) → Contains xs f → (f ≤ low) ⊎ (high ≤ f)
    none f c =
        let at = get_or_default xs c.0 0 f c.1 ∙ c.2 in
        ⊎_elim
        (λ lt. inl (let l = start.last (omega arith) in
        ⊎_elim (λ before. let r = rise c.0 (place - 1) before (omega arith) in omega arith)
        (λ ge. let e : c.0 ≡ place - 1 = omega arith in let q = ap (λ (k : ℕ). get_or xs k 0) e in omega arith) (cases_lt c.0 (place - 1))))
        (λ ge. inr (let plt : place < length xs = (let h = c.1 in omega arith) in let n = end.next plt in
        ⊎_elim (λ behind. let r = rise place c.0 behind c.1 in omega arith)
        (λ le. let e : place ≡ c.0 = omega arith in let q = ap (λ (k : ℕ). get_or xs k 0) e in omega arith) (cases_lt place c.0)))
        (cases_lt c.0 place)
