-- Each code address has a word, since a code section is read-only.
use Rattle.std.proofs.Common.{◌≡◌, ℕ, zero, suc, Bool, true, false, ◌&&◌, List, Option, Some, None, refl, if◌then◌else◌}
use Rattle.std.specs.Prelude.{◌==◌, ◌||◌, ◌%◌, not, is_some}
use Rattle.std.specs.Option.{option_map, option_or}
use Rattle.std.proofs.lemmas.Bool.{and_parts, false≢true}
use Rattle.bt_image.specs.File.{section_count}
use Rattle.bt_image.specs.Image.{held, holder, holding, is_code, word}
use Rattle.bt_image.specs.Least.{first_of}
use Rattle.bt_image.specs.Section.{holds, section_at, is_loaded, is_executable, is_writable, is_code_section, is_read_only_section}
use Rattle.bt_image.specs.declared.section.Section.{Section}

or_more : {X : Type 0} (a b c d : Option X) → (is_some a ≡ true → is_some c ≡ true) → (is_some b ≡ true → is_some d ≡ true)
    → is_some (option_or a b) ≡ true → is_some (option_or c d) ≡ true
or_more a b (Some x) d first second h = refl
or_more (Some x) b None d first second h = absurd (false≢true (first refl))
or_more None b None d first second h = second h

-- where a first is found, one is found by a test that lets more pass
first_more : {X : Type 0} (f g : ℕ → Option X) → ((k : ℕ) → is_some (f k) ≡ true → is_some (g k) ≡ true) → (n : ℕ)
    → is_some (first_of f n) ≡ true → is_some (first_of g n) ≡ true
first_more f g more zero h = absurd (false≢true h)
first_more f g more (suc n) h = or_more (first_of f n) (f n) (first_of g n) (g n) (first_more f g more n) (more n) h

passing_more : (loaded executable writable within : Bool) (s : Section) → is_some (if (loaded && executable) && within then Some s else None) ≡ true
    → is_some (if (loaded && (executable || not writable)) && within then Some s else None) ≡ true
passing_more false executable writable within s h = absurd (false≢true h)
passing_more true false writable within s h = absurd (false≢true h)
passing_more true true writable false s h = absurd (false≢true h)
passing_more true true writable true s h = refl

-- a code section that holds some bytes is a read-only one
holding_more : (a n : ℕ) (s : Section) → is_some (holding is_code_section a n s) ≡ true → is_some (holding is_read_only_section a n s) ≡ true
holding_more a n s = passing_more (is_loaded s) (is_executable s) (is_writable s) (holds s a n) s

holder_more : (file : List ℕ) (a n : ℕ) → is_some (holder is_code_section file a n) ≡ true → is_some (holder is_read_only_section file a n) ≡ true
unfolding holder
holder_more file a n =
    first_more (λ k. holding is_code_section a n (section_at file k)) (λ k. holding is_read_only_section a n (section_at file k))
    (λ k. holding_more a n (section_at file k)) (section_count file)

mapped : {A B : Type 0} (f : A → B) (o : Option A) → is_some o ≡ true → is_some (option_map f o) ≡ true
mapped f None h = h
mapped f (Some x) h = refl

unmapped : {A B : Type 0} (f : A → B) (o : Option A) → is_some (option_map f o) ≡ true → is_some o ≡ true
unmapped f None h = h
unmapped f (Some x) h = refl

held_more : (file : List ℕ) (a n : ℕ) → is_some (held is_code_section file a n) ≡ true → is_some (held is_read_only_section file a n) ≡ true
unfolding held
held_more file a n h = mapped _ (holder is_read_only_section file a n) (holder_more file a n (unmapped _ (holder is_code_section file a n) h))

found : (aligned : Bool) {A : Type 0} (f : A → ℕ) (o : Option A) → aligned ≡ true → is_some o ≡ true
    → (w : ℕ) × ((if aligned then option_map f o else None) ≡ Some w)
found false f o aligned h = absurd (false≢true aligned)
found true f None aligned h = absurd (false≢true h)
found true f (Some x) aligned h = (f x, refl)

-- each address of code has a word
pub code_has_word : (image : List ℕ) (a : ℕ) → is_code image a ≡ true → (w : ℕ) × (word image a ≡ Some w)
code_has_word image a code =
    let both = and_parts (a % 4 == 0) (is_some (held is_code_section image a 4)) code in
    found (a % 4 == 0) _ (held is_read_only_section image a 4) both.0 (held_more image a 4 both.1)
