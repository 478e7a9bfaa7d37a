use Rattle.std.proofs.Common.{◌≡◌, ◌<◌, ◌≤◌, ℕ, List, true, false, length, get_or, sym, ◌∙◌, subst, ap, arith}
use Rattle.std.specs.Prelude.{bytes_eq}
use Rattle.bt_image.specs.Entry.{text}
use Rattle.bt_image.specs.Symbol.{is_before, symbol_strings}
use Rattle.bt_image.specs.declared.entry.Entry.{Entry}
use Rattle.bt_image.proofs.EntryLemmas.{entry_found, entry_missing, no_entry}
use Rattle.bt_image.proofs.entry.entry_in.Goals as goal

-- what is known of the strings that were found is known of those of the file
below_in : (strings found name : List ℕ) (entries : List Entry) (place : ℕ) → found ≡ strings
    → ((k : ℕ) (d : Entry) → k < place → is_before (text found (get_or entries k d)) name ≡ true)
    → (k : ℕ) (d : Entry) → k < place → is_before (text strings (get_or entries k d)) name ≡ true
below_in strings found name entries place same = subst (λ ss. (k : ℕ) (d : Entry) → k < place → is_before (text ss (get_or entries k d)) name ≡ true) same

above_in : (strings found name : List ℕ) (entries : List Entry) (place : ℕ) → found ≡ strings
    → ((k : ℕ) (d : Entry) → place ≤ k → k < length entries → is_before (text found (get_or entries k d)) name ≡ false)
    → (k : ℕ) (d : Entry) → place ≤ k → k < length entries → is_before (text strings (get_or entries k d)) name ≡ false
above_in strings found name entries place same =
    subst (λ ss. (k : ℕ) (d : Entry) → place ≤ k → k < length entries → is_before (text ss (get_or entries k d)) name ≡ false) same

pub returns-then-place-entries : goal.returns-then-place-entries
returns-then-place-entries c =
    let file = c.args.file.now in
    let same = c.checked_strings-strings.ensures in
    sym (entry_missing file c.args.name.now c.args.entries.now c.before-place.result no_entry c.requires.entries c.requires.order
    (below_in (symbol_strings file) _ c.args.name.now c.args.entries.now c.before-place.result same c.before-place.ensures.below)
    (above_in (symbol_strings file) _ c.args.name.now c.args.entries.now c.before-place.result same c.before-place.ensures.above) (λ lt. absurd (omega arith)))

pub returns-then-eq : goal.returns-then-eq
returns-then-eq c =
    let file = c.args.file.now in
    let same = c.checked_strings-strings.ensures in
    let is : bytes_eq (text (symbol_strings file) (get_or c.args.entries.now c.before-place.result no_entry)) c.args.name.now ≡ true =
    (ap (λ (ss : List ℕ). bytes_eq (text ss (get_or c.args.entries.now c.before-place.result no_entry)) c.args.name.now) (sym same)
    ∙ ap (λ (t : List ℕ). bytes_eq t c.args.name.now) (sym c.text.ensures) ∙ sym c.eq.ensures ∙ c.if-eq.true) in
    sym (entry_found file c.args.name.now c.args.entries.now c.before-place.result no_entry c.requires.entries c.requires.order (omega arith)
    (below_in (symbol_strings file) _ c.args.name.now c.args.entries.now c.before-place.result same c.before-place.ensures.below) is)

pub returns : goal.returns
returns c =
    let file = c.args.file.now in
    let same = c.checked_strings-strings.ensures in
    let is : bytes_eq (text (symbol_strings file) (get_or c.args.entries.now c.before-place.result no_entry)) c.args.name.now ≡ false =
    (ap (λ (ss : List ℕ). bytes_eq (text ss (get_or c.args.entries.now c.before-place.result no_entry)) c.args.name.now) (sym same)
    ∙ ap (λ (t : List ℕ). bytes_eq t c.args.name.now) (sym c.text.ensures) ∙ sym c.eq.ensures ∙ c.if-eq.false) in
    sym (entry_missing file c.args.name.now c.args.entries.now c.before-place.result no_entry c.requires.entries c.requires.order
    (below_in (symbol_strings file) _ c.args.name.now c.args.entries.now c.before-place.result same c.before-place.ensures.below)
    (above_in (symbol_strings file) _ c.args.name.now c.args.entries.now c.before-place.result same c.before-place.ensures.above) (λ lt. is))
