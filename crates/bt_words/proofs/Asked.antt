-- Words without a fault ask for something.
use Rattle.std.proofs.Common.{◌≡◌, ◌∙◌, ◌≤◌, ℕ, List, Option, Some, None, codes, inl, inr, is_some, true, option_map, refl, sym, ap, subst}
use Rattle.std.specs.Prelude.{option_and_then}
use Rattle.clap.specs.Words.{Row, Text, first_of, one_of, subcommand_of}
use Rattle.bt_words.specs.App.{boundt_app}
use Rattle.bt_words.specs.Law.{FaultlessWordsAsk}
use Rattle.bt_words.specs.Match.{IsFilesMatch, IsGenMatch, IsMatch, IsMatched}
use Rattle.bt_words.specs.Request.{Asked, HasFunctions, HasWorkers, asked_by, bounds, files_asked, gen_asked, generates, graphs, lists, number_of}
use Rattle.bt_words.proofs.Matches.{matched}
use Rattle.bt_words.proofs.Numbers.{number_as_it_is, number_within}

some_value : {X : Type 0} (o : Option X) → is_some o ≡ true → (x : X) × (o ≡ Some x)
some_value None e = cc
some_value (Some x) e = (x, refl)

abbrev all_of_files : (Text → Text → Text → ℕ → Asked) → Option Text → Option Text → Option Text → Option Text → Option Asked
all_of_files make image cycles assertions workers =
    option_and_then (λ i. option_and_then (λ c. option_and_then (λ a. option_map (λ n. make i c a (number_of n)) workers) assertions) cycles) image

abbrev IsAnswer : Option Asked → Type 0
IsAnswer o = (asked : Asked) × (o ≡ Some asked) × HasWorkers asked × HasFunctions asked

files_answer : (make : Text → Text → Text → ℕ → Asked)
    → ((i c a : Text) (n : ℕ) → (1 ≤ n) × (n ≤ 64) → HasWorkers (make i c a n) × HasFunctions (make i c a n)) → (rows : List Row) → IsFilesMatch rows → IsAnswer (files_asked make rows)
files_answer make within rows h =
    let image = some_value (first_of (codes "IMAGE") rows) h.image in
    let cycles = some_value (first_of (codes "CYCLES") rows) h.cycles in
    let assertions = some_value (first_of (codes "ASSERTIONS") rows) h.assertions in
    let read : one_of (codes "workers") rows ≡ Some h.workers.text = h.workers.read ∙ ap Some (number_as_it_is 64 h.workers.text h.workers.within) in
    let numbers = within image.0 cycles.0 assertions.0 (number_of h.workers.text) (number_within 64 h.workers.text h.workers.within) in (
      make image.0 cycles.0 assertions.0 (number_of h.workers.text),
      (λ i. all_of_files make (image.1 i) (cycles.1 i) (assertions.1 i) (read i)),
      numbers.0,
      numbers.1,
    )

gen_answer : (rows : List Row) → IsGenMatch rows → IsAnswer (gen_asked rows)
gen_answer rows h =
    let functions : one_of (codes "N") rows ≡ Some h.functions.text = h.functions.read ∙ ap Some (number_as_it_is 4000 h.functions.text h.functions.within) in
    let workers : one_of (codes "workers") rows ≡ Some h.workers.text = h.workers.read ∙ ap Some (number_as_it_is 64 h.workers.text h.workers.within) in (
      generates (number_of h.functions.text) (number_of h.workers.text),
      ap (option_and_then (λ f. option_map (λ w. generates (number_of f) (number_of w)) (one_of (codes "workers") rows))) functions
          ∙ ap (option_map (λ w. generates (number_of h.functions.text) (number_of w))) workers,
      number_within 64 h.workers.text h.workers.within,
      number_within 4000 h.functions.text h.functions.within,
    )

answer : (name : Text) (rows : List Row) → IsMatch name rows → IsAnswer (asked_by name rows)
answer name rows (inl h) = subst (λ (n : Text). IsAnswer (asked_by n rows)) (sym h.0) (files_answer (λ i c a n. bounds i c a n) (λ i c a n w. (w, tt)) rows h.1)
answer name rows (inr (inl h)) =
    subst (λ (n : Text). IsAnswer (asked_by n rows)) (sym h.0) (files_answer (λ i c a n. graphs i c a n) (λ i c a n w. (w, tt)) rows h.1)
answer name rows (inr (inr (inr h))) = subst (λ (n : Text). IsAnswer (asked_by n rows)) (sym h.0) (gen_answer rows h.1)
answer name rows (inr (inr (inl h))) =
    let image = some_value (first_of (codes "IMAGE") rows) h.1 in
    subst (λ (n : Text). IsAnswer (asked_by n rows)) (sym h.0) (lists image.0, ap (option_map (λ i. lists i)) image.1, tt, tt)

entered_answer : (entered : Option (Text × List Row)) → IsMatched entered → IsAnswer (option_and_then (λ p. asked_by p.0 p.1) entered)
entered_answer None h = absurd h
entered_answer (Some p) h = answer p.0 p.1 h

-- words without a fault ask for something
pub faultless_words_ask : FaultlessWordsAsk
faultless_words_ask words e =
    let asked = entered_answer (subcommand_of boundt_app words) (matched words e) in
    record { asked = asked.0; request = record { faultless = e; asks = asked.1; workers = asked.2; functions = asked.3 } }
