-- What files that are told come to, in the order of refusals.
use Rattle.std.proofs.Common.{◌≡◌, ℕ, ◌≤◌, ◌<◌, Bool, true, false, cond, List, length, Option, Some, None, Result, Ok, Err, nat_lt, ap, subst, ◌∙◌, arith}
use Rattle.std.proofs.lemmas.Bool.Decides.{nat_tests}
use Rattle.assert_bind.specs.Binding.{binding}
use Rattle.assert_bind.specs.declared.body.BoundAssertion.{BoundAssertion}
use Rattle.assert_lang.specs.Text.{assertions_of}
use Rattle.bt_command.specs.Call.{longest_image, longest_table, longest_assertions, AgreesWith, IsTooLong, Reading, HasImage, HasCosts}
use Rattle.bt_command.specs.Files.{Names, HasFiles, AreTold}
use Rattle.bt_command.specs.Order.{Stated, of_bound, of_parsed, of_text, of_costs, of_table, of_check, of_files}
use Rattle.bt_command.specs.declared.status.LimitFault.TheVariants.{TooLong}
use Rattle.bt_command.specs.declared.status.Status.TheVariants.{Limit}
use Rattle.bt_image.specs.Refusal.{first_refusal}
use Rattle.cycle_table.specs.Table.{table_of}

-- what a file agrees with is what it tells
pub agrees : (told : Option (List ℕ)) (bytes those : List ℕ) → AgreesWith told bytes → told ≡ Some those → bytes ≡ those
agrees None bytes those h e = cc
agrees (Some x) bytes those h e = cc

-- within a limit
pub not_over : (limit : ℕ) (bytes : List ℕ) → length bytes ≤ limit → nat_lt limit (length bytes) ≡ false
not_over limit bytes h = grind (arith, nat_tests)

-- and past it
pub over : (limit : ℕ) (bytes : List ℕ) → limit < length bytes → nat_lt limit (length bytes) ≡ true
over limit bytes h = grind (arith, nat_tests)

-- a told file that is too long
pub told_over : (told : Option (List ℕ)) (limit : ℕ) (bytes : List ℕ) → told ≡ Some bytes → IsTooLong told limit → limit < length bytes
told_over None limit bytes e h = cc
told_over (Some x) limit bytes e h =
    let same : x ≡ bytes = cc in
    subst (λ (b : List ℕ). limit < length b) same h

-- an image within its limit comes to its check
pub past_image : (image table text : List ℕ) → length image ≤ longest_image → of_files image table text ≡ of_check image table text (first_refusal image)
past_image image table text h =
    ap (λ (b : Bool). cond b (Err (Limit (TooLong 1 longest_image))) (of_check image table text (first_refusal image))) (not_over longest_image image h)

-- a table within its limit comes to its costs
pub past_table : (image table text : List ℕ) → length table ≤ longest_table → of_table image table text ≡ of_costs image text (table_of table)
past_table image table text h =
    ap (λ (b : Bool). cond b (Err (Limit (TooLong 2 longest_table))) (of_costs image text (table_of table))) (not_over longest_table table h)

-- a text within its limit comes to its assertions
past_text : (image text costs : List ℕ) → length text ≤ longest_assertions → of_text image text costs ≡ of_parsed image costs (assertions_of text)
past_text image text costs h =
    ap (λ (b : Bool). cond b (Err (Limit (TooLong 3 longest_assertions))) (of_parsed image costs (assertions_of text))) (not_over longest_assertions text h)

-- a told file that is an image
pub told_image : (told : Option (List ℕ)) (image' image table text : List ℕ) → HasImage told image' → told ≡ Some image
    → of_files image table text ≡ of_table image table text
told_image told image' image table text h e =
    let same : image' ≡ image = agrees told image' image h.file.same e in
    let fits : length image ≤ longest_image = subst (λ (i : List ℕ). length i ≤ longest_image) same h.file.within in
    let fine : first_refusal image ≡ None = subst (λ (i : List ℕ). first_refusal i ≡ None) same h.accepted in
    past_image image table text fits ∙ ap (of_check image table text) fine

-- a told file that is a table
pub told_table : (told : Option (List ℕ)) (costs image table text : List ℕ) → HasCosts told costs → told ≡ Some table
    → of_table image table text ≡ of_text image text costs
told_table told costs image table text h e =
    let same : h.table ≡ table = agrees told h.table table h.file.same e in
    let fits : length table ≤ longest_table = subst (λ (t : List ℕ). length t ≤ longest_table) same h.file.within in
    let fine : table_of table ≡ Ok costs = subst (λ (t : List ℕ). table_of t ≡ Ok costs) same h.accepted in
    past_table image table text fits ∙ ap (of_costs image text) fine

-- a told text of assertions within its limit
pub told_text : (told : Option (List ℕ)) (image costs text' text : List ℕ) (parsed : _) → AgreesWith told text' → length text' ≤ longest_assertions
    → assertions_of text' ≡ parsed → told ≡ Some text → of_text image text costs ≡ of_parsed image costs parsed
told_text told image costs text' text parsed h w is e =
    let same : text' ≡ text = agrees told text' text h e in
    let fits : length text ≤ longest_assertions = subst (λ (t : List ℕ). length t ≤ longest_assertions) same w in
    let fine : assertions_of text ≡ parsed = subst (λ (t : List ℕ). assertions_of t ≡ parsed) same is in
    past_text image text costs fits ∙ ap (of_parsed image costs) fine

-- behind an accepted image and an accepted table
pub past_both : (read : Reading) (names : Names) (image table text image' costs : List ℕ) → AreTold read names image table text
    → HasImage (read.told names.image) image' → HasCosts (read.told names.cycles) costs → of_files image table text ≡ of_text image text costs
past_both read names image table text image' costs t i c =
    told_image (read.told names.image) image' image table text i t.image_is ∙ told_table (read.told names.cycles) costs image table text c t.table_is

-- accepted files come to what they state
pub accepted_files : (read : Reading) (names : Names) (image table text image' costs : List ℕ) (those : List BoundAssertion)
    → AreTold read names image table text → HasFiles read names image' costs those
    → of_files image table text ≡ Ok (record { costs = costs; those = those })
accepted_files read names image table text image' costs those t f =
    let same : image' ≡ image = agrees (read.told names.image) image' image f.has_image.file.same t.image_is in
    let a = f.has_assertions in
    let bound : binding image a.list ≡ Ok those = subst (λ (i : List ℕ). binding i a.list ≡ Ok those) same a.bound in
    past_both read names image table text image' costs t f.has_image f.has_costs
    ∙ told_text (read.told names.assertions) image costs a.text text (Ok a.list) a.file.same a.file.within a.parsed t.text_is
    ∙ ap (of_bound costs) bound
