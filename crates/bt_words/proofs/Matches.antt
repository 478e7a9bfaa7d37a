-- Words without a fault are matched with all that their subcommand asks for.
use Rattle.std.proofs.Common.{◌≡◌, ◌∙◌, ◌<◌, ◌||◌, ℕ, Bool, cond, codes, true, false, not, List, [], ◌∷◌, ◌++◌, length, Option, Some, None, option_map, is_some, inl, inr, refl, sym, ap, subst, arith}
use Rattle.std.specs.Prelude.{find, option_and_then, pos, slice_get, unwrap_or}
use Rattle.std.specs.List.{fold}
use Rattle.std.specs.Option.{option_map_or}
use Rattle.std.specs.Str.{bytes_eq}
use Rattle.std.proofs.lemmas.Slice.Eq.{bytes_eq-Decides}
use Rattle.clap.specs.Facts.{explicit_source, parser_of_value}
use Rattle.clap.specs.Faults.{check_fault, entered_fault, fault_of, level_fault, values_fault}
use Rattle.clap.specs.Kinds.{check_kinds}
use Rattle.clap.specs.Simple.{App, Shape, built, built_leaf, entered, inherited, label_of, marked_built, names_of, on_top, rows_at, subcommand_of, with_leaf_noted}
use Rattle.clap.specs.Takes.{is_given}
use Rattle.clap.specs.ValueTests.{accepts}
use Rattle.clap.specs.Values.{read_as}
use Rattle.clap.specs.Words.{IsSignedIn, without_minus}
use Rattle.clap.specs.Walk.{Row, Rule, Text, answers_to, arg_by_id, default_rows, has_row, more_values, nothing_held, reading_by, row_text, rows_after, settled, walk, with_default, with_values}
use Rattle.clap.specs.declared.builder.value_parser.ValueParser.TheVariants as vp
use Rattle.clap.specs.declared.error.ErrorKind.{ErrorKind}
use Rattle.clap.specs.declared.parser.matches.ValueSource.{ValueSource}
use Rattle.clap.specs.declared.parser.matches.ValueSource.TheVariants.{DefaultValue}
use Rattle.clap.proofs.ValueTestLemmas.{accepts-Accepts}
use Rattle.bt_words.specs.App.{boundt_app, decode_shape, files_shape, gen_shape, workers_rule}
use Rattle.bt_words.specs.Match.{HasNumber, HasText, HasWorkerNumber, IsFilesMatch, IsGenMatch, IsMatched}
use Rattle.bt_words.proofs.Rows.{Each, Fits, IsFit, IsPlainRule, both_pass, each_found, some_injective}
use Rattle.bt_words.proofs.Walks.{level_fits}

-- ---- the row of an argument

found_passes : {X : Type 0} (p : X → Bool) (xs : List X) (x : X) → find p xs ≡ Some x → p x ≡ true
found_passes p [] x e = cc
found_passes p (y ∷ ys) x e = go (p y) refl e (found_passes p ys x)
  where
    go : (b : Bool) → p y ≡ b → cond b (Some y) (find p ys) ≡ Some x → (find p ys ≡ Some x → p x ≡ true) → p x ≡ true
    go true at is later = subst (λ z. p z ≡ true) (some_injective y x is) at
    go false at is later = later is

abbrev row_by_id : Text → List Row → Option Row
row_by_id id rows = find (λ r. bytes_eq r.id id) rows

given_row : (id : Text) (rows : List Row) → is_given id rows ≡ true → (r : Row) × (row_by_id id rows ≡ Some r)
given_row id rows e = go (row_by_id id rows) refl e
  where
    go : (o : Option Row) → row_by_id id rows ≡ o → option_map_or (λ r. explicit_source r.source) o false ≡ true → (r : Row) × (row_by_id id rows ≡ Some r)
    go None at e = cc
    go (Some r) at e = (r, at)

row_there : (id : Text) (rows : List Row) → has_row id rows ≡ true → (r : Row) × (row_by_id id rows ≡ Some r)
row_there id [] e = cc
row_there id (x ∷ xs) e = go (bytes_eq x.id id) e (row_there id xs)
  where
    go : (b : Bool) → (b || has_row id xs) ≡ true → (has_row id xs ≡ true → (r : Row) × (row_by_id id xs ≡ Some r))
        → (r : Row) × (cond b (Some x) (row_by_id id xs) ≡ Some r)
    go true e later = (x, refl)
    go false e later = later e

fit_row : (c : List Rule) (a : Rule) (id : Text) (rows : List Row) (r : Row) → Each (IsFit c) rows → arg_by_id c id ≡ Some a → row_by_id id rows ≡ Some r → Fits a r
fit_row c a id rows r fits known found =
    let fit = each_found (IsFit c) (λ (r : Row). bytes_eq r.id id) rows r fits found in
    let same = (bytes_eq-Decides r.id id).0 (found_passes (λ (r : Row). bytes_eq r.id id) rows r found) in
    fit a (ap (arg_by_id c) same ∙ known)

first_some : (xs : List Text) → 0 < length xs → is_some (slice_get xs 0) ≡ true
first_some [] lt = absurd (omega arith)
first_some (x ∷ xs) lt = refl

-- an argument that was given has a value
given_text : (c : List Rule) (a : Rule) (id : Text) (rows : List Row) → Each (IsFit c) rows → arg_by_id c id ≡ Some a → is_given id rows ≡ true → HasText id rows
given_text c a id rows fits known given =
    let row = given_row id rows given in
    let fit = fit_row c a id rows row.0 fits known row.1 in
    ap (λ o. is_some (option_and_then (λ (r : Row). slice_get r.values 0) o)) row.1 ∙ first_some row.0.values fit.0

-- ---- an argument with a default

placed : (id : Text) (a : Rule) (s : ValueSource) (values : List Text) (rows : List Row) → bytes_eq id id ≡ true
    → has_row id (with_values id (reading_by a) s values rows) ≡ true
placed id a s values [] self = rw self refl
placed id a s values (r ∷ rs) self = go (bytes_eq r.id id) refl (placed id a s values rs self)
  where
    go : (b : Bool) → bytes_eq r.id id ≡ b → has_row id (with_values id (reading_by a) s values rs) ≡ true
        → has_row id (cond b (more_values s values r ++ rs) (r ∷ with_values id (reading_by a) s values rs)) ≡ true
    go true at later = rw at refl
    go false at later = rw at later

default_there : (a : Rule) (v : Text) (vs : List Text) (rows : List Row) → a.defaults ≡ v ∷ vs → bytes_eq a.id a.id ≡ true → has_row a.id (with_default rows a) ≡ true
default_there a v vs rows defaults self = go (has_row a.id rows) refl
  where
    go : (b : Bool) → has_row a.id rows ≡ b → has_row a.id (cond b rows (default_rows a.id (reading_by a) a.defaults rows)) ≡ true
    go true at = at
    go false at = subst (λ (d : List Text). has_row a.id (default_rows a.id (reading_by a) d rows) ≡ true) (sym defaults) (placed a.id a DefaultValue (v ∷ vs) rows self)

default_last : (x y z a : Rule) (v : Text) (vs : List Text) (rows : List Row) → a.defaults ≡ v ∷ vs → bytes_eq a.id a.id ≡ true
    → has_row a.id (fold with_default rows (x ∷ y ∷ z ∷ a ∷ [])) ≡ true
default_last x y z a v vs rows defaults self = default_there a v vs (with_default (with_default (with_default rows x) y) z) defaults self

-- the same of the last of two rules
default_second : (x a : Rule) (v : Text) (vs : List Text) (rows : List Row) → a.defaults ≡ v ∷ vs → bytes_eq a.id a.id ≡ true
    → has_row a.id (fold with_default rows (x ∷ a ∷ [])) ≡ true
default_second x a v vs rows defaults self = default_there a v vs (with_default rows x) defaults self

passed : (b : Bool) (k : ErrorKind) → cond b [] (k ∷ []) ≡ [] → b ≡ true
passed true k e = refl
passed false k e = cc

first_of_row : (a : Rule) (vs : List Text) → 0 < length vs → values_fault a vs ≡ []
    → (v : Text) × (slice_get vs 0 ≡ Some v) × (accepts a.ignore_case (parser_of_value a.parser) v ≡ true)
first_of_row a [] lt e = absurd (omega arith)
first_of_row a (v ∷ vs) lt e = (v, refl, passed _ _ (both_pass _ _ e).0)

-- ---- the subcommands, as they are built

abbrev pub built_sub : Shape → Shape
built_sub s = built_leaf (inherited (on_top with_leaf_noted (on_top marked_built boundt_app)).top s)

abbrev pub files_built : Text → Shape
files_built command = built_sub (files_shape command)

abbrev pub bound_built : Shape
bound_built = files_built (codes "bound")

abbrev pub graph_built : Shape
graph_built = files_built (codes "graph")

abbrev pub decode_built : Shape
decode_built = built_sub decode_shape

abbrev pub gen_built : Shape
gen_built = built_sub gen_shape

abbrev rule_in : Shape → Text → Rule
rule_in s id = unwrap_or (arg_by_id s.rules id) workers_rule

abbrev workers_built : Rule
workers_built = rule_in bound_built (codes "workers")

abbrev functions_built : Rule
functions_built = rule_in gen_built (codes "N")

files_plain : (command : Text) → Each (IsPlainRule (files_built command).rules) (files_built command).rules
files_plain command = ((refl, omega arith, refl), ((refl, omega arith, refl), ((refl, omega arith, refl), ((refl, omega arith, refl), tt))))

decode_plain : Each (IsPlainRule decode_built.rules) decode_built.rules
decode_plain = ((refl, omega arith, refl), tt)

gen_plain : Each (IsPlainRule gen_built.rules) gen_built.rules
gen_plain = ((refl, omega arith, refl), ((refl, omega arith, refl), tt))

-- the number in the row of an argument that takes one
row_number : (c : List Rule) (a : Rule) (id : Text) (most : ℕ) (rows : List Row) (r : Row) → Each (IsFit c) rows → arg_by_id c id ≡ Some a
    → row_by_id id rows ≡ Some r → ((v : Text) → read_as (reading_by a) v ≡ without_minus v)
    → ((v : Text) → accepts a.ignore_case (parser_of_value a.parser) v ≡ true → IsSignedIn (pos 1) (pos most) v) → HasNumber id most rows
row_number c a id most rows r fits known found plainly tests =
    let fit = fit_row c a id rows r fits known found in
    let first = first_of_row a r.values fit.0 fit.1 in
    record {
      text = first.0;
      read = ap (option_and_then row_text) found ∙ ap (option_map (read_as r.reading)) first.1 ∙ ap (λ how. Some (read_as how first.0)) fit.2
          ∙ ap Some (plainly first.0);
      within = tests first.0 first.2;
    }

has_workers : (c : List Rule) (rows : List Row) → Each (IsFit c) rows → arg_by_id c (codes "workers") ≡ Some workers_built
    → has_row (codes "workers") rows ≡ true → HasWorkerNumber rows
has_workers c rows fits known there =
    let row = row_there (codes "workers") rows there in
    row_number c workers_built (codes "workers") 64 rows row.0 fits known row.1 (λ v. refl) (λ v e. accepts-Accepts false (vp.Signed (pos 1) (pos 64)) v e)

all_given : (x y z : Bool) → check_kinds false false (not x || (not y || (not z || false))) ≡ [] → (x ≡ true) × (y ≡ true) × (z ≡ true)
all_given true true true e = (refl, refl, refl)
all_given false y z e = cc
all_given true false z e = cc
all_given true true false e = cc

one_given : (x : Bool) → check_kinds false false (not x || false) ≡ [] → x ≡ true
one_given true e = refl
one_given false e = cc

files_matched : (command : Text) (words : List Text) → level_fault (files_built command) [] nothing_held words false [] ≡ [] → IsFilesMatch (rows_after (files_built command).rules [] words)
files_matched command words e =
    let level = level_fits (files_built command) (files_plain command) [] words false [] e in
    let rows = rows_after (files_built command).rules [] words in
    let given = all_given (is_given (codes "IMAGE") rows) (is_given (codes "CYCLES") rows) (is_given (codes "ASSERTIONS") rows) level.2 in
    record {
      image = given_text (files_built command).rules (rule_in (files_built command) (codes "IMAGE")) (codes "IMAGE") rows level.0 refl given.0;
      cycles = given_text (files_built command).rules (rule_in (files_built command) (codes "CYCLES")) (codes "CYCLES") rows level.0 refl given.1;
      assertions = given_text (files_built command).rules (rule_in (files_built command) (codes "ASSERTIONS")) (codes "ASSERTIONS") rows level.0 refl given.2;
      workers = has_workers (files_built command).rules rows level.0 refl (default_last (rule_in (files_built command) (codes "IMAGE")) (rule_in (files_built command) (codes "CYCLES")) (rule_in (files_built command) (codes "ASSERTIONS"))
          workers_built (codes "1") [] (settled (files_built command).rules (walk (files_built command).rules [] nothing_held words).held).rows refl refl);
    }

decode_matched : (words : List Text) → level_fault decode_built [] nothing_held words false [] ≡ [] → HasText (codes "IMAGE") (rows_after decode_built.rules [] words)
decode_matched words e =
    let level = level_fits decode_built decode_plain [] words false [] e in
    let rows = rows_after decode_built.rules [] words in
    given_text decode_built.rules (rule_in decode_built (codes "IMAGE")) (codes "IMAGE") rows level.0 refl (one_given (is_given (codes "IMAGE") rows) level.2)

gen_matched : (words : List Text) → level_fault gen_built [] nothing_held words false [] ≡ [] → IsGenMatch (rows_after gen_built.rules [] words)
gen_matched words e =
    let level = level_fits gen_built gen_plain [] words false [] e in
    let rows = rows_after gen_built.rules [] words in
    let row = given_row (codes "N") rows (one_given (is_given (codes "N") rows) level.2) in
    record {
      functions = row_number gen_built.rules functions_built (codes "N") 4000 rows row.0 level.0 refl row.1 (λ v. refl)
          (λ v e. accepts-Accepts false (vp.Signed (pos 1) (pos 4000)) v e);
      workers = has_workers gen_built.rules rows level.0 refl (default_second functions_built workers_built (codes "1") []
          (settled gen_built.rules (walk gen_built.rules [] nothing_held words).held).rows refl refl);
    }

-- ---- the whole command line

abbrev pub top_built : App
top_built = built boundt_app

-- the subcommand that the first word names
abbrev named : Bool → Bool → Bool → Bool → Option Shape
named b g d n = cond b (Some bound_built) (cond g (Some graph_built) (cond d (Some decode_built) (cond n (Some gen_built) None)))

entered_matched : (rows : List Row) (words : List Text) (b g d n : Bool)
    → option_map_or (λ s. level_fault s [] nothing_held words false []) (named b g d n) [] ≡ []
    → check_fault top_built.top rows (is_some (option_map (λ s. rows_at s words) (named b g d n))) ≡ []
    → IsMatched (option_map (λ s. rows_at s words) (named b g d n))
entered_matched rows words true g d n e check = inl (refl, files_matched (codes "bound") words e)
entered_matched rows words false true d n e check = inr (inl (refl, files_matched (codes "graph") words e))
entered_matched rows words false false true n e check = inr (inr (inl (refl, decode_matched words e)))
entered_matched rows words false false false true e check = inr (inr (inr (refl, gen_matched words e)))
entered_matched rows words false false false false e check = cc

pub matched : (words : List Text) → fault_of boundt_app words ≡ [] → IsMatched (subcommand_of boundt_app words)
matched words e =
    let stop = (walk top_built.top.rules (names_of top_built) nothing_held words).stopped in
    let level = level_fits top_built.top tt (names_of top_built) words (is_some (entered top_built stop)) (entered_fault top_built stop) e in
    go stop level.1 level.2
  where
    go : (o : Option (Text × List Text)) → entered_fault top_built o ≡ []
        → check_fault top_built.top (rows_after top_built.top.rules (names_of top_built) words) (is_some (entered top_built o)) ≡ []
        → IsMatched (entered top_built o)
    go None e check = cc
    go (Some p) e check = entered_matched (rows_after top_built.top.rules (names_of top_built) words) p.1 (answers_to p.0 (label_of bound_built))
        (answers_to p.0 (label_of graph_built)) (answers_to p.0 (label_of decode_built)) (answers_to p.0 (label_of gen_built)) e check
