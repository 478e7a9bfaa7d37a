-- The first word of words without a fault is a command: the command line has no option of its own.
use Rattle.std.proofs.Common.{◌≡◌, ◌⊎◌, ℕ, Bool, cond, codes, true, false, zero, suc, List, [], ◌∷◌, length, Option, Some, None, is_some, inl, inr}
use Rattle.std.proofs.Common.{refl, sym, ap, subst}
use Rattle.std.specs.Prelude.{slice_get}
use Rattle.std.specs.List.{fold}
use Rattle.std.specs.Option.{option_map_or}
use Rattle.std.specs.Str.{bytes_eq, chars}
use Rattle.std.proofs.lemmas.Slice.Eq.{bytes_eq-Decides}
use Rattle.clap.specs.Lexer.{long_of, short_of}
use Rattle.clap.specs.Faults.{bundle_fault, bundle_step_fault, check_fault, entered_fault, flag_word_fault, flags_fault, other_fault, step_fault}
use Rattle.clap.specs.Faults.{turn_fault, walk_fault}
use Rattle.clap.specs.Kinds.{Kinds, or_else}
use Rattle.clap.specs.Simple.{Shape, entered, names_of}
use Rattle.clap.specs.Walk.{Held, Names, Outcome, Step, Text, Walk, after_flag, after_step, bundle_met, bundle_step, idle, long_or_other}
use Rattle.clap.specs.Walk.{nothing_held, plain, short_or_plain, subcommand_met, subcommand_or_other, trailing, value, walk, walk_from, walked}
use Rattle.bt_words.specs.Law.{CommandsComeFirst}
use Rattle.bt_words.proofs.Matches.{top_built}
use Rattle.bt_words.proofs.Rows.{both_pass}
use Rattle.bt_words.proofs.Walks.{level_fits}

-- where there is no argument, a word that is no flag is a value

no_flags : (k : ℕ) (flags : Text) (h : Held) → flags_fault [] false k flags 0 h ≡ [] → bundle_met [] k flags 0 plain h ≡ (h, plain)
unfolding flags_fault bundle_met
no_flags zero flags h e = refl
no_flags (suc k) flags h e = go (slice_get (chars flags) 0) e
  where
    go : (o : Option ℕ) → bundle_step_fault [] false o flags 0 h (flags_fault [] false k) ≡ [] → bundle_step [] o flags 0 plain h (bundle_met [] k) ≡ (h, plain)
    go None e = refl
    go (Some x) e = cc

no_short : (word : Text) (flags : Option Text) → option_map_or (λ f. bundle_fault [] false f nothing_held) flags [] ≡ []
    → short_or_plain [] idle word flags nothing_held ≡ (nothing_held, value)
no_short word None e = refl
no_short word (Some flags) e = ap (λ (p : Held × Outcome). after_flag [] idle word p.0 p.1) (no_flags (length flags) flags nothing_held e)

no_long : (word : Text) (long : Option (Text × Option Text)) → flag_word_fault [] false long word nothing_held ≡ []
    → long_or_other [] idle word long nothing_held ≡ (nothing_held, value)
no_long word None e = no_short word (short_of word) e
no_long word (Some p) e = cc

abbrev top : Shape
top = top_built.top

abbrev names : Names
names = names_of top_built

abbrev before : Walk
before = walk_from nothing_held

abbrev ended : Walk
ended = record before { is_trailing = true }

-- after `--` there is no word
no_more : (rest : List Text) → walk_fault top names ended rest ≡ [] → rest ≡ []
unfolding walk_fault
no_more [] e = refl
no_more (x ∷ xs) e =
    let bad : turn_fault top names ended x ≡ [] = (both_pass (turn_fault top names ended x) (walk_fault top names (walked [] names ended x) xs) e).0 in
    cc

abbrev checked : Walk → Kinds
checked w = check_fault top [] (is_some (entered top_built w.stopped))

-- a first word that names no command leaves a fault
no_command : (first : Text) (rest : List Text) (d : Bool)
    → or_else (cond d [] (flag_word_fault [] false (long_of first) first nothing_held))
    (step_fault top 1 (cond d (nothing_held, trailing 1) (long_or_other [] idle first (long_of first) nothing_held)).0
    (cond d (nothing_held, trailing 1) (long_or_other [] idle first (long_of first) nothing_held)).1) ≡ []
    → walk_fault top names (after_step [] first before (cond d (nothing_held, trailing 1) (long_or_other [] idle first (long_of first) nothing_held)).0
    (cond d (nothing_held, trailing 1) (long_or_other [] idle first (long_of first) nothing_held)).1) rest ≡ []
    → checked (fold (walked [] names) (after_step [] first before
    (cond d (nothing_held, trailing 1) (long_or_other [] idle first (long_of first) nothing_held)).0
    (cond d (nothing_held, trailing 1) (long_or_other [] idle first (long_of first) nothing_held)).1) rest) ≡ [] → ⊥
no_command first rest true turn later check =
    let none = no_more rest later in
    let bad : checked ended ≡ [] = subst (λ (r : List Text). checked (fold (walked [] names) ended r) ≡ []) none check in
    cc
no_command first rest false turn later check =
    let parts = both_pass (flag_word_fault [] false (long_of first) first nothing_held) _ turn in
    let bad : step_fault top 1 nothing_held value ≡ [] =
    subst (λ (p : Held × Step). step_fault top 1 p.0 p.1 ≡ []) (no_long first (long_of first) parts.0) parts.1 in
    cc

abbrev met : Option Text → Text → Held × Step
met o first = subcommand_or_other [] o idle 1 first nothing_held

first_met : (first : Text) (rest : List Text) → subcommand_met names idle first ≡ None → walk_fault top names before (first ∷ rest) ≡ []
    → checked (walk [] names nothing_held (first ∷ rest)) ≡ [] → ⊥
unfolding walk_fault walked
first_met first rest none faultless check =
    let parts = both_pass (turn_fault top names before first) _ faultless in
    let turn = subst (λ (o : Option Text). or_else (other_fault top o first nothing_held) (step_fault top 1 (met o first).0 (met o first).1) ≡ [])
    none parts.0 in
    let later = subst (λ (o : Option Text). walk_fault top names (after_step [] first before (met o first).0 (met o first).1) rest ≡ []) none parts.1 in
    let last = subst (λ (o : Option Text). checked (fold (walked [] names) (after_step [] first before (met o first).0 (met o first).1) rest) ≡ [])
    none check in
    no_command first rest (bytes_eq first (45 ∷ 45 ∷ [])) turn later last

-- in words without a fault a command comes first
pub commands_come_first : CommandsComeFirst
commands_come_first first rest e =
    go (bytes_eq (codes "bound") first) refl (bytes_eq (codes "graph") first) refl (bytes_eq (codes "decode") first) refl
    (bytes_eq (codes "gen") first) refl
  where
    go : (b : Bool) → bytes_eq (codes "bound") first ≡ b → (g : Bool) → bytes_eq (codes "graph") first ≡ g → (d : Bool)
        → bytes_eq (codes "decode") first ≡ d → (n : Bool) → bytes_eq (codes "gen") first ≡ n
        → (first ≡ codes "bound") ⊎ ((first ≡ codes "graph") ⊎ ((first ≡ codes "decode") ⊎ (first ≡ codes "gen")))
    go true at g at1 d at2 n at3 = inl (sym ((bytes_eq-Decides (codes "bound") first).0 at))
    go false at true at1 d at2 n at3 = inr (inl (sym ((bytes_eq-Decides (codes "graph") first).0 at1)))
    go false at false at1 true at2 n at3 = inr (inr (inl (sym ((bytes_eq-Decides (codes "decode") first).0 at2))))
    go false at false at1 false at2 true at3 = inr (inr (inr (sym ((bytes_eq-Decides (codes "gen") first).0 at3))))
    go false at false at1 false at2 false at3 =
        let none : subcommand_met names idle first ≡ None = rw (at, at1, at2, at3) refl in
        let stop = (walk [] names nothing_held (first ∷ rest)).stopped in
        let level = level_fits top tt names (first ∷ rest) (is_some (entered top_built stop)) (entered_fault top_built stop) e in
        absurd (first_met first rest none (both_pass (walk_fault top names before (first ∷ rest)) _ e).0 level.2)
