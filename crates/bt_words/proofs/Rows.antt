-- Uses of arguments that take one value or more: without a fault they keep that each row has a value, that its
-- values pass the parser of its argument, and that they are read as it says.
use Rattle.std.proofs.Common.{◌≡◌, ◌∙◌, ◌<◌, Bool, cond, true, false, List, [], ◌∷◌, ◌++◌, length, Some, None, refl, sym, ap, subst, arith, lt-ltb}
use Rattle.std.specs.Prelude.{⊤, unwrap_or, find}
use Rattle.std.specs.Str.{bytes_eq}
use Rattle.std.proofs.lemmas.Slice.Eq.{bytes_eq-Decides}
use Rattle.clap.specs.Kinds.{Kinds, or_else, range_kinds, values_kinds}
use Rattle.clap.specs.Faults.{action_fault, set_fault, use_fault, values_fault}
use Rattle.clap.specs.Facts.{parser_of_value, unwrap_or_range}
use Rattle.clap.specs.Walk.{Row, Rule, Text, action_of, arg_by_id, at_row, more_values, most_values, reading_by, stronger, used, used_as, with_values, without}
use Rattle.clap.specs.declared.builder.ArgAction.{ArgAction}
use Rattle.clap.specs.declared.builder.ArgAction.TheVariants.{Set}
use Rattle.clap.specs.declared.builder.value_parser.ValueParser.{ValueParser}
use Rattle.clap.specs.declared.error.ErrorKind.TheVariants.{InvalidValue}
use Rattle.clap.specs.declared.parser.matches.ValueSource.{ValueSource}
use Rattle.clap.specs.declared.parser.matches.ValueSource.TheVariants.{CommandLine}

-- both steps pass
pub both_pass : (a b : Kinds) → or_else a b ≡ [] → (a ≡ []) × (b ≡ [])
both_pass [] b e = (refl, e)
both_pass (k ∷ ks) b e = cc

-- what is there is one
pub some_injective : {X : Type 0} (x y : X) → Some x ≡ Some y → x ≡ y
some_injective x y e = ap (λ o. unwrap_or o x) e

-- each of a list has the property
abbrev pub Each : {X : Type 0} → (X → Type 0) → List X → Type 0
Each P [] = ⊤
Each P (x ∷ xs) = P x × Each P xs

each_append : {X : Type 0} (P : X → Type 0) (xs ys : List X) → Each P xs → Each P ys → Each P (xs ++ ys)
each_append P [] ys h k = k
each_append P (x ∷ xs) ys h k = (h.0, each_append P xs ys h.1 k)

-- what is found in a list has the property that each of it has
pub each_found : {X : Type 0} (P : X → Type 0) (p : X → Bool) (xs : List X) (x : X) → Each P xs → find p xs ≡ Some x → P x
each_found P p [] x h e = cc
each_found P p (y ∷ ys) x h e = go (p y) e (each_found P p ys x h.1)
  where
    go : (b : Bool) → cond b (Some y) (find p ys) ≡ Some x → (find p ys ≡ Some x → P x) → P x
    go true is later = subst P (some_injective y x is) h.0
    go false is later = later is

values_append : (i : Bool) (p : ValueParser) (xs ys : List Text) → values_kinds i p xs ≡ [] → values_kinds i p ys ≡ [] → values_kinds i p (xs ++ ys) ≡ []
values_append i p [] ys e f = f
values_append i p (x ∷ xs) ys e f =
    let h = both_pass _ _ e in
    ap (λ k. or_else k (values_kinds i p (xs ++ ys))) h.0 ∙ values_append i p xs ys h.1 f

longer : (xs ys : List Text) → 0 < length xs → 0 < length (xs ++ ys)
longer [] ys lt = absurd (omega arith)
longer (x ∷ xs) ys lt = omega arith

-- the row has a value, and its values pass the parser of the argument
abbrev pub Fits : Rule → Row → Type 0
Fits a r = (0 < length r.values) × (values_fault a r.values ≡ []) × (r.reading ≡ reading_by a)

module _ (c : List Rule) where
  -- a row whose values fit the rule that it is of
  abbrev pub IsFit : Row → Type 0
  IsFit r = (a : Rule) → arg_by_id c r.id ≡ Some a → Fits a r

  -- the only argument of its id, of which each use has one value or more
  abbrev pub IsPlainRule : Rule → Type 0
  IsPlainRule a = (arg_by_id c a.id ≡ Some a) × (0 < (unwrap_or_range a.range).start_inclusive) × (action_of a ≡ Set)

  at_row_fits : (id : Text) (change : Row → List Row) (missing rows : List Row)
      → ((r : Row) → bytes_eq r.id id ≡ true → IsFit r → Each IsFit (change r)) → Each IsFit missing → Each IsFit rows
      → Each IsFit (at_row id change missing rows)
  at_row_fits id change missing [] changed new h = new
  at_row_fits id change missing (r ∷ rs) changed new h =
      go (bytes_eq r.id id) refl (at_row_fits id change missing rs changed new h.1)
    where
      go : (b : Bool) → bytes_eq r.id id ≡ b → Each IsFit (at_row id change missing rs) → Each IsFit (cond b (change r ++ rs) (r ∷ at_row id change missing rs))
      go true e later = each_append IsFit (change r) rs (changed r e h.0) h.1
      go false e later = (h.0, later)

  -- the row of an argument, with values of its own
  row_fits : (a : Rule) (r : Row) → IsPlainRule a → r.id ≡ a.id → Fits a r → IsFit r
  row_fits a r plain id fit b found =
      let same : a ≡ b = some_injective a b (sym plain.0 ∙ (ap (arg_by_id c) (sym id) ∙ found)) in
      subst (λ (x : Rule). Fits x r) same fit

  fit_of : (a : Rule) (r : Row) → IsPlainRule a → r.id ≡ a.id → IsFit r → Fits a r
  fit_of a r plain id fit = fit a (ap (arg_by_id c) id ∙ plain.0)

  more_fits : (a : Rule) (s : ValueSource) (values : List Text) (r : Row) → IsPlainRule a → values_fault a values ≡ [] → bytes_eq r.id a.id ≡ true → IsFit r
      → Each IsFit (more_values s values r)
  more_fits a s values r plain pass same fit =
      let id = (bytes_eq-Decides r.id a.id).0 same in
      let old = fit_of a r plain id fit in (
        row_fits a (record r { values = r.values ++ values; source = Some (stronger r.source s) }) plain id
            (longer r.values values old.0, values_append a.ignore_case (parser_of_value a.parser) r.values values old.1 pass, old.2),
        tt,
      )

  -- rows stay fit where values without a fault are put down
  pub with_values_fit : (a : Rule) (s : ValueSource) (v : Text) (vs : List Text) (rows : List Row) → IsPlainRule a → values_fault a (v ∷ vs) ≡ []
      → Each IsFit rows → Each IsFit (with_values a.id (reading_by a) s (v ∷ vs) rows)
  with_values_fit a s v vs rows plain pass h =
      at_row_fits a.id (more_values s (v ∷ vs)) _ rows (λ r same fit. more_fits a s (v ∷ vs) r plain pass same fit)
      (row_fits a (record { id = a.id; values = v ∷ vs; count = None; source = Some s; reading = reading_by a }) plain refl (omega arith, pass, refl), tt) h

  without_fit : (id : Text) (rows : List Row) → Each IsFit rows → Each IsFit (without id rows)
  without_fit id rows h = at_row_fits id (λ _. []) [] rows (λ r same fit. tt) tt h

  -- a use without a fault
  pub use_fits : (again : Bool) (a : Rule) (values : List Text) (rows : List Row) → IsPlainRule a → use_fault again a values rows ≡ [] → Each IsFit rows
      → Each IsFit (used a values rows)
  use_fits again a [] rows plain e h =
      let range = (both_pass (range_kinds (unwrap_or_range a.range).start_inclusive (most_values a) 0) _ e).0 in
      let bad : InvalidValue ∷ [] ≡ [] = rw (lt-ltb 0 _ plain.1) at range in
      cc
  use_fits again a (v ∷ vs) rows plain e h =
      let action = (both_pass (range_kinds (unwrap_or_range a.range).start_inclusive (most_values a) (length (v ∷ vs))) _ e).1 in
      let set : set_fault again a (v ∷ vs) rows ≡ [] = subst (λ (x : ArgAction). action_fault x again a (v ∷ vs) rows ≡ []) plain.2 action in
      let fit = with_values_fit a CommandLine v vs (without a.id rows) plain (both_pass _ _ set).1 (without_fit a.id rows h) in
      subst (λ (x : ArgAction). Each IsFit (used_as x a.id (reading_by a) (v ∷ vs) rows)) (sym plain.2) fit
