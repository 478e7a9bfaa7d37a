-- What a plain context is made from, by its place in the lists.
use Rattle.std.proofs.Common.{◌≡◌, ℕ, ◌<◌, Bool, true, false, List, [], length, get_or, Vec, refl, sym, ap, subst, ◌∙◌, arith}
use Rattle.std.specs.declared.alloc.Global.{Global}
use Rattle.std.proofs.lemmas.Grind.{get_or_default_zero}
use Rattle.std.proofs.lemmas.List.{get_or-map, length-map}
use Rattle.abs_state.specs.declared.key.Key.{Key}
use Rattle.assert_bind.specs.Binding.{roots}
use Rattle.bt_base.specs.Graph.{has}
use Rattle.context_bounds.specs.Own.{own_keys, own_rows, rows_of}
use Rattle.context_inside.proofs.Below.{plain_are_below}
use Rattle.context_inside.specs.Laws.{AreDue, IsEnteredWith}
use Rattle.context_outcomes.specs.Arguments.{ArePlain}
use Rattle.context_outcomes.specs.Setting.{Setting}
use Rattle.plain_bounds.proofs.Entered.{listed_entered}
use Rattle.plain_bounds.specs.Contexts.{ArePlainContexts}
use Rattle.plain_bounds.specs.declared.contexts.Contexts.{Contexts}
use Rattle.plain_parts.proofs.Searched.{same_at}
use Rattle.value_lattice.specs.declared.value.Value.{Value}

-- a row of keys is a subprogram's
pub own_row : (subs : List ℕ) (keys : List Key) (rows : List (Vec Key Global)) → rows_of rows ≡ own_rows subs keys → (n sub : ℕ) → n < length subs
    → sub ≡ get_or subs n sub → (row : Vec Key Global) → row ≡ get_or rows n row → row.items ≡ own_keys keys sub
own_row subs keys rows are n sub less here row at =
    ap (λ (r : Vec Key Global). r.items) at
    ∙ (sym (get_or-map (λ (r : Vec Key Global). r.items) rows n row [] within)
    ∙ (ap (λ (lists : List (List Key)). get_or lists n []) are
    ∙ (get_or-map (own_keys keys) subs n sub [] less ∙ ap (own_keys keys) (sym here))))
  where
    count : length rows ≡ length subs
    count = sym (length-map rows (λ (r : Vec Key Global). r.items)) ∙ (ap length are ∙ length-map subs (own_keys keys))

    within : n < length rows
    within = omega (arith, count, less)

-- the arguments of a plain context are 13
pub plain_count : (S : Setting) (sub : ℕ) (args : List Value) → ArePlain S sub args → length args ≡ 13
plain_count S sub args plain = by (has (roots S.binding) sub) refl where
  by : (b : Bool) → has (roots S.binding) sub ≡ b → length args ≡ 13
  by true root = ap length (plain.root root)
  by false called = (plain.called called).over.count

module _ (S : Setting) (contexts : Contexts) (are : ArePlainContexts S contexts) (n sub : ℕ) (less : n < length contexts.subs.items)
    (here : sub ≡ get_or contexts.subs.items n sub) (args : List Value) (at : args ≡ get_or contexts.arguments.items n args) where
  listed_at : get_or contexts.subs.items n 0 ≡ sub
  listed_at = same_at contexts.subs.items n 0 sub less ∙ sym here

  -- the arguments at a place are a subprogram's
  pub plain_at : ArePlain S sub args
  plain_at =
      subst (λ (q : ℕ). ArePlain S q args) listed_at
      (subst (λ (list : List Value). ArePlain S (get_or contexts.subs.items n 0) list) (sym (at ∙ same_at contexts.arguments.items n args [] within))
      (are.arguments n less))
    where
      within : n < length contexts.arguments.items
      within = let count : length contexts.arguments.items ≡ length contexts.subs.items = are.count in omega (arith, count, less)

  -- and the whole program has the entry with these
  pub plain_entered : AreDue S → IsEnteredWith S sub args
  plain_entered due =
      plain_are_below S sub args due
      (listed_entered S contexts.subs.items sub are.listed (n, less, get_or_default_zero contexts.subs.items n sub less ∙ listed_at)) plain_at
