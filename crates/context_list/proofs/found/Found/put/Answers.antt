use Rattle.std.proofs.Common.{◌≡◌, ◌∙◌, ◌++◌, ◌∷◌, [], ℕ, cond, List, Some, None, length, inl, inr, refl, sym, ap, subst, arith}
use Rattle.std.specs.BTreeMap.{get}
use Rattle.std.specs.Ordering.{is_eq}
use Rattle.context_list.proofs.Numbers.{number_found, put_numbered}
use Rattle.context_list.proofs.found.Found.put.Goals as goal
use Rattle.context_list.specs.Numbered.{AreNumbered, IsNumberOf, IsPut, One, code_cmp}

pub returns-in-Some-clause-put : goal.returns-in-Some-clause-put
returns-in-Some-clause-put c =
    inl (
      refl,
      subst (λ (list : List One). IsNumberOf list (c.args.sub, c.args.context) (Some c.in-Some.number.now)) c.self.view_is
          (number_found c.self.inside.list.items c.self.inside.numbers c.self.invariant c.in_ok-code.code (c.args.sub, c.args.context) c.in_ok-code.ensures
          (Some c.in-Some.number.now) (sym c.in-Some.ensures.value)),
    )

pub invariant_of-self-2 : goal.invariant_of-self-2
invariant_of-self-2 c =
    let items : c.push.new.self.items ≡ c.self.inside.list.items ++ (c.args.sub, c.args.context) ∷ [] =
    c.in-Ok.ensures.items ∙ ap (λ (list : List One). list ++ (c.args.sub, c.args.context) ∷ []) c.in_ok-reserve.ensures.items in
    let count : c.len-number.result ≡ length c.self.inside.list.items = omega (arith, c.len-number.ensures, c.self.inside.list.ok.0) in
    let fresh : get code_cmp c.self.inside.numbers c.in_ok-code.code ≡ None = sym c.in_default.ensures.value in
    subst (λ (list : List One). AreNumbered list c.insert.new.self) (sym items)
    (put_numbered c.self.inside.list.items c.self.inside.numbers c.insert.new.self c.self.invariant c.in_ok-code.code (c.args.sub, c.args.context) c.in_ok-code.ensures
    fresh
    (λ p. c.in_ok-insert.ensures.updates.0 p
    ∙ ap (λ (k : ℕ). cond (is_eq (code_cmp c.in_ok-code.code p)) (Some k) (get code_cmp c.self.inside.numbers p)) count))

pub returns-clause-put : goal.returns-clause-put
returns-clause-put c =
    let items : c.push.new.self.items ≡ c.self.inside.list.items ++ (c.args.sub, c.args.context) ∷ [] =
    c.in-Ok.ensures.items ∙ ap (λ (list : List One). list ++ (c.args.sub, c.args.context) ∷ []) c.in_ok-reserve.ensures.items in
    let count : c.len-number.result ≡ length c.self.inside.list.items = omega (arith, c.len-number.ensures, c.self.inside.list.ok.0) in
    let fresh : get code_cmp c.self.inside.numbers c.in_ok-code.code ≡ None = sym c.in_default.ensures.value in
    subst (λ (list : List One). IsPut list c.push.new.self.items (c.args.sub, c.args.context) c.len-number.result) c.self.view_is
    (inr (
      items,
      count,
      number_found c.self.inside.list.items c.self.inside.numbers c.self.invariant c.in_ok-code.code (c.args.sub, c.args.context) c.in_ok-code.ensures None fresh,
    ))
