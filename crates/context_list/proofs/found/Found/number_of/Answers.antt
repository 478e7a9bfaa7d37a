use Rattle.std.proofs.Common.{◌∙◌, List, sym, subst}
use Rattle.context_list.proofs.Numbers.{number_found}
use Rattle.context_list.proofs.found.Found.number_of.Goals as goal
use Rattle.context_list.specs.Numbered.{IsNumberOf, One}

pub returns : goal.returns
returns c =
    subst (λ (list : List One). IsNumberOf list (c.args.sub, c.args.context.now) c.copied.result) c.self.view_is
    (number_found c.self.inside.list.items c.self.inside.numbers c.self.invariant c.in_ok-code.code (c.args.sub, c.args.context.now) c.in_ok-code.ensures
    c.copied.result (sym (c.copied.ensures ∙ c.get.ensures.value)))
