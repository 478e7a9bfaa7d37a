use Rattle.std.proofs.Common.{List, Contains, subst, sym}
use Rattle.std.proofs.lemmas.Bool.{false≢true}
use Rattle.abs_state.specs.declared.key.Place.{Place}
use Rattle.context_inside.proofs.Shaped.{entry_listed, parts_are_shaped}
use Rattle.context_inside.proofs.shaping.shaped.Goals as goal
use Rattle.graph_view.specs.Numbers.{IsNumber}

pub unreachable-requires : goal.unreachable-requires
unreachable-requires c =
    absurd (false≢true (c.in-None.ensures.found
    (subst (λ (ps : List Place). Contains ps c.entry_of.result) (sym c.deref.ensures.value)
    (subst (λ (p : Place). Contains c.in_ok-nodes.nodes.items p) (sym c.entry_of.ensures)
    (entry_listed c.args.facts c.args.sub c.requires.local c.requires.entry c.in_ok-nodes.nodes c.in_ok-nodes.graph c.in_ok-nodes.ensures.nodes
    c.in_ok-nodes.ensures.rise c.in_ok-nodes.ensures.small c.in_ok-nodes.ensures.graph c.in_ok-nodes.ensures.steps)))))

pub returns : goal.returns
returns c =
    parts_are_shaped c.args.facts c.args.sub c.requires.local c.requires.entry c.in_ok-nodes.nodes c.in_ok-nodes.graph c.in_ok-nodes.ensures.nodes
    c.in_ok-nodes.ensures.rise c.in_ok-nodes.ensures.small c.in_ok-nodes.ensures.graph c.in_ok-nodes.ensures.steps c.args.thresholds c.in-Some.entry
    (subst (λ (p : Place). IsNumber c.in_ok-nodes.nodes.items p c.in-Some.entry) c.entry_of.ensures
    (subst (λ (ps : List Place). IsNumber ps c.entry_of.result c.in-Some.entry) c.deref.ensures.value c.in-Some.ensures.number))
