use Rattle.std.proofs.Common.{ℕ, List, ap, ◌∙◌}
use Rattle.sparc_machine.specs.Straight.{code_instruction}
use Rattle.context_bounds.specs.Setting.{setting_of}
use Rattle.context_bounds.proofs.Changes.{none_added, none_left}
use Rattle.context_bounds.proofs.changing.change_at.Goals as goal

pub returns-in-None-clause-value : goal.returns-in-None-clause-value
returns-in-None-clause-value c = λ costs.
    none_left (setting_of c.args.system.now costs c.args.facts.now) c.args.p c.args.state.now c.written_at-mask.result c.in-None.is
    (c.written_at-mask.ensures costs)

pub returns-in-None-added_to-clause-value : goal.returns-in-None-added_to-clause-value
returns-in-None-added_to-clause-value c = λ costs.
    none_added (setting_of c.args.system.now costs c.args.facts.now) c.args.p c.args.state.now c.in-Some.s c.instruction_at.result c.added_to.result
    c.written_at-mask.result c.in-Some.is
    (c.instruction_at.ensures.value ∙ ap (λ (image : List ℕ). code_instruction image c.args.p.pc) c.image.ensures) c.added_to.ensures.value
    c.in-None-added_to.is (c.written_at-mask.ensures costs)
