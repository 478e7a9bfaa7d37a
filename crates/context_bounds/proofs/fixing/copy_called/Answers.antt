use Rattle.std.proofs.Common.{sym, ◌∙◌}
use Rattle.context_bounds.proofs.Copied.{copied_more, copied_none}
use Rattle.context_bounds.proofs.OwnRows.{on_ok}
use Rattle.context_bounds.proofs.fixing.copy_called.Goals as goal

pub returns-in-None : goal.returns-in-None
returns-in-None c = λ keys before.
    copied_none c.args.whole.now c.args.fixed.now keys c.args.key (sym c.called_by.ensures ∙ c.in-None.is) before

pub returns-in-Some : goal.returns-in-Some
returns-in-Some c =
    on_ok c.copy_summary.result c.copy_summary.ensures
    (λ copies keys before.
    copied_more c.args.whole.now c.args.fixed.now c.copy_summary.new.fixed c.in-Some.sub copies keys before c.args.key (sym c.called_by.ensures ∙ c.in-Some.is))
