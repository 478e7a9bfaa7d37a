use Rattle.std.proofs.Common.{◌==◌, List, subst}
use Rattle.std.specs.Prelude.{Contains}
use Rattle.graph_view.proofs.Filling.{filter_from}
use Rattle.graph_view.proofs.Stands.{has_from, has_to}
use Rattle.graph_view.proofs.needs.need_now.Goals as goal
use Rattle.graph_view.specs.Subs.{calling_sub, of_one}
use Rattle.graph_view.specs.declared.lists.Calling.{Calling}

pub calls_need-requires-clause-shallow : goal.calls_need-requires-clause-shallow
calls_need-requires-clause-shallow c = λ calling h.
    c.requires.counted.shallow_calls calling
    (has_to c.args.callings.now calling (filter_from (λ (x : Calling). calling_sub x == c.args.sub) c.args.callings.now calling
    (has_from (of_one calling_sub c.args.sub c.args.callings.now) calling (subst (λ (list : List Calling). Contains list calling) c.of_sub-own.ensures h))))
